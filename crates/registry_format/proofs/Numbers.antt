-- Numbers that are written as words are read again.
use Rattle.std.proofs.Common.{◌≡◌, ℕ, ℤ, ◌+◌, ◌*◌, ◌^◌, w32, arith}
use Rattle.std.specs.Prelude.{FitsSigned}
use Rattle.std.specs.Int.{cast_signed}
use Rattle.std.proofs.lemmas.Int.{to_z-of_z}
use Rattle.nav_base.specs.declared.point.Point.{Point}
use Rattle.registry_format.specs.Saved.{FitsPoint}
use Rattle.registry_format.specs.Spelling.{high, low, part_word}

pub wide_again : (n : ℕ) → low n + 2 ^ 32 * high n ≡ n
wide_again n = omega arith

pub part_again : (x : ℤ) → FitsSigned w32 x → cast_signed w32 (part_word x) ≡ x
part_again x fits = to_z-of_z w32 x fits

abbrev pub point_read : Point → Point
point_read p = record { x = cast_signed w32 (part_word p.x); z = cast_signed w32 (part_word p.z) }

pub point_again : (p : Point) → FitsPoint p → point_read p ≡ p
point_again p fits = λ i. record { x = part_again p.x fits.x i; z = part_again p.z fits.z i }
