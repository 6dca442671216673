-- Two rectangles meet once one of them is widened exactly where they meet once the other is widened by as much.
use Rattle.std.proofs.Common.{◌≡◌, ℕ, ℤ, pos, Bool, true, false, sym, refl, arith}
use Rattle.std.specs.Prelude.{◌+ℤ◌, ◌-ℤ◌, int_le, ◌&&◌}
use Rattle.std.proofs.lemmas.Int.{ints}
use Rattle.nav_ground.specs.declared.cell.Window.{Window}
use Rattle.nav_ground.specs.Tiling.{widened}
use Rattle.nav_ground.specs.Touching.{are_meeting}

same_truth : (p q : Bool) → (p ≡ true → q ≡ true) → (q ≡ true → p ≡ true) → p ≡ q
same_truth true q forth back = sym (forth refl)
same_truth false true forth back = back refl
same_truth false false forth back = refl

moved_up : (a b : ℤ) (margin : ℕ) → int_le (a -ℤ pos margin) b ≡ true → int_le a (b +ℤ pos margin) ≡ true
moved_up a b margin h = grind (arith, ints)

moved_down : (a b : ℤ) (margin : ℕ) → int_le a (b +ℤ pos margin) ≡ true → int_le (a -ℤ pos margin) b ≡ true
moved_down a b margin h = grind (arith, ints)

moved : (a b : ℤ) (margin : ℕ) → int_le (a -ℤ pos margin) b ≡ int_le a (b +ℤ pos margin)
moved a b margin =
    same_truth (int_le (a -ℤ pos margin) b) (int_le a (b +ℤ pos margin)) (moved_up a b margin) (moved_down a b margin)

pub meeting_widened : (a b : Window) (margin : ℕ) → are_meeting (widened a margin) b ≡ are_meeting a (widened b margin)
meeting_widened a b margin = λ i.
    moved a.x0 b.x1 margin i && sym (moved b.x0 a.x1 margin) i && (moved a.z0 b.z1 margin i && sym (moved b.z0 a.z1 margin) i)
