-- What follows from the definitions of `specs/`, for the crates above.
use Rattle.std.proofs.Common.{◌≡◌, ℕ, List, IfSome, refl}
use Rattle.std.proofs.KnownBytes.{Consumes-whole}
use Rattle.std.specs.Prelude.{Option}
use Rattle.nav_io.specs.Causes.{GivesAll}

-- where the source told its bytes, the bytes that it gave are all that it had left
pub GivesAll-known : (old new : Option (List ℕ)) (bytes : List ℕ) → GivesAll old new bytes → IfSome old (λ known. bytes ≡ known)
GivesAll-known old new bytes gave = Consumes-whole old new bytes (λ known. bytes ≡ known) gave.0 gave.1 refl
