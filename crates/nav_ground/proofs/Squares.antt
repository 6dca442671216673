-- Squares, for the distance from a disc's centre.
use Rattle.std.proofs.Common.{◌≡◌, ℕ, ◌+◌, ◌*◌, ◌<◌, false, arith}
use Rattle.std.specs.Prelude.{nat_le, nat_lt}
use Rattle.std.proofs.lemmas.Bool.{lt-leb, le-ltb}
use Rattle.std.proofs.lemmas.Nat.{mul-lt}

-- one way that is longer than the reach is too far already
pub too_far : (a b reach : ℕ) → reach < a → nat_le (a * a + b * b) (reach * reach) ≡ false
too_far a b reach far = let far' = mul-lt reach reach a a far far in lt-leb (a * a + b * b) (reach * reach) (omega (arith, far'))

pub too_far_across : (a b reach : ℕ) → reach < b → nat_le (a * a + b * b) (reach * reach) ≡ false
too_far_across a b reach far = let far' = mul-lt reach reach b b far far in lt-leb (a * a + b * b) (reach * reach) (omega (arith, far'))

-- nor is it nearer than that
pub not_nearer : (a b reach : ℕ) → reach < a → nat_lt (a * a + b * b) (reach * reach) ≡ false
not_nearer a b reach far = let far' = mul-lt reach reach a a far far in le-ltb (a * a + b * b) (reach * reach) (omega (arith, far'))

pub not_nearer_across : (a b reach : ℕ) → reach < b → nat_lt (a * a + b * b) (reach * reach) ≡ false
not_nearer_across a b reach far = let far' = mul-lt reach reach b b far far in le-ltb (a * a + b * b) (reach * reach) (omega (arith, far'))
