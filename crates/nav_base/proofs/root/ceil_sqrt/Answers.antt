-- A number within one of the root is the root rounded up, or one below it.
use Rattle.std.proofs.Common.{◌≡◌, ℕ, ◌+◌, arith}
use Rattle.nav_base.specs.Root.{IsLeastRoot}
use Rattle.nav_base.proofs.RootLaws.{ceil_sqrt_of-only}
use Rattle.nav_base.proofs.NearRoots.{IsLeastRoot-near_below, IsLeastRoot-near_enough}
use Rattle.nav_base.proofs.root.ceil_sqrt.Goals as goal

root-zero : (n : ℕ) → n ≡ 0 → IsLeastRoot n 0
root-zero n e = record { reaches = omega arith; least = λ r h. omega arith }

pub returns-then-n-eq0-clause-value : goal.returns-then-n-eq0-clause-value
returns-then-n-eq0-clause-value c = ceil_sqrt_of-only c.args.n 0 (root-zero c.args.n c.if-n-eq0.true)

pub returns-then-near-n-clause-value : goal.returns-then-near-n-clause-value
returns-then-near-n-clause-value c = ceil_sqrt_of-only c.args.n (c.near_root-near.result + 1) (IsLeastRoot-near_below c.args.n c.near_root-near.result c.near_root-near.ensures.near c.if-near-n.true)

pub returns-else-near-n-clause-value : goal.returns-else-near-n-clause-value
returns-else-near-n-clause-value c = ceil_sqrt_of-only c.args.n c.near_root-near.result (IsLeastRoot-near_enough c.args.n c.near_root-near.result c.near_root-near.ensures.near c.if-near-n.false)

pub returns-then-is_least_root-clause-value : goal.returns-then-is_least_root-clause-value
returns-then-is_least_root-clause-value c = ceil_sqrt_of-only c.args.n c.guessed_root-guess.result (c.is_least_root.ensures cc)
