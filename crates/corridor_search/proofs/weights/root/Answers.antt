use Rattle.std.proofs.Common.{◌≡◌, ℕ, arith}
use Rattle.nav_base.specs.Root.{IsLeastRoot}
use Rattle.nav_base.proofs.RootLaws.{ceil_sqrt_of-only}
use Rattle.corridor_search.proofs.weights.root.Goals as goal

root-zero : (n : ℕ) → n ≡ 0 → IsLeastRoot n 0
root-zero n e = record { reaches = omega arith; least = λ r h. omega arith }

pub returns-then-n-eq0 : goal.returns-then-n-eq0
returns-then-n-eq0 c = ceil_sqrt_of-only c.args.n 0 (root-zero c.args.n c.if-n-eq0.true)

pub returns-then-is_least_root : goal.returns-then-is_least_root
returns-then-is_least_root c = ceil_sqrt_of-only c.args.n c.guessed_root-guess.result (c.is_least_root.ensures cc)
