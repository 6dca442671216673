-- The number is moved up and its root down by half as many digits.
use Rattle.std.proofs.Common.{ℕ, ◌/◌, ◌^◌, ◌≤◌, sym, subst}
use Rattle.std.specs.Int.Count.{count_leading_zeros}
use Rattle.nav_base.specs.Root.{IsNearRoot}
use Rattle.nav_base.proofs.NearRoots.{IsNearRoot-shifted, near-bound, moved_up}
use Rattle.nav_base.proofs.root.near_root.Goals as goal

pub near_root_of_large-requires : goal.near_root_of_large-requires
near_root_of_large-requires c = let up = moved_up c.args.n c.requires.some c.ranges.n.fits in subst (λ (k : ℕ). 2 ^ 62 ≤ k) (sym up.0) up.1

pub returns-clause-near : goal.returns-clause-near
returns-clause-near c =
    let up = moved_up c.args.n c.requires.some c.ranges.n.fits in
    IsNearRoot-shifted c.args.n (count_leading_zeros 64 c.args.n / 2) c.near_root_of_large.result c.requires.some
    (subst (λ (k : ℕ). IsNearRoot k c.near_root_of_large.result) up.0 c.near_root_of_large.ensures)

pub returns-clause-small : goal.returns-clause-small
returns-clause-small c = near-bound c.args.n _ 4294967295 (returns-clause-near c) c.requires.small
