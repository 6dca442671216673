use Rattle.std.proofs.Common.{arith, rules, sym, ℕ}
use Rattle.std.specs.Prelude.{nat_le}
use Rattle.std.proofs.lemmas.Fn.{always_returns_same}
use Rattle.std.proofs.lemmas.List.Sorted.{IsPartitionedBy-leb}
use Rattle.obstacle_registry.proofs.Ranks.{counted_to, rising_sorted}
use Rattle.obstacle_registry.proofs.renew.rank.Goals as goal

pub returns : goal.returns
returns c =
    let point = c.partition_point.ensures.partitioned (λ (n : ℕ). nat_le n c.args.number) (always_returns_same _ _ _ (λ a r q k. search rules))
    (IsPartitionedBy-leb (λ (n : ℕ). n) c.args.numbers.now c.args.number (rising_sorted c.args.numbers.now c.requires.rising)) in
    sym (counted_to (λ (n : ℕ). nat_le n c.args.number) c.args.numbers.now c.partition_point.result c.partition_point.ensures.bound
    (λ k d below. point.0 k d (omega arith) below) (λ k d past within. point.1 k d past within))
