use Rattle.std.proofs.Common.{◌≡◌, ltb, true, false, arith, rules}
use Rattle.std.specs.List.Sorted.{IsPartitionPoint}
use Rattle.std.proofs.lemmas.Bool.{ltb-true, ltb-false}
use Rattle.std.proofs.lemmas.List.Sorted.{IsPartitionPoint-from_clause, IsPartitionedBy-ltb}
use Rattle.crowd_moves.specs.declared.keyed.KeyedPlace.{KeyedPlace}
use Rattle.crowd_moves.proofs.grid.before.Goals as goal

-- the search finds where the cell begins
point : (c : goal.After-partition_point)
    → IsPartitionPoint (λ (entry : KeyedPlace). ltb entry.key c.args.cell ≡ true) (λ (entry : KeyedPlace). ltb entry.key c.args.cell ≡ false)
    c.args.entries.now c.partition_point.result
point c =
    let parted = IsPartitionedBy-ltb (λ (entry : KeyedPlace). entry.key) c.args.entries.now c.args.cell c.requires in
    IsPartitionPoint-from_clause (λ (entry : KeyedPlace). ltb entry.key c.args.cell) _ _ c.partition_point.ensures.partitioned parted
    (λ a r q k. search rules)

pub returns-clause-before : goal.returns-clause-before
returns-clause-before c = λ k d below. ltb-true _ _ ((point c).0 k d (omega arith) below)

pub returns-clause-after : goal.returns-clause-after
returns-clause-after c = λ k d above there. ltb-false _ _ ((point c).1 k d above there)
