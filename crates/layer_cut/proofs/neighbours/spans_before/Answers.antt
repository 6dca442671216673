use Rattle.std.proofs.Common.{◌≡◌, ltb, true, false, arith, rules}
use Rattle.std.specs.List.Sorted.{IsPartitionPoint}
use Rattle.std.proofs.lemmas.Bool.{ltb-true, ltb-false}
use Rattle.std.proofs.lemmas.List.Sorted.{IsPartitionPoint-from_clause, IsPartitionedBy-ltb}
use Rattle.nav_ground.specs.declared.field.Span.{Span}
use Rattle.layer_cut.proofs.NearbyField.{rows_rise}
use Rattle.layer_cut.proofs.neighbours.spans_before.Goals as goal

-- the search finds where the row begins, since spans stand row by row
point : (c : goal.After-partition_point)
    → IsPartitionPoint (λ (span : Span). ltb span.z c.args.row ≡ true) (λ (span : Span). ltb span.z c.args.row ≡ false)
    c.args.spans.now c.partition_point.result
point c =
    let parted = IsPartitionedBy-ltb (λ (span : Span). span.z) c.args.spans.now c.args.row (rows_rise c.args.spans.now c.requires) in
    IsPartitionPoint-from_clause (λ (span : Span). ltb span.z c.args.row) _ _ c.partition_point.ensures.partitioned parted
    (λ a r q k. search rules)

pub returns-clause-before : goal.returns-clause-before
returns-clause-before c = λ k d below. ltb-true _ _ ((point c).0 k d (omega arith) below)

pub returns-clause-after : goal.returns-clause-after
returns-clause-after c = λ k d above there. ltb-false _ _ ((point c).1 k d above there)
