use Rattle.std.proofs.Common.{◌≡◌, ◌+◌, ◌<◌, ◌≤◌, ltb, true, false, arith, rules, sym, subst}
use Rattle.std.specs.List.Sorted.{IsPartitionPoint}
use Rattle.std.proofs.lemmas.Bool.{ltb-true, ltb-false}
use Rattle.std.proofs.lemmas.List.{get_or-take, get_or-drop, length-take, length-drop}
use Rattle.std.proofs.lemmas.List.Sorted.{IsPartitionPoint-from_clause, IsPartitionedBy-ltb}
use Rattle.nav_ground.specs.declared.field.Span.{Span}
use Rattle.layer_cut.proofs.NearbyField.{rows_rise}
use Rattle.live_ground.proofs.merge.spans_before.Goals as goal

-- the search finds where the row begins, since spans stand row by row
point : (c : goal.After-partition_point)
    → IsPartitionPoint (λ (span : Span). ltb span.z c.args.row ≡ true) (λ (span : Span). ltb span.z c.args.row ≡ false)
    c.args.spans.now c.partition_point.result
point c =
    let parted = IsPartitionedBy-ltb (λ (span : Span). span.z) c.args.spans.now c.args.row (rows_rise c.args.spans.now c.requires) in
    IsPartitionPoint-from_clause (λ (span : Span). ltb span.z c.args.row) _ _ c.partition_point.ensures.partitioned parted
    (λ a r q k. search rules)

pub returns-clause-before : goal.returns-clause-before
returns-clause-before c = λ k d there.
    let P : Span → Type 0 = λ span. span.z < c.args.row in
    let small : k < c.partition_point.result = omega (arith, there, length-take c.partition_point.result c.args.spans.now) in
    subst P (sym (get_or-take c.partition_point.result c.args.spans.now k d small)) (ltb-true _ _ ((point c).0 k d (omega arith) small))

pub returns-clause-behind : goal.returns-clause-behind
returns-clause-behind c = λ k d there.
    let P : Span → Type 0 = λ span. c.args.row ≤ span.z in
    let at = c.partition_point.result + k in
    subst P (sym (get_or-drop c.partition_point.result c.args.spans.now k d))
    (ltb-false _ _ ((point c).1 at d (omega arith) (omega (arith, there, length-drop c.partition_point.result c.args.spans.now))))
