use Rattle.std.proofs.Common.{[], length, map, ap, ◌∙◌, arith}
use Rattle.std.specs.List.{flat_map, range_with_len}
use Rattle.mesh_types.specs.Merging.{merges_from}
use Rattle.poly_merge.specs.Seen.{admissible_of, seen}
use Rattle.poly_merge.proofs.Walks.{gather-more}
use Rattle.poly_merge.proofs.choices.all_choices.Goals as goal

pub loop-first-preserved : goal.loop-first-preserved
loop-first-preserved c =
    gather-more c.args.corners.now c.args.pieces.now (merges_from c.args.pieces.now) 0 c.loop-first.first c.loop-first.first []
    (map seen c.loop-first.choices.items) (map seen c.push_from.new.choices.items) (omega arith) c.loop-first.invariant c.in_ok-push_from.ensures

pub returns : goal.returns
returns c =
    c.loop-first.invariant
    ∙ ap (λ n. admissible_of c.args.corners.now c.args.pieces.now (flat_map (merges_from c.args.pieces.now) (range_with_len 0 n)))
    {x = c.loop-first.first} {y = length c.args.pieces.now} (omega (arith, c.loop-first-test.false, c.loop-first.auto.first-end))
