use Rattle.std.proofs.Common.{◌≡◌, ◌++◌, map, ap, ◌∙◌, arith}
use Rattle.std.specs.Global.{Vec}
use Rattle.std.specs.List.{flat_map, range_with_len}
use Rattle.nav_base.specs.Convex.{corner_at}
use Rattle.mesh_types.specs.Merging.{merges_between}
use Rattle.poly_merge.specs.Seen.{admissible_of, seen}
use Rattle.poly_merge.specs.Rows.{lies_in}
use Rattle.poly_merge.specs.declared.edge.Merge.{Merge}
use Rattle.poly_merge.proofs.Apart.{apart_back, none_added}
use Rattle.poly_merge.proofs.Walks.{gather-more}
use Rattle.poly_merge.proofs.choices.push_onto.Goals as goal
use Rattle.poly_merge.proofs.choices.push_onto.Goals.{then-reach+in_ok-push_between, else-reach}

pub loop-first-preserved : goal.loop-first-preserved
loop-first-preserved c =
    let step : map seen c.if-reach.choices.items ≡ map seen c.loop-first.choices.items ++ admissible_of c.args.corners.now c.args.pieces.now (merges_between c.args.pieces.now c.loop-first.first c.args.second) =
    elim c.if-reach.branch [
      | then-reach+in_ok-push_between w ↦ ap (λ (v : Vec Merge). map seen v.items) w.choices-is ∙ w.in_ok-push_between.ensures
      | else-reach w ↦
          none_added c.args.corners.now c.args.pieces.now _ _ (merges_between c.args.pieces.now c.loop-first.first c.args.second) (ap (λ (v : Vec Merge). map seen v.items) w.choices-is)
          (apart_back c.args.pieces.now c.loop-first.first c.args.second c.places_at-in-loop-first.result.now c.places_at.result.now (λ place. lies_in c.rows_of-rows.result (corner_at c.args.corners.now place)) c.reach.result
          c.places_at-in-loop-first.ensures c.places_at.ensures c.rows_of-rows.ensures c.reach.ensures w.if-reach.false)
    ] in
    gather-more c.args.corners.now c.args.pieces.now (λ first. merges_between c.args.pieces.now first c.args.second) 0 c.loop-first.first c.loop-first.first (map seen c.args.choices.now.items)
    (map seen c.loop-first.choices.items) (map seen c.if-reach.choices.items) (omega arith) c.loop-first.invariant step

pub returns : goal.returns
returns c =
    c.loop-first.invariant
    ∙ ap (λ n. map seen c.args.choices.now.items
    ++ admissible_of c.args.corners.now c.args.pieces.now (flat_map (λ first. merges_between c.args.pieces.now first c.args.second) (range_with_len 0 n)))
    {x = c.loop-first.first} {y = c.args.second} (omega (arith, c.loop-first-test.false, c.loop-first.auto.first-end))
