use Rattle.std.proofs.Common.{◌≡◌, ℕ, ◌+◌, ◌-◌, ◌++◌, length, map, ap, ◌∙◌, arith}
use Rattle.std.specs.Global.{Vec}
use Rattle.std.specs.List.{flat_map, range_with_len}
use Rattle.nav_base.specs.Convex.{corner_at}
use Rattle.mesh_types.specs.Merging.{merges_between}
use Rattle.poly_merge.specs.Seen.{admissible_of, seen}
use Rattle.poly_merge.specs.Rows.{lies_in}
use Rattle.poly_merge.specs.declared.edge.Merge.{Merge}
use Rattle.poly_merge.proofs.Apart.{apart, none_added}
use Rattle.poly_merge.proofs.Walks.{gather-more}
use Rattle.poly_merge.proofs.choices.push_from.Goals as goal
use Rattle.poly_merge.proofs.choices.push_from.Goals.{then-reach+in_ok-push_between, else-reach}

pub loop-second-preserved : goal.loop-second-preserved
loop-second-preserved c =
    let step : map seen c.if-reach.choices.items ≡ map seen c.loop-second.choices.items ++ admissible_of c.args.corners.now c.args.pieces.now (merges_between c.args.pieces.now c.args.first c.loop-second.second) =
    elim c.if-reach.branch [
      | then-reach+in_ok-push_between w ↦ ap (λ (v : Vec Merge). map seen v.items) w.choices-is ∙ w.in_ok-push_between.ensures
      | else-reach w ↦
          none_added c.args.corners.now c.args.pieces.now _ _ (merges_between c.args.pieces.now c.args.first c.loop-second.second) (ap (λ (v : Vec Merge). map seen v.items) w.choices-is)
          (apart c.args.pieces.now c.args.first c.loop-second.second c.places_at.result.now c.places_at-in-loop-second.result.now (λ place. lies_in c.rows_of-rows.result (corner_at c.args.corners.now place)) c.reach.result
          c.places_at.ensures c.places_at-in-loop-second.ensures c.rows_of-rows.ensures c.reach.ensures w.if-reach.false)
    ] in
    let start = c.args.first + 1 in
    let merges = merges_between c.args.pieces.now c.args.first in
    gather-more c.args.corners.now c.args.pieces.now merges start (c.loop-second.second - start) c.loop-second.second (map seen c.args.choices.now.items)
    (map seen c.loop-second.choices.items) (map seen c.if-reach.choices.items) (omega (arith, c.loop-second.auto.second)) c.loop-second.invariant step
    ∙ ap (λ (n : ℕ). map seen c.args.choices.now.items ++ admissible_of c.args.corners.now c.args.pieces.now (flat_map merges (range_with_len start n)))
    {x = c.loop-second.second - start + 1} {y = c.loop-second.second + 1 - start} (omega (arith, c.loop-second.auto.second))

pub returns : goal.returns
returns c =
    c.loop-second.invariant
    ∙ ap (λ (n : ℕ). map seen c.args.choices.now.items
    ++ admissible_of c.args.corners.now c.args.pieces.now (flat_map (merges_between c.args.pieces.now c.args.first) (range_with_len (c.args.first + 1) n)))
    {x = c.loop-second.second - (c.args.first + 1)} {y = length c.args.pieces.now - (c.args.first + 1)} (omega (arith, c.loop-second-test.false, c.loop-second.auto.second-end, c.requires.there))
