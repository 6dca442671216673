use Rattle.std.proofs.Common.{◌++◌, [], length, map, sym, ap, ◌∙◌, arith}
use Rattle.std.specs.List.{cons_option, flat_map, range_with_len}
use Rattle.std.proofs.lemmas.List.{append-nil}
use Rattle.nav_ground.proofs.Selections.{filter_none}
use Rattle.mesh_types.specs.Merging.{is_admissible, merge_over, merges_between, places_at}
use Rattle.poly_merge.specs.Seen.{admissible_of, seen}
use Rattle.poly_merge.proofs.Unions.{none-admissible}
use Rattle.poly_merge.proofs.Walks.{filter_map-gathered, gather-more}
use Rattle.poly_merge.proofs.choices.push_between.Goals as goal

pub returns-then-edges-places_at-gt-EDGES_OF_TWO : goal.returns-then-edges-places_at-gt-EDGES_OF_TWO
returns-then-edges-places_at-gt-EDGES_OF_TWO c =
    sym (append-nil (map seen c.args.choices.now.items))
    ∙ ap (λ ms. map seen c.args.choices.now.items ++ ms)
    (sym (filter_none (is_admissible c.args.corners.now c.args.pieces.now) (merges_between c.args.pieces.now c.args.first c.args.second)
    (none-admissible c.args.corners.now c.args.pieces.now c.args.first c.args.second
    (omega (arith, c.if-edges-places_at-gt-EDGES_OF_TWO.true, ap length c.places_at-edges.ensures, ap length c.places_at.ensures)))))

pub loop-edge-preserved : goal.loop-edge-preserved
loop-edge-preserved c =
    gather-more c.args.corners.now c.args.pieces.now (λ edge. cons_option (merge_over c.args.pieces.now c.args.first c.args.second edge) []) 0 c.loop-edge.edge c.loop-edge.edge
    (map seen c.args.choices.now.items) (map seen c.loop-edge.choices.items) (map seen c.push_over.new.choices.items) (omega arith) c.loop-edge.invariant c.in_ok-push_over.ensures

pub returns : goal.returns
returns c =
    c.loop-edge.invariant
    ∙ ap (λ n. map seen c.args.choices.now.items
    ++ admissible_of c.args.corners.now c.args.pieces.now (flat_map (λ edge. cons_option (merge_over c.args.pieces.now c.args.first c.args.second edge) []) (range_with_len 0 n)))
    {x = c.loop-edge.edge} {y = length (places_at c.args.pieces.now c.args.first)}
    (omega (arith, c.loop-edge-test.false, c.loop-edge.auto.edge-end, ap length c.places_at-edges.ensures))
    ∙ ap (λ ms. map seen c.args.choices.now.items ++ admissible_of c.args.corners.now c.args.pieces.now ms)
    (sym (filter_map-gathered (merge_over c.args.pieces.now c.args.first c.args.second) (range_with_len 0 (length (places_at c.args.pieces.now c.args.first)))))
