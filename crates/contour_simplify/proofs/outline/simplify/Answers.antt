use Rattle.std.proofs.Common.{◌≡◌, ◌∙◌, ap, sym, refl, ◌<◌, List, length, rules, arith}
use Rattle.std.specs.Prelude.{filter}
use Rattle.std.specs.List.Sorted.{IsPermutation}
use Rattle.std.proofs.lemmas.Bool.{eqb-true, eqb-false}
use Rattle.std.proofs.lemmas.Fn.{always_returns_same}
use Rattle.nav_base.specs.declared.point.Point.{Point}
use Rattle.mesh_types.specs.declared.region.UnitEdge.{UnitEdge}
use Rattle.mesh_types.specs.Rings.{beginnings}
use Rattle.mesh_types.specs.LinkOrder.{is_point_before}
use Rattle.mesh_types.specs.Simplified.{begins_among, kept_edges, kept_corners}
use Rattle.mesh_types.specs.Words.{codes_of}
use Rattle.mesh_types.proofs.LinkOrderLaws.{points_order}
use Rattle.contour_simplify.proofs.Rising.{kept_round_are}
use Rattle.contour_simplify.proofs.Outlines.{nothing_left, simplified_is, same_among, flat_if, corners_inside, outline_is}
use Rattle.contour_simplify.proofs.outline.simplify.Goals as goal

pub returns-then-is_empty-clause-value : goal.returns-then-is_empty-clause-value
returns-then-is_empty-clause-value c = nothing_left c.args.error c.args.edges.now (eqb-true (length c.args.edges.now) 0 (sym c.if-is_empty.ensures))

pub returns-then-is_empty-clause-flat : goal.returns-then-is_empty-clause-flat
returns-then-is_empty-clause-flat c = flat_if c.args.error c.args.edges.now _ (returns-then-is_empty-clause-value c)

pub returns-then-is_empty-clause-outline : goal.returns-then-is_empty-clause-outline
returns-then-is_empty-clause-outline c = outline_is c.args.error c.args.edges.now _ c.requires (returns-then-is_empty-clause-value c)

pub kept_corners-requires-clause-inside : goal.kept_corners-requires-clause-inside
kept_corners-requires-clause-inside c = rw (c.as_slice.ensures.value, c.in_ok-round.ensures) (corners_inside c.args.edges.now c.requires)

pub kept_corners-requires-clause-kept_round : goal.kept_corners-requires-clause-kept_round
kept_corners-requires-clause-kept_round c =
    let some : 0 < length c.args.edges.now = omega (arith, eqb-false (length c.args.edges.now) 0 (sym c.if-is_empty.ensures)) in
    rw (c.as_slice.ensures.value, c.in_ok-round.ensures, c.as_slice-2.ensures.value, c.in_ok-kept_round.ensures) (kept_round_are c.args.edges.now c.requires some)

pub outline-requires : goal.outline-requires
outline-requires c =
    rw c.as_slice-3.ensures.value (c.sort_unstable_by.ensures.sorted is_point_before points_order (always_returns_same _ _ _ (λ a r f k. search rules)))

pub returns-clause-value : goal.returns-clause-value
unfolding kept_corners
returns-clause-value c =
    let edges : List UnitEdge = c.args.edges.now in
    let sorted : List Point = c.as_slice-3.result.now in
    let kept : c.in_ok-kept.kept.items ≡ kept_corners c.args.error edges =
    c.in_ok-kept.ensures ∙ rw (c.as_slice.ensures.value, c.in_ok-round.ensures, c.as_slice-2.ensures.value, c.in_ok-kept_round.ensures) refl in
    let permuted : IsPermutation (kept_corners c.args.error edges) sorted = rw (← kept, c.as_slice-3.ensures.value) c.sort_unstable_by.ensures.permutation in
    let same : filter (begins_among sorted) edges ≡ kept_edges c.args.error edges = same_among c.args.error edges sorted permuted in
    c.simplified.ensures
    ∙ simplified_is c.args.error edges c.in_ok-outline.outline (c.in_ok-outline.ensures.corners ∙ ap beginnings same) (c.in_ok-outline.ensures.codes ∙ ap codes_of same)

pub returns-clause-outline : goal.returns-clause-outline
returns-clause-outline c = outline_is c.args.error c.args.edges.now c.simplified.result c.requires (returns-clause-value c)

pub returns-clause-flat : goal.returns-clause-flat
returns-clause-flat c = flat_if c.args.error c.args.edges.now c.simplified.result (returns-clause-value c)
