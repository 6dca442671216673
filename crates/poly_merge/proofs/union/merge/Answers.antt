use Rattle.std.proofs.Common.{◌≡◌, All, map, length, sym, ap, subst, ◌∙◌, arith}
use Rattle.std.specs.Prelude.{None}
use Rattle.std.specs.Option.{option_map}
use Rattle.std.proofs.lemmas.List.{length-map}
use Rattle.mesh_types.specs.Edges.{HaveEdgesOnce, KeepOutline}
use Rattle.mesh_types.specs.Merging.{IsPieceOf, areas_of, best_merge, merge_all}
use Rattle.mesh_types.specs.Words.{piece_of}
use Rattle.mesh_types.proofs.EarLaws.{ears_of-triangles}
use Rattle.mesh_types.proofs.AreaLaws.{ears_of-area}
use Rattle.mesh_types.proofs.UnionEdges.{merged-once, merged-outline}
use Rattle.mesh_types.proofs.UnionAreas.{area-union, areas-joined, areas-triangles, piece-some}
use Rattle.mesh_types.proofs.MergeLaws.{length-joined, merge_all-none, merge_all-some, merged-begun, triangles-pieces}
use Rattle.poly_merge.specs.Seen.{seen}
use Rattle.poly_merge.proofs.Renewed.{choices_in, first_choices, next_choices, next_is, next_pieces}
use Rattle.poly_merge.proofs.union.merge.Goals as goal
use Rattle.poly_merge.proofs.union.merge.Goals.{After-as_slice-2}

-- the pieces before any merge
begun : (c : After-as_slice-2) → All (IsPieceOf c.args.outline.now.corners) c.in_ok-pieces.pieces.items
begun c =
    let corners = c.args.outline.now.corners in
    subst (All (IsPieceOf corners)) (sym (c.in_ok-pieces.ensures ∙ ap (map piece_of) c.as_slice.ensures))
    (triangles-pieces corners _ c.args.triangles (ears_of-triangles corners c.args.triangles c.requires.outline.enough c.requires.triangles.cut))

pub all_choices-requires-clause-pieces : goal.all_choices-requires-clause-pieces
all_choices-requires-clause-pieces c =
    subst (λ cs. All (IsPieceOf cs) c.as_slice-2.result.now) (sym c.as_slice-corners.ensures)
    (subst (All (IsPieceOf c.args.outline.now.corners)) (sym c.as_slice-2.ensures.value) (begun (goal.at.all_choices-requires-clause-pieces c).After-as_slice-2))

pub loop-next-init : goal.loop-next-init
loop-next-init c =
    let corners = c.args.outline.now.corners in
    let made : c.in_ok-pieces.pieces.items ≡ map piece_of c.args.triangles = c.in_ok-pieces.ensures ∙ ap (map piece_of) c.as_slice.ensures in
    let count : length c.in_ok-pieces.pieces.items ≡ length c.args.triangles = ap length made ∙ length-map c.args.triangles piece_of in
    record {
      pieces = begun (goal.at.loop-next-init c).After-as_slice-2;
      choices = first_choices corners c.as_slice-corners.result.now c.in_ok-pieces.pieces.items c.as_slice-2.result.now (map seen c.in_ok-choices.choices.items) c.as_slice-corners.ensures
          c.as_slice-2.ensures.value c.in_ok-choices.ensures;
      few = omega (arith, count, (ears_of-triangles corners c.args.triangles c.requires.outline.enough c.requires.triangles.cut).count, c.requires.outline.enough);
      area = ap (areas_of corners) made ∙ areas-triangles corners c.args.triangles ∙ ears_of-area corners c.args.triangles c.requires.outline.enough c.requires.triangles.cut;
      merged = merged-begun corners c.args.triangles ∙ (λ i. merge_all corners (sym count i) (sym made i));
    }

pub best_merge-requires-clause-choices : goal.best_merge-requires-clause-choices
best_merge-requires-clause-choices c =
    choices_in c.args.outline.now.corners c.as_slice-corners.result.now c.loop-next.pieces.items c.as_slice-in-loop-next.result.now c.loop-next.choices.items c.as_slice-in-loop-next-2.result.now
    c.as_slice-corners.ensures c.as_slice-in-loop-next.ensures.value c.as_slice-in-loop-next-2.ensures.value c.loop-next.invariant.choices

pub choices_after-requires-clause-pieces : goal.choices_after-requires-clause-pieces
choices_after-requires-clause-pieces c =
    let next = next_is c.args.outline.now.corners c.as_slice-corners.result.now c.loop-next.pieces.items c.as_slice-in-loop-next.result.now c.best_merge.result c.in-Some.next
    c.as_slice-corners.ensures c.as_slice-in-loop-next.ensures.value c.best_merge.ensures.value c.best_merge.ensures.there c.in-Some.is in
    subst (λ cs. All (IsPieceOf cs) c.as_slice-in-Some.result.now) (sym c.as_slice-corners.ensures)
    (next_pieces c.args.outline.now.corners c.loop-next.pieces.items c.as_slice-in-Some.result.now c.in-Some.next next (c.as_slice-in-Some.ensures.value ∙ c.in_ok-join.ensures) c.loop-next.invariant.pieces)

pub choices_after-requires-clause-made : goal.choices_after-requires-clause-made
choices_after-requires-clause-made c =
    let next = next_is c.args.outline.now.corners c.as_slice-corners.result.now c.loop-next.pieces.items c.as_slice-in-loop-next.result.now c.best_merge.result c.in-Some.next
    c.as_slice-corners.ensures c.as_slice-in-loop-next.ensures.value c.best_merge.ensures.value c.best_merge.ensures.there c.in-Some.is in
    omega (arith, next.there.first, next.there.second, length-joined c.loop-next.pieces.items (seen c.in-Some.next) next.there.second, ap length c.as_slice-in-Some.ensures.value, ap length c.in_ok-join.ensures)

pub loop-next-smaller : goal.loop-next-smaller
loop-next-smaller c =
    let next = next_is c.args.outline.now.corners c.as_slice-corners.result.now c.loop-next.pieces.items c.as_slice-in-loop-next.result.now c.best_merge.result c.in-Some.next
    c.as_slice-corners.ensures c.as_slice-in-loop-next.ensures.value c.best_merge.ensures.value c.best_merge.ensures.there c.in-Some.is in
    omega (arith, length-joined c.loop-next.pieces.items (seen c.in-Some.next) next.there.second, ap length c.in_ok-join.ensures)

pub loop-next-preserved : goal.loop-next-preserved
loop-next-preserved c =
    let corners = c.args.outline.now.corners in
    let pieces = c.loop-next.pieces.items in
    let m = seen c.in-Some.next in
    let next = next_is corners c.as_slice-corners.result.now pieces c.as_slice-in-loop-next.result.now c.best_merge.result c.in-Some.next
    c.as_slice-corners.ensures c.as_slice-in-loop-next.ensures.value c.best_merge.ensures.value c.best_merge.ensures.there c.in-Some.is in
    record {
      pieces = next_pieces corners pieces c.join.new.pieces.items c.in-Some.next next c.in_ok-join.ensures c.loop-next.invariant.pieces;
      choices = next_choices corners c.as_slice-corners.result.now pieces c.join.new.pieces.items c.as_slice-in-Some.result.now c.in-Some.next c.loop-next.choices.items
          c.as_slice-in-Some-2.result.now (map seen c.in_ok-choices-2.choices.items) c.as_slice-corners.ensures c.as_slice-in-Some.ensures.value c.as_slice-in-Some-2.ensures.value
          c.in_ok-join.ensures next.there c.loop-next.invariant.choices c.in_ok-choices-2.ensures;
      few = omega (arith, c.loop-next.invariant.few, length-joined pieces m next.there.second, ap length c.in_ok-join.ensures);
      area = ap (areas_of corners) c.in_ok-join.ensures
          ∙ areas-joined corners pieces m next.there.first next.there.second
          (area-union corners pieces m next.there.edge next.there.facing (piece-some corners pieces m.first c.loop-next.invariant.pieces (omega (arith, next.there.first, next.there.second)))
          (piece-some corners pieces m.second c.loop-next.invariant.pieces next.there.second) next.there.shared) ∙ c.loop-next.invariant.area;
      merged = c.loop-next.invariant.merged ∙ merge_all-some corners pieces m next.best next.there.second
          ∙ (λ i. merge_all corners (length (sym c.in_ok-join.ensures i)) (sym c.in_ok-join.ensures i));
    }

pub returns-clause-value : goal.returns-clause-value
returns-clause-value c =
    let corners = c.args.outline.now.corners in
    let pieces = c.loop-next.pieces.items in
    let none : best_merge corners pieces ≡ None =
    (λ i. best_merge (sym c.as_slice-corners.ensures i) (sym c.as_slice-in-loop-next.ensures.value i)) ∙ sym c.best_merge.ensures.value ∙ ap (option_map seen) c.in_default.is in
    c.from_vec.ensures ∙ sym (c.loop-next.invariant.merged ∙ merge_all-none corners (length pieces) pieces none)

pub returns-clause-once : goal.returns-clause-once
returns-clause-once c =
    subst HaveEdgesOnce (sym (returns-clause-value c)) (merged-once c.args.outline.now.corners c.args.triangles c.requires.outline.enough c.requires.triangles)

pub returns-clause-outline : goal.returns-clause-outline
returns-clause-outline c =
    subst (KeepOutline c.args.outline.now.corners) (sym (returns-clause-value c))
    (merged-outline c.args.outline.now.corners c.args.triangles c.requires.outline.enough c.requires.triangles)
