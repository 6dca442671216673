use Rattle.std.proofs.Common.{◌≡◌, ℕ, ◌<◌, ◌∙◌, ◌++◌, List, length, get_or, map, ap, arith, subst, sym}
use Rattle.std.proofs.lemmas.List.{take_all}
use Rattle.mesh_types.specs.declared.region.RegionPart.{RegionPart}
use Rattle.mesh_types.specs.declared.region.Piece.{Piece}
use Rattle.mesh_types.specs.Merging.{IsPieceOf}
use Rattle.contour_mesh.specs.Footings.{polygon_over}
use Rattle.contour_mesh.specs.Parts.{IsCutPart}
use Rattle.contour_mesh.proofs.Steps.{one_more_made}
use Rattle.contour_mesh.proofs.polygons.push_polygons.Goals as goal

-- a piece that is looked up is a piece of the outline
piece_fits : (part : RegionPart) (lent : List Piece) (number : ℕ) (d : Piece) → IsCutPart part → lent ≡ part.pieces → number < length lent
    → IsPieceOf part.outline.corners (get_or lent number d)
piece_fits part lent number d cut same there =
    subst (λ (pieces : List Piece). IsPieceOf part.outline.corners (get_or pieces number d)) (sym same) (cut.pieces number d (omega (arith, there, ap length same)))

pub polygon_over-requires-clause-places : goal.polygon_over-requires-clause-places
polygon_over-requires-clause-places c =
    rw (c.as_slice-outline.ensures, c.as_slice-places.ensures)
    (piece_fits c.args.part.now c.as_slice-pieces.result.now c.loop-number.number c.index-pieces-number.result c.requires c.as_slice-pieces.ensures
    c.loop-number-test.true).places

pub polygon_over-requires-clause-most : goal.polygon_over-requires-clause-most
polygon_over-requires-clause-most c =
    rw c.as_slice-places.ensures
    (piece_fits c.args.part.now c.as_slice-pieces.result.now c.loop-number.number c.index-pieces-number.result c.requires c.as_slice-pieces.ensures
    c.loop-number-test.true).most

pub loop-number-preserved : goal.loop-number-preserved
loop-number-preserved c =
    let piece : Piece = c.index-pieces-number.result in
    let made = rw (c.as_slice-outline.ensures, c.as_slice-places.ensures) at c.in_ok-polygon_over.ensures in
    one_more_made (λ (piece : Piece). polygon_over c.args.part.now.outline.corners c.args.footing piece.corners) c.args.polys.now.items c.args.part.now.pieces
    c.loop-number.number piece c.loop-number.polys.items c.push.new.self.items c.in_ok-polygon_over.field-0
    (omega (arith, c.loop-number-test.true, ap length c.as_slice-pieces.ensures)) c.loop-number.invariant c.in_ok-push.ensures.items
    (made
    ∙ ap (λ (pieces : List Piece). polygon_over c.args.part.now.outline.corners c.args.footing (get_or pieces c.loop-number.number piece).corners)
    c.as_slice-pieces.ensures)

pub returns : goal.returns
returns c =
    c.loop-number.invariant
    ∙ ap (λ (pieces : List Piece). c.args.polys.now.items
    ++ map (λ (piece : Piece). polygon_over c.args.part.now.outline.corners c.args.footing piece.corners) pieces)
    (take_all c.loop-number.number c.args.part.now.pieces (omega (arith, c.loop-number-test.false, ap length c.as_slice-pieces.ensures)))
