use Rattle.std.proofs.Common.{◌≡◌, ◌<◌, ◌∙◌, List, length, get_or, ap, arith, subst, None, Some}
use Rattle.std.proofs.lemmas.List.{length-map, take_all}
use Rattle.nav_ground.specs.declared.cell.Cell.{Cell}
use Rattle.contour_walk.specs.Tables.{owner_of}
use Rattle.contour_mesh.specs.Footings.{AreFootings, footing_with}
use Rattle.contour_mesh.proofs.FootingLaws.{footings_written}
use Rattle.contour_mesh.proofs.parts.footings.Goals as goal

pub loop-index-preserved : goal.loop-index-preserved
loop-index-preserved c =
    let number = get_or c.as_slice-owners.result.now c.loop-index.index 0 in
    let P : Cell → Type 0 = λ cell. number < length c.as_mut_slice.result.now
    → get_or c.note.new.footings number None ≡ Some (footing_with (get_or c.as_mut_slice.result.now number None) cell) in
    footings_written c.args.cells.now c.args.regions.now c.loop-index.index c.index-cells-index.result c.as_slice-owners.result.now c.args.table.now.owners c.loop-index.footings.len
    c.loop-index.footings.items c.as_mut_slice.result.now c.note.new.footings c.loop-index-test.true c.requires.owners c.as_slice-owners.ensures
    c.loop-index.footings.ok.0 c.as_mut_slice.ensures.value c.loop-index.invariant c.note.ensures.same (subst P c.index-cells-index.is c.note.ensures.here) c.note.ensures.others

pub bounds-owners-index : goal.bounds-owners-index
bounds-owners-index c =
    omega (
      arith,
      c.loop-index-test.true,
      ap length (c.as_slice-owners.ensures ∙ c.requires.owners),
      length-map c.args.cells.now (owner_of c.args.regions.now.regions),
    )

pub returns : goal.returns
returns c =
    subst (λ (cells : List Cell). AreFootings cells c.args.regions.now c.loop-index.footings.items)
    (take_all c.loop-index.index c.args.cells.now c.loop-index-test.false) c.loop-index.invariant
