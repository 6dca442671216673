use Rattle.std.proofs.Common.{ℕ, ◌∙◌, ◌++◌, [], Option, ap, arith, get_or, length, sym, subst, cond, None, Some}
use Rattle.std.specs.Prelude.{nat_lt}
use Rattle.std.specs.List.{flat_map}
use Rattle.std.specs.Option.{option_map_or}
use Rattle.std.proofs.lemmas.List.{length-map, take_all}
use Rattle.nav_ground.specs.declared.cell.Cell.{Cell}
use Rattle.nav_ground.specs.Cells.{IsCell}
use Rattle.contour_walk.specs.Tables.{owner_of}
use Rattle.contour_mesh.specs.SidePlaces.{cell_places, crossings_in}
use Rattle.contour_mesh.proofs.FootingLaws.{owner_at, region_here}
use Rattle.contour_mesh.proofs.Steps.{one_more_gathered}
use Rattle.contour_mesh.proofs.crossings.placed_cells.Goals as goal

pub loop-index-preserved : goal.loop-index-preserved
loop-index-preserved c =
    let d = c.index-cells-index.result in
    let cell = get_or c.args.cells.now c.loop-index.index d in
    let owner = get_or c.as_slice-owners.result.now c.loop-index.index 0 in
    one_more_gathered (cell_places c.args.table.now.window c.args.regions.now) c.args.cells.now c.loop-index.index d c.loop-index.placed.items
    c.push_cell.new.placed.items c.loop-index-test.true c.loop-index.invariant
    (c.in_ok-push_cell.ensures
    ∙ ap (λ (item : Cell). c.loop-index.placed.items ++ option_map_or (crossings_in c.args.table.now.window item) c.region_of-region.result []) c.index-cells-index.is
    ∙ ap (λ (r : Option ℕ). c.loop-index.placed.items ++ option_map_or (crossings_in c.args.table.now.window cell) r [])
    (c.region_of-region.ensures
    ∙ ap (λ n. cond (nat_lt owner n) (Some owner) None) c.len.ensures
    ∙ sym (region_here c.args.regions.now cell owner
    (owner_at c.args.cells.now c.args.regions.now c.as_slice-owners.result.now c.args.table.now.owners c.loop-index.index d c.requires.table.owners
    c.as_slice-owners.ensures c.loop-index-test.true))))

pub bounds-owners-index : goal.bounds-owners-index
bounds-owners-index c =
    omega (
      arith,
      c.loop-index-test.true,
      ap length (c.as_slice-owners.ensures ∙ c.requires.table.owners),
      length-map c.args.cells.now (owner_of c.args.regions.now.regions),
    )

pub push_cell-requires : goal.push_cell-requires
push_cell-requires c = subst IsCell (sym c.index-cells-index.is) (c.requires.cells.each c.loop-index.index c.index-cells-index.result c.loop-index-test.true)

pub returns : goal.returns
returns c =
    c.loop-index.invariant
    ∙ ap (flat_map (cell_places c.args.table.now.window c.args.regions.now)) (take_all c.loop-index.index c.args.cells.now c.loop-index-test.false)
