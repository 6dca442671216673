use Rattle.std.proofs.Common.{◌≡◌, List, ℕ, ap, ◌∙◌, subst, sym}
use Rattle.std.proofs.lemmas.Result.{IfOk-weaker}
use Rattle.nav_ground.specs.declared.cell.Cell.{Cell}
use Rattle.cell_table.specs.Table.{neighbour_table}
use Rattle.mesh_types.specs.declared.mesh.TileMesh.{TileMesh}
use Rattle.mesh_types.specs.Regions.{AreRegionsOf, regions_of}
use Rattle.mesh_types.specs.FitTiles.{IsFit}
use Rattle.mono_regions.specs.declared.touching.StripTable.{StripTable}
use Rattle.mono_regions.specs.Joining.{IsTableOf}
use Rattle.contour_mesh.specs.Outcomes.{IfMade}
use Rattle.contour_mesh.specs.SharedEdges.{OutlinesShareEdges}
use Rattle.contour_mesh.proofs.ContourRings.{made_shares}
use Rattle.contour_mesh.proofs.build.contour_mesh_over.Goals as goal

pub regions_over-requires : goal.regions_over-requires
regions_over-requires c =
    subst (λ (cells : List Cell). IsTableOf cells c.in_ok-strips.strips) (c.as_slice.ensures ∙ sym c.as_slice-2.ensures) c.in_ok-strips.ensures

pub region_table_over-requires-clause-regions : goal.region_table_over-requires-clause-regions
region_table_over-requires-clause-regions c =
    subst (λ (cells : List Cell). AreRegionsOf cells c.in_ok-regions.regions) c.as_slice-2.ensures c.in_ok-regions.ensures.kept

pub region_table_over-requires-clause-neighbours : goal.region_table_over-requires-clause-neighbours
region_table_over-requires-clause-neighbours c = c.in_ok-strips.ensures.table ∙ ap neighbour_table c.as_slice.ensures

pub mesh_over_regions-requires-clause-regions : goal.mesh_over_regions-requires-clause-regions
mesh_over_regions-requires-clause-regions c =
    subst (λ (cells : List Cell). AreRegionsOf cells c.in_ok-regions.regions) c.as_slice-2.ensures c.in_ok-regions.ensures.kept

pub mesh_over_regions-requires-clause-all : goal.mesh_over_regions-requires-clause-all
mesh_over_regions-requires-clause-all c = c.in_ok-regions.ensures.regions ∙ ap regions_of c.as_slice-2.ensures

-- strips beside another copy of their table
beside : (cells : List Cell) (strips : StripTable) (table : List (List ℕ)) → IsTableOf cells strips → table ≡ neighbour_table cells
    → IsTableOf cells (record { table = table; index = strips.index })
beside cells strips table of is = record { cut = of.cut; table = is; runs = of.runs; owners = of.owners }

pub mesh_over_regions-requires-clause-strips : goal.mesh_over_regions-requires-clause-strips
mesh_over_regions-requires-clause-strips c =
    beside c.args.free.cells c.in_ok-strips.strips c.in_ok-table.table.neighbours
    (subst (λ (cells : List Cell). IsTableOf cells c.in_ok-strips.strips) c.as_slice.ensures c.in_ok-strips.ensures)
    c.in_ok-table.ensures.tables.neighbours

pub returns-clause-shared : goal.returns-clause-shared
returns-clause-shared c =
    IfOk-weaker c.mesh_over_regions.result (IfMade (IsFit c.args.setting.now)) (IfMade (λ (tile : TileMesh). OutlinesShareEdges c.args.setting.now tile.free))
    (made_shares c.args.setting.now) c.mesh_over_regions.ensures.fit
