use Rattle.std.proofs.Common.{List, ◌++◌, map, ap, ◌∙◌}
use Rattle.nav_ground.specs.declared.cell.Cell.{Cell}
use Rattle.mesh_types.specs.declared.mesh.TileMesh.{TileMesh}
use Rattle.mesh_types.specs.Words.{floor_of}
use Rattle.nav_query.proofs.MeshFloors.{floors_found, free_ordered, no_floors_found}
use Rattle.nav_query.proofs.rays.floors.Goals as goal
use Rattle.nav_query.proofs.rays.floors.Goals.{then-is_inside+in_ok-column+in_ok-push_floors, else-is_inside}

pub column-requires : goal.column-requires
column-requires c =
    free_ordered c.args.mesh.now c.tile_of.result c.at.result.now c.get-tile.result.now c.requires.sound c.tile_of.ensures.there c.at.ensures c.get-tile.ensures

pub returns : goal.returns
returns c =
    let mesh = c.args.mesh.now in
    elim c.if-is_inside.branch [
      | then-is_inside+in_ok-column+in_ok-push_floors w ↦
          ap (λ v. v.items) w.floors-is
          ∙ floors_found mesh c.args.x c.args.z w.tile_of.result w.at.result.now w.get-tile.result.now.free.cells c.new-floors.result.items
          w.push_floors.new.floors.items c.requires.sound c.requires.setting (c.is_inside.ensures.0 w.if-is_inside.true) w.tile_of.ensures.value
          w.tile_of.ensures.there
          w.at.ensures
          (ap (λ (tile : TileMesh). tile.free.cells) w.get-tile.ensures) c.new-floors.ensures.items
          (w.in_ok-push_floors.ensures
          ∙ ap (λ (cells : List Cell). c.new-floors.result.items ++ map floor_of cells) (w.as_slice.ensures.value ∙ w.in_ok-column.ensures))
      | else-is_inside w ↦
          ap (λ v. v.items) w.floors-is
          ∙ no_floors_found mesh c.args.x c.args.z c.is_inside.result c.new-floors.result.items c.requires.sound c.requires.setting c.is_inside.ensures.1
          w.if-is_inside.false c.new-floors.ensures.items
    ]
