-- The laws of storeys hold of the mesh of a tile's free cells, of either kind, so of the tiles of every built mesh.
use Rattle.std.proofs.Common.{◌≡◌, ◌≤◌, get_or, ap, ◌∙◌, sym, subst}
use Rattle.std.specs.Prelude.{All}
use Rattle.std.proofs.lemmas.List.Elements.{All-map, All-weaker}
use Rattle.nav_ground.specs.declared.cell.Cell.{Cell}
use Rattle.nav_ground.specs.declared.cell.FreeLayer.{FreeLayer}
use Rattle.nav_ground.specs.declared.cell.Layer.{Layer}
use Rattle.nav_ground.specs.declared.setting.MeshKind.{MeshKind}
use Rattle.nav_ground.specs.declared.setting.MeshKind.TheVariants.{Strips}
use Rattle.nav_ground.specs.declared.setting.Setting.{Setting}
use Rattle.nav_ground.specs.Cells.{IsCell, IsCut, IsInTile}
use Rattle.nav_ground.specs.FreeCells.{free_layer_of}
use Rattle.nav_ground.specs.Grounds.{IsLayerOf}
use Rattle.nav_ground.proofs.FreeLayers.{free_layer_cut}
use Rattle.nav_ground.proofs.LayerLaws.{IsLayerOf-from_ground}
use Rattle.mesh_types.specs.declared.mesh.TileMesh.{TileMesh}
use Rattle.mesh_types.specs.Builds.{mesh_under, tile_mesh_of}
use Rattle.mesh_types.specs.ContourMeshes.{mesh_of_free, mesh_of_kind}
use Rattle.mesh_types.specs.Standing.{CornersStand, PointsStand}
use Rattle.mesh_types.specs.StripCover.{IsOfStrips}
use Rattle.mesh_types.specs.StripMeshes.{strip_mesh_of}
use Rattle.mesh_types.specs.WholeMesh.{mesh_of}
use Rattle.mesh_types.proofs.TileMeshes.{mesh_of_cells, of_either}
use Rattle.tile_build.proofs.FreeInTile.{free_in_tile}
use Rattle.tile_build.proofs.TileFits.{mesh_fits}
use Rattle.storey_laws.specs.Built.{HoldsOfMeshes, HoldsOfTiles}
use Rattle.storey_laws.specs.FreeCells.{AreOverStoreys, KeepsClimb, SharesFreeCells}
use Rattle.storey_laws.specs.HeldPlaces.{CornersArePlaces, HeldPointsArePlaces}
use Rattle.storey_laws.proofs.CornerPlaces.{HasCornersOver, corners_are_places}
use Rattle.storey_laws.proofs.FreeFloors.{AreSteps, ground_steps}
use Rattle.storey_laws.proofs.HeldFloors.{HasOwnFloors, corners_stand, held_are_places}
use Rattle.storey_laws.proofs.RegionStoreys.{contours_own}
use Rattle.storey_laws.proofs.StoreyCells.{HasOwnCells, keeps_climb, over_storeys, shares}
use Rattle.storey_laws.proofs.StripStoreys.{HasStripsOver, strip_points_stand, strips_over, strips_own}

-- the free cells of a tile of a ground
record IsFreeOf (setting : Setting) (free : FreeLayer) : Type 0 where
  cut : IsCut free.cells
  in_tile : IsInTile setting free.tile free.cells
  steps : AreSteps setting.agent.climb free.cells

-- what holds of the mesh of such cells holds of the tiles of every mesh
each_tile : (P : Setting → TileMesh → Type 0)
    → ((setting : Setting) (free : FreeLayer) → IsFreeOf setting free → P setting (mesh_of_free setting free)) → HoldsOfTiles P
unfolding mesh_of
each_tile P holds ground shapes rules' limits =
    All-map (P ground.setting) (λ (layer : Layer). tile_mesh_of ground.setting layer shapes) ground.layers
    (λ k d there.
    let layer : Layer = get_or ground.layers k d in
    let of : IsLayerOf ground.setting layer = IsLayerOf-from_ground ground rules' k d there in
    holds ground.setting (free_layer_of layer shapes) (record {
      cut = free_layer_cut layer shapes of.rules.cells limits;
      in_tile = free_in_tile ground.setting layer shapes of.inside;
      steps = ground_steps ground shapes rules' k d there;
    }))

module _ (setting : Setting) (free : FreeLayer) (of : IsFreeOf setting free) where
  own_cells : HasOwnCells (mesh_of_free setting free)
  own_cells = of_either HasOwnCells setting free (strips_own setting free of.cut) (λ tile is. contours_own setting free tile of.cut of.in_tile is)

  own_steps : AreSteps setting.agent.climb (mesh_of_free setting free).free.cells
  own_steps =
      subst (λ (f : FreeLayer). AreSteps setting.agent.climb f.cells) (sym (mesh_of_cells setting free)) of.steps

  own_floors : HasOwnFloors (mesh_of_free setting free)
  own_floors = record {
    cells = own_cells;
    small = subst (λ (f : FreeLayer). All (λ (cell : Cell). cell.floor ≤ 8191) f.cells) (sym (mesh_of_cells setting free))
        (All-weaker IsCell (λ (cell : Cell). cell.floor ≤ 8191) (λ cell is. is.floor) free.cells of.cut.rules.each);
  }

  strips_stand : IsOfStrips setting (mesh_of_free setting free) → PointsStand (mesh_of_free setting free)
  strips_stand is =
      subst PointsStand (sym (is ∙ ap (strip_mesh_of setting) (mesh_of_cells setting free))) (strip_points_stand setting free of.cut)

  own_corners : HasCornersOver (mesh_of_free setting free)
  own_corners = record { stand = corners_stand (mesh_of_free setting free) own_cells; convex = (mesh_fits setting free of.cut of.in_tile).polys }

  own_strips : setting.mesh ≡ Strips → HasStripsOver (mesh_of_free setting free)
  unfolding mesh_of_free
  own_strips is = subst (λ (kind : MeshKind). HasStripsOver (mesh_of_kind kind setting free)) (sym is) (strips_over setting free of.cut)

pub shared_by_storeys : HoldsOfTiles (λ setting. SharesFreeCells)
shared_by_storeys =
    each_tile (λ setting. SharesFreeCells)
    (λ setting free of. shares (mesh_of_free setting free) setting.agent.climb (own_cells setting free of) (own_steps setting free of))

pub within_climb : HoldsOfTiles (λ setting tile. All (KeepsClimb setting.agent.climb) tile.storeys.list)
within_climb =
    each_tile (λ setting tile. All (KeepsClimb setting.agent.climb) tile.storeys.list)
    (λ setting free of. keeps_climb (mesh_of_free setting free) setting.agent.climb (own_cells setting free of) (own_steps setting free of))

pub over_own_storeys : HoldsOfTiles (λ setting. AreOverStoreys)
over_own_storeys = each_tile (λ setting. AreOverStoreys) (λ setting free of. over_storeys (mesh_of_free setting free) (own_cells setting free of))

pub each_corner_stands : HoldsOfTiles (λ setting. CornersStand)
each_corner_stands = each_tile (λ setting. CornersStand) (λ setting free of. corners_stand (mesh_of_free setting free) (own_cells setting free of))

pub each_strip_stands : HoldsOfTiles (λ setting tile. IsOfStrips setting tile → PointsStand tile)
each_strip_stands = each_tile (λ setting tile. IsOfStrips setting tile → PointsStand tile) (λ setting free of. strips_stand setting free of)

pub each_held_is_place : HoldsOfMeshes HeldPointsArePlaces
each_held_is_place ground shapes rules' limits =
    held_are_places (mesh_under ground shapes) (each_tile (λ setting. HasOwnFloors) (λ setting free of. own_floors setting free of) ground shapes rules' limits)

pub each_corner_is_place : HoldsOfMeshes CornersArePlaces
each_corner_is_place ground shapes rules' limits =
    corners_are_places (mesh_under ground shapes)
    (each_tile (λ setting. HasCornersOver) (λ setting free of. own_corners setting free of) ground shapes rules' limits)

pub each_has_strips_over : HoldsOfTiles (λ setting tile. setting.mesh ≡ Strips → HasStripsOver tile)
each_has_strips_over = each_tile (λ setting tile. setting.mesh ≡ Strips → HasStripsOver tile) (λ setting free of. own_strips setting free of)
