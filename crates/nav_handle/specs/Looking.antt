-- Looking: what is told of the tiles of a mesh and of obstacles to one who draws them.
use Rattle.std.specs.Prelude.{◌≡◌, ◌⊎◌, ℕ, List, length, map, slice_get, Option, Some, None, option_map}
use Rattle.nav_base.specs.declared.point.Point.{Point}
use Rattle.nav_base.specs.Convex.{corner_at}
use Rattle.nav_ground.specs.declared.history.Entry.{Entry}
use Rattle.nav_ground.specs.declared.shape.Shape.{Shape}
use Rattle.nav_ground.specs.declared.shape.Shape.TheVariants.{Block, Cylinder, AreaBlock, AreaCylinder, Prism, Disc}
use Rattle.nav_ground.specs.History.{alive_after, shape_of}
use Rattle.nav_ground.specs.Tiling.{tile_count}
use Rattle.mesh_types.specs.declared.links.Link.{Link}
use Rattle.mesh_types.specs.declared.mesh.Mesh.{Mesh}
use Rattle.mesh_types.specs.declared.polygon.Polygon.{Polygon}
use Rattle.mesh_types.specs.declared.mesh.TileMesh.{TileMesh}
use Rattle.build_queue.specs.BookState.{BookState}
use Rattle.nav_handle.specs.Views.{Seen}
use Rattle.nav_handle.specs.Statuses as status
use Rattle.nav_handle.specs.declared.faces.NavdCorner.{NavdCorner}
use Rattle.nav_handle.specs.declared.faces.NavdFace.{NavdFace}
use Rattle.nav_handle.specs.declared.faces.NavdObstacle.{NavdObstacle}
use Rattle.nav_handle.specs.declared.wire.NavdShown.{NavdShown}
use Rattle.nav_handle.specs.declared.wire.NavdBlock.{NavdBlock}
use Rattle.nav_handle.specs.declared.wire.NavdCylinder.{NavdCylinder}
use Rattle.nav_handle.specs.declared.wire.NavdLink.{NavdLink}
use Rattle.nav_handle.specs.Answers.{EndsSo}
use Rattle.nav_handle.specs.Wire.{laid, link_told}

-- the corner at a place, in whole cells; 0 where there are fewer
abbrev pub corner_at_place : List Point → ℕ → NavdCorner
corner_at_place corners place = record { x = (corner_at corners place).x; z = (corner_at corners place).z }

-- what is told of a polygon
abbrev pub face_told : Polygon → NavdFace
face_told polygon = record {
  corners = length polygon.corners;
  first = corner_at_place polygon.corners 0;
  second = corner_at_place polygon.corners 1;
  third = corner_at_place polygon.corners 2;
  fourth = corner_at_place polygon.corners 3;
  fifth = corner_at_place polygon.corners 4;
  sixth = corner_at_place polygon.corners 5;
  area = polygon.area;
  low = polygon.low;
  high = polygon.high;
}

-- of a tile of a mesh: its polygons, the links between them, and those that lead to other tiles; none where there is no such tile
abbrev pub faces_of : Mesh → ℕ → Option (List NavdFace)
faces_of mesh tile = option_map (λ (it : TileMesh). map face_told it.polys) (slice_get mesh.tiles tile)

abbrev pub inner_links_of : Mesh → ℕ → Option (List NavdLink)
inner_links_of mesh tile = option_map (λ (it : TileMesh). map link_told it.links) (slice_get mesh.tiles tile)

abbrev pub border_links_of : Mesh → ℕ → Option (List NavdLink)
border_links_of mesh tile = option_map (λ (links : List Link). map link_told links) (slice_get mesh.cross tile)

-- a list was asked for: it is told as far as there is room, with how many there are; where there is none, a number was out of its limits
abbrev pub IsListed : {A : Type 0} → Option (List A) → ℕ × List A → ℕ × List A → ℕ → Type 0
IsListed None before after ended = EndsSo status.out_of_range before after ended
IsListed (Some list) before after ended = (ended ≡ status.ok) × (after ≡ (length list, laid list before.1))

-- a list of a tile was asked for: the mesh tells it; where there is no mesh, nothing is told
abbrev pub AreTold : {A : Type 0} → (Mesh → ℕ → Option (List A)) → Option Mesh → ℕ → ℕ × List A → ℕ × List A → ℕ → Type 0
AreTold these None tile before after ended = EndsSo status.empty before after ended
AreTold these (Some mesh) tile before after ended = IsListed (these mesh tile) before after ended

-- a block and a cylinder under a number; what is not there is 0
abbrev pub no_block : NavdBlock
no_block = record { x0 = 0; x1 = 0; y0 = 0; y1 = 0; z0 = 0; z1 = 0 }

abbrev pub block_told : ℕ → ℕ → NavdBlock → NavdObstacle
block_told number area block = record {
  number = number;
  area = area;
  kind = 0;
  block = block;
  cylinder = record { cx = 0; cz = 0; r = 0; y0 = 0; y1 = 0 };
}

abbrev pub cylinder_told : ℕ → ℕ → NavdCylinder → NavdObstacle
cylinder_told number area round = record { number = number; area = area; kind = 1; block = no_block; cylinder = round }

-- of a prism and a disc the kind and the area alone
abbrev pub other_told : ℕ → ℕ → ℕ → NavdObstacle
other_told number area kind = record {
  number = number;
  area = area;
  kind = kind;
  block = no_block;
  cylinder = record { cx = 0; cz = 0; r = 0; y0 = 0; y1 = 0 };
}

-- what is told of the obstacle with a number
abbrev pub obstacle_told : ℕ → Option Shape → NavdObstacle
obstacle_told number (Some (Block x0 x1 y0 y1 z0 z1)) = block_told number 0 (record { x0 = x0; x1 = x1; y0 = y0; y1 = y1; z0 = z0; z1 = z1 })
obstacle_told number (Some (AreaBlock area x0 x1 y0 y1 z0 z1)) =
    block_told number area (record { x0 = x0; x1 = x1; y0 = y0; y1 = y1; z0 = z0; z1 = z1 })
obstacle_told number (Some (Cylinder cx cz r y0 y1)) = cylinder_told number 0 (record { cx = cx; cz = cz; r = r; y0 = y0; y1 = y1 })
obstacle_told number (Some (AreaCylinder area cx cz r y0 y1)) = cylinder_told number area (record { cx = cx; cz = cz; r = r; y0 = y0; y1 = y1 })
obstacle_told number (Some (Prism base area y0 y1)) = other_told number area 2
obstacle_told number (Some (Disc cx cz r area y0 y1)) = other_told number area 3
obstacle_told number None = block_told number 0 no_block

abbrev pub obstacle_of : List Entry → ℕ → NavdObstacle
obstacle_of history number = obstacle_told number (shape_of history number)

-- the obstacles that are alive after the whole history, by rising numbers
abbrev pub obstacles_of : BookState → List NavdObstacle
obstacles_of state = map (obstacle_of state.history) (alive_after state.history (length state.history))

-- they were asked for: they are told as far as there is room, unless memory is refused; where there is no level, nothing is told
abbrev pub AreObstacles : Option BookState → ℕ × List NavdObstacle → ℕ × List NavdObstacle → ℕ → Type 0
AreObstacles None before after ended = EndsSo status.empty before after ended
AreObstacles (Some state) before after ended = IsListed (Some (obstacles_of state)) before after ended ⊎ EndsSo status.no_memory before after ended

-- how many entries a view shows, and how many tiles there are
abbrev pub AreShown : Option Seen → NavdShown → NavdShown → ℕ → Type 0
AreShown None before after ended = EndsSo status.empty before after ended
AreShown (Some seen) before after ended =
    (ended ≡ status.ok) × (after ≡ record { published = seen.length; tiles = tile_count seen.mesh.setting })
