-- Corridors: walks over links, what they cost, and the cheapest.
use Rattle.std.specs.Prelude.{◌≡◌, ℕ, ◌*◌, ◌≤◌, max, ℤ, pos, ◌+ℤ◌, ◌*ℤ◌, List, [], ◌∷◌, map, slice_get, slice_index, Some, Contains, ◌⊎◌}
use Rattle.std.specs.List.{fold, sum_by}
use Rattle.std.specs.Int.{int_min, int_max}
use Rattle.std.specs.Option.{option_map_or}
use Rattle.nav_base.specs.declared.point.Point.{Point}
use Rattle.nav_base.specs.Point.{from_to}
use Rattle.nav_base.specs.Convex.{corner_at}
use Rattle.nav_base.specs.Deviation.{square_of}
use Rattle.nav_base.specs.Root.{ceil_sqrt_of}
use Rattle.mesh_types.specs.declared.links.PolyRef.{PolyRef}
use Rattle.mesh_types.specs.declared.links.Link.{Link}
use Rattle.mesh_types.specs.declared.polygon.Polygon.{Polygon}
use Rattle.mesh_types.specs.declared.mesh.TileMesh.{TileMesh}
use Rattle.mesh_types.specs.declared.mesh.Mesh.{Mesh}
use Rattle.mesh_types.specs.declared.answers.Corridor.{Corridor}
use Rattle.mesh_types.specs.WholeMesh.{poly_at}

-- the middle of a polygon's box, in sixteenths of a cell
abbrev pub centre_of : List Point → Point
centre_of corners =
    let xs : List ℤ = map (λ (p : Point). p.x) corners in
    let zs : List ℤ = map (λ (p : Point). p.z) corners in
    record {
      x = pos 8 *ℤ (fold int_min (corner_at corners 0).x xs +ℤ fold int_max (corner_at corners 0).x xs);
      z = pos 8 *ℤ (fold int_min (corner_at corners 0).z zs +ℤ fold int_max (corner_at corners 0).z zs);
    }

-- what a step from one polygon into another costs: the distance of their middles, rounded up and at least 1, times the cost of the area entered
abbrev pub step_cost : List ℕ → Polygon → Polygon → ℕ
step_cost costs from to = max 1 (ceil_sqrt_of (square_of (from_to (centre_of from.corners) (centre_of to.corners)))) * slice_index costs to.area

-- the weight of a link; 0 where it joins no two polygons of the mesh
abbrev pub weight_of : Mesh → Link → ℕ
weight_of mesh link =
    option_map_or (λ (from : Polygon). option_map_or (λ (to : Polygon). step_cost mesh.setting.costs from to) (poly_at mesh link.to) 0)
    (poly_at mesh link.from) 0

-- a link of a tile of a mesh: one inside the tile, or one over its border
pub record IsLinkOf (mesh : Mesh) (link : Link) : Type 0 where
  pub listed : ((tile : TileMesh) × (slice_get mesh.tiles link.from.tile ≡ Some tile) × Contains tile.links link)
      ⊎ ((links : List Link) × (slice_get mesh.cross link.from.tile ≡ Some links) × Contains links link)

-- a walk from one polygon to another: links of the mesh, each of which leaves the polygon that the one before it entered
abbrev pub WalksTo : Mesh → PolyRef → List Link → PolyRef → Type 0
WalksTo mesh from [] to = from ≡ to
WalksTo mesh from (link ∷ links) to = IsLinkOf mesh link × (link.from ≡ from) × WalksTo mesh link.to links to

-- what a walk costs
abbrev pub cost_of : Mesh → List Link → ℕ
cost_of mesh links = sum_by (weight_of mesh) links

-- a corridor: a walk than which no other from the one polygon to the other costs less, with its cost
pub record IsCheapest (mesh : Mesh) (from to : PolyRef) (corridor : Corridor) : Type 0 where
  pub walks : WalksTo mesh from corridor.links to
  pub cost : corridor.cost ≡ cost_of mesh corridor.links
  pub least : (links : List Link) → WalksTo mesh from links to → corridor.cost ≤ cost_of mesh links
