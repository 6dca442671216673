-- Gathers: the list of the polygons to which links of a kind lead, as it grows.
use Rattle.std.specs.Prelude.{◌≡◌, ℕ, ◌<◌, ◌⊎◌, ◌↔◌, List, [], ◌++◌, length, take, get_or, slice_get, Contains}
use Rattle.std.specs.Option.{option_map_or}
use Rattle.mesh_types.specs.declared.links.Link.{Link}
use Rattle.mesh_types.specs.declared.links.PolyRef.{PolyRef}
use Rattle.mesh_types.specs.declared.mesh.Mesh.{Mesh}
use Rattle.mesh_types.specs.declared.mesh.TileMesh.{TileMesh}
use Rattle.mesh_types.specs.LinkIndex.{leaving_of}
use Rattle.mesh_types.specs.Portals.{LeadsThrough}
use Rattle.mesh_types.specs.WholeMesh.{poly_at}
use Rattle.wall_slide.specs.declared.questions.Slide.{Slide}
use Rattle.mesh_types.specs.Rays.{IsHeldAt}
use Rattle.wall_slide.specs.declared.around.Gathered.{Gathered}
use Rattle.wall_slide.specs.declared.around.Gathered.TheVariants.{Target, All}
use Rattle.wall_slide.specs.Slides.{LooksAt}

-- the links that leave a polygon inside its tile, and those that leave it over the tile's border
abbrev pub inner_links : Mesh → PolyRef → List Link
inner_links mesh at = option_map_or (λ (tile : TileMesh). leaving_of at.index tile.links) (slice_get mesh.tiles at.tile) []

abbrev pub outer_links : Mesh → PolyRef → List Link
outer_links mesh at = option_map_or (leaving_of at.index) (slice_get mesh.cross at.tile) []

-- the links that leave a polygon
abbrev pub links_from : Mesh → PolyRef → List Link
links_from mesh at = inner_links mesh at ++ outer_links mesh at

-- a link leads from one polygon of the mesh into another
abbrev pub IsLeading : Mesh → Link → Type 0
IsLeading mesh link = LeadsThrough (poly_at mesh link.from) (poly_at mesh link.to) link

-- a link of a kind enters a polygon which a list lacks
pub record IsMissed (Passes : Link → Type 0) (list : List PolyRef) (link : Link) : Type 0 where
  pub lacking : Contains list link.to → ⊥
  pub passed : Passes link

-- a polygon is one that a link of a list and of a kind enters
pub record IsEntered (Passes : Link → Type 0) (links : List Link) (at : PolyRef) : Type 0 where
  pub link : Link
  pub listed : Contains links link
  pub passed : Passes link
  pub enters : link.to ≡ at

-- a list after the polygons were appended that links of a kind enter, each once, if it was not in the list
pub record IsGathered (Passes : Link → Type 0) (links : List Link) (old new : List PolyRef) : Type 0 where
  pub more : List PolyRef
  pub is : new ≡ old ++ more
  pub fresh : (k : ℕ) (d : PolyRef) → k < length more → Contains (old ++ take k more) (get_or more k d) → ⊥
  pub each : (at : PolyRef) → Contains new at → Contains old at ⊎ IsEntered Passes links at
  pub all : (link : Link) → Contains links link → Passes link → Contains new link.to

-- what is gathered for a slide: a polygon that it looks at and that holds its target, or all polygons that it looks at
abbrev pub IsGatheredFor : Mesh → Slide → Gathered → Type 0
IsGatheredFor mesh asked (Target at) = LooksAt mesh asked at × IsHeldAt mesh asked.to at
IsGatheredFor mesh asked (All list) = (at : PolyRef) → Contains list.items at ↔ LooksAt mesh asked at
