-- The polygons of a sound mesh: where they stand, and which rules they keep.
use Rattle.std.proofs.Common.{◌≡◌, ℕ, ◌<◌, List, length, ap, sym, subst, ◌∙◌}
use Rattle.std.specs.Prelude.{All, slice_get, Some}
use Rattle.std.proofs.lemmas.Option.{slice_get_within, get_or_from_slice_get, option_and_then_some}
use Rattle.nav_ground.specs.Tiling.{tile_window}
use Rattle.mesh_types.specs.declared.links.PolyRef.{PolyRef}
use Rattle.mesh_types.specs.declared.polygon.Polygon.{Polygon}
use Rattle.mesh_types.specs.declared.mesh.TileMesh.{TileMesh}
use Rattle.mesh_types.specs.declared.mesh.Mesh.{Mesh}
use Rattle.mesh_types.specs.FitTiles.{IsPolygon, IsInSquare, IsFit}
use Rattle.mesh_types.specs.Soundness.{IsSound}
use Rattle.mesh_types.specs.WholeMesh.{poly_at}

-- an element that is read keeps what all elements keep
pub All-read : {X : Type 0} (P : X → Type 0) (xs : List X) (i : ℕ) (x : X) → All P xs → slice_get xs i ≡ Some x → P x
All-read P xs i x all read = subst P (get_or_from_slice_get xs i x x read) (all i x (slice_get_within xs i x read))

-- the tile at a place of a sound mesh
pub record IsTileAt (mesh : Mesh) (t : ℕ) (tile : TileMesh) : Type 0 where
  pub within : t < length mesh.tiles
  pub numbered : tile.tile ≡ t
  pub fit : IsFit mesh.setting tile

pub tile_at : (mesh : Mesh) (t : ℕ) (tile : TileMesh) → IsSound mesh → slice_get mesh.tiles t ≡ Some tile → IsTileAt mesh t tile
tile_at mesh t tile sound read =
    let within = slice_get_within mesh.tiles t tile read in
    record {
      within = within;
      numbered = ap (λ (d : TileMesh). d.tile) (sym (get_or_from_slice_get mesh.tiles t tile tile read)) ∙ sound.tiles.in_order t tile within;
      fit = All-read (IsFit mesh.setting) mesh.tiles t tile sound.tiles.fit read;
    }

-- the polygon that a reference names, in its tile
pub record IsPlaced (mesh : Mesh) (at : PolyRef) (polygon : Polygon) : Type 0 where
  pub tile : TileMesh
  pub there : slice_get mesh.tiles at.tile ≡ Some tile
  pub tile_rules : IsTileAt mesh at.tile tile
  pub listed : slice_get tile.polys at.index ≡ Some polygon
  pub rules : IsPolygon polygon
  pub square : All (IsInSquare (tile_window mesh.setting at.tile)) polygon.corners

pub placed : (mesh : Mesh) (at : PolyRef) (polygon : Polygon) → IsSound mesh → poly_at mesh at ≡ Some polygon → IsPlaced mesh at polygon
placed mesh at polygon sound read =
    option_and_then_some (λ (tile : TileMesh). slice_get tile.polys at.index) (slice_get mesh.tiles at.tile) polygon read
    (λ tile there listed.
    let rules = tile_at mesh at.tile tile sound there in
    record {
      tile = tile;
      there = there;
      tile_rules = rules;
      listed = listed;
      rules = All-read IsPolygon tile.polys at.index polygon rules.fit.polys listed;
      square = subst (λ (t : ℕ). All (IsInSquare (tile_window mesh.setting t)) polygon.corners) rules.numbered
          (All-read (λ (other : Polygon). All (IsInSquare (tile_window mesh.setting tile.tile)) other.corners) tile.polys at.index polygon rules.fit.square listed);
    })
