-- The spots with numbers: in rows, storeys and tiles; and which cell each of them is.
use Rattle.std.proofs.Common.{◌≡◌, ℕ, zero, suc, ◌+◌, ◌-◌, ◌≤◌, ◌<◌, Bool, true, false, List, [], ◌∷◌, drop, refl, sym, ap, ◌∙◌, arith}
use Rattle.std.specs.Prelude.{Option, Some, None, option_map, slice_get, map, flat_map, if◌then◌else◌}
use Rattle.std.specs.List.{enumerate_from}
use Rattle.std.proofs.lemmas.Option.{none-some, same_Some}
use Rattle.mesh_types.specs.declared.mesh.Mesh.{Mesh}
use Rattle.mesh_types.specs.declared.mesh.TileMesh.{TileMesh}
use Rattle.mesh_types.specs.declared.storeys.FloorRow.{FloorRow}
use Rattle.mesh_types.specs.declared.storeys.Storey.{Storey}
use Rattle.mesh_types.specs.Storeys.{HasFloor}
use Rattle.random_place.specs.declared.spots.Home.{Home}
use Rattle.random_place.specs.declared.spots.StoreyCell.{StoreyCell}
use Rattle.mesh_types.specs.Reaches.{cell_count}
use Rattle.mesh_place.specs.Nearest.{is_open}
use Rattle.random_place.specs.Spots.{open_cells, row_spots, storey_spots, open_spots, tile_spots, spots_of}
use Rattle.random_place.proofs.Numbered.{given_by}

-- ---- the lists that searches go through, from a place on

abbrev pub rows_from : Home → Storey → ℕ → List StoreyCell
rows_from home storey i = flat_map (λ (row : ℕ × FloorRow). row_spots home row.0 row.1) (enumerate_from (storey.z0 + i) (drop i storey.rows))

abbrev pub storeys_from : ℕ → ℕ → List Storey → ℕ → List StoreyCell
storeys_from areas tile storeys i =
    flat_map (λ (storey : ℕ × Storey). open_spots areas (record { tile = tile; storey = storey.0 }) storey.1) (enumerate_from i (drop i storeys))

abbrev pub tiles_from : Mesh → ℕ → ℕ → List StoreyCell
tiles_from mesh areas i = flat_map (λ (tile : ℕ × TileMesh). tile_spots areas tile.0 tile.1.storeys.list) (enumerate_from i (drop i mesh.tiles))

pub all_tiles : (mesh : Mesh) (areas : ℕ) → tiles_from mesh areas 0 ≡ spots_of mesh areas
unfolding spots_of
all_tiles mesh areas = refl

-- ---- rows

abbrev cell_spot : Home → ℕ → ℕ × ℕ → StoreyCell
cell_spot home z cell = record { tile = home.tile; storey = home.storey; x = cell.0; z = z; floor = cell.1 }

numbered_cell : (g : ℕ × ℕ → StoreyCell) (x0 : ℕ) (floors : List ℕ) (k : ℕ)
    → slice_get (map g (enumerate_from x0 floors)) k ≡ option_map (λ y. g (x0 + k, y)) (slice_get floors k)
numbered_cell g x0 [] k = refl
numbered_cell g x0 (y ∷ ys) zero = ap (λ n. Some (g (n, y))) (omega arith)
numbered_cell g x0 (y ∷ ys) (suc k) = numbered_cell g (x0 + 1) ys k ∙ ap (λ n. option_map (λ y. g (n, y)) (slice_get ys k)) (omega arith)

pub spot_in_row : (home : Home) (z : ℕ) (row : FloorRow) (k y : ℕ) → slice_get row.floors k ≡ Some y
    → slice_get (row_spots home z row) k ≡ Some (record { tile = home.tile; storey = home.storey; x = row.x0 + k; z = z; floor = y })
spot_in_row home z row k y there = numbered_cell (cell_spot home z) row.x0 row.floors k ∙ ap (option_map (λ y. cell_spot home z (row.x0 + k, y))) there

pub none_in_row : (home : Home) (z : ℕ) (row : FloorRow) (k : ℕ) → slice_get row.floors k ≡ None → slice_get (row_spots home z row) k ≡ None
none_in_row home z row k none = numbered_cell (cell_spot home z) row.x0 row.floors k ∙ ap (option_map (λ y. cell_spot home z (row.x0 + k, y))) none

-- ---- open storeys

pub open_where_some : (areas : ℕ) (home : Home) (storey : Storey) (n : ℕ) → n < open_cells areas storey → open_spots areas home storey ≡ storey_spots home storey
open_where_some areas home storey n some = by (is_open areas storey.area) some
  where
    by : (b : Bool) → n < (if b then cell_count storey else 0) → (if b then storey_spots home storey else []) ≡ storey_spots home storey
    by true some' = refl
    by false none = absurd (omega (arith, none))

spots_where_open : (areas : ℕ) (home : Home) (storey : Storey) (n : ℕ) (spot : StoreyCell) → slice_get (open_spots areas home storey) n ≡ Some spot
    → slice_get (storey_spots home storey) n ≡ Some spot
spots_where_open areas home storey n spot is = by (is_open areas storey.area) is
  where
    by : (b : Bool) → slice_get (if b then storey_spots home storey else []) n ≡ Some spot → slice_get (storey_spots home storey) n ≡ Some spot
    by true here = here
    by false none = absurd (none-some spot none)

-- ---- which cell a spot is

-- a spot is a cell of a storey of a mesh
pub record IsCellOf (mesh : Mesh) (spot : StoreyCell) : Type 0 where
  pub tile : TileMesh
  pub there : slice_get mesh.tiles spot.tile ≡ Some tile
  pub storey : Storey
  pub home : slice_get tile.storeys.list spot.storey ≡ Some storey
  pub has : HasFloor storey spot.x spot.z spot.floor

record IsCellIn (row : FloorRow) (home : Home) (z : ℕ) (spot : StoreyCell) : Type 0 where
  x : ℕ
  right : row.x0 ≤ x
  is_cell : slice_get row.floors (x - row.x0) ≡ Some spot.floor
  is : spot ≡ record { tile = home.tile; storey = home.storey; x = x; z = z; floor = spot.floor }

cell_in : (row : FloorRow) (home : Home) (z k : ℕ) (spot : StoreyCell) → slice_get (row_spots home z row) k ≡ Some spot → IsCellIn row home z spot
cell_in row home z k spot is = by (slice_get row.floors k) refl
  where
    by : (o : Option ℕ) → slice_get row.floors k ≡ o → IsCellIn row home z spot
    by (Some y) there =
        let same = same_Some _ spot (sym (spot_in_row home z row k y there) ∙ is) in
        record {
          x = row.x0 + k;
          right = omega arith;
          is_cell = ap (slice_get row.floors) (omega arith) ∙ there ∙ ap (λ (s : StoreyCell). Some s.floor) same;
          is = sym same ∙ ap (λ (n : ℕ). record { tile = home.tile; storey = home.storey; x = row.x0 + k; z = z; floor = n }) (ap (λ (s : StoreyCell). s.floor) same);
        }
    by None none = absurd (none-some spot (sym (none_in_row home z row k none) ∙ is))

pub cell_of : (mesh : Mesh) (areas n : ℕ) (spot : StoreyCell) → slice_get (spots_of mesh areas) n ≡ Some spot → IsCellOf mesh spot
unfolding spots_of
cell_of mesh areas n spot is =
    let t = given_by (λ (tile : ℕ × TileMesh). tile_spots areas tile.0 tile.1.storeys.list) 0 mesh.tiles n spot is in
    let s = given_by (λ (storey : ℕ × Storey). open_spots areas (record { tile = 0 + t.place; storey = storey.0 }) storey.1) 0 t.x.storeys.list t.number spot t.gives in
    let home : Home = record { tile = 0 + t.place; storey = 0 + s.place } in
    let r = given_by (λ (row : ℕ × FloorRow). row_spots home row.0 row.1) s.x.z0 s.x.rows s.number spot (spots_where_open areas home s.x s.number spot s.gives) in
    let cell = cell_in r.x home (s.x.z0 + r.place) r.number spot r.gives in
    let tile_is : spot.tile ≡ t.place = ap (λ (o : StoreyCell). o.tile) cell.is ∙ omega arith in
    let storey_is : spot.storey ≡ s.place = ap (λ (o : StoreyCell). o.storey) cell.is ∙ omega arith in
    let x_is : spot.x ≡ cell.x = ap (λ (o : StoreyCell). o.x) cell.is in
    let z_is : spot.z ≡ s.x.z0 + r.place = ap (λ (o : StoreyCell). o.z) cell.is in
    record {
      tile = t.x;
      there = ap (slice_get mesh.tiles) tile_is ∙ t.is;
      storey = s.x;
      home = ap (slice_get t.x.storeys.list) storey_is ∙ s.is;
      has = record {
        row = r.x;
        above = omega (arith, z_is);
        is_row = ap (slice_get s.x.rows) (omega (arith, z_is)) ∙ r.is;
        right = let right = cell.right in omega (arith, right, x_is);
        is_cell = ap (λ n. slice_get r.x.floors (n - r.x.x0)) x_is ∙ cell.is_cell;
      };
    }
