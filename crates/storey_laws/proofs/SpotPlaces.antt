-- In a mesh of strips the middle of each spot is held by the polygon of its strip, so that no draw is cut.
use Rattle.std.proofs.Common.{◌≡◌, ℕ, suc, ◌+◌, ◌-◌, ◌*◌, ◌/◌, ◌^◌, Bool, true, false, pos, ◌≤ℤ◌, List, [], ◌∷◌, length, Some, ap, ◌∙◌, refl, subst, arith}
use Rattle.std.specs.Prelude.{All, slice_get, option_and_then, if◌then◌else◌}
use Rattle.std.specs.List.{enumerate_from}
use Rattle.std.proofs.lemmas.Int.{ints}
use Rattle.std.proofs.lemmas.List.Elements.{All-cons, All-map, All-nil}
use Rattle.std.proofs.lemmas.Option.{get_or_from_slice_get, slice_get_within}
use Rattle.nav_ground.specs.declared.setting.MeshKind.TheVariants.{Strips}
use Rattle.mesh_types.specs.declared.links.PolyRef.{PolyRef}
use Rattle.mesh_types.specs.declared.mesh.Mesh.{Mesh}
use Rattle.mesh_types.specs.declared.mesh.TileMesh.{TileMesh}
use Rattle.mesh_types.specs.declared.storeys.FloorRow.{FloorRow}
use Rattle.mesh_types.specs.declared.storeys.Storey.{Storey}
use Rattle.mesh_types.specs.Storeys.{HasFloor}
use Rattle.mesh_types.specs.StripCover.{IsInColumn}
use Rattle.mesh_types.proofs.Gathered.{all_of_each}
use Rattle.mesh_place.specs.Nearest.{is_open}
use Rattle.random_place.specs.declared.spots.Home.{Home}
use Rattle.random_place.specs.declared.spots.StoreyCell.{StoreyCell}
use Rattle.random_place.specs.Draws.{middle_of}
use Rattle.random_place.specs.Spots.{open_spots, row_spots, spots_of, storey_spots, tile_spots}
use Rattle.storey_laws.specs.Built.{HoldsOfMeshes}
use Rattle.storey_laws.specs.PlacesTold.{StripDrawsAreWhole}
use Rattle.storey_laws.proofs.BuiltTiles.{each_has_strips_over}
use Rattle.storey_laws.proofs.StripStoreys.{HasStripsOver}

-- ---- spots are cells of storeys

each_numbered : {X : Type 0} (P : ℕ × X → Type 0) (n : ℕ) (xs : List X) → ((k : ℕ) (x : X) → slice_get xs k ≡ Some x → P (n + k, x))
    → All P (enumerate_from n xs)
each_numbered P n [] each = All-nil P
each_numbered {X = X} P n (x ∷ xs) each =
    All-cons P (n, x) (enumerate_from (n + 1) xs)
    (subst (λ (m : ℕ). P (m, x)) {x = n + 0} {y = n} (omega arith) (each 0 x refl))
    (each_numbered P (n + 1) xs (λ k y there. subst (λ (m : ℕ). P (m, y)) {x = n + suc k} {y = n + 1 + k} (omega arith) (each (suc k) y there)))

-- a spot is a cell of a storey of a tile
record IsSpotOf (mesh : Mesh) (spot : StoreyCell) : Type 0 where
  tile : TileMesh
  there : slice_get mesh.tiles spot.tile ≡ Some tile
  storey : Storey
  home : slice_get tile.storeys.list spot.storey ≡ Some storey
  has : HasFloor storey spot.x spot.z spot.floor

module _ (mesh : Mesh) (t : ℕ) (tile : TileMesh) (there : slice_get mesh.tiles t ≡ Some tile) where
  module _ (s : ℕ) (storey : Storey) (home : slice_get tile.storeys.list s ≡ Some storey) where
    abbrev own_home : Home
    own_home = record { tile = 0 + t; storey = 0 + s }

    row_are : (r : ℕ) (row : FloorRow) → slice_get storey.rows r ≡ Some row → All (IsSpotOf mesh) (row_spots own_home (storey.z0 + r) row)
    row_are r row is_row =
        All-map (IsSpotOf mesh) (λ (cell : ℕ × ℕ). record { tile = 0 + t; storey = 0 + s; x = cell.0; z = storey.z0 + r; floor = cell.1 })
        (enumerate_from row.x0 row.floors)
        (each_numbered
        (λ (cell : ℕ × ℕ). IsSpotOf mesh (record { tile = 0 + t; storey = 0 + s; x = cell.0; z = storey.z0 + r; floor = cell.1 }))
        row.x0 row.floors
        (λ k y is_cell. record {
          tile = tile;
          there = ap (slice_get mesh.tiles) {x = 0 + t} {y = t} (omega arith) ∙ there;
          storey = storey;
          home = ap (slice_get tile.storeys.list) {x = 0 + s} {y = s} (omega arith) ∙ home;
          has = record {
            row = row;
            above = omega arith;
            is_row = ap (slice_get storey.rows) {x = storey.z0 + r - storey.z0} {y = r} (omega arith) ∙ is_row;
            right = omega arith;
            is_cell = ap (slice_get row.floors) {x = row.x0 + k - row.x0} {y = k} (omega arith) ∙ is_cell;
          };
        }))

    storey_are : All (IsSpotOf mesh) (storey_spots own_home storey)
    storey_are =
        all_of_each (IsSpotOf mesh) (λ (row : ℕ × FloorRow). row_spots own_home row.0 row.1) (enumerate_from storey.z0 storey.rows)
        (each_numbered (λ (row : ℕ × FloorRow). All (IsSpotOf mesh) (row_spots own_home row.0 row.1)) storey.z0 storey.rows row_are)

    open_are : (areas : ℕ) → All (IsSpotOf mesh) (open_spots areas own_home storey)
    open_are areas = by_open (is_open areas storey.area)
      where
        by_open : (b : Bool) → All (IsSpotOf mesh) (if b then storey_spots own_home storey else [])
        by_open true = storey_are
        by_open false = All-nil (IsSpotOf mesh)

  tile_are : (areas : ℕ) → All (IsSpotOf mesh) (tile_spots areas (0 + t) tile.storeys.list)
  tile_are areas =
      all_of_each (IsSpotOf mesh) (λ (storey : ℕ × Storey). open_spots areas (record { tile = 0 + t; storey = storey.0 }) storey.1)
      (enumerate_from 0 tile.storeys.list)
      (each_numbered (λ (storey : ℕ × Storey). All (IsSpotOf mesh) (open_spots areas (record { tile = 0 + t; storey = storey.0 }) storey.1)) 0
      tile.storeys.list (λ s storey home. open_are s storey home areas))

spots_are : (mesh : Mesh) (areas : ℕ) → All (IsSpotOf mesh) (spots_of mesh areas)
unfolding spots_of
spots_are mesh areas =
    all_of_each (IsSpotOf mesh) (λ (tile : ℕ × TileMesh). tile_spots areas tile.0 tile.1.storeys.list) (enumerate_from 0 mesh.tiles)
    (each_numbered (λ (tile : ℕ × TileMesh). All (IsSpotOf mesh) (tile_spots areas tile.0 tile.1.storeys.list)) 0 mesh.tiles
    (λ t tile there. tile_are mesh t tile there areas))

-- ---- the middle of a spot's cell

middle_inside : (spot : StoreyCell) → IsInColumn spot.x spot.z (middle_of spot)
middle_inside spot = record { left = low spot.x; right = high spot.x; bottom = low spot.z; top = high spot.z }
  where
    low : (n : ℕ) → pos (16 * n) ≤ℤ pos (16 * n + 8)
    low n = omega (arith, ints)

    high : (n : ℕ) → pos (16 * n + 8) ≤ℤ pos (16 * (n + 1))
    high n = omega (arith, ints)

none_cut : (mesh : Mesh) → All (λ (tile : TileMesh). mesh.setting.mesh ≡ Strips → HasStripsOver tile) mesh.tiles → StripDrawsAreWhole mesh
none_cut mesh each strips asked right =
    let spot : StoreyCell = right.0 in
    let spots : List StoreyCell = spots_of mesh asked.areas in
    let n : ℕ = asked.draw * length spots / 2 ^ 64 in
    let of : IsSpotOf mesh spot =
    subst (IsSpotOf mesh) (get_or_from_slice_get spots n spot spot right.1) (spots_are mesh asked.areas n spot (slice_get_within spots n spot right.1)) in
    let less = slice_get_within mesh.tiles spot.tile of.tile of.there in
    let is : HasStripsOver of.tile =
    subst HasStripsOver (get_or_from_slice_get mesh.tiles spot.tile of.tile of.tile of.there) (each spot.tile of.tile less strips) in
    let over = is.over spot.storey spot.x spot.z spot.floor of.storey of.home of.has in
    let at : PolyRef = record { tile = spot.tile; index = spot.storey } in
    right.2 at (record {
      tile = refl;
      home = ap (option_and_then (λ (one : TileMesh). slice_get one.storeys.homes spot.storey)) of.there ∙ over.home;
      held = record {
        polygon = over.polygon;
        there = ap (option_and_then (λ (one : TileMesh). slice_get one.polys spot.storey)) of.there ∙ over.there;
        holds = over.holds (middle_of spot) (middle_inside spot);
      };
    })

pub each_draw_is_whole : HoldsOfMeshes StripDrawsAreWhole
each_draw_is_whole ground shapes rules' limits = none_cut _ (each_has_strips_over ground shapes rules' limits)
