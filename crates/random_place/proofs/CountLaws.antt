-- How many spots there can be, and that counts are lengths of lists of spots.
use Rattle.std.proofs.Common.{◌≡◌, ℕ, suc, ◌+◌, ◌*◌, ◌≤◌, ◌<◌, Bool, true, false, List, [], ◌∷◌, length, get_or, take, refl, sym, ap, ◌∙◌, arith}
use Rattle.std.specs.Prelude.{All, Some, slice_get, sum_by, if◌then◌else◌}
use Rattle.std.specs.Int.{div_ceil}
use Rattle.std.specs.List.{enumerate_from}
use Rattle.std.proofs.Math.Nat.{div-le_self}
use Rattle.std.proofs.lemmas.List.{length-map}
use Rattle.std.proofs.lemmas.List.FromFn.{length-enumerate_from}
use Rattle.std.proofs.lemmas.List.Sums.{sum_by-cons, sum_by-le, sum_by_more, sum_by_more_le}
use Rattle.std.proofs.lemmas.Bool.{eq-eqb}
use Rattle.std.proofs.lemmas.Nat.{mul-le}
use Rattle.std.proofs.lemmas.Nat.Bits.{bit_at_ones}
use Rattle.std.proofs.lemmas.Option.{slice_get_read}
use Rattle.nav_ground.specs.declared.setting.Setting.{Setting}
use Rattle.nav_ground.specs.Limits.{IsSetting}
use Rattle.nav_ground.specs.Tiling.{tile_count}
use Rattle.mesh_types.specs.declared.mesh.Mesh.{Mesh}
use Rattle.mesh_types.specs.declared.mesh.TileMesh.{TileMesh}
use Rattle.mesh_types.specs.declared.storeys.FloorRow.{FloorRow}
use Rattle.mesh_types.specs.declared.storeys.Storey.{Storey}
use Rattle.mesh_types.specs.Storeys.{AreStoreys, IsStorey}
use Rattle.random_place.specs.declared.spots.Home.{Home}
use Rattle.mesh_types.specs.declared.reaches.StoreyReach.{StoreyReach}
use Rattle.mesh_types.specs.Reaches.{IsReach, cell_count}
use Rattle.mesh_place.specs.Nearest.{is_open}
use Rattle.random_place.specs.Spots.{open_cells, open_cells_in, spot_count, row_spots, storey_spots, open_spots, tile_spots, spots_of}
use Rattle.random_place.proofs.Numbered.{length_numbered}

-- ---- limits

pub cells_fit : (storey : Storey) → IsStorey storey → cell_count storey ≤ 1048576
cells_fit storey rules =
    let top = rules.top in
    let each = sum_by-le (λ (row : FloorRow). length row.floors) 1024 storey.rows
    (λ i d there. let right = (rules.rows i d there).right in omega (arith, right)) in
    omega (arith, top, each)

pub open_fit : (areas : ℕ) (storey : Storey) → IsStorey storey → open_cells areas storey ≤ 1048576
open_fit areas storey rules = by (is_open areas storey.area)
  where
    by : (b : Bool) → (if b then cell_count storey else 0) ≤ 1048576
    by true = cells_fit storey rules
    by false = omega arith

pub tile_fits : (areas : ℕ) (storeys : List Storey) → AreStoreys storeys → length storeys ≤ 18446744073709551616
    → open_cells_in areas storeys ≤ 19342813113834066795298816
tile_fits areas storeys rules short =
    let each = sum_by-le (open_cells areas) 1048576 storeys (λ i d there. open_fit areas (get_or storeys i d) (rules i d there)) in
    omega (arith, short, each)

-- ---- one area

same_sums : {X : Type 0} (f g : X → ℕ) (xs : List X) → All (λ x. f x ≡ g x) xs → sum_by f xs ≡ sum_by g xs
same_sums f g [] all = refl
same_sums f g (x ∷ xs) all =
    let first : f x ≡ g x = all 0 x (omega arith) in
    let rest = same_sums f g xs (λ k d there. all (suc k) d (omega (arith, there))) in
    omega (arith, sum_by-cons f x xs, sum_by-cons g x xs, first, rest)

where_open : (areas : ℕ) (storey : Storey) → is_open areas storey.area ≡ true → cell_count storey ≡ open_cells areas storey
where_open areas storey opened = sym (ap (λ (b : Bool). if b then cell_count storey else 0) opened)

-- where all areas are open, and where all storeys are of one open area, all cells are spots; where that area is closed, none are
pub all_open : (areas : ℕ) (storeys : List Storey) → AreStoreys storeys → areas ≡ 18446744073709551615 → sum_by cell_count storeys ≡ open_cells_in areas storeys
all_open areas storeys rules all =
    same_sums cell_count (open_cells areas) storeys (λ i d there. where_open areas (get_or storeys i d) (opened (get_or storeys i d) (rules i d there)))
  where
    opened : (storey : Storey) → IsStorey storey → is_open areas storey.area ≡ true
    opened storey rules' =
        let area = rules'.area in
        ap (λ (n : ℕ). is_open n storey.area) all ∙ eq-eqb _ 1 (bit_at_ones 64 storey.area (omega (arith, area)))

pub one_open : (areas area : ℕ) (storeys : List Storey) → All (λ (storey : Storey). storey.area ≡ area) storeys → is_open areas area ≡ true
    → sum_by cell_count storeys ≡ open_cells_in areas storeys
one_open areas area storeys are opened =
    same_sums cell_count (open_cells areas) storeys (λ i d there. where_open areas (get_or storeys i d) (ap (is_open areas) (are i d there) ∙ opened))

pub none_open : (areas area : ℕ) (storeys : List Storey) → All (λ (storey : Storey). storey.area ≡ area) storeys → is_open areas area ≡ false
    → 0 ≡ open_cells_in areas storeys
none_open areas area storeys are closed =
    omega (arith, sum_by-le (open_cells areas) 0 storeys (λ i d there. one (get_or storeys i d) (are i d there)))
  where
    one : (storey : Storey) → storey.area ≡ area → open_cells areas storey ≤ 0
    one storey is = omega (arith, ap (λ (b : Bool). if b then cell_count storey else 0) (ap (is_open areas) is ∙ closed))

-- the reach of a storey of a list
pub reach_at : (list : List Storey) (i : ℕ) (storey : Storey) (reach : StoreyReach) → i < length list → storey ≡ get_or list i storey
    → ((it : Storey) → slice_get list i ≡ Some it → IsReach it reach) → IsReach storey reach
reach_at list i storey reach there is right = right storey (slice_get_read list (length list) i storey refl there is)

-- ---- lengths

pub length-row_spots : (home : Home) (z : ℕ) (row : FloorRow) → length (row_spots home z row) ≡ length row.floors
length-row_spots home z row = length-map (enumerate_from row.x0 row.floors) _ ∙ length-enumerate_from row.x0 row.floors

pub length-storey_spots : (home : Home) (storey : Storey) → length (storey_spots home storey) ≡ cell_count storey
length-storey_spots home storey =
    length_numbered (λ (row : ℕ × FloorRow). row_spots home row.0 row.1) (λ (row : FloorRow). length row.floors) (λ z row. length-row_spots home z row) storey.z0
    storey.rows

pub length-open_spots : (areas : ℕ) (home : Home) (storey : Storey) → length (open_spots areas home storey) ≡ open_cells areas storey
length-open_spots areas home storey = by (is_open areas storey.area)
  where
    by : (b : Bool) → length (if b then storey_spots home storey else []) ≡ (if b then cell_count storey else 0)
    by true = length-storey_spots home storey
    by false = refl

pub length-tile_spots : (areas tile : ℕ) (storeys : List Storey) → length (tile_spots areas tile storeys) ≡ open_cells_in areas storeys
length-tile_spots areas tile storeys =
    length_numbered (λ (storey : ℕ × Storey). open_spots areas (record { tile = tile; storey = storey.0 }) storey.1) (open_cells areas)
    (λ n storey. length-open_spots areas (record { tile = tile; storey = n }) storey) 0 storeys

pub length-spots_of : (mesh : Mesh) (areas : ℕ) → length (spots_of mesh areas) ≡ spot_count areas mesh.tiles
unfolding spots_of
length-spots_of mesh areas =
    length_numbered (λ (tile : ℕ × TileMesh). tile_spots areas tile.0 tile.1.storeys.list) (λ (tile : TileMesh). open_cells_in areas tile.storeys.list)
    (λ n tile. length-tile_spots areas n tile.storeys.list) 0 mesh.tiles

-- ---- steps

-- a count so far and the next number are within the whole sum, and make the count so far with one more
pub fits_next : {X : Type 0} (f : X → ℕ) (xs : List X) (i : ℕ) (x : X) (count n : ℕ) → i < length xs → x ≡ get_or xs i x
    → count ≡ sum_by f (take i xs) → n ≡ f x → count + n ≤ sum_by f xs
fits_next f xs i x count n there is so_far next = omega (arith, sum_by_more_le f xs i x there, ap f is, so_far, next)

pub counts_next : {X : Type 0} (f : X → ℕ) (xs : List X) (i : ℕ) (x : X) (count n : ℕ) → i < length xs → x ≡ get_or xs i x
    → count ≡ sum_by f (take i xs) → n ≡ f x → count + n ≡ sum_by f (take (i + 1) xs)
counts_next f xs i x count n there is so_far next = omega (arith, sum_by_more f xs i x there, ap f is, so_far, next)

-- ---- tiles

pub few_tiles : (setting : Setting) → IsSetting setting → tile_count setting ≤ 2097152
few_tiles setting limits =
    let width = limits.width in
    let depth = limits.depth in
    let across : div_ceil setting.width setting.tile ≤ 1025 = omega (arith, width, div-le_self setting.width setting.tile) in
    let along : div_ceil setting.depth setting.tile ≤ 1025 = omega (arith, depth, div-le_self setting.depth setting.tile) in
    let product : div_ceil setting.width setting.tile * div_ceil setting.depth setting.tile ≤ 1025 * 1025 = mul-le _ _ _ _ across along in
    omega (arith, product)
