-- Placing: searches that go on, and what they come to.
use Rattle.std.proofs.Common.{◌≡◌, ℕ, zero, suc, ◌+◌, ◌*◌, ◌/◌, ◌%◌, ◌<◌, ◌≤◌, ◌^◌, ℤ, w32, to_z, of_z, length, refl, sym, subst, ap, ◌∙◌, inl, inr, arith, mod-lt}
use Rattle.std.specs.Prelude.{Option, Some, None, ◌⊎◌, IfSome, IfNone, slice_get, unsigned_abs}
use Rattle.std.proofs.lemmas.Bool.{cases_lt}
use Rattle.std.proofs.lemmas.Int.{to_z-of_z, fits_signed_from_abs}
use Rattle.std.proofs.lemmas.List.Sums.{get_or-le-sum_by}
use Rattle.std.proofs.lemmas.Nat.{div-add-mod', div_below}
use Rattle.std.proofs.lemmas.Option.{same_Some, slice_get_within, get_or_from_slice_get, option_and_then_some}
use Rattle.nav_ground.specs.Tiling.{tiles_in_row, tile_rows}
use Rattle.mesh_types.specs.declared.links.PolyRef.{PolyRef}
use Rattle.mesh_types.specs.declared.mesh.Mesh.{Mesh}
use Rattle.mesh_types.specs.declared.mesh.TileMesh.{TileMesh}
use Rattle.mesh_types.specs.declared.polygon.Polygon.{Polygon}
use Rattle.mesh_types.specs.Located.{IsNoLater}
use Rattle.mesh_types.specs.Soundness.{IsSound}
use Rattle.mesh_types.specs.WholeMesh.{poly_at}
use Rattle.mesh_locate.specs.Places.{Reaches}
use Rattle.fine_walk.specs.FineRays.{FineHolds, IsFineHeld}
use Rattle.crowd_moves.specs.declared.agents.CrowdAgent.{CrowdAgent}
use Rattle.crowd_filter.specs.declared.placing.FittingPolygon.{FittingPolygon}
use Rattle.crowd_filter.specs.declared.tiles.TilesAlong.{TilesAlong}
use Rattle.crowd_filter.specs.Placing.{floors_gap, DoesTileReach, Fits, IsAlong, IsAsGood, IsBestFit, IsFitting, IsFoundFit, IsInColumns, IsInRows, IsInTileBefore, IsSearchedAmong}

-- a part of a fine point is read as it was written
pub reads_fine : (n : ℤ) → unsigned_abs n ≤ 2 ^ 20 → to_z w32 (of_z w32 n) ≡ n
reads_fine n small = to_z-of_z w32 n (fits_signed_from_abs w32 n (omega (arith, small)))

-- ---- the order

no_later_self : (gap : ℕ) (at : PolyRef) → IsNoLater gap at gap at
no_later_self gap at = inr (refl, inr (refl, omega arith))

no_later_on : (g h k : ℕ) (a b c : PolyRef) → IsNoLater g a h b → IsNoLater h b k c → IsNoLater g a k c
no_later_on g h k a b c (inl less) (inl less') = inl (omega (arith, less, less'))
no_later_on g h k a b c (inl less) (inr same) = inl (omega (arith, less, same.0))
no_later_on g h k a b c (inr same) (inl less) = inl (omega (arith, less, same.0))
no_later_on g h k a b c (inr (e, inl tile)) (inr (e', inl tile')) = inr (omega (arith, e, e'), inl (omega (arith, tile, tile')))
no_later_on g h k a b c (inr (e, inl tile)) (inr (e', inr there)) = inr (omega (arith, e, e'), inl (omega (arith, tile, there.0)))
no_later_on g h k a b c (inr (e, inr there)) (inr (e', inl tile')) = inr (omega (arith, e, e'), inl (omega (arith, tile', there.0)))
no_later_on g h k a b c (inr (e, inr there)) (inr (e', inr there')) =
    inr (omega (arith, e, e'), inr (there.0 ∙ there'.0, omega (arith, there.1, there'.1)))

as_good_on : (found : Option FittingPolygon) (g h : ℕ) (a b : PolyRef) → IsAsGood found g a → IsNoLater g a h b → IsAsGood found h b
as_good_on None g h a b good later = good
as_good_on (Some found) g h a b good later = no_later_on found.gap g h found.at a b good later

module _ (mesh : Mesh) (a : CrowdAgent) where
  -- ---- searches

  lift : (mid found : Option FittingPolygon) → ((before : FittingPolygon) → mid ≡ Some before → IsAsGood found before.gap before.at)
      → (gap : ℕ) (at : PolyRef) → IsAsGood mid gap at → IsAsGood found gap at
  lift None found kept gap at good = absurd good
  lift (Some mid) found kept gap at good = as_good_on found mid.gap gap mid.at at (kept mid refl) good

  pub searched_none : (P : PolyRef → Type 0) (had : Option FittingPolygon) → IsFoundFit mesh a had → ((other : PolyRef) → P other → Fits mesh a other → ⊥)
      → IsSearchedAmong mesh a P had had
  searched_none P had fits none = record {
    fitting = fits;
    kept = λ before is. subst (λ (found : Option FittingPolygon). IsAsGood found before.gap before.at) (sym is) (no_later_self before.gap before.at);
    all = λ other fit among. absurd (none other among fit);
  }

  pub searched_on : (P Q R : PolyRef → Type 0) (had mid found : Option FittingPolygon) → IsSearchedAmong mesh a P had mid → IsSearchedAmong mesh a Q mid found
      → ((other : PolyRef) → R other → P other ⊎ Q other) → IsSearchedAmong mesh a R had found
  searched_on P Q R had mid found first second either = record {
    fitting = second.fitting;
    kept = λ before is. lift mid found second.kept before.gap before.at (first.kept before is);
    all = λ other fit among. elim (either other among) [
      | inl p ↦ lift mid found second.kept (floors_gap fit.polygon a) other (first.all other fit p)
      | inr q ↦ second.all other fit q
    ];
  }

  -- a polygon that fits, beside what was found
  pub one_searched : (at : PolyRef) (had : Option FittingPolygon) (gap : ℕ) (result : FittingPolygon) → IsFoundFit mesh a had
      → IsFitting mesh a (record { gap = gap; at = at }) → (result ≡ record { gap = gap; at = at }) ⊎ (had ≡ Some result)
      → ((before : FittingPolygon) → had ≡ Some before → IsNoLater result.gap result.at before.gap before.at) → IsNoLater result.gap result.at gap at
      → IsSearchedAmong mesh a (λ other. other ≡ at) had (Some result)
  one_searched at had gap result fits fitting one before_had before_other = record {
    fitting = elim one [
      | inl is ↦ subst (IsFitting mesh a) (sym is) fitting
      | inr is ↦ subst (IsFoundFit mesh a) is fits
    ];
    kept = before_had;
    all = λ other fit is.
        subst (λ (r : PolyRef). IsNoLater result.gap result.at (floors_gap fit.polygon a) r) (sym is)
        (subst (λ (n : ℕ). IsNoLater result.gap result.at n at) (fitting.gap ∙ ap (λ (d : Polygon). floors_gap d a) (same other fit is)) before_other);
  }
    where
      same : (other : PolyRef) (fit : Fits mesh a other) → other ≡ at → fitting.fits.polygon ≡ fit.polygon
      same other fit is = same_Some fitting.fits.polygon fit.polygon (sym fitting.fits.there ∙ ap (poly_at mesh) (sym is) ∙ fit.there)

  -- ---- a tile

  pub tile_begins : (tile : ℕ) (had : Option FittingPolygon) → IsFoundFit mesh a had → IsSearchedAmong mesh a (IsInTileBefore tile 0) had had
  tile_begins tile had fits = searched_none (IsInTileBefore tile 0) had fits (λ other in_tile fit. omega (arith, in_tile.before))

  pub tile_more : (tile index : ℕ) (had mid found : Option FittingPolygon) → IsSearchedAmong mesh a (IsInTileBefore tile index) had mid
      → IsSearchedAmong mesh a (λ other. other ≡ record { tile = tile; index = index }) mid found → IsSearchedAmong mesh a (IsInTileBefore tile (index + 1)) had found
  tile_more tile index had mid found first second =
      searched_on (IsInTileBefore tile index) (λ other. other ≡ record { tile = tile; index = index }) (IsInTileBefore tile (index + 1)) had mid found first second
      (λ other in_tile. elim (cases_lt other.index index) [
        | inl less ↦ inl (record { in_tile = in_tile.in_tile; before = less })
        | inr most ↦
            let last : other.index ≡ index = omega (arith, most, in_tile.before) in
            inr (λ i. record { tile = in_tile.in_tile i; index = last i })
      ])

  pub tile_done : (tile count : ℕ) (had found : Option FittingPolygon)
      → ((other : PolyRef) (polygon : Polygon) → other.tile ≡ tile → poly_at mesh other ≡ Some polygon → other.index < count)
      → IsSearchedAmong mesh a (IsInTileBefore tile count) had found → IsSearchedAmong mesh a (λ other. other.tile ≡ tile) had found
  tile_done tile count had found all searched = record {
    fitting = searched.fitting;
    kept = searched.kept;
    all = λ other fit in_tile. searched.all other fit (record { in_tile = in_tile; before = all other fit.polygon in_tile fit.there });
  }

  -- ---- a row of tiles

  pub row_begins : (width row first : ℕ) (had : Option FittingPolygon) → IsFoundFit mesh a had → IsSearchedAmong mesh a (IsInColumns width row first first) had had
  row_begins width row first had fits = searched_none (IsInColumns width row first first) had fits (λ other columns fit. omega (arith, columns.from, columns.below))

  pub row_more : (width row first column tile : ℕ) (had mid found : Option FittingPolygon) → tile ≡ row * width + column
      → IsSearchedAmong mesh a (IsInColumns width row first column) had mid → IsSearchedAmong mesh a (λ other. other.tile ≡ tile) mid found
      → IsSearchedAmong mesh a (IsInColumns width row first (column + 1)) had found
  row_more width row first column tile had mid found is before here =
      searched_on (IsInColumns width row first column) (λ other. other.tile ≡ tile) (IsInColumns width row first (column + 1)) had mid found before here
      (λ other columns. elim (cases_lt (other.tile % width) column) [
        | inl less ↦ inl (record { in_row = columns.in_row; from = columns.from; below = less })
        | inr most ↦
            let last : other.tile % width ≡ column = omega (arith, most, columns.below) in
            inr (sym (div-add-mod' other.tile width) ∙ (λ i. columns.in_row i * width + last i) ∙ sym is)
      ])

  -- ---- rows of tiles

  pub rows_begin : (width row_first first end : ℕ) → IsSearchedAmong mesh a (IsInRows width row_first row_first first end) None None
  rows_begin width row_first first end =
      searched_none (IsInRows width row_first row_first first end) None tt (λ other rows fit. omega (arith, rows.from, rows.below))

  pub rows_more : (width row_first row first end : ℕ) (had mid found : Option FittingPolygon) → IsSearchedAmong mesh a (IsInRows width row_first row first end) had mid
      → IsSearchedAmong mesh a (IsInColumns width row first end) mid found → IsSearchedAmong mesh a (IsInRows width row_first (row + 1) first end) had found
  rows_more width row_first row first end had mid found before here =
      searched_on (IsInRows width row_first row first end) (IsInColumns width row first end) (IsInRows width row_first (row + 1) first end) had mid found before here
      (λ other rows. elim (cases_lt (other.tile / width) row) [
        | inl less ↦ inl (record { from = rows.from; below = less; column_from = rows.column_from; column_below = rows.column_below })
        | inr most ↦ inr (record { in_row = omega (arith, most, rows.below); from = rows.column_from; below = rows.column_below })
      ])

  -- ---- what fits

  pub fits_there : (at : PolyRef) (polygon : Polygon) (gap : ℕ) → poly_at mesh at ≡ Some polygon → IsFineHeld mesh a.at at → gap ≡ floors_gap polygon a
      → gap ≤ mesh.setting.agent.climb → IsFitting mesh a (record { gap = gap; at = at })
  fits_there at polygon gap there held is near = record {
    fits = record {
      polygon = polygon;
      there = there;
      holds = subst (λ (d : Polygon). FineHolds d a.at) (same_Some held.polygon polygon (sym held.there ∙ there)) held.holds;
      near = subst (λ (n : ℕ). n ≤ mesh.setting.agent.climb) is near;
    };
    gap = is;
  }

  pub best_of_rows : (width first end column_first column_end : ℕ) (best : FittingPolygon)
      → IsSearchedAmong mesh a (IsInRows width first end column_first column_end) None (Some best)
      → ((other : PolyRef) → Fits mesh a other → DoesTileReach mesh.setting a.at other.tile → IsInRows width first end column_first column_end other)
      → IsBestFit mesh a best.at
  best_of_rows width first end column_first column_end best searched all = record {
    fits = searched.fitting.fits;
    first = λ other fit reach.
        subst (λ (n : ℕ). IsNoLater n best.at (floors_gap fit.polygon a) other) searched.fitting.gap (searched.all other fit (all other fit reach));
  }

  pub none_of_rows : (width first end column_first column_end : ℕ) → IsSearchedAmong mesh a (IsInRows width first end column_first column_end) None None
      → ((other : PolyRef) → Fits mesh a other → DoesTileReach mesh.setting a.at other.tile → IsInRows width first end column_first column_end other)
      → (other : PolyRef) → Fits mesh a other → DoesTileReach mesh.setting a.at other.tile → ⊥
  none_of_rows width first end column_first column_end searched all other fit reach = searched.all other fit (all other fit reach)

  -- every polygon that fits, in a tile that reaches the middle, is in the rows and columns that do
  pub in_reached : IsSound mesh → (rows columns : TilesAlong)
      → ((place : ℕ) → place < tiles_in_row mesh.setting → Reaches (256 * mesh.setting.tile) place a.at.x → IsAlong columns place)
      → ((place : ℕ) → place < tile_rows mesh.setting → Reaches (256 * mesh.setting.tile) place a.at.z → IsAlong rows place)
      → (other : PolyRef) → Fits mesh a other → DoesTileReach mesh.setting a.at other.tile
      → IsInRows (tiles_in_row mesh.setting) rows.first rows.end columns.first columns.end other
  in_reached sound rows columns across along other fit reach =
      let there : other.tile < tiles_in_row mesh.setting * tile_rows mesh.setting = omega (arith, tile_there other fit.polygon fit.there, sound.tiles.each) in
      let some : 0 < tiles_in_row mesh.setting = some_columns (tiles_in_row mesh.setting) (tile_rows mesh.setting) other.tile there in
      let row = along (other.tile / tiles_in_row mesh.setting) (div_below other.tile (tiles_in_row mesh.setting) (tile_rows mesh.setting) some (omega (arith, there))) reach.along in
      let column = across (other.tile % tiles_in_row mesh.setting) (mod-lt other.tile some) reach.across in
      record { from = row.first; below = row.end; column_from = column.first; column_below = column.end }
    where
      some_columns : (width rows tile : ℕ) → tile < width * rows → 0 < width
      some_columns zero rows tile there = absurd (omega (arith, there))
      some_columns (suc width) rows tile there = omega arith

      tile_there : (at : PolyRef) (polygon : Polygon) → poly_at mesh at ≡ Some polygon → at.tile < length mesh.tiles
      tile_there at polygon there =
          option_and_then_some (λ (d : TileMesh). slice_get d.polys at.index) (slice_get mesh.tiles at.tile) polygon there
          (λ d is listed. slice_get_within mesh.tiles at.tile d is)

  pub best_told : (width first end column_first column_end : ℕ) (found : Option FittingPolygon)
      → IsSearchedAmong mesh a (IsInRows width first end column_first column_end) None found
      → ((other : PolyRef) → Fits mesh a other → DoesTileReach mesh.setting a.at other.tile → IsInRows width first end column_first column_end other)
      → IfSome found (λ best. IsBestFit mesh a best.at)
  best_told width first end column_first column_end None searched all = tt
  best_told width first end column_first column_end (Some best) searched all = best_of_rows width first end column_first column_end best searched all

  pub none_told : (width first end column_first column_end : ℕ) (found : Option FittingPolygon)
      → IsSearchedAmong mesh a (IsInRows width first end column_first column_end) None found
      → ((other : PolyRef) → Fits mesh a other → DoesTileReach mesh.setting a.at other.tile → IsInRows width first end column_first column_end other)
      → IfNone found ((other : PolyRef) → Fits mesh a other → DoesTileReach mesh.setting a.at other.tile → ⊥)
  none_told width first end column_first column_end None searched all = none_of_rows width first end column_first column_end searched all
  none_told width first end column_first column_end (Some best) searched all = tt

-- ---- the polygons of a tile

pub few_in : (mesh : Mesh) (t : ℕ) (tile : TileMesh) → IsSound mesh → slice_get mesh.tiles t ≡ Some tile → length tile.polys ≤ 8000000
few_in mesh t tile sound there =
    let within = slice_get_within mesh.tiles t tile there in
    let same = ap (λ (d : TileMesh). length d.polys) (get_or_from_slice_get mesh.tiles t tile tile there) in
    omega (arith, get_or-le-sum_by (λ (d : TileMesh). length d.polys) mesh.tiles t tile within, same, sound.tiles.few)

pub index_there : (mesh : Mesh) (t : ℕ) (tile : TileMesh) (other : PolyRef) (polygon : Polygon) → slice_get mesh.tiles t ≡ Some tile → other.tile ≡ t
    → poly_at mesh other ≡ Some polygon → other.index < length tile.polys
index_there mesh t tile other polygon there at named =
    option_and_then_some (λ (d : TileMesh). slice_get d.polys other.index) (slice_get mesh.tiles other.tile) polygon named
    (λ d is listed.
    let same : d ≡ tile = same_Some d tile (sym is ∙ ap (slice_get mesh.tiles) at ∙ there) in
    slice_get_within tile.polys other.index polygon (ap (λ (e : TileMesh). slice_get e.polys other.index) (sym same) ∙ listed))
