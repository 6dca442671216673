-- Tiles with new ones in place: they are one for each tile, and away from the new ones the links over borders stay.
use Rattle.std.proofs.Common.{◌≡◌, ℕ, ◌<◌, ◌≤◌, Bool, true, false, List, [], ◌++◌, length, map, get_or, ap, ◌∙◌, sym, refl, subst, arith, tests, ⊎_elim, Ok, Err, Result, Option, Some, None}
use Rattle.std.specs.Prelude.{slice_get, ◌==◌, is_some, unwrap_or, option_and_then}
use Rattle.std.specs.List.{find}
use Rattle.std.specs.List.Sorted.{IsBinarySearchResult, IsSearchInRange}
use Rattle.std.specs.Option.{option_map, option_map_or}
use Rattle.std.specs.Ordering.{nat_cmp, ordering_index}
use Rattle.std.specs.Result.{MatchResult}
use Rattle.std.specs.declared.cmp.Ordering.TheVariants.{Less, Equal, Greater}
use Rattle.std.proofs.lemmas.Bool.{cases_lt, cases_order, eq-eqb, ne_eqb, eqb-true, both_ways, or_parts}
use Rattle.std.proofs.lemmas.Cmp.{ranked}
use Rattle.std.proofs.lemmas.List.{length-map, get_or-map}
use Rattle.std.proofs.lemmas.List.Elements.{All-map}
use Rattle.std.proofs.lemmas.Option.{slice_get-map, slice_get_within, get_or_from_slice_get}
use Rattle.nav_ground.specs.declared.setting.Setting.{Setting}
use Rattle.nav_ground.proofs.Found.{find_none, find_is, found_in}
use Rattle.mesh_types.specs.declared.links.Link.{Link}
use Rattle.mesh_types.specs.declared.mesh.TileMesh.{TileMesh}
use Rattle.mesh_types.specs.declared.mesh.Mesh.{Mesh}
use Rattle.mesh_types.specs.BorderLinks.{border_links}
use Rattle.mesh_types.specs.LinkOrder.{ordered_links}
use Rattle.mesh_types.specs.Soundness.{AreTiles, polygon_count}
use Rattle.mesh_types.specs.FitTiles.{IsFit}
use Rattle.mesh_types.specs.WholeMesh.{tile_across, links_over, cross_links, mesh_of}
use Rattle.tile_links.specs.NewTiles.{New, AreNew, AreRising, IsWhole, new_tile, tile_after, tiles_after, is_new, is_new_across, is_near_new}

-- the test of a number
abbrev has_number : ℕ → New → Bool
has_number number new = new.0 == number

-- what a binary search by the numbers finds is the new tile mesh with the number
pub searched_new : (news : List New) (number : ℕ) (found : Result ℕ ℕ) → AreRising news → IsSearchInRange found (length news)
    → IsBinarySearchResult (λ (new : New). nat_cmp new.0 number) news found
    → MatchResult found (λ i. (d : New) → Some (get_or news i d).1 ≡ new_tile news number) (λ i. None ≡ new_tile news number)
searched_new news number (Ok i) rising there equal = λ d.
    let same : (get_or news i d).0 ≡ number = ranked (get_or news i d).0 number Equal (sym (equal d)) in
    sym (ap (option_map (λ (new : New). new.1)) (find_is (has_number number) news i d there
    (λ k below. ne_eqb (get_or news k d).0 number (λ other. omega (arith, rising k i d below there, same, other)))
    (eq-eqb (get_or news i d).0 number same)))
searched_new news number (Err i) rising there parts =
    sym (ap (option_map (λ (new : New). new.1)) (find_none (has_number number) news (λ k d within. ne_eqb (get_or news k d).0 number (apart k d within))))
  where
    higher : (a b : ℕ) → a ≤ b → ordering_index (nat_cmp a number) ≤ ordering_index (nat_cmp b number)
    higher a b le = grind (arith, tests)

    not_above : (i j : ℕ) (d : New) → i ≤ j → j < length news → (get_or news i d).0 ≤ (get_or news j d).0
    not_above i j d le within = ⊎_elim (λ e. omega (arith, ap (λ k. (get_or news k d).0) e))
        (⊎_elim (λ below. omega (arith, rising i j d below within)) (λ above. absurd (omega (arith, above, le)))) (cases_order i j)

    apart : (k : ℕ) (d : New) → k < length news → (get_or news k d).0 ≡ number → ⊥
    apart k d within same =
        let point = parts (λ i j d le last. higher (get_or news i d).0 (get_or news j d).0 (not_above i j d le last)) in
        ⊎_elim (λ below. omega (arith, same, ranked (get_or news k d).0 number Less (sym (point.0 k d (omega arith) below))))
        (λ past. omega (arith, same, ranked (get_or news k d).0 number Greater (sym (point.1 k d past within))))
        (cases_lt k i)

-- what stands in a place has the number of the tile, and is fit
after_is : (setting : Setting) (news : List New) (tile : TileMesh) → AreNew setting news → IsFit setting tile
    → ((tile_after news tile).tile ≡ tile.tile) × IsFit setting (tile_after news tile)
after_is setting news tile are fit = by_found (find (has_number tile.tile) news) refl
  where
    by_found : (found : Option New) → find (has_number tile.tile) news ≡ found
        → ((unwrap_or (option_map (λ (new : New). new.1) found) tile).tile ≡ tile.tile)
        × IsFit setting (unwrap_or (option_map (λ (new : New). new.1) found) tile)
    by_found None none = (refl, fit)
    by_found (Some new) is =
        let one = found_in (has_number tile.tile) news new is in
        let P : New → Type 0 = λ (n : New). n.1.tile ≡ n.0 in
        let Q : New → Type 0 = λ (n : New). IsFit setting n.1 in
        (subst P one.at (are.own one.place new one.there) ∙ eqb-true new.0 tile.tile one.passes, subst Q one.at (are.fit one.place new one.there))

-- tiles with the new ones in place are one for each tile, in order, and fit
pub AreTiles-after : (setting : Setting) (news : List New) (tiles : List TileMesh) → AreNew setting news → AreTiles setting tiles
    → polygon_count (tiles_after news tiles) ≤ 8000000 → AreTiles setting (tiles_after news tiles)
AreTiles-after setting news tiles new are few = record {
  each = length-map tiles (tile_after news) ∙ are.each;
  in_order = λ t d there.
      let within : t < length tiles = omega (arith, there, length-map tiles (tile_after news)) in
      ap (λ (tile : TileMesh). tile.tile) (get_or-map (tile_after news) tiles t d d within)
      ∙ (after_is setting news (get_or tiles t d) new (are.fit t d within)).0
      ∙ are.in_order t d within;
  fit = All-map (IsFit setting) (tile_after news) tiles (λ k d there. (after_is setting news (get_or tiles k d) new (are.fit k d there)).1);
  few = few;
}

-- a tile for which there is no new one stays
pub stays : (news : List New) (tile : TileMesh) → is_new news tile.tile ≡ false → tile_after news tile ≡ tile
stays news tile old = by_found (new_tile news tile.tile) old
  where
    by_found : (found : Option TileMesh) → is_some found ≡ false → unwrap_or found tile ≡ tile
    by_found None none = refl
    by_found (Some new) none = absurd (both_ways true none refl)

-- and so does what is found at its number
pub same_at : (setting : Setting) (news : List New) (tiles : List TileMesh) (place : ℕ) → AreTiles setting tiles → is_new news place ≡ false
    → slice_get (tiles_after news tiles) place ≡ slice_get tiles place
same_at setting news tiles place are old = slice_get-map (tile_after news) tiles place ∙ by_tile (slice_get tiles place) refl
  where
    by_tile : (found : Option TileMesh) → slice_get tiles place ≡ found → option_map (tile_after news) found ≡ found
    by_tile None none = refl
    by_tile (Some other) there =
        let at = get_or_from_slice_get tiles place other other there in
        let number : other.tile ≡ place = ap (λ (t : TileMesh). t.tile) (sym at)
        ∙ are.in_order place other (slice_get_within tiles place other there) in
        ap (λ (t : TileMesh). Some t) (stays news other (ap (is_new news) number ∙ old))

-- the links of a tile over a side across which nothing is new
over_kept : (setting : Setting) (news : List New) (tiles : List TileMesh) (tile : TileMesh) (side : ℕ) → AreTiles setting tiles
    → is_new_across setting news tile.tile side ≡ false → links_over setting (tiles_after news tiles) tile side ≡ links_over setting tiles tile side
over_kept setting news tiles tile side are old = by_across (tile_across setting tile.tile side) old
  where
    by_across : (found : Option ℕ) → option_map_or (is_new news) found false ≡ false
        → option_map_or (λ (other : TileMesh). border_links tile other side) (option_and_then (slice_get (tiles_after news tiles)) found) []
        ≡ option_map_or (λ (other : TileMesh). border_links tile other side) (option_and_then (slice_get tiles) found) []
    by_across None none = refl
    by_across (Some place) none =
        ap (λ (other : Option TileMesh). option_map_or (λ (t : TileMesh). border_links tile t side) other []) (same_at setting news tiles place are none)

-- away from the new tiles the links stay
cross_kept : (setting : Setting) (news : List New) (tiles : List TileMesh) (tile : TileMesh) → AreTiles setting tiles
    → is_near_new setting news tile.tile ≡ false → cross_links setting (tiles_after news tiles) (tile_after news tile) ≡ cross_links setting tiles tile
cross_kept setting news tiles tile are old =
    let first = or_parts (is_new news tile.tile) _ old in
    let left = or_parts (is_new_across setting news tile.tile 0) _ first.1 in
    let above = or_parts (is_new_across setting news tile.tile 1) _ left.1 in
    let right = or_parts (is_new_across setting news tile.tile 2) _ above.1 in
    let over : (side : ℕ) → is_new_across setting news tile.tile side ≡ false
    → links_over setting (tiles_after news tiles) tile side ≡ links_over setting tiles tile side = λ side. over_kept setting news tiles tile side are in
    ap (cross_links setting (tiles_after news tiles)) (stays news tile first.0)
    ∙ ap ordered_links (λ i. over 0 left.0 i ++ (over 1 above.0 i ++ (over 2 right.0 i ++ (over 3 right.1 i ++ []))))

-- so they are had from those of a whole mesh
pub links_kept : (setting : Setting) (news : List New) (tiles : List TileMesh) (t : ℕ) (d : List Link) (e : TileMesh) → AreTiles setting tiles
    → t < length (tiles_after news tiles) → is_near_new setting news t ≡ false
    → get_or (map (cross_links setting tiles) tiles) t d ≡ cross_links setting (tiles_after news tiles) (get_or (tiles_after news tiles) t e)
links_kept setting news tiles t d e are there old =
    let within : t < length tiles = omega (arith, there, length-map tiles (tile_after news)) in
    get_or-map (cross_links setting tiles) tiles t e d within
    ∙ sym (cross_kept setting news tiles (get_or tiles t e) are (ap (is_near_new setting news) (are.in_order t e within) ∙ old))
    ∙ ap (cross_links setting (tiles_after news tiles)) (sym (get_or-map (tile_after news) tiles t e e within))

-- what a whole mesh keeps beside its tiles
pub links_of_whole : (mesh : Mesh) → IsWhole mesh → mesh.cross ≡ map (cross_links mesh.setting mesh.tiles) mesh.tiles
unfolding mesh_of
links_of_whole mesh whole = ap (λ (m : Mesh). m.cross) whole.is
