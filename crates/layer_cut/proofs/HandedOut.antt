-- Kept cells that are handed out to the layers of their tiles, cell by cell.
use Rattle.std.proofs.Common.{◌≡◌, ℕ, ◌+◌, ◌<◌, Bool, true, false, cond, List, [], ◌∷◌, ◌++◌, length, take, map, filter, get_or, slice_set, ◌⊎◌, ap, ◌∙◌, sym, subst, arith, inl, inr}
use Rattle.std.specs.List.{range_with_len}
use Rattle.std.proofs.lemmas.Bool.{eq-eqb, ne_eqb, cases_order}
use Rattle.std.proofs.lemmas.List.{append-nil, map-append, get_or-map, get_or-set_same, get_or-set_other, length-set, length-map}
use Rattle.std.proofs.lemmas.List.Elements.{filter_more, filter-append}
use Rattle.std.proofs.lemmas.List.FromFn.{length-map-range_with_len, get_or-map-range_with_len, fill_by_all, map-range_with_len_more}
use Rattle.nav_ground.specs.declared.cell.Cell.{Cell}
use Rattle.nav_ground.specs.declared.cell.Layer.{Layer}
use Rattle.nav_ground.specs.declared.cell.Window.{Window}
use Rattle.nav_ground.specs.declared.setting.Setting.{Setting}
use Rattle.nav_ground.specs.Clearance.{cells_in}
use Rattle.nav_ground.specs.Layers.{layer_cell, wide_cells}
use Rattle.nav_ground.specs.Limits.{IsSetting}
use Rattle.nav_ground.specs.Tiling.{tile_count, tile_window, is_in_window, margin_of}
use Rattle.layer_cut.specs.Tiles.{tile_at, IsInField, AreInField, layer_with}
use Rattle.layer_cut.proofs.TilePlaces.{in_window_is}

-- marks that say of each cell whether it passes a test stand beside the cells
pub marks_beside : (cells : List Cell) (marks : List Bool) (p : Cell → Bool) → marks ≡ map p cells → length marks ≡ length cells
marks_beside cells marks p is = ap length is ∙ length-map cells p

-- one more element that passes a test, or that does not
pub passes_more : {X : Type 0} (p : X → Bool) (xs : List X) (i : ℕ) (d : X) → i < length xs → p (get_or xs i d) ≡ true
    → filter p (take (i + 1) xs) ≡ filter p (take i xs) ++ get_or xs i d ∷ []
passes_more p xs i d there is =
    filter_more p xs i d there ∙ ap (λ b. filter p (take i xs) ++ cond b (get_or xs i d ∷ []) []) is

pub fails_more : {X : Type 0} (p : X → Bool) (xs : List X) (i : ℕ) (d : X) → i < length xs → p (get_or xs i d) ≡ false
    → filter p (take (i + 1) xs) ≡ filter p (take i xs)
fails_more p xs i d there is =
    filter_more p xs i d there ∙ ap (λ b. filter p (take i xs) ++ cond b (get_or xs i d ∷ []) []) is ∙ append-nil (filter p (take i xs))

-- the cells of a rectangle with one more
pub inside_more : (window : Window) (some : List Cell) (cell : Cell) → is_in_window window cell.at.x cell.at.z ≡ true
    → cells_in window (some ++ cell ∷ []) ≡ cells_in window some ++ cell ∷ []
inside_more window some cell is =
    filter-append (λ (c : Cell). is_in_window window c.at.x c.at.z) some (cell ∷ [])
    ∙ ap (λ b. cells_in window some ++ cond b (cell ∷ []) []) is

pub outside_more : (window : Window) (some : List Cell) (cell : Cell) → is_in_window window cell.at.x cell.at.z ≡ false
    → cells_in window (some ++ cell ∷ []) ≡ cells_in window some
outside_more window some cell is =
    filter-append (λ (c : Cell). is_in_window window c.at.x c.at.z) some (cell ∷ [])
    ∙ ap (λ b. cells_in window some ++ cond b (cell ∷ []) []) is ∙ append-nil (cells_in window some)

-- the layer of the tile of one more cell, and those of the other tiles
layer_there : (setting : Setting) (all kept some : List Cell) (cell : Cell) (tile : ℕ) → is_in_window (tile_window setting tile) cell.at.x cell.at.z ≡ true
    → layer_with setting all kept (some ++ cell ∷ []) tile
    ≡ record (layer_with setting all kept some tile) { cells = (layer_with setting all kept some tile).cells ++ layer_cell kept cell ∷ [] }
layer_there setting all kept some cell tile is =
    ap (λ (cells : List Cell). record (layer_with setting all kept some tile) { cells = cells })
    (ap (map (layer_cell kept)) (inside_more (tile_window setting tile) some cell is)
    ∙ map-append (layer_cell kept) (cells_in (tile_window setting tile) some) (cell ∷ []))

layer_elsewhere : (setting : Setting) (all kept some : List Cell) (cell : Cell) (tile : ℕ) → is_in_window (tile_window setting tile) cell.at.x cell.at.z ≡ false
    → layer_with setting all kept (some ++ cell ∷ []) tile ≡ layer_with setting all kept some tile
layer_elsewhere setting all kept some cell tile is =
    ap (λ (cells : List Cell). record (layer_with setting all kept some tile) { cells = map (layer_cell kept) cells })
    (outside_more (tile_window setting tile) some cell is)

-- the layers with one more cell
pub handed_one : (setting : Setting) (all kept some : List Cell) (cell : Cell) (tile : ℕ) (layers : List Layer) (d : Layer)
    → IsSetting setting → IsInField setting cell.at.x cell.at.z → tile ≡ tile_at setting cell.at.x cell.at.z → tile < tile_count setting
    → layers ≡ map (layer_with setting all kept some) (range_with_len 0 (tile_count setting))
    → slice_set layers tile (record (get_or layers tile d) { cells = (get_or layers tile d).cells ++ layer_cell kept cell ∷ [] })
    ≡ map (layer_with setting all kept (some ++ cell ∷ [])) (range_with_len 0 (tile_count setting))
handed_one setting all kept some cell tile layers d limits inside at there before =
    fill_by_all (layer_with setting all kept (some ++ cell ∷ [])) (slice_set layers tile changed) (tile_count setting) d
    (length-set layers tile changed ∙ count) (λ k below. by_order k below (cases_order k tile))
  where
    changed : Layer
    changed = record (get_or layers tile d) { cells = (get_or layers tile d).cells ++ layer_cell kept cell ∷ [] }

    count : length layers ≡ tile_count setting
    count = ap length before ∙ length-map-range_with_len (layer_with setting all kept some) 0 (tile_count setting)

    layer_at : (k : ℕ) → k < tile_count setting → get_or layers k d ≡ layer_with setting all kept some k
    layer_at k below =
        ap (λ (ls : List Layer). get_or ls k d) before
        ∙ get_or-map-range_with_len (layer_with setting all kept some) 0 (tile_count setting) k k d below (omega arith)

    here : get_or (slice_set layers tile changed) tile d ≡ layer_with setting all kept (some ++ cell ∷ []) tile
    here =
        get_or-set_same layers tile changed d (omega (arith, count, there))
        ∙ ap (λ (layer : Layer). record layer { cells = layer.cells ++ layer_cell kept cell ∷ [] }) (layer_at tile there)
        ∙ sym (layer_there setting all kept some cell tile (in_window_is setting tile cell.at.x cell.at.z limits inside there ∙ eq-eqb tile _ at))

    elsewhere : (k : ℕ) → k < tile_count setting → (k ≡ tile → ⊥) → get_or (slice_set layers tile changed) k d ≡ layer_with setting all kept (some ++ cell ∷ []) k
    elsewhere k below other =
        get_or-set_other layers tile k changed d other
        ∙ layer_at k below
        ∙ sym (layer_elsewhere setting all kept some cell k
        (in_window_is setting k cell.at.x cell.at.z limits inside below ∙ ne_eqb k _ (λ same. other (same ∙ sym at))))

    by_order : (k : ℕ) → k < tile_count setting → (k ≡ tile) ⊎ ((k < tile) ⊎ (tile < k))
        → get_or (slice_set layers tile changed) k d ≡ layer_with setting all kept (some ++ cell ∷ []) k
    by_order k below (inl same) = subst (λ n. get_or (slice_set layers tile changed) n d ≡ layer_with setting all kept (some ++ cell ∷ []) n) (sym same) here
    by_order k below (inr (inl less)) = elsewhere k below (λ same. omega (arith, less, same))
    by_order k below (inr (inr more)) = elsewhere k below (λ same. omega (arith, more, same))

-- no cell of none is in a rectangle
pub none_handed : (setting : Setting) (all kept : List Cell) (layers : List Layer) (tile : ℕ) (layer : Layer)
    → layers ≡ map (layer_with setting all kept []) (range_with_len 0 tile) → layer ≡ record { tile = tile; cells = []; radius = margin_of setting; wide = wide_cells setting all tile }
    → layers ++ layer ∷ [] ≡ map (layer_with setting all kept []) (range_with_len 0 (tile + 1))
none_handed setting all kept layers tile layer before is =
    ap (λ (l : Layer). layers ++ l ∷ []) is ∙ ap (λ (ls : List Layer). ls ++ layer_with setting all kept [] tile ∷ []) before
    ∙ sym (map-range_with_len_more (layer_with setting all kept []) 0 tile tile (omega arith))

-- one more kept cell, which was pushed into the layer of its tile
pub kept_step : (setting : Setting) (all kept cells : List Cell) (p : Cell → Bool) (i : ℕ) (e : Cell) (layers layers' : List Layer) (tile : ℕ)
    (now : Layer) (cell : Cell) (pushed : Layer)
    → IsSetting setting → AreInField setting cells → i < length cells → p (get_or cells i e) ≡ true
    → tile ≡ tile_at setting (get_or cells i e).at.x (get_or cells i e).at.z → tile < tile_count setting
    → cell ≡ layer_cell kept (get_or cells i e) → now ≡ get_or layers tile now → pushed ≡ record now { cells = now.cells ++ cell ∷ [] }
    → layers' ≡ slice_set layers tile pushed
    → layers ≡ map (layer_with setting all kept (filter p (take i cells))) (range_with_len 0 (tile_count setting))
    → layers' ≡ map (layer_with setting all kept (filter p (take (i + 1) cells))) (range_with_len 0 (tile_count setting))
kept_step setting all kept cells p i e layers layers' tile now cell pushed limits inside there passes at tile_is cell_is now_is pushed_is after before =
    after
    ∙ ap (λ (l : Layer). slice_set layers tile l) pushed_is
    ∙ ap (λ (c : Cell). slice_set layers tile (record now { cells = now.cells ++ c ∷ [] })) cell_is
    ∙ ap (λ (l : Layer). slice_set layers tile (record l { cells = l.cells ++ layer_cell kept (get_or cells i e) ∷ [] })) now_is
    ∙ handed_one setting all kept (filter p (take i cells)) (get_or cells i e) tile layers now limits (inside i e there) at tile_is before
    ∙ ap (λ (some : List Cell). map (layer_with setting all kept some) (range_with_len 0 (tile_count setting))) (sym (passes_more p cells i e there passes))

-- a mark says whether its cell passes
pub mark_is : (cells : List Cell) (marks : List Bool) (p : Cell → Bool) (i : ℕ) (e : Cell) (a b : Bool) → marks ≡ map p cells → i < length cells
    → get_or marks i a ≡ b → p (get_or cells i e) ≡ b
mark_is cells marks p i e a b marked there is =
    sym (get_or-map p cells i e a there) ∙ ap (λ (ms : List Bool). get_or ms i a) (sym marked) ∙ is

-- one more cell that is not marked
any_cell : Cell
any_cell = record { at = record { x = 0; z = 0; level = 0 }; floor = 0; ceiling = 0; area = 0; next = [] }

pub unmarked_more : (cells : List Cell) (marks : List Bool) (p : Cell → Bool) (i : ℕ) (a : Bool) → marks ≡ map p cells → i < length cells
    → get_or marks i a ≡ false → filter p (take (i + 1) cells) ≡ filter p (take i cells)
unmarked_more cells marks p i a marked there is =
    fails_more p cells i any_cell there (mark_is cells marks p i any_cell a false marked there is)

pub unkept_step : (setting : Setting) (all kept cells : List Cell) (marks : List Bool) (p : Cell → Bool) (i : ℕ) (layers : List Layer)
    → marks ≡ map p cells → i < length cells → get_or marks i false ≡ false
    → layers ≡ map (layer_with setting all kept (filter p (take i cells))) (range_with_len 0 (tile_count setting))
    → layers ≡ map (layer_with setting all kept (filter p (take (i + 1) cells))) (range_with_len 0 (tile_count setting))
unkept_step setting all kept cells marks p i layers marked there is before =
    before ∙ ap (λ (some : List Cell). map (layer_with setting all kept some) (range_with_len 0 (tile_count setting)))
    (sym (unmarked_more cells marks p i false marked there is))

-- the kept cells of a rectangle with one more cell of the list
pub cut_in : (window : Window) (kept cells : List Cell) (marks : List Bool) (p : Cell → Bool) (i : ℕ) (e : Cell) (cut : List Cell) (cell : Cell)
    → marks ≡ map p cells → i < length cells → get_or marks i false ≡ true
    → is_in_window window (get_or cells i e).at.x (get_or cells i e).at.z ≡ true → cell ≡ layer_cell kept (get_or cells i e)
    → cut ≡ map (layer_cell kept) (cells_in window (filter p (take i cells)))
    → cut ++ cell ∷ [] ≡ map (layer_cell kept) (cells_in window (filter p (take (i + 1) cells)))
cut_in window kept cells marks p i e cut cell marked there is inside cell_is before =
    let some = filter p (take i cells) in
    let this = get_or cells i e in
    ap (λ (cs : List Cell). cs ++ cell ∷ []) before ∙ ap (λ (c : Cell). map (layer_cell kept) (cells_in window some) ++ c ∷ []) cell_is
    ∙ sym (map-append (layer_cell kept) (cells_in window some) (this ∷ []))
    ∙ ap (map (layer_cell kept)) (sym (inside_more window some this inside))
    ∙ ap (λ (cs : List Cell). map (layer_cell kept) (cells_in window cs))
    (sym (passes_more p cells i e there (mark_is cells marks p i e false true marked there is)))

pub cut_outside : (window : Window) (kept cells : List Cell) (marks : List Bool) (p : Cell → Bool) (i : ℕ) (e : Cell) (cut : List Cell)
    → marks ≡ map p cells → i < length cells → get_or marks i false ≡ true
    → is_in_window window (get_or cells i e).at.x (get_or cells i e).at.z ≡ false
    → cut ≡ map (layer_cell kept) (cells_in window (filter p (take i cells)))
    → cut ≡ map (layer_cell kept) (cells_in window (filter p (take (i + 1) cells)))
cut_outside window kept cells marks p i e cut marked there is outside before =
    before
    ∙ ap (map (layer_cell kept)) (sym (outside_more window (filter p (take i cells)) (get_or cells i e) outside))
    ∙ ap (λ (cs : List Cell). map (layer_cell kept) (cells_in window cs))
    (sym (passes_more p cells i e there (mark_is cells marks p i e false true marked there is)))

pub cut_unmarked : (window : Window) (kept cells : List Cell) (marks : List Bool) (p : Cell → Bool) (i : ℕ) (cut : List Cell)
    → marks ≡ map p cells → i < length cells → get_or marks i false ≡ false
    → cut ≡ map (layer_cell kept) (cells_in window (filter p (take i cells)))
    → cut ≡ map (layer_cell kept) (cells_in window (filter p (take (i + 1) cells)))
cut_unmarked window kept cells marks p i cut marked there is before =
    before ∙ ap (λ (cs : List Cell). map (layer_cell kept) (cells_in window cs)) (sym (unmarked_more cells marks p i false marked there is))
