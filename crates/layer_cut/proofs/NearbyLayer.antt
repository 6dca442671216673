-- The layer of a tile, from the spans near the tile alone.
use Rattle.std.proofs.Common.{◌≡◌, ℕ, zero, suc, ◌+◌, ◌<◌, Bool, true, false, List, [], ◌∷◌, map, filter, refl, sym, subst, ap, ◌∙◌, arith, Option, None, get_or}
use Rattle.std.specs.Prelude.{◌&&◌, ◌||◌, ◌==◌, not, if◌then◌else◌, All, ℤ, pos, ◌-ℤ◌, ◌+ℤ◌, ◌*◌}
use Rattle.std.specs.List.{list_any}
use Rattle.std.specs.Option.{option_map, option_map_or}
use Rattle.std.proofs.lemmas.Bool.{and_parts, and_right}
use Rattle.std.proofs.lemmas.Int.{ints}
use Rattle.std.proofs.lemmas.Simd.{map-map}
use Rattle.std.proofs.lemmas.List.Elements.{filter_passes, All-weaker}
use Rattle.nav_ground.specs.declared.setting.Agent.{Agent}
use Rattle.nav_ground.specs.declared.setting.Setting.{Setting}
use Rattle.nav_ground.specs.declared.field.Field.{Field}
use Rattle.nav_ground.specs.declared.cell.Cell.{Cell}
use Rattle.nav_ground.specs.declared.cell.Layer.{Layer}
use Rattle.nav_ground.specs.declared.cell.CellRef.{CellRef}
use Rattle.nav_ground.specs.declared.cell.Window.{Window}
use Rattle.nav_ground.specs.Limits.{IsSetting}
use Rattle.nav_ground.specs.Fields.{IsField}
use Rattle.nav_ground.specs.Cells.{is_toward, is_naming, next_level}
use Rattle.nav_ground.specs.Tiling.{is_in_window, tile_window, widened, margin_of}
use Rattle.nav_ground.specs.Filters.{filtered_areas}
use Rattle.nav_ground.specs.Connection.{unconnected_cells, is_connected, level_toward, connected_cell, compact_cells}
use Rattle.nav_ground.specs.Clearance.{has_neighbour, is_boundary, is_axis_step, is_turn, is_diagonal_step, is_walk_end, is_kept, kept_cells, cells_in}
use Rattle.nav_ground.specs.Layers.{cells_of, kept_level, layer_cell, layer_among, layer_of, wide_cells}
use Rattle.nav_ground.proofs.Directions.{both_equal}
use Rattle.nav_ground.proofs.Selections.{filter-filter, filter-map, list_any-map}
use Rattle.nav_ground.proofs.Connected.{level_of_connected}
use Rattle.agent_erode.proofs.WindowLaws.{toward_beside, beside_back, deep_beside, deep_inside, inside_deep, either_same, and_same, any_range_same, kept_near}
use Rattle.layer_cut.specs.Nearby.{field_in}
use Rattle.layer_cut.proofs.Restricted.{any_agree, map_kept_agree, find-restricted, any-restricted}
use Rattle.layer_cut.proofs.NearbySpans.{inside_same}
use Rattle.layer_cut.proofs.NearbyCells.{unconnected_nearby}

-- walks in two lists that are images of one depend only on which of the images name which
module _ (f g : Cell → Cell) (p : Cell → Bool) (xs : List Cell) (each : All (λ (c : Cell). p c ≡ true) xs)
    (same : (dir : ℕ) (a b : Cell) → dir < 4 → p b ≡ true → is_naming dir (f a) (f b).at ≡ is_naming dir (g a) (g b).at) where
  any_image : (P Q : Cell → Bool) → ((x : Cell) → p x ≡ true → P (f x) ≡ Q (g x)) → list_any P (map f xs) ≡ list_any Q (map g xs)
  any_image P Q agree =
      list_any-map P f xs
      ∙ any_agree (λ x. P (f x)) (λ x. Q (g x)) xs (All-weaker (λ (c : Cell). p c ≡ true) (λ x. P (f x) ≡ Q (g x)) agree xs each)
      ∙ sym (list_any-map Q g xs)

  neighbour_same : (dir : ℕ) (c : Cell) → dir < 4 → has_neighbour (map f xs) (f c) dir ≡ has_neighbour (map g xs) (g c) dir
  neighbour_same dir c small =
      any_image (λ (other : Cell). is_naming dir (f c) other.at) (λ (other : Cell). is_naming dir (g c) other.at) (λ x h. same dir c x small h)

  boundary_same : (c : Cell) → is_boundary (map f xs) (f c) ≡ is_boundary (map g xs) (g c)
  boundary_same c =
      let e0 = neighbour_same 0 c (omega arith) in
      let e1 = neighbour_same 1 c (omega arith) in
      let e2 = neighbour_same 2 c (omega arith) in
      let e3 = neighbour_same 3 c (omega arith) in
      cc

  axis_same : (a c : Cell) → p c ≡ true → is_axis_step (f a) (f c) ≡ is_axis_step (g a) (g c)
  axis_same a c here =
      either_same (same 0 a c (omega arith) here) (either_same (same 1 a c (omega arith) here)
      (either_same (same 2 a c (omega arith) here) (either_same (same 3 a c (omega arith) here) refl)))

  turn_same : (a b c : Cell) → p b ≡ true → p c ≡ true → is_turn (f a) (f b) (f c) ≡ is_turn (g a) (g b) (g c)
  turn_same a b c by here =
      either_same (turn 0 1 3 (omega arith) (omega arith) (omega arith)) (either_same (turn 1 2 0 (omega arith) (omega arith) (omega arith))
      (either_same (turn 2 3 1 (omega arith) (omega arith) (omega arith)) (either_same (turn 3 0 2 (omega arith) (omega arith) (omega arith)) refl)))
    where
      turn : (d e e' : ℕ) → d < 4 → e < 4 → e' < 4
          → (is_naming d (f a) (f b).at && (is_naming e (f b) (f c).at || is_naming e' (f b) (f c).at))
          ≡ (is_naming d (g a) (g b).at && (is_naming e (g b) (g c).at || is_naming e' (g b) (g c).at))
      turn d e e' small small' small'' =
          ap (λ t. t && (is_naming e (f b) (f c).at || is_naming e' (f b) (f c).at)) (same d a b small by)
          ∙ ap (λ t. is_naming d (g a) (g b).at && t) (either_same (same e b c small' here) (same e' b c small'' here))

  diagonal_same : (a c : Cell) → p c ≡ true → is_diagonal_step (map f xs) (f a) (f c) ≡ is_diagonal_step (map g xs) (g a) (g c)
  diagonal_same a c here =
      any_image (λ (by : Cell). is_turn (f a) by (f c)) (λ (by : Cell). is_turn (g a) by (g c)) (λ b by. turn_same a b c by here)

  both_same : {a b x y : Bool} → a ≡ b → x ≡ y → (a && x) ≡ (b && y)
  both_same {b = b} {x = x} e h = ap (λ t. t && x) e ∙ ap (λ t. b && t) h

  walk_same : (cost : ℕ) (c : Cell) → p c ≡ true → is_walk_end (map f xs) cost (f c) ≡ is_walk_end (map g xs) cost (g c)
  unfolding is_walk_end
  walk_same zero c here = boundary_same c
  walk_same (suc zero) c here = refl
  walk_same (suc (suc zero)) c here =
      any_image (λ (from : Cell). is_axis_step from (f c) && is_walk_end (map f xs) zero from)
      (λ (from : Cell). is_axis_step from (g c) && is_walk_end (map g xs) zero from)
      (λ a h. both_same (axis_same a c here) (walk_same zero a h))
  walk_same (suc (suc (suc cost))) c here =
      any_image (λ (from : Cell). is_axis_step from (f c) && is_walk_end (map f xs) (suc cost) from
      || is_diagonal_step (map f xs) from (f c) && is_walk_end (map f xs) cost from)
      (λ (from : Cell). is_axis_step from (g c) && is_walk_end (map g xs) (suc cost) from
      || is_diagonal_step (map g xs) from (g c) && is_walk_end (map g xs) cost from)
      (λ a h. either_same (both_same (axis_same a c here) (walk_same (suc cost) a h)) (both_same (diagonal_same a c here) (walk_same cost a h)))

  kept_same : (radius : ℕ) (c : Cell) → p c ≡ true → is_kept (map f xs) radius (f c) ≡ is_kept (map g xs) radius (g c)
  kept_same radius c here =
      ap not (any_range_same (λ cost. is_walk_end (map f xs) cost (f c)) (λ cost. is_walk_end (map g xs) cost (g c)) 0 (2 * radius)
      (λ cost low high. walk_same cost c here))

-- the column in a direction is one column
one_column : (dir : ℕ) (from a b : CellRef) → dir < 4 → is_toward dir from a ≡ true → is_toward dir from b ≡ true → (a.x ≡ b.x) × (a.z ≡ b.z)
one_column zero from a b small ha hb =
    let e = both_equal (a.x + 1) from.x a.z from.z ha in let h = both_equal (b.x + 1) from.x b.z from.z hb in
    (omega (arith, e.0, h.0), e.1 ∙ sym h.1)
one_column (suc zero) from a b small ha hb =
    let e = both_equal a.x from.x a.z (from.z + 1) ha in let h = both_equal b.x from.x b.z (from.z + 1) hb in
    (e.0 ∙ sym h.0, e.1 ∙ sym h.1)
one_column (suc (suc zero)) from a b small ha hb =
    let e = both_equal a.x (from.x + 1) a.z from.z ha in let h = both_equal b.x (from.x + 1) b.z from.z hb in
    (e.0 ∙ sym h.0, e.1 ∙ sym h.1)
one_column (suc (suc (suc zero))) from a b small ha hb =
    let e = both_equal a.x from.x (a.z + 1) from.z ha in let h = both_equal b.x from.x (b.z + 1) from.z hb in
    (e.0 ∙ sym h.0, omega (arith, e.1, h.1))
one_column (suc (suc (suc (suc n)))) from a b small ha hb = absurd (omega (arith, small))

-- a cell's connections among the cells over a rectangle
module _ (window : Window) (agent : Agent) (cells : List Cell) where
  level_nearby : (dir : ℕ) (cell : Cell)
      → ((other : Cell) → is_toward dir cell.at other.at ≡ true → is_in_window window other.at.x other.at.z ≡ true)
      → level_toward agent (cells_in window cells) cell dir ≡ level_toward agent cells cell dir
  level_nearby dir cell inside =
      ap (option_map (λ (other : Cell). other.at.level))
      (find-restricted (λ (other : Cell). is_in_window window other.at.x other.at.z)
      (λ (other : Cell). is_toward dir cell.at other.at && is_connected agent cell other)
      (λ other h. inside other (and_parts (is_toward dir cell.at other.at) (is_connected agent cell other) h).0) cells)

  naming_nearby : (dir : ℕ) (a b : Cell) → dir < 4 → is_in_window window b.at.x b.at.z ≡ true
      → is_naming dir (connected_cell agent (cells_in window cells) a) b.at ≡ is_naming dir (connected_cell agent cells a) b.at
  naming_nearby dir a b small inside =
      and_same (is_toward dir a.at b.at)
      (option_map_or (λ level. level == b.at.level) (next_level (connected_cell agent (cells_in window cells) a) dir) false)
      (option_map_or (λ level. level == b.at.level) (next_level (connected_cell agent cells a) dir) false)
      (λ toward. ap (λ (next : Option ℕ). option_map_or (λ level. level == b.at.level) next false)
      (level_of_connected dir agent (cells_in window cells) a small
      ∙ level_nearby dir a (λ other h. let column = one_column dir a.at other.at b.at small h toward in
      inside_same window other.at.x other.at.z b.at.x b.at.z column.0 column.1 ∙ inside)
      ∙ sym (level_of_connected dir agent cells a small)))

-- a cell with other connections
with_levels : (cell : Cell) (a0 a1 a2 a3 b0 b1 b2 b3 : Option ℕ) → a0 ≡ b0 → a1 ≡ b1 → a2 ≡ b2 → a3 ≡ b3
    → ◌≡◌ {A = Cell} (record cell { next = a0 ∷ a1 ∷ a2 ∷ a3 ∷ [] }) (record cell { next = b0 ∷ b1 ∷ b2 ∷ b3 ∷ [] })
with_levels cell a0 a1 a2 a3 b0 b1 b2 b3 e0 e1 e2 e3 =
    ap (λ (o : Option ℕ). record cell { next = o ∷ a1 ∷ a2 ∷ a3 ∷ [] }) e0
    ∙ ap (λ (o : Option ℕ). record cell { next = b0 ∷ o ∷ a2 ∷ a3 ∷ [] }) e1
    ∙ ap (λ (o : Option ℕ). record cell { next = b0 ∷ b1 ∷ o ∷ a3 ∷ [] }) e2
    ∙ ap (λ (o : Option ℕ). record cell { next = b0 ∷ b1 ∷ b2 ∷ o ∷ [] }) e3

beside_inside : (window : Window) (dir : ℕ) (a b : CellRef) → dir < 4 → is_in_window window a.x a.z ≡ true → is_toward dir a b ≡ true
    → is_in_window (widened window 1) b.x b.z ≡ true
beside_inside window dir a b small inside toward =
    deep_inside (widened window 1) 0 b
    (deep_beside (widened window 1) 0 b a (beside_back a b (toward_beside dir a b small toward)) (inside_deep window 1 a inside))

-- a test that matters where another holds, with one that holds there
where_named : (v k k' n : Bool) → (n ≡ true → v ≡ true) → (n ≡ true → k ≡ k') → (v && (k && n)) ≡ (k' && n)
where_named v k k' true near same = ap (λ b. b && (k && true)) (near refl) ∙ ap (λ b. b && true) (same refl)
where_named v k k' false near same =
    ap (λ b. v && b) (and_right k false refl) ∙ and_right v false refl ∙ sym (and_right k' false refl)

where_inside : (v k k' t : Bool) → (t ≡ true → v ≡ true) → (t ≡ true → k ≡ k') → ((v && k) && t) ≡ (k' && t)
where_inside v k k' true near same = ap (λ b. (b && k) && true) (near refl) ∙ ap (λ b. b && true) (same refl)
where_inside v k k' false near same = and_right (v && k) false refl ∙ sym (and_right k' false refl)

both_where : (v t : Bool) → (t ≡ true → v ≡ true) → (v && t) ≡ t
both_where v true near = ap (λ b. b && true) (near refl)
both_where v false near = and_right v false refl

-- the four sides of a rectangle
same_sides : (a b c d a' b' c' d' : ℤ) → a ≡ a' → b ≡ b' → c ≡ c' → d ≡ d'
    → ◌≡◌ {A = Window} (record { x0 = a; x1 = b; z0 = c; z1 = d }) (record { x0 = a'; x1 = b'; z0 = c'; z1 = d' })
same_sides a b c d a' b' c' d' e f g h =
    ap (λ (n : ℤ). record { x0 = n; x1 = b; z0 = c; z1 = d }) e ∙ ap (λ (n : ℤ). record { x0 = a'; x1 = n; z0 = c; z1 = d }) f
    ∙ ap (λ (n : ℤ). record { x0 = a'; x1 = b'; z0 = n; z1 = d }) g ∙ ap (λ (n : ℤ). record { x0 = a'; x1 = b'; z0 = c'; z1 = n }) h

-- a rectangle that is widened twice, in either order
widened_swap : (window : Window) (radius : ℕ) → widened (widened window radius) 1 ≡ widened (widened window 1) radius
widened_swap window radius =
    same_sides ((window.x0 -ℤ pos radius) -ℤ pos 1) ((window.x1 +ℤ pos radius) +ℤ pos 1) ((window.z0 -ℤ pos radius) -ℤ pos 1)
    ((window.z1 +ℤ pos radius) +ℤ pos 1) ((window.x0 -ℤ pos 1) -ℤ pos radius) ((window.x1 +ℤ pos 1) +ℤ pos radius)
    ((window.z0 -ℤ pos 1) -ℤ pos radius) ((window.z1 +ℤ pos 1) +ℤ pos radius)
    (omega (arith, ints)) (omega (arith, ints)) (omega (arith, ints)) (omega (arith, ints))

-- the kept cells of a rectangle, with their connections to kept cells, from the cells over it, as they were before they were connected, with
-- one column more on each side and so many more as the radius
module _ (window : Window) (agent : Agent) (cells : List Cell) (radius : ℕ) where
  abbrev wide : Window
  wide = widened (widened window 1) radius

  abbrev near : Cell → Cell
  near = connected_cell agent (cells_in wide cells)

  abbrev all : Cell → Cell
  all = connected_cell agent cells

  abbrev is_wide : Cell → Bool
  is_wide cell = is_in_window wide cell.at.x cell.at.z

  abbrev kept_near_by : Cell → Bool
  kept_near_by = is_kept (map near (cells_in wide cells)) radius

  abbrev kept_of_all : Cell → Bool
  kept_of_all = is_kept (map all cells) radius

  wider : (cell : Cell) → is_in_window (widened window 1) cell.at.x cell.at.z ≡ true → is_wide cell ≡ true
  wider cell inside = deep_inside wide radius cell.at (inside_deep (widened window 1) radius cell.at inside)

  kept_nearby : (cell : Cell) → is_in_window (widened window 1) cell.at.x cell.at.z ≡ true → kept_near_by (near cell) ≡ kept_of_all (all cell)
  kept_nearby cell inside =
      kept_same near all is_wide (cells_in wide cells) (filter_passes is_wide cells)
      (λ dir a b small h. naming_nearby wide agent cells dir a b small h) radius cell (wider cell inside)
      ∙ ap (λ (l : List Cell). is_kept l radius (all cell)) (sym (filter-map is_wide all cells))
      ∙ kept_near (widened window 1) (map all cells) radius (all cell) inside

  connected_within : (cell : Cell)
      → ((dir : ℕ) (b : CellRef) → dir < 4 → is_toward dir cell.at b ≡ true → is_in_window wide b.x b.z ≡ true) → near cell ≡ all cell
  connected_within cell beside =
      let level = λ (dir : ℕ) (small : dir < 4). level_nearby wide agent cells dir cell (λ other h. beside dir other.at small h) in
      with_levels cell (level_toward agent (cells_in wide cells) cell 0) (level_toward agent (cells_in wide cells) cell 1)
      (level_toward agent (cells_in wide cells) cell 2) (level_toward agent (cells_in wide cells) cell 3)
      (level_toward agent cells cell 0) (level_toward agent cells cell 1) (level_toward agent cells cell 2) (level_toward agent cells cell 3)
      (level 0 (omega arith)) (level 1 (omega arith)) (level 2 (omega arith)) (level 3 (omega arith))

  connected_nearby : (cell : Cell) → is_in_window window cell.at.x cell.at.z ≡ true → near cell ≡ all cell
  connected_nearby cell inside =
      connected_within cell (λ dir b small h.
      deep_inside wide radius b (inside_deep (widened window 1) radius b (beside_inside window dir cell.at b small inside h)))

  -- the cells of the rectangle with so many more columns as the radius on each side, with all their connections
  abbrev is_within : Cell → Bool
  is_within cell = is_in_window (widened window radius) cell.at.x cell.at.z

  one_more : (at : CellRef) → is_in_window (widened (widened window radius) 1) at.x at.z ≡ true → is_in_window wide at.x at.z ≡ true
  one_more at h = let P : Window → Type 0 = λ (w : Window). is_in_window w at.x at.z ≡ true in subst P (widened_swap window radius) h

  within_wide : (cell : Cell) → is_within cell ≡ true → is_wide cell ≡ true
  within_wide cell inside =
      one_more cell.at (deep_inside (widened (widened window radius) 1) 1 cell.at (inside_deep (widened window radius) 1 cell.at inside))

  wide_nearby : cells_in (widened window radius) (map near (cells_in wide cells)) ≡ cells_in (widened window radius) (map all cells)
  wide_nearby =
      filter-map is_within near (cells_in wide cells)
      ∙ ap (map near) (filter-filter is_within is_wide cells)
      ∙ map_kept_agree near all (λ (cell : Cell). is_wide cell && is_within cell) is_within cells
      (λ k d there. each_within (get_or cells k d))
      ∙ sym (filter-map is_within all cells)
    where
      each_within : (cell : Cell) → ((is_wide cell && is_within cell) ≡ is_within cell) × (is_within cell ≡ true → near cell ≡ all cell)
      each_within cell = (
        both_where (is_wide cell) (is_within cell) (within_wide cell),
        λ inside. connected_within cell (λ dir b small h. one_more b (beside_inside (widened window radius) dir cell.at b small inside h)),
      )

  kept_neighbour : (dir : ℕ) (cell : Cell) → dir < 4 → is_in_window window cell.at.x cell.at.z ≡ true
      → has_neighbour (kept_cells (map near (cells_in wide cells)) radius) (all cell) dir ≡ has_neighbour (kept_cells (map all cells) radius) (all cell) dir
  kept_neighbour dir cell small inside =
      let named = λ (other : Cell). is_naming dir (all cell) other.at in
      any-restricted kept_near_by named (map near (cells_in wide cells))
      ∙ list_any-map (λ other. kept_near_by other && named other) near (cells_in wide cells)
      ∙ any-restricted is_wide (λ other. kept_near_by (near other) && named other) cells
      ∙ any_agree (λ other. is_wide other && (kept_near_by (near other) && named other)) (λ other. kept_of_all (all other) && named other) cells
      (λ k d there. let other = get_or cells k d in
      let beside = λ (h : named other ≡ true). beside_inside window dir cell.at other.at small inside (and_parts (is_toward dir cell.at other.at) _ h).0 in
      where_named (is_wide other) (kept_near_by (near other)) (kept_of_all (all other)) (named other)
      (λ h. wider other (beside h)) (λ h. kept_nearby other (beside h)))
      ∙ sym (list_any-map (λ other. kept_of_all other && named other) all cells)
      ∙ sym (any-restricted kept_of_all named (map all cells))

  layer_cell_nearby : (cell : Cell) → is_in_window window cell.at.x cell.at.z ≡ true
      → layer_cell (kept_cells (map near (cells_in wide cells)) radius) (near cell) ≡ layer_cell (kept_cells (map all cells) radius) (all cell)
  layer_cell_nearby cell inside =
      let some = kept_cells (map near (cells_in wide cells)) radius in
      let kept = kept_cells (map all cells) radius in
      let level = λ (dir : ℕ) (small : dir < 4). ap (λ b. if b then next_level (all cell) dir else None) (kept_neighbour dir cell small inside) in
      ap (layer_cell some) (connected_nearby cell inside)
      ∙ with_levels (all cell) (kept_level some (all cell) 0) (kept_level some (all cell) 1) (kept_level some (all cell) 2) (kept_level some (all cell) 3)
      (kept_level kept (all cell) 0) (kept_level kept (all cell) 1) (kept_level kept (all cell) 2) (kept_level kept (all cell) 3)
      (level 0 (omega arith)) (level 1 (omega arith)) (level 2 (omega arith)) (level 3 (omega arith))

  layer_cells_nearby :
      map (layer_cell (kept_cells (map near (cells_in wide cells)) radius)) (cells_in window (kept_cells (map near (cells_in wide cells)) radius))
      ≡ map (layer_cell (kept_cells (map all cells) radius)) (cells_in window (kept_cells (map all cells) radius))
  layer_cells_nearby =
      let some = kept_cells (map near (cells_in wide cells)) radius in
      let kept = kept_cells (map all cells) radius in
      let inside = λ (cell : Cell). is_in_window window cell.at.x cell.at.z in
      ap (λ (l : List Cell). map (layer_cell some) (filter inside l)) (filter-map kept_near_by near (cells_in wide cells))
      ∙ ap (map (layer_cell some)) (filter-map inside near (filter (λ cell. kept_near_by (near cell)) (cells_in wide cells)))
      ∙ ap (λ (l : List Cell). map (layer_cell some) (map near (filter inside l))) (filter-filter (λ cell. kept_near_by (near cell)) is_wide cells)
      ∙ ap (λ (l : List Cell). map (layer_cell some) (map near l)) (filter-filter inside (λ cell. is_wide cell && kept_near_by (near cell)) cells)
      ∙ map-map (layer_cell some) near (filter (λ cell. (is_wide cell && kept_near_by (near cell)) && inside cell) cells)
      ∙ map_kept_agree (λ cell. layer_cell some (near cell)) (λ cell. layer_cell kept (all cell))
      (λ cell. (is_wide cell && kept_near_by (near cell)) && inside cell) (λ cell. kept_of_all (all cell) && inside cell) cells
      (λ k d there. each (get_or cells k d))
      ∙ sym (map-map (layer_cell kept) all (filter (λ cell. kept_of_all (all cell) && inside cell) cells))
      ∙ ap (λ (l : List Cell). map (layer_cell kept) (map all l)) (sym (filter-filter inside (λ cell. kept_of_all (all cell)) cells))
      ∙ ap (map (layer_cell kept)) (sym (filter-map inside all (filter (λ cell. kept_of_all (all cell)) cells)))
      ∙ ap (λ (l : List Cell). map (layer_cell kept) (filter inside l)) (sym (filter-map kept_of_all all cells))
    where
      in_one : (cell : Cell) → is_in_window window cell.at.x cell.at.z ≡ true → is_in_window (widened window 1) cell.at.x cell.at.z ≡ true
      in_one cell inside = deep_inside (widened window 1) 1 cell.at (inside_deep window 1 cell.at inside)

      each : (cell : Cell)
          → (((is_wide cell && kept_near_by (near cell)) && is_in_window window cell.at.x cell.at.z) ≡ (kept_of_all (all cell) && is_in_window window cell.at.x cell.at.z))
          × ((kept_of_all (all cell) && is_in_window window cell.at.x cell.at.z) ≡ true
          → layer_cell (kept_cells (map near (cells_in wide cells)) radius) (near cell) ≡ layer_cell (kept_cells (map all cells) radius) (all cell))
      each cell = (
        where_inside (is_wide cell) (kept_near_by (near cell)) (kept_of_all (all cell)) (is_in_window window cell.at.x cell.at.z)
            (λ h. wider cell (in_one cell h)) (λ h. kept_nearby cell (in_one cell h)),
        λ h. layer_cell_nearby cell (and_parts (kept_of_all (all cell)) (is_in_window window cell.at.x cell.at.z) h).1,
      )

-- a rectangle that is widened three times
widened_thrice : (window : Window) (radius : ℕ) → widened window (radius + 2) ≡ widened (widened (widened window 1) radius) 1
widened_thrice window radius =
    same_sides (window.x0 -ℤ pos (radius + 2)) (window.x1 +ℤ pos (radius + 2)) (window.z0 -ℤ pos (radius + 2)) (window.z1 +ℤ pos (radius + 2))
    (((window.x0 -ℤ pos 1) -ℤ pos radius) -ℤ pos 1) (((window.x1 +ℤ pos 1) +ℤ pos radius) +ℤ pos 1)
    (((window.z0 -ℤ pos 1) -ℤ pos radius) -ℤ pos 1) (((window.z1 +ℤ pos 1) +ℤ pos radius) +ℤ pos 1)
    (omega (arith, ints)) (omega (arith, ints)) (omega (arith, ints)) (omega (arith, ints))

-- the wide cells of a tile, where the setting says clear or not
wide_same : (clear : Bool) (window : Window) (agent : Agent) (cells : List Cell) (radius : ℕ)
    → (if clear then cells_in (widened window (if clear then radius else 0))
    (map (connected_cell agent (cells_in (widened (widened window 1) radius) cells)) (cells_in (widened (widened window 1) radius) cells)) else [])
    ≡ (if clear then cells_in (widened window (if clear then radius else 0)) (map (connected_cell agent cells) cells) else [])
wide_same true window agent cells radius = wide_nearby window agent cells radius
wide_same false window agent cells radius = refl

layer_nearby_in : (setting : Setting) (field : Field) (tile : ℕ) → IsSetting setting → IsField field
    → layer_of setting (field_in (widened (widened (widened (tile_window setting tile) 1) setting.agent.radius) 1) field) tile ≡ layer_of setting field tile
unfolding layer_of cells_of compact_cells
layer_nearby_in setting field tile limits rules' =
    let agent = setting.agent in
    let window = tile_window setting tile in
    let cells = unconnected_cells field (filtered_areas field agent) in
    let some = map (connected_cell agent (cells_in (widened (widened window 1) agent.radius) cells)) (cells_in (widened (widened window 1) agent.radius) cells) in
    let kept = kept_cells (map (connected_cell agent cells) cells) agent.radius in
    ap (λ (l : List Cell). layer_among setting (map (connected_cell agent l) l) (kept_cells (map (connected_cell agent l) l) agent.radius) tile)
    (unconnected_nearby (widened (widened window 1) agent.radius) field agent limits.agent rules')
    ∙ ap (λ (l : List Cell). record { tile = tile; cells = l; radius = margin_of setting; wide = wide_cells setting some tile })
    (layer_cells_nearby window agent cells agent.radius)
    ∙ ap (λ (l : List Cell). record { tile = tile; cells = map (layer_cell kept) (cells_in window kept); radius = margin_of setting; wide = l })
    (wide_same setting.clear window agent cells agent.radius)

-- the layer of a tile, from the spans over the tile and over the columns within the radius and two more on each side: the radius is for the
-- neighbours across the border and the walks to them, the two more are for the connections of the cells where those walks begin and for the
-- filters of the cells so connected; where the radius is 0 they are for the neighbours and their filters
pub layer_nearby : (setting : Setting) (field : Field) (tile : ℕ) → IsSetting setting → IsField field
    → layer_of setting (field_in (widened (tile_window setting tile) (setting.agent.radius + 2)) field) tile ≡ layer_of setting field tile
layer_nearby setting field tile limits rules' =
    ap (λ (window : Window). layer_of setting (field_in window field) tile) (widened_thrice (tile_window setting tile) setting.agent.radius)
    ∙ layer_nearby_in setting field tile limits rules'

-- the same, for a part of the field and a layer that were made so
pub layer_from_near : (setting : Setting) (field near : Field) (window : Window) (tile : ℕ) (layer : Layer) → IsSetting setting → IsField field
    → window ≡ tile_window setting tile → near ≡ field_in (widened window (setting.agent.radius + 2)) field → layer ≡ layer_of setting near tile
    → layer ≡ layer_of setting field tile
layer_from_near setting field near window tile layer limits rules' bounds cut made =
    made
    ∙ ap (λ (f : Field). layer_of setting f tile) cut
    ∙ ap (λ (w : Window). layer_of setting (field_in (widened w (setting.agent.radius + 2)) field) tile) bounds
    ∙ layer_nearby setting field tile limits rules'
