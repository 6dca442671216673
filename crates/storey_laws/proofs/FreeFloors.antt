-- The free cells of a tile of a ground: floors rise in each column, and cells that are connected differ by at most the climb.
use Rattle.std.proofs.Common.{◌≡◌, ℕ, zero, suc, ◌<◌, Bool, true, false, List, [], ◌∷◌, length, map, filter, get_or, Option, None, Some, ap, ◌∙◌, sym, refl, subst, arith}
use Rattle.std.specs.Prelude.{All, AllPairs, Contains, ◌&&◌, ◌==◌, if◌then◌else◌}
use Rattle.std.specs.List.{find, range_with_len}
use Rattle.std.specs.Option.{option_map, option_map_or}
use Rattle.std.proofs.lemmas.Bool.{and_from, and_parts, both_ways, eq-eqb, eqb-true}
use Rattle.std.proofs.lemmas.List.{get_or-map, get_or_default, length-map}
use Rattle.std.proofs.lemmas.List.Elements.{All-contains, All-contains_itself, All-filter, All-map, Contains-get_or}
use Rattle.std.proofs.lemmas.List.Kept.{AllPairs-filter}
use Rattle.nav_ground.specs.declared.setting.Agent.{Agent}
use Rattle.nav_ground.specs.declared.setting.Setting.{Setting}
use Rattle.nav_ground.specs.declared.field.Field.{Field}
use Rattle.nav_ground.specs.declared.cell.Cell.{Cell}
use Rattle.nav_ground.specs.declared.cell.CellRef.{CellRef}
use Rattle.nav_ground.specs.declared.cell.Layer.{Layer}
use Rattle.nav_ground.specs.declared.shape.Shape.{Shape}
use Rattle.nav_ground.specs.declared.history.Ground.{Ground}
use Rattle.nav_ground.specs.Cells.{is_naming, is_toward, next_level}
use Rattle.nav_ground.specs.Clearance.{cells_in, has_neighbour, is_kept}
use Rattle.nav_ground.specs.Connection.{compact_cells, connected_cell, is_connected, unconnected_cells}
use Rattle.nav_ground.specs.Fields.{IsField}
use Rattle.nav_ground.specs.Filters.{filtered_areas, is_near}
use Rattle.nav_ground.specs.FreeCells.{free_cell_of, free_layer_of, free_next, is_taken}
use Rattle.nav_ground.specs.Grounds.{IsGround}
use Rattle.nav_ground.specs.Layers.{cells_of, kept_cells_of, kept_level, layer_cell, layer_of, layers_of}
use Rattle.nav_ground.specs.Tiling.{is_in_window, tile_count, tile_window}
use Rattle.nav_ground.proofs.Connected.{level_of_connected, one_cell}
use Rattle.nav_ground.proofs.FilterLaws.{filtered_are_areas, length-filtered_areas}
use Rattle.nav_ground.proofs.Found.{found_in}
use Rattle.nav_ground.proofs.FreeLayers.{names_one}
use Rattle.nav_ground.proofs.Kept.{AllPairs-map}
use Rattle.nav_ground.proofs.Stacks.{IsStacked, stacked}
use Rattle.nav_ground.proofs.Words.{is_free}

-- of two cells of one column the second stands higher
abbrev pub IsLower : Cell → Cell → Type 0
IsLower a b = a.at.x ≡ b.at.x → a.at.z ≡ b.at.z → a.floor < b.floor

-- floors rise in each column, and connected cells differ by at most the climb
pub record AreSteps (climb : ℕ) (cells : List Cell) : Type 0 where
  pub rise : AllPairs IsLower cells
  pub near : (dir : ℕ) (a b : Cell) → dir < 4 → Contains cells a → Contains cells b → is_naming dir a b.at ≡ true → is_near climb a.floor b.floor ≡ true

-- ---- what is kept of cells, and what is made of each

pub Contains-filtered : {X : Type 0} (p : X → Bool) (xs : List X) (x : X) → Contains (filter p xs) x → Contains xs x
Contains-filtered p xs x has = All-contains (Contains xs) (filter p xs) x (All-filter p (Contains xs) xs (All-contains_itself xs)) has

steps_filtered : (climb : ℕ) (p : Cell → Bool) (cells : List Cell) → AreSteps climb cells → AreSteps climb (filter p cells)
steps_filtered climb p cells steps = record {
  rise = AllPairs-filter IsLower p cells steps.rise;
  near = λ dir a b small has_a has_b. steps.near dir a b small (Contains-filtered p cells a has_a) (Contains-filtered p cells b has_b);
}

-- an element of a list from which an element of what is made of it was made
pub record IsFrom {X Y : Type 0} (f : X → Y) (xs : List X) (y : Y) : Type 0 where
  pub origin : X
  pub own : Contains xs origin
  pub is : f origin ≡ y

pub made_from : {X Y : Type 0} (f : X → Y) (xs : List X) (y : Y) → Contains (map f xs) y → IsFrom f xs y
made_from f [] y has = absurd (omega (arith, has.1))
made_from {X = X} f (x ∷ xs) y has =
    let inside : has.0 < length (x ∷ xs) = omega (arith, has.1, length-map (x ∷ xs) f) in
    record {
      origin = get_or (x ∷ xs) has.0 x;
      own = Contains-get_or (x ∷ xs) has.0 x inside;
      is = sym (get_or-map f (x ∷ xs) has.0 x y inside) ∙ has.2;
    }

-- each cell that is made from another stands where that stands, and names nothing that it does not name
record IsNarrowing (f : Cell → Cell) : Type 0 where
  at : (cell : Cell) → (f cell).at ≡ cell.at
  floor : (cell : Cell) → (f cell).floor ≡ cell.floor
  names : (dir : ℕ) (cell : Cell) (to : CellRef) → dir < 4 → is_naming dir (f cell) to ≡ true → is_naming dir cell to ≡ true

steps_made : (climb : ℕ) (f : Cell → Cell) (cells : List Cell) → IsNarrowing f → AreSteps climb cells → AreSteps climb (map f cells)
steps_made climb f cells narrows steps = record {
  rise = AllPairs-map IsLower f cells (λ i j d before there x z.
      let a : Cell = get_or cells i d in
      let b : Cell = get_or cells j d in
      let lower = steps.rise i j d before there
      (sym (ap (λ (r : CellRef). r.x) (narrows.at a)) ∙ x ∙ ap (λ (r : CellRef). r.x) (narrows.at b))
      (sym (ap (λ (r : CellRef). r.z) (narrows.at a)) ∙ z ∙ ap (λ (r : CellRef). r.z) (narrows.at b)) in
      omega (arith, lower, narrows.floor a, narrows.floor b));
  near = λ dir a b small has_a has_b named.
      let from = made_from f cells a has_a in
      let to = made_from f cells b has_b in
      let named' : is_naming dir (f from.origin) (f to.origin).at ≡ true =
      ap (λ (c : Cell). is_naming dir c (f to.origin).at) from.is ∙ ap (λ (c : Cell). is_naming dir a c.at) to.is ∙ named in
      let near = steps.near dir from.origin to.origin small from.own to.own
      (narrows.names dir from.origin to.origin.at small (ap (is_naming dir (f from.origin)) (sym (narrows.at to.origin)) ∙ named')) in
      ap (λ (c : Cell). is_near climb c.floor b.floor) (sym from.is)
      ∙ ap (λ n. is_near climb n b.floor) (narrows.floor from.origin)
      ∙ ap (λ (c : Cell). is_near climb from.origin.floor c.floor) (sym to.is)
      ∙ ap (is_near climb from.origin.floor) (narrows.floor to.origin)
      ∙ near;
}

-- ---- the cells of a layer, and the free ones of them

named_of : (toward test : Bool) (f : ℕ → Bool) (next : Option ℕ)
    → (toward && option_map_or f (if test then next else None) false) ≡ true → (toward && option_map_or f next false) ≡ true
named_of toward true f next h = h
named_of toward false f next h = absurd (both_ways false refl (and_parts toward false h).1)

unnamed_of : (toward test : Bool) (f : ℕ → Bool) (next : Option ℕ)
    → (toward && option_map_or f (if test then None else next) false) ≡ true → (toward && option_map_or f next false) ≡ true
unnamed_of toward true f next h = absurd (both_ways false refl (and_parts toward false h).1)
unnamed_of toward false f next h = h

level_kept : (dir : ℕ) (kept : List Cell) (cell : Cell) → dir < 4 → next_level (layer_cell kept cell) dir ≡ kept_level kept cell dir
level_kept zero kept cell small = refl
level_kept (suc zero) kept cell small = refl
level_kept (suc (suc zero)) kept cell small = refl
level_kept (suc (suc (suc zero))) kept cell small = refl
level_kept (suc (suc (suc (suc n)))) kept cell small = absurd (omega arith)

layer_narrows : (kept : List Cell) → IsNarrowing (layer_cell kept)
layer_narrows kept = record {
  at = λ cell. refl;
  floor = λ cell. refl;
  names = λ dir cell to small h.
      named_of (is_toward dir cell.at to) (has_neighbour kept cell dir) (λ level. level == to.level) (next_level cell dir)
      (ap (λ next. is_toward dir cell.at to && option_map_or (λ level. level == to.level) next false) (sym (level_kept dir kept cell small)) ∙ h);
}

level_free : (dir : ℕ) (taken : Cell → Bool) (cells : List Cell) (shapes : List Shape) (cell : Cell) → dir < 4
    → next_level (free_cell_of taken cells shapes cell) dir ≡ free_next taken cells cell dir
level_free zero taken cells shapes cell small = refl
level_free (suc zero) taken cells shapes cell small = refl
level_free (suc (suc zero)) taken cells shapes cell small = refl
level_free (suc (suc (suc zero))) taken cells shapes cell small = refl
level_free (suc (suc (suc (suc n)))) taken cells shapes cell small = absurd (omega arith)

free_narrows : (taken : Cell → Bool) (cells : List Cell) (shapes : List Shape) → IsNarrowing (free_cell_of taken cells shapes)
free_narrows taken cells shapes = record {
  at = λ cell. refl;
  floor = λ cell. refl;
  names = λ dir cell to small h.
      unnamed_of (is_toward dir cell.at to) _ (λ level. level == to.level) (next_level cell dir)
      (ap (λ next. is_toward dir cell.at to && option_map_or (λ level. level == to.level) next false) (sym (level_free dir taken cells shapes cell small)) ∙ h);
}

-- ---- the cells of a field

pub level_is : (o : Option ℕ) (n : ℕ) → option_map_or (λ level. level == n) o false ≡ true → o ≡ Some n
level_is None n h = absurd cc
level_is (Some level) n h = ap Some (eqb-true level n h)

image_of : {A B : Type 0} (f : A → B) (o : Option A) (y : B) → option_map f o ≡ Some y → (x : A) × (o ≡ Some x) × (f x ≡ y)
image_of f None y h = absurd cc
image_of f (Some x) y h = (x, refl, let e : Some (f x) ≡ Some y = h in cc)

-- a connected cell that names another is near it
connected_near : (agent : Agent) (cells : List Cell) (dir : ℕ) (a b : Cell) → AllPairs IsStacked cells → dir < 4
    → Contains (map (connected_cell agent cells) cells) a → Contains (map (connected_cell agent cells) cells) b → is_naming dir a b.at ≡ true
    → is_near agent.climb a.floor b.floor ≡ true
connected_near agent cells dir a b stack small has_a has_b named =
    let f : Cell → Cell = connected_cell agent cells in
    let from = made_from f cells a has_a in
    let to = made_from f cells b has_b in
    let u : Cell = from.origin in
    let v : Cell = to.origin in
    let named' : is_naming dir (f u) v.at ≡ true =
    ap (λ (c : Cell). is_naming dir c v.at) from.is ∙ ap (λ (c : Cell). is_naming dir a c.at) to.is ∙ named in
    let test : Cell → Bool = λ other. is_toward dir u.at other.at && is_connected agent u other in
    let level = level_is (next_level (f u) dir) v.at.level (and_parts (is_toward dir u.at v.at) _ named').1 in
    let found = image_of (λ (other : Cell). other.at.level) (find test cells) v.at.level (sym (level_of_connected dir agent cells u small) ∙ level) in
    let place = found_in test cells found.0 found.1 in
    let o : Cell = found.0 in
    let parts = and_parts (is_toward dir u.at o.at) (is_connected agent u o) place.passes in
    let naming : is_naming dir (f u) o.at ≡ true =
    and_from (is_toward dir u.at o.at) _ parts.0
    (ap (λ (p : Option ℕ). option_map_or (λ level. level == o.at.level) p false) level ∙ eq-eqb v.at.level o.at.level (sym found.2)) in
    let same = names_one dir (f u) o.at v.at small naming named' in
    let o_at : get_or cells place.place v ≡ o = get_or_default cells place.place v o place.there ∙ place.at in
    let same_at : (get_or cells place.place v).at ≡ (get_or cells to.own.0 v).at =
    ap (λ (c : Cell). c.at) o_at ∙ same ∙ sym (ap (λ (c : Cell). c.at) to.own.2) in
    let index = one_cell cells place.place to.own.0 v (λ i k d before within. (stack i k d before within).before) place.there to.own.1 same_at in
    let is : o ≡ v = sym o_at ∙ ap (λ n. get_or cells n v) index ∙ to.own.2 in
    let connected : is_connected agent u v ≡ true = ap (is_connected agent u) (sym is) ∙ parts.1 in
    ap (λ (c : Cell). is_near agent.climb c.floor b.floor) (sym from.is)
    ∙ ap (λ (c : Cell). is_near agent.climb u.floor c.floor) (sym to.is)
    ∙ (and_parts _ (is_near agent.climb u.floor v.floor) connected).1

cells_steps : (setting : Setting) (field : Field) → IsField field → AreSteps setting.agent.climb (cells_of setting field)
unfolding cells_of compact_cells
cells_steps setting field rules' =
    let agent : Agent = setting.agent in
    let areas : List ℕ = filtered_areas field agent in
    let cells : List Cell = unconnected_cells field areas in
    let stack = stacked field areas rules' (filtered_are_areas field agent rules') (length-filtered_areas field agent) in
    record {
      rise = AllPairs-map IsLower (connected_cell agent cells) cells (λ i j d before there. (stack i j d before there).floor);
      near = λ dir a b small has_a has_b named. connected_near agent cells dir a b stack small has_a has_b named;
    }

layer_steps : (setting : Setting) (field : Field) (tile : ℕ) → IsField field → AreSteps setting.agent.climb (layer_of setting field tile).cells
unfolding layer_of
layer_steps setting field tile rules' =
    let climb : ℕ = setting.agent.climb in
    let cells : List Cell = cells_of setting field in
    let kept : List Cell = kept_cells_of setting field in
    let window = tile_window setting tile in
    steps_made climb (layer_cell kept) (cells_in window kept) (layer_narrows kept)
    (steps_filtered climb (λ (cell : Cell). is_in_window window cell.at.x cell.at.z) kept
    (steps_filtered climb (is_kept cells setting.agent.radius) cells (cells_steps setting field rules')))

free_steps : (climb : ℕ) (layer : Layer) (shapes : List Shape) → AreSteps climb layer.cells → AreSteps climb (free_layer_of layer shapes).cells
free_steps climb layer shapes steps =
    let taken : Cell → Bool = is_taken layer shapes in
    steps_made climb (free_cell_of taken layer.cells shapes) (filter (is_free layer shapes) layer.cells) (free_narrows taken layer.cells shapes)
    (steps_filtered climb (is_free layer shapes) layer.cells steps)

-- the free cells of each tile of a ground
pub ground_steps : (ground : Ground) (shapes : List Shape) → IsGround ground
    → All (λ (layer : Layer). AreSteps ground.setting.agent.climb (free_layer_of layer shapes).cells) ground.layers
unfolding layers_of
ground_steps ground shapes rules' =
    let climb : ℕ = ground.setting.agent.climb in
    let P : Layer → Type 0 = λ layer. AreSteps climb (free_layer_of layer shapes).cells in
    subst (All P) (sym rules'.layers)
    (All-map P (layer_of ground.setting ground.field) (range_with_len 0 (tile_count ground.setting))
    (λ k d there.
    free_steps climb (layer_of ground.setting ground.field (get_or (range_with_len 0 (tile_count ground.setting)) k d)) shapes
    (layer_steps ground.setting ground.field (get_or (range_with_len 0 (tile_count ground.setting)) k d) rules'.field)))
