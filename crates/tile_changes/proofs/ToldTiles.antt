-- The tiles that the changed shapes touch are the changed tiles.
use Rattle.std.proofs.Common.{◌≡◌, ℕ, ◌<◌, true, List, get_or, filter, sym, ◌∙◌, subst, arith}
use Rattle.std.specs.Prelude.{All, AllPairs, Contains, ◌↔◌}
use Rattle.std.specs.List.{range_with_len}
use Rattle.std.proofs.lemmas.List.{get_or_default}
use Rattle.std.proofs.lemmas.List.Elements.{All-contains, All-filter, filter_passes}
use Rattle.std.proofs.lemmas.List.FromFn.{get_or-range_with_len, length-range_with_len}
use Rattle.std.proofs.lemmas.List.Kept.{AllPairs-filter}
use Rattle.nav_ground.specs.declared.history.Entry.{Entry}
use Rattle.nav_ground.specs.declared.history.Ground.{Ground}
use Rattle.nav_ground.specs.declared.setting.Setting.{Setting}
use Rattle.nav_ground.specs.declared.shape.Shape.{Shape}
use Rattle.nav_ground.specs.History.{IsRequest}
use Rattle.nav_ground.specs.Limits.{IsSetting, IsShape}
use Rattle.nav_ground.specs.Tiling.{tile_count}
use Rattle.nav_ground.specs.Touching.{is_touching}
use Rattle.nav_ground.proofs.Selections.{any_of, found}
use Rattle.nav_ground.proofs.TouchLaws.{is_touching_Touches}
use Rattle.mesh_types.proofs.Gathered.{Contains-filter}
use Rattle.build_queue.proofs.Histories.{shape_limits}
use Rattle.tile_changes.specs.Changes.{IsChanged, IsThereOnce}
use Rattle.tile_changes.specs.Telling.{is_touched}

-- the shapes of a slice are those of its vector
pub told_slice : (history : List Entry) (a b : ℕ) (slice items : List Shape) → slice ≡ items
    → ((shape : Shape) → Contains items shape ↔ IsThereOnce history a b shape) → (shape : Shape) → Contains slice shape ↔ IsThereOnce history a b shape
told_slice history a b slice items same told =
    subst (λ (list : List Shape). (shape : Shape) → Contains list shape ↔ IsThereOnce history a b shape) (sym same) told

-- the shapes of obstacles keep their limits
pub changed_limits : (history : List Entry) (a b : ℕ) (shapes : List Shape) → All (λ (entry : Entry). IsRequest entry.request) history
    → ((shape : Shape) → Contains shapes shape ↔ IsThereOnce history a b shape) → All IsShape shapes
changed_limits history a b shapes requests told k d there =
    let changed = (told (get_or shapes k d)).0 (k, there, get_or_default shapes k (get_or shapes k d) d there) in
    shape_limits history changed.number (get_or shapes k d) requests changed.is

-- a number of a range
in_range : (n k : ℕ) → k < n → Contains (range_with_len 0 n) k
in_range n k there = (k, omega (arith, there, length-range_with_len 0 n), get_or-range_with_len 0 n k k there ∙ omega arith)

of_range : (n : ℕ) → All (λ k. k < n) (range_with_len 0 n)
of_range n i d within =
    let inside : i < n = omega (arith, within, length-range_with_len 0 n) in
    omega (arith, inside, get_or-range_with_len 0 n i d inside)

rising : (n : ℕ) → AllPairs (λ a b. a < b) (range_with_len 0 n)
rising n i j d apart within =
    let there : j < n = omega (arith, within, length-range_with_len 0 n) in
    omega (arith, apart, get_or-range_with_len 0 n i d (omega (arith, apart, there)), get_or-range_with_len 0 n j d there)

pub touched_rise : (setting : Setting) (shapes : List Shape) (tiles : List ℕ) → tiles ≡ filter (is_touched setting shapes) (range_with_len 0 (tile_count setting))
    → AllPairs (λ a b. a < b) tiles
touched_rise setting shapes tiles are =
    subst (AllPairs (λ a b. a < b)) (sym are)
    (AllPairs-filter (λ a b. a < b) (is_touched setting shapes) (range_with_len 0 (tile_count setting)) (rising (tile_count setting)))

pub touched_are_changed : (ground : Ground) (history : List Entry) (a b : ℕ) (shapes : List Shape) (tiles : List ℕ) → IsSetting ground.setting
    → All (λ (entry : Entry). IsRequest entry.request) history → ((shape : Shape) → Contains shapes shape ↔ IsThereOnce history a b shape)
    → tiles ≡ filter (is_touched ground.setting shapes) (range_with_len 0 (tile_count ground.setting))
    → (tile : ℕ) → Contains tiles tile ↔ IsChanged ground history a b tile
touched_are_changed ground history a b shapes tiles limits requests told are tile = (one_way, back)
  where
    one_way : Contains tiles tile → IsChanged ground history a b tile
    one_way held =
        let kept = subst (λ (list : List ℕ). Contains list tile) are held in
        let test = is_touched ground.setting shapes in
        let all = range_with_len 0 (tile_count ground.setting) in
        let there = All-contains (λ k. k < tile_count ground.setting) (filter test all) tile
        (All-filter test (λ k. k < tile_count ground.setting) all (of_range (tile_count ground.setting))) kept in
        let hit = found (is_touching ground.setting tile) shapes (All-contains (λ k. test k ≡ true) (filter test all) tile (filter_passes test all) kept) in
        let once = (told hit.0).0 hit.1 in
        record {
          there = there;
          shape = hit.0;
          once = once;
          touches = (is_touching_Touches ground.setting tile hit.0 limits there (shape_limits history once.number hit.0 requests once.is)).0 hit.2;
        }

    back : IsChanged ground history a b tile → Contains tiles tile
    back changed =
        let shape' = changed.shape in
        let touching = (is_touching_Touches ground.setting tile shape' limits changed.there (shape_limits history changed.once.number shape' requests changed.once.is)).1
        changed.touches in
        subst (λ (list : List ℕ). Contains list tile) (sym are)
        (Contains-filter (is_touched ground.setting shapes) (range_with_len 0 (tile_count ground.setting)) tile
        (in_range (tile_count ground.setting) tile changed.there)
        (any_of (is_touching ground.setting tile) shapes shape' ((told shape').1 changed.once) touching))
