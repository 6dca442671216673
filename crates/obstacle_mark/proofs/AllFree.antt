-- Where no obstacle stands and agents keep no radius from obstacles, a layer is free as it is.
use Rattle.std.proofs.Common.{◌≡◌, ℕ, Bool, true, false, List, [], ◌∷◌, map, get_or, length, All, refl, sym, ap, ◌∙◌, arith}
use Rattle.std.specs.Prelude.{not, ◌&&◌, ◌||◌, ◌==◌, if◌then◌else◌, Option, None}
use Rattle.std.specs.List.{list_any}
use Rattle.std.proofs.lemmas.Bool.{eq-eqb}
use Rattle.std.proofs.lemmas.List.Elements.{All-head, All-tail}
use Rattle.std.proofs.lemmas.List.Folds.{list_any_none}
use Rattle.nav_ground.specs.declared.cell.Cell.{Cell}
use Rattle.nav_ground.specs.declared.cell.Layer.{Layer}
use Rattle.nav_ground.specs.declared.shape.Shape.{Shape}
use Rattle.nav_ground.specs.Cells.{IsCell, IsCells, is_naming, next_level}
use Rattle.nav_ground.specs.FreeCells.{clear_places, free_cell_of, free_layer_of, free_next, is_crowded, is_same_place, is_taken}
use Rattle.nav_ground.proofs.Words.{is_free}
use Rattle.nav_ground.proofs.Selections.{filter_all}
use Rattle.obstacle_mark.specs.Near.{KeepsRadius}
use Rattle.obstacle_mark.proofs.AwayPlaces.{four_levels}

-- no cell is taken
none_taken : (layer : Layer) → layer.radius ≡ 0 → (cell : Cell) → is_taken layer [] cell ≡ false
none_taken layer none cell = by_test (layer.radius == 0) (not (list_any (is_same_place cell.at) (clear_places layer []))) (eq-eqb layer.radius 0 none)
  where
    by_test : (b c : Bool) → b ≡ true → ((if b then false else c) || false) ≡ false
    by_test b c is = ap (λ t. (if t then false else c) || false) is

-- so each keeps its neighbours, and stays as it is
no_loss : (taken : Cell → Bool) (cells : List Cell) (cell : Cell) (dir : ℕ) → All (λ (other : Cell). taken other ≡ false) cells → free_next taken cells cell dir ≡ next_level cell dir
no_loss taken cells cell dir none =
    ap (λ b. if b then None else next_level cell dir)
    (list_any_none (λ (other : Cell). is_naming dir cell other.at && taken other) cells
    (λ k d there. off (is_naming dir cell (get_or cells k d).at) (taken (get_or cells k d)) (none k d there)))
  where
    off : (b c : Bool) → c ≡ false → (b && c) ≡ false
    off true c is = is
    off false c is = refl

stays : (taken : Cell → Bool) (cells : List Cell) (cell : Cell) → All (λ (other : Cell). taken other ≡ false) cells → IsCell cell → free_cell_of taken cells [] cell ≡ cell
stays taken cells cell none rules' =
    ap (λ (next : List (Option ℕ)). record cell { next = next })
    ((λ i. no_loss taken cells cell 0 none i ∷ no_loss taken cells cell 1 none i ∷ no_loss taken cells cell 2 none i ∷ no_loss taken cells cell 3 none i ∷ [])
    ∙ sym (four_levels cell.next rules'.sides))

map_same : {A : Type 0} (f : A → A) (xs : List A) → All (λ x. f x ≡ x) xs → map f xs ≡ xs
map_same f [] each = refl
map_same f (x ∷ xs) each = (λ i. All-head (λ y. f y ≡ y) x xs each i ∷ map_same f xs (All-tail (λ y. f y ≡ y) x xs each) i)

no_shape : (shapes : List Shape) → length shapes ≡ 0 → shapes ≡ []
no_shape [] none = refl
no_shape (shape ∷ shapes) none = absurd (omega (arith, none))

-- where no cell of a layer is taken it is free as it is
none_lost : (layer : Layer) (shapes : List Shape) → IsCells layer.cells → All (λ (cell : Cell). is_taken layer [] cell ≡ false) layer.cells → length shapes ≡ 0
    → record { tile = layer.tile; cells = layer.cells } ≡ free_layer_of layer shapes
none_lost layer shapes rules' none empty =
    let free = filter_all (is_free layer []) layer.cells (λ k d there. ap not (none k d there)) in
    let same = map_same (free_cell_of (is_taken layer []) layer.cells []) layer.cells
    (λ k d there. stays (is_taken layer []) layer.cells (get_or layer.cells k d) none (rules'.each k d there)) in
    ap (λ (cells : List Cell). record { tile = layer.tile; cells = cells })
    (sym same ∙ ap (map (free_cell_of (is_taken layer []) layer.cells [])) (sym free))
    ∙ ap (free_layer_of layer) (sym (no_shape shapes empty))

pub all_free : (layer : Layer) (shapes : List Shape) → IsCells layer.cells → layer.radius ≡ 0 → length shapes ≡ 0
    → record { tile = layer.tile; cells = layer.cells } ≡ free_layer_of layer shapes
all_free layer shapes rules' none empty = none_lost layer shapes rules' (λ k d there. none_taken layer none (get_or layer.cells k d)) empty

-- so it is where its cells keep its radius
pub all_kept_free : (layer : Layer) (shapes : List Shape) → IsCells layer.cells → KeepsRadius layer → length shapes ≡ 0
    → record { tile = layer.tile; cells = layer.cells } ≡ free_layer_of layer shapes
all_kept_free layer shapes rules' keeps empty = none_lost layer shapes rules' (λ k d there. neither (is_crowded layer [] (get_or layer.cells k d)) (keeps k d there)) empty
  where
    neither : (crowded : Bool) → crowded ≡ false → (crowded || false) ≡ false
    neither crowded is = ap (λ b. b || false) is
