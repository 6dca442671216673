-- What cells are left with under one more shape.
use Rattle.std.proofs.Common.{◌≡◌, ℕ, ◌<◌, Bool, true, false, length, List, [], ◌∷◌, ◌++◌, take, drop, map, get_or, ap, ◌∙◌, sym, refl, Option, Some, None, unwrap_or, arith}
use Rattle.std.specs.Prelude.{if◌then◌else◌, ◌&&◌, ◌||◌, is_none, option_and_then}
use Rattle.std.specs.List.{filter_map, last_or, cons_option}
use Rattle.std.proofs.Math.Seq.{take-append_seam}
use Rattle.std.proofs.lemmas.List.{append-nil, same_lists, length-map, get_or-map, get_or_default}
use Rattle.std.proofs.lemmas.List.Elements.{filter_map-append}
use Rattle.std.proofs.lemmas.List.Folds.{list_any-append}
use Rattle.nav_ground.specs.declared.cell.Cell.{Cell}
use Rattle.nav_ground.specs.declared.shape.Shape.{Shape}
use Rattle.nav_ground.specs.Shapes.{Covers, area_set_by}
use Rattle.nav_ground.specs.FreeCells.{is_over, is_blocked, area_given, area_under}
use Rattle.nav_ground.proofs.ShapeLaws.{is_covering-Covers}
use Rattle.obstacle_mark.specs.AreasLeft.{area_left, area_after}

last_of_one_more : {A : Type 0} (o : Option A) (xs : List A) (x : A) → last_or o (xs ++ x ∷ []) ≡ Some x
last_of_one_more o [] x = refl
last_of_one_more o (y ∷ ys) x = last_of_one_more (Some y) ys x

last_given : {A : Type 0} (default : A) (xs : List A) (given : Option A)
    → unwrap_or (last_or None (xs ++ cons_option given [])) default ≡ unwrap_or given (unwrap_or (last_or None xs) default)
last_given default xs None = ap (λ ys. unwrap_or (last_or None ys) default) (append-nil xs)
last_given default xs (Some x) = ap (λ o. unwrap_or o default) (last_of_one_more None xs x)

-- one more shape at the end of the list gives its area, or leaves the area as it was
area_under_more : (cell : Cell) (shapes : List Shape) (shape : Shape)
    → area_under (shapes ++ shape ∷ []) cell ≡ unwrap_or (area_given cell shape) (area_under shapes cell)
area_under_more cell shapes shape =
    ap (λ ys. unwrap_or (last_or None ys) cell.area) (filter_map-append (area_given cell) shapes (shape ∷ []))
    ∙ last_given cell.area (filter_map (area_given cell) shapes) (area_given cell shape)

-- the same with a cell that is left with no area or with one
left_more : (blocked over : Bool) (set : Option ℕ) (area : ℕ)
    → (if (blocked || (is_none set && over || false)) then None else Some (unwrap_or (if over then set else None) area))
    ≡ option_and_then (λ a. if over then set else Some a) (if blocked then None else Some area)
left_more true over set area = refl
left_more false true None area = refl
left_more false true (Some other) area = refl
left_more false false None area = refl
left_more false false (Some other) area = refl

area_left_more : (cell : Cell) (shapes : List Shape) (shape : Shape)
    → area_left (is_blocked (shapes ++ shape ∷ [])) (shapes ++ shape ∷ []) cell ≡ area_after shape cell (area_left (is_blocked shapes) shapes cell)
area_left_more cell shapes shape =
    ap (λ blocked. if blocked then None else Some (area_under (shapes ++ shape ∷ []) cell))
    (list_any-append (λ (s : Shape). is_none (area_set_by s) && is_over cell s) shapes (shape ∷ []))
    ∙ ap (λ area. if (is_blocked shapes cell || is_blocked (shape ∷ []) cell) then None else Some area) (area_under_more cell shapes shape)
    ∙ left_more (is_blocked shapes cell) (is_over cell shape) (area_set_by shape) (area_under shapes cell)

some_cell : Cell
some_cell = record { at = record { x = 0; z = 0; level = 0 }; floor = 0; ceiling = 0; area = 0; next = [] }

-- the areas that cells are left with under one more shape, cell by cell
pub areas_left_more : (cells : List Cell) (shapes : List Shape) (shape : Shape) (old new : List (Option ℕ))
    → old ≡ map (area_left (is_blocked shapes) shapes) cells → length new ≡ length old
    → ((k : ℕ) (d : Cell) → k < length cells → get_or new k None ≡ area_after shape (get_or cells k d) (get_or old k None))
    → new ≡ map (area_left (is_blocked (shapes ++ shape ∷ [])) (shapes ++ shape ∷ [])) cells
areas_left_more cells shapes shape old new before same each =
    let as_many : length old ≡ length cells = ap length before ∙ length-map cells (area_left (is_blocked shapes) shapes) in
    same_lists new (map (area_left (is_blocked (shapes ++ shape ∷ [])) (shapes ++ shape ∷ [])) cells)
    (same ∙ as_many ∙ sym (length-map cells (area_left (is_blocked (shapes ++ shape ∷ [])) (shapes ++ shape ∷ []))))
    (λ k d there.
    let there' : k < length cells = omega arith in
    let was : get_or old k None ≡ area_left (is_blocked shapes) shapes (get_or cells k some_cell) =
    ap (λ xs. get_or xs k None) before ∙ get_or-map (area_left (is_blocked shapes) shapes) cells k some_cell None there' in
    get_or_default new k d None there ∙ each k some_cell there' ∙ ap (area_after shape (get_or cells k some_cell)) was
    ∙ sym (area_left_more (get_or cells k some_cell) shapes shape)
    ∙ sym (get_or-map (area_left (is_blocked (shapes ++ shape ∷ [])) (shapes ++ shape ∷ [])) cells k some_cell d there'))

-- a shape that does not cover a cell leaves it as it was
pub not_covered : (shape : Shape) (cell : Cell) (before : Option ℕ)
    → (Covers shape cell.at.x cell.at.z cell.floor → ⊥) → area_after shape cell before ≡ before
not_covered shape cell before not = left_alone (is_over cell shape) refl before
  where
    left_alone : (over : Bool) → over ≡ is_over cell shape → (before : Option ℕ)
        → option_and_then (λ area. if over then area_set_by shape else Some area) before ≡ before
    left_alone true is before = absurd (not ((is_covering-Covers shape cell.at.x cell.at.z cell.floor).0 (sym is)))
    left_alone false is None = refl
    left_alone false is (Some area) = refl

-- a vector all of whose elements were written through a slice
pub written_back : (n : ℕ) (old new : List (Option ℕ)) → n ≡ length new → take n (new ++ drop (length new) old) ≡ new
written_back n old new same =
    ap (λ i. take i (new ++ drop (length new) old)) same ∙ take-append_seam new (drop (length new) old)
