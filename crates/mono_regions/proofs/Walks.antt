-- The indices of the cells of a strip, one after the other.
use Rattle.std.proofs.Common.{◌≡◌, ℕ, ◌+◌, ◌<◌, ◌≤◌, Bool, true, false, length, List, [], ◌∷◌, ◌++◌, map, get_or, ap, ◌∙◌, sym, refl, arith, zero, suc, inl, inr, ◌⊎◌}
use Rattle.std.specs.Prelude.{◌==◌, ◌||◌, nat_lt, All, if◌then◌else◌, find, Some, None, slice_get}
use Rattle.std.specs.Option.{option_map_or}
use Rattle.std.proofs.lemmas.Bool.{cases_lt, lt-ltb, le-ltb, cond-true, cond-false, ne_eqb, eq-eqb, eqb-true}
use Rattle.std.proofs.lemmas.List.{append_assoc, append-nil}
use Rattle.std.proofs.lemmas.List.Elements.{All-cons, All-nil}
use Rattle.std.proofs.lemmas.List.Folds.{find_at}
use Rattle.nav_ground.specs.declared.cell.Cell.{Cell}
use Rattle.nav_ground.specs.Cells.{IsCells, IsCut}
use Rattle.cell_table.proofs.Places.{same_test}
use Rattle.mesh_types.specs.Strips.{is_followed_by, run_from, strip_cells}
use Rattle.mesh_types.specs.StripPolygons.{some_cell}
use Rattle.mono_regions.specs.Indices.{cell_at, along, indices_from, run_at, has_index}
use Rattle.mono_regions.proofs.Chains.{along_after, follows_back}

-- a strip from a cell on, if there is such a cell
abbrev pub rest_from : List Cell → ℕ → List ℕ
rest_from cells i = if nat_lt i (length cells) then run_at cells i else []

-- one step of a walk
one_step : (cells : List Cell) (most i : ℕ)
    → indices_from cells (suc most) i ≡ i ∷ (if nat_lt (along cells 2 i) (length cells) then indices_from cells most (along cells 2 i) else [])
unfolding indices_from
one_step cells most i = refl

-- a walk ends before it has taken as many steps as there are cells
enough : (cells : List Cell) → IsCells cells → (n m i : ℕ) → i < length cells → length cells ≤ i + n → length cells ≤ i + m
    → indices_from cells n i ≡ indices_from cells m i
enough cells rules' zero m i there first second = absurd (omega (arith, there, first))
enough cells rules' (suc n) zero i there first second = absurd (omega (arith, there, second))
enough cells rules' (suc n) (suc m) i there first second =
    one_step cells n i
    ∙ ap (λ (xs : List ℕ). i ∷ xs) (by_case (cases_lt (along cells 2 i) (length cells))
    (λ inside less. enough cells rules' n m (along cells 2 i) inside (omega (arith, less, first)) (omega (arith, less, second))))
    ∙ sym (one_step cells m i)
  where
    by_case : (along cells 2 i < length cells) ⊎ (length cells ≤ along cells 2 i)
        → ((along cells 2 i < length cells) → i < along cells 2 i → indices_from cells n (along cells 2 i) ≡ indices_from cells m (along cells 2 i))
        → (if nat_lt (along cells 2 i) (length cells) then indices_from cells n (along cells 2 i) else [])
        ≡ (if nat_lt (along cells 2 i) (length cells) then indices_from cells m (along cells 2 i) else [])
    by_case (inl inside) further =
        ap (λ (xs : List ℕ). if nat_lt (along cells 2 i) (length cells) then xs else []) (further inside (along_after cells rules' i there inside).0)
    by_case (inr past) further =
        cond-false _ _ [] (le-ltb _ _ past) ∙ sym (cond-false _ _ [] (le-ltb _ _ past))

-- a strip is a cell and the strip from the next on
pub run_step : (cells : List Cell) → IsCells cells → (i : ℕ) → i < length cells → run_at cells i ≡ i ∷ rest_from cells (along cells 2 i)
run_step cells rules' i there =
    enough cells rules' (length cells) (suc (length cells)) i there (omega arith) (omega arith)
    ∙ one_step cells (length cells) i

-- the walk so far, and what is left of it
pub walk_more : (cells : List Cell) → IsCells cells → (at next : ℕ) (walked start first : List ℕ) → at < length cells → next ≡ along cells 2 at
    → walked ++ rest_from cells at ≡ start ++ first → (walked ++ at ∷ []) ++ rest_from cells next ≡ start ++ first
walk_more cells rules' at next walked start first there is before =
    ap (λ n. (walked ++ at ∷ []) ++ rest_from cells n) is
    ∙ append_assoc walked (at ∷ []) (rest_from cells (along cells 2 at))
    ∙ ap (λ (xs : List ℕ). walked ++ xs) (sym (run_step cells rules' at there) ∙ sym (cond-true _ (run_at cells at) [] (lt-ltb _ _ there)))
    ∙ before

pub walk_begin : (cells : List Cell) (start : List ℕ) (first : ℕ) → first < length cells → start ++ rest_from cells first ≡ start ++ run_at cells first
walk_begin cells start first there = ap (λ (xs : List ℕ). start ++ xs) (cond-true _ (run_at cells first) [] (lt-ltb _ _ there))

pub walk_end : (cells : List Cell) (at : ℕ) (walked : List ℕ) → length cells ≤ at → walked ++ rest_from cells at ≡ walked
walk_end cells at walked past = ap (λ (xs : List ℕ). walked ++ xs) (cond-false _ (run_at cells at) [] (le-ltb _ _ past)) ∙ append-nil walked

-- what holds of the first cell, and of the next wherever it holds of a cell, holds along a strip
pub along_run : (cells : List Cell) → IsCells cells → (P : ℕ → Type 0) → ((i : ℕ) → i < length cells → along cells 2 i < length cells → P i → P (along cells 2 i))
    → (n i : ℕ) → i < length cells → P i → All P (indices_from cells n i)
unfolding indices_from
along_run cells rules' P step zero i there here = All-cons P i [] here (All-nil P)
along_run cells rules' P step (suc n) i there here =
    All-cons P i _ here (by_case (cases_lt (along cells 2 i) (length cells))
    (λ inside. along_run cells rules' P step n (along cells 2 i) inside (step i there inside here)))
  where
    by_case : (along cells 2 i < length cells) ⊎ (length cells ≤ along cells 2 i)
        → ((along cells 2 i < length cells) → All P (indices_from cells n (along cells 2 i)))
        → All P (if nat_lt (along cells 2 i) (length cells) then indices_from cells n (along cells 2 i) else [])
    by_case (inl inside) further =
        rw (cond-true (nat_lt (along cells 2 i) (length cells)) (indices_from cells n (along cells 2 i)) [] (lt-ltb _ _ inside)) (further inside)
    by_case (inr past) further =
        rw (cond-false (nat_lt (along cells 2 i) (length cells)) (indices_from cells n (along cells 2 i)) [] (le-ltb _ _ past)) (All-nil P)

-- the strip of cells, cell by cell
found : (cells : List Cell) (i : ℕ) → along cells 2 i < length cells → find (is_followed_by (cell_at cells i)) cells ≡ Some (cell_at cells (along cells 2 i))
found cells i there = find_at (is_followed_by (cell_at cells i)) cells ∙ slice_get_there cells (along cells 2 i) there
  where
    slice_get_there : (xs : List Cell) (k : ℕ) → k < length xs → slice_get xs k ≡ Some (get_or xs k some_cell)
    slice_get_there [] k there = absurd (omega (arith, there))
    slice_get_there (x ∷ xs) zero there = refl
    slice_get_there (x ∷ xs) (suc k) there = slice_get_there xs k (omega (arith, there))

missed : (cells : List Cell) (i : ℕ) → length cells ≤ along cells 2 i → find (is_followed_by (cell_at cells i)) cells ≡ None
missed cells i past = find_at (is_followed_by (cell_at cells i)) cells ∙ slice_get_past cells (along cells 2 i) past
  where
    slice_get_past : (xs : List Cell) (k : ℕ) → length xs ≤ k → slice_get xs k ≡ None
    slice_get_past [] k past = refl
    slice_get_past (x ∷ xs) zero past = absurd (omega (arith, past))
    slice_get_past (x ∷ xs) (suc k) past = slice_get_past xs k (omega (arith, past))

cells_from : (cells : List Cell) (n i : ℕ) → map (cell_at cells) (indices_from cells n i) ≡ run_from cells n (cell_at cells i)
unfolding indices_from run_from
cells_from cells zero i = refl
cells_from cells (suc n) i =
    ap (λ (xs : List Cell). cell_at cells i ∷ xs) (by_case (cases_lt (along cells 2 i) (length cells)) (cells_from cells n (along cells 2 i)))
  where
    by_case : (along cells 2 i < length cells) ⊎ (length cells ≤ along cells 2 i)
        → map (cell_at cells) (indices_from cells n (along cells 2 i)) ≡ run_from cells n (cell_at cells (along cells 2 i))
        → map (cell_at cells) (if nat_lt (along cells 2 i) (length cells) then indices_from cells n (along cells 2 i) else [])
        ≡ option_map_or (run_from cells n) (find (is_followed_by (cell_at cells i)) cells) []
    by_case (inl inside) further =
        ap (map (cell_at cells)) (cond-true _ (indices_from cells n (along cells 2 i)) [] (lt-ltb _ _ inside))
        ∙ further
        ∙ ap (λ o. option_map_or (run_from cells n) o []) (sym (found cells i inside))
    by_case (inr past) further =
        ap (map (cell_at cells)) (cond-false _ (indices_from cells n (along cells 2 i)) [] (le-ltb _ _ past))
        ∙ ap (λ o. option_map_or (run_from cells n) o []) (sym (missed cells i past))

pub cells_of_run : (cells : List Cell) (i : ℕ) → map (cell_at cells) (run_at cells i) ≡ strip_cells cells (cell_at cells i)
cells_of_run cells i = cells_from cells (length cells) i

-- a cell that follows another stands in the strips that begin at it, and in those that hold the other
held_after : (cells : List Cell) → IsCut cells → (p n f : ℕ) → p < length cells → along cells 2 p < length cells → f < length cells → length cells ≤ f + n
    → has_index (along cells 2 p) (indices_from cells n f) ≡ ((f == along cells 2 p) || has_index p (indices_from cells n f))
held_after cells cut p zero f here next there most = absurd (omega (arith, there, most))
held_after cells cut p (suc n) f here next there most =
    ap (has_index (along cells 2 p)) (one_step cells n f)
    ∙ ap (λ b. (f == along cells 2 p) || b) (by_case (cases_lt (along cells 2 f) (length cells))
    (λ inside less. held_after cells cut p n (along cells 2 f) here next inside (omega (arith, less, most))))
    ∙ ap (λ b. (f == along cells 2 p) || b) (sym (ap (has_index p) (one_step cells n f)))
  where
    same : (along cells 2 f < length cells) → (along cells 2 f == along cells 2 p) ≡ (f == p)
    same inside = same_test _ _
        (λ h. eq-eqb _ _ (sym (follows_back cells cut f there inside) ∙ ap (along cells 0) (eqb-true _ _ h) ∙ follows_back cells cut p here next))
        (λ h. eq-eqb _ _ (ap (along cells 2) (eqb-true _ _ h)))

    by_case : (along cells 2 f < length cells) ⊎ (length cells ≤ along cells 2 f)
        → ((along cells 2 f < length cells) → f < along cells 2 f
        → has_index (along cells 2 p) (indices_from cells n (along cells 2 f))
        ≡ ((along cells 2 f == along cells 2 p) || has_index p (indices_from cells n (along cells 2 f))))
        → has_index (along cells 2 p) (if nat_lt (along cells 2 f) (length cells) then indices_from cells n (along cells 2 f) else [])
        ≡ ((f == p) || has_index p (if nat_lt (along cells 2 f) (length cells) then indices_from cells n (along cells 2 f) else []))
    by_case (inl inside) further =
        let after = along_after cells cut.rules f there inside in
        let is = cond-true (nat_lt (along cells 2 f) (length cells)) (indices_from cells n (along cells 2 f)) [] (lt-ltb _ _ inside) in
        ap (has_index (along cells 2 p)) is
        ∙ further inside after.0
        ∙ ap (λ b. b || has_index p (indices_from cells n (along cells 2 f))) (same inside)
        ∙ ap (λ (xs : List ℕ). (f == p) || has_index p xs) (sym is)
    by_case (inr past) further =
        let is = cond-false (nat_lt (along cells 2 f) (length cells)) (indices_from cells n (along cells 2 f)) [] (le-ltb _ _ past) in
        let apart = ne_eqb f p (λ e. omega (arith, past, next, ap (along cells 2) e)) in
        ap (has_index (along cells 2 p)) is
        ∙ ap (λ b. b || has_index p []) (sym apart)
        ∙ ap (λ (xs : List ℕ). (f == p) || has_index p xs) (sym is)

-- a cell that follows none stands in the strips that begin at it alone
held_first : (cells : List Cell) → IsCut cells → (i n f : ℕ) → i < length cells → length cells ≤ along cells 0 i → f < length cells
    → has_index i (indices_from cells n f) ≡ (f == i)
unfolding indices_from
held_first cells cut i zero f here none there = or_none (f == i)
  where
    or_none : (b : Bool) → (b || false) ≡ b
    or_none true = refl
    or_none false = refl
held_first cells cut i (suc n) f here none there =
    ap (λ b. (f == i) || b) (by_case (cases_lt (along cells 2 f) (length cells)) (λ inside. held_first cells cut i n (along cells 2 f) here none inside))
    ∙ or_none (f == i)
  where
    or_none : (b : Bool) → (b || false) ≡ b
    or_none true = refl
    or_none false = refl

    by_case : (along cells 2 f < length cells) ⊎ (length cells ≤ along cells 2 f)
        → ((along cells 2 f < length cells) → has_index i (indices_from cells n (along cells 2 f)) ≡ (along cells 2 f == i))
        → has_index i (if nat_lt (along cells 2 f) (length cells) then indices_from cells n (along cells 2 f) else []) ≡ false
    by_case (inl inside) further =
        ap (has_index i) (cond-true (nat_lt (along cells 2 f) (length cells)) (indices_from cells n (along cells 2 f)) [] (lt-ltb _ _ inside))
        ∙ further inside
        ∙ ne_eqb _ _ (λ (e : along cells 2 f ≡ i). omega (arith, none, there, sym (ap (along cells 0) e) ∙ follows_back cells cut f there inside))
    by_case (inr past) further =
        ap (has_index i) (cond-false (nat_lt (along cells 2 f) (length cells)) (indices_from cells n (along cells 2 f)) [] (le-ltb _ _ past))

pub held_with : (cells : List Cell) → IsCut cells → (p f : ℕ) → p < length cells → along cells 2 p < length cells → f < length cells
    → has_index (along cells 2 p) (run_at cells f) ≡ ((f == along cells 2 p) || has_index p (run_at cells f))
held_with cells cut p f here next there = held_after cells cut p (length cells) f here next there (omega arith)

pub held_alone : (cells : List Cell) → IsCut cells → (i f : ℕ) → i < length cells → length cells ≤ along cells 0 i → f < length cells
    → has_index i (run_at cells f) ≡ (f == i)
held_alone cells cut i f here none there = held_first cells cut i (length cells) f here none there
