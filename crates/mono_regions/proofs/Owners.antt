-- The first cells of strips, and the strips that hold cells.
use Rattle.std.proofs.Common.{◌≡◌, ℕ, ◌+◌, ◌-◌, ◌<◌, ◌≤◌, Bool, true, false, length, List, [], ◌∷◌, ◌++◌, map, filter, get_or, ap, ◌∙◌, sym, refl, arith, zero, suc, inl, inr}
use Rattle.std.specs.Prelude.{◌==◌, ◌||◌, nat_lt, not, All}
use Rattle.std.specs.List.{position_or_len, range_with_len, concat}
use Rattle.std.proofs.lemmas.Bool.{cases_lt, lt-ltb, le-ltb, ltb-false, cond-true, ne_eqb, eq-eqb, not-true}
use Rattle.std.proofs.lemmas.List.{get_or_at, get_or_append_left, length-append, length-map, map_push, append-nil}
use Rattle.std.proofs.lemmas.List.Elements.{All-head, All-tail, All-filter, All-map, filter-append, filter_passes}
use Rattle.std.proofs.lemmas.List.Folds.{concat-append}
use Rattle.std.proofs.lemmas.List.FromFn.{get_or-range_with_len, length-range_with_len}
use Rattle.std.proofs.lemmas.List.Sums.{position_or_len_is, length-filter, count_by-le-length}
use Rattle.nav_ground.specs.declared.cell.Cell.{Cell}
use Rattle.nav_ground.specs.Cells.{IsCut}
use Rattle.cell_table.proofs.Tables.{any_position}
use Rattle.mesh_types.specs.Strips.{is_followed_by}
use Rattle.mono_regions.specs.Lists.{starts_of}
use Rattle.mono_regions.specs.Indices.{cell_at, along, run_at, begins_at, firsts_below, index_runs, has_index, owner_of}
use Rattle.mono_regions.proofs.Cuts.{one_more_start}
use Rattle.mono_regions.proofs.Found.{position_same, passes_next, fails_next}
use Rattle.mono_regions.proofs.Chains.{along_before, begins_where, followed_back, follows_back}
use Rattle.mono_regions.proofs.Walks.{held_with, held_alone}

-- a strip begins at a cell exactly where it follows none
begins_is : (cells : List Cell) → IsCut cells → (i : ℕ) → i < length cells → begins_at cells i ≡ not (nat_lt (along cells 0 i) (length cells))
begins_is cells cut i there =
    ap not (any_position (λ (other : Cell). is_followed_by other (cell_at cells i)) cells)
    ∙ ap (λ n. not (nat_lt n (length cells))) (begins_where cells cut i there)

pub begins_true : (cells : List Cell) → IsCut cells → (i : ℕ) → i < length cells → length cells ≤ along cells 0 i → begins_at cells i ≡ true
begins_true cells cut i there past = begins_is cells cut i there ∙ ap not (le-ltb _ _ past)

pub begins_false : (cells : List Cell) → IsCut cells → (i : ℕ) → i < length cells → along cells 0 i < length cells → begins_at cells i ≡ false
begins_false cells cut i there inside = begins_is cells cut i there ∙ ap not (lt-ltb _ _ inside)

pub begins_past : (cells : List Cell) → IsCut cells → (i : ℕ) → i < length cells → begins_at cells i ≡ true → length cells ≤ along cells 0 i
begins_past cells cut i there begins = ltb-false _ _ (not-true _ (sym (begins_is cells cut i there) ∙ begins))

-- one cell more among the first ones
pub one_first : (cells : List Cell) (n : ℕ) → begins_at cells n ≡ true → firsts_below cells (n + 1) ≡ firsts_below cells n ++ n ∷ []
one_first cells n begins = passes_next (begins_at cells) n begins

pub no_first : (cells : List Cell) (n : ℕ) → begins_at cells n ≡ false → firsts_below cells (n + 1) ≡ firsts_below cells n
no_first cells n begins = fails_next (begins_at cells) n begins

pub few_firsts : (cells : List Cell) (n : ℕ) → length (firsts_below cells n) ≤ n
few_firsts cells n =
    omega (arith, length-filter (begins_at cells) (range_with_len 0 n), count_by-le-length (begins_at cells) (range_with_len 0 n), length-range_with_len 0 n)

-- the first cells are cells at which a strip begins
pub firsts_small : (cells : List Cell) (n : ℕ) → All (λ f. f < n) (firsts_below cells n)
firsts_small cells n =
    All-filter (begins_at cells) (λ f. f < n) (range_with_len 0 n)
    (λ k d there.
    let there' : k < n = omega (arith, there, length-range_with_len 0 n) in
    omega (arith, get_or-range_with_len 0 n k d there', there'))

pub firsts_begin : (cells : List Cell) (n : ℕ) → All (λ f. begins_at cells f ≡ true) (firsts_below cells n)
firsts_begin cells n = filter_passes (begins_at cells) (range_with_len 0 n)

-- the runs so far, with one more
pub one_run_items : (cells : List Cell) (n : ℕ) (order more : List ℕ) → begins_at cells n ≡ true
    → more ≡ order ++ run_at cells n → order ≡ concat (map (run_at cells) (firsts_below cells n))
    → more ≡ concat (map (run_at cells) (firsts_below cells (n + 1)))
one_run_items cells n order more begins is before =
    is ∙ ap (λ (xs : List ℕ). xs ++ run_at cells n) before
    ∙ ap (λ (xs : List ℕ). concat (map (run_at cells) (firsts_below cells n)) ++ xs) (sym (append-nil (run_at cells n)))
    ∙ sym (concat-append (map (run_at cells) (firsts_below cells n)) (run_at cells n ∷ []))
    ∙ ap concat (sym (map_push (run_at cells) (firsts_below cells n) n))
    ∙ ap (λ fs. concat (map (run_at cells) fs)) (sym (one_first cells n begins))

pub one_run_start : (cells : List Cell) (n : ℕ) (order more starts : List ℕ) (end : ℕ) → begins_at cells n ≡ true
    → more ≡ order ++ run_at cells n → order ≡ concat (map (run_at cells) (firsts_below cells n)) → end ≡ length more
    → starts ≡ starts_of (map (run_at cells) (firsts_below cells n))
    → starts ++ end ∷ [] ≡ starts_of (map (run_at cells) (firsts_below cells (n + 1)))
one_run_start cells n order more starts end begins is before last start =
    let lists : List (List ℕ) = map (run_at cells) (firsts_below cells n) in
    ap (λ (xs : List ℕ). xs ++ end ∷ []) start
    ∙ ap (λ m. starts_of lists ++ m ∷ []) (last ∙ ap length is ∙ ap (λ (xs : List ℕ). length (xs ++ run_at cells n)) before)
    ∙ sym (one_more_start lists (run_at cells n))
    ∙ ap starts_of (sym (map_push (run_at cells) (firsts_below cells n) n))
    ∙ ap (λ fs. starts_of (map (run_at cells) fs)) (sym (one_first cells n begins))

-- a cell that follows another stands in the same strip
held_same : (cells : List Cell) → IsCut cells → (p : ℕ) → p < length cells → along cells 2 p < length cells
    → All (λ run. has_index (along cells 2 p) run ≡ has_index p run) (index_runs cells)
unfolding index_runs
held_same cells cut p here next =
    All-map (λ run. has_index (along cells 2 p) run ≡ has_index p run) (run_at cells) (firsts_below cells (length cells))
    (λ k d there.
    let f : ℕ = get_or (firsts_below cells (length cells)) k d in
    let small : f < length cells = firsts_small cells (length cells) k d there in
    let past = begins_past cells cut f small (firsts_begin cells (length cells) k d there) in
    held_with cells cut p f here next small
    ∙ ap (λ b. b || has_index p (run_at cells f))
    (ne_eqb f (along cells 2 p) (λ (e : f ≡ along cells 2 p). omega (arith, past, here, ap (along cells 0) e, follows_back cells cut p here next))))

pub owner_after : (cells : List Cell) → IsCut cells → (p : ℕ) → p < length cells → along cells 2 p < length cells
    → owner_of cells (along cells 2 p) ≡ owner_of cells p
owner_after cells cut p here next =
    position_same (has_index (along cells 2 p)) (has_index p) (index_runs cells) (held_same cells cut p here next)

-- a range in two parts
pub range_split : (first m n : ℕ) → range_with_len first (m + n) ≡ range_with_len first m ++ range_with_len (first + m) n
range_split first zero n = ap (λ k. range_with_len first k) {x = 0 + n} {y = n} (omega arith) ∙ ap (λ k. range_with_len k n) {x = first} {y = first + 0} (omega arith)
range_split first (suc m) n =
    ap (λ k. range_with_len first k) {x = suc m + n} {y = suc (m + n)} (omega arith)
    ∙ ap (λ (xs : List ℕ). first ∷ xs) (range_split (first + 1) m n)
    ∙ ap (λ k. range_with_len first (suc m) ++ range_with_len k n) {x = (first + 1) + m} {y = first + suc m} (omega arith)

-- the first cells before a cell at which a strip begins, that cell, and those after it
pub firsts_around : (cells : List Cell) (i : ℕ) → i < length cells → begins_at cells i ≡ true
    → firsts_below cells (length cells) ≡ firsts_below cells i ++ i ∷ filter (begins_at cells) (range_with_len (i + 1) (length cells - (i + 1)))
firsts_around cells i there begins =
    ap (λ n. firsts_below cells n) {x = length cells} {y = i + suc (length cells - (i + 1))} (omega (arith, there))
    ∙ ap (filter (begins_at cells)) (range_split 0 i (suc (length cells - (i + 1))))
    ∙ ap (λ k. filter (begins_at cells) (range_with_len 0 i ++ range_with_len k (suc (length cells - (i + 1))))) {x = 0 + i} {y = i} (omega arith)
    ∙ filter-append (begins_at cells) (range_with_len 0 i) (i ∷ range_with_len (i + 1) (length cells - (i + 1)))
    ∙ ap (λ (xs : List ℕ). firsts_below cells i ++ xs)
    (cond-true (begins_at cells i) (i ∷ filter (begins_at cells) (range_with_len (i + 1) (length cells - (i + 1)))) (filter (begins_at cells) (range_with_len (i + 1) (length cells - (i + 1)))) begins)

-- where its first cell stands among them
first_place : (cells : List Cell) (i : ℕ) → i < length cells → begins_at cells i ≡ true
    → position_or_len (λ f. f == i) (firsts_below cells (length cells)) ≡ length (firsts_below cells i)
first_place cells i there begins =
    let rest : List ℕ = filter (begins_at cells) (range_with_len (i + 1) (length cells - (i + 1))) in
    let before : List ℕ = firsts_below cells i in
    ap (position_or_len (λ f. f == i)) (firsts_around cells i there begins)
    ∙ position_or_len_is (λ f. f == i) (before ++ i ∷ rest) (length before) 0
    (omega (arith, length-append before (i ∷ rest)))
    (λ k less. ap (λ f. f == i) (get_or_append_left before (i ∷ rest) 0 k less)
    ∙ ne_eqb _ _ (λ (e : get_or before k 0 ≡ i). omega (arith, e, firsts_small cells i k 0 less)))
    (λ _. eq-eqb _ _ (get_or_at before i rest 0 (length before) refl))

pub position_map : {A B : Type 0} (p : B → Bool) (q : A → Bool) (f : A → B) (xs : List A) → All (λ x. p (f x) ≡ q x) xs
    → position_or_len p (map f xs) ≡ position_or_len q xs
position_map p q f [] each = refl
position_map p q f (x ∷ xs) each =
    let here = All-head (λ y. p (f y) ≡ q y) x xs each in
    let rest = position_map p q f xs (All-tail (λ y. p (f y) ≡ q y) x xs each) in
    cc

-- the strips that hold a cell at which a strip begins
pub owner_place : (cells : List Cell) → IsCut cells → (i : ℕ) → i < length cells → length cells ≤ along cells 0 i
    → owner_of cells i ≡ position_or_len (λ f. f == i) (firsts_below cells (length cells))
unfolding index_runs
owner_place cells cut i there past =
    position_map (has_index i) (λ f. f == i) (run_at cells) (firsts_below cells (length cells))
    (λ k d there'. held_alone cells cut i (get_or (firsts_below cells (length cells)) k d) there past (firsts_small cells (length cells) k d there'))

pub owner_first : (cells : List Cell) → IsCut cells → (i : ℕ) → i < length cells → length cells ≤ along cells 0 i
    → owner_of cells i ≡ length (firsts_below cells i)
owner_first cells cut i there past = owner_place cells cut i there past ∙ first_place cells i there (begins_true cells cut i there past)

pub run_count : (cells : List Cell) → length (index_runs cells) ≡ length (firsts_below cells (length cells))
unfolding index_runs
run_count cells = length-map (firsts_below cells (length cells)) (run_at cells)

-- each cell stands in a strip
owner_below : (cells : List Cell) → IsCut cells → (n i : ℕ) → i < n → i < length cells → owner_of cells i < length (index_runs cells)
owner_below cells cut zero i small there = absurd (omega (arith, small))
owner_below cells cut (suc n) i small there =
    elim (cases_lt (along cells 0 i) (length cells)) [
      | inl inside ↦
          let less = along_before cells cut.rules i there inside in
          let back = followed_back cells cut i there inside in
          let next : along cells 2 (along cells 0 i) < length cells = omega (arith, back, there) in
          let same : owner_of cells (along cells 2 (along cells 0 i)) ≡ owner_of cells (along cells 0 i) = owner_after cells cut (along cells 0 i) inside next in
          let here : owner_of cells i ≡ owner_of cells (along cells 2 (along cells 0 i)) = ap (owner_of cells) (sym back) in
          let further = owner_below cells cut n (along cells 0 i) (omega (arith, less, small)) inside in
          omega (arith, here, same, further)
      | inr past ↦
          let is = owner_first cells cut i there past in
          let around = ap length (firsts_around cells i there (begins_true cells cut i there past))
          ∙ length-append (firsts_below cells i) (i ∷ filter (begins_at cells) (range_with_len (i + 1) (length cells - (i + 1)))) in
          omega (arith, is, around, run_count cells)
    ]

pub owner_there : (cells : List Cell) → IsCut cells → (i : ℕ) → i < length cells → owner_of cells i < length (index_runs cells)
owner_there cells cut i there = owner_below cells cut (i + 1) i (omega arith) there
