-- Lists that are read or looked at front by front.
use Rattle.std.proofs.Common.{◌≡◌, ℕ, suc, ◌+◌, ◌-◌, ◌≤◌, ◌<◌, List, [], ◌∷◌, ◌++◌, length, get_or, drop, take, w32, refl, sym, ap, ◌∙◌, subst, arith, append_assoc, ⊎_elim}
use Rattle.std.specs.Prelude.{All}
use Rattle.std.specs.Int.{from_le_bytes}
use Rattle.std.proofs.lemmas.Bool.{cases_eq}
use Rattle.std.proofs.lemmas.List.{append-nil, get_or-take, length-take}
use Rattle.std.proofs.lemmas.Option.{get_or_from_slice_get, slice_get-get_or}
use Rattle.registry_format.specs.Reading.{row_of, rows_of, words_in}
use Rattle.registry_format.specs.declared.saved.SavedObstacle.{SavedObstacle}

-- an element that is there is the same, whatever stands for those that are not
pub same_at : {A : Type 0} (xs : List A) (i : ℕ) (d e : A) → i < length xs → get_or xs i d ≡ get_or xs i e
same_at xs i d e there = get_or_from_slice_get xs i (get_or xs i e) d (slice_get-get_or xs i e there)

-- one more has a property
pub all_more : {A : Type 0} (P : A → Type 0) (xs : List A) (i : ℕ) → i < length xs → All P (take i xs) → ((d : A) → P (get_or xs i d)) → All P (take (i + 1) xs)
all_more P xs i there all last k d within =
    let below : k < i + 1 = omega (arith, within, length-take (i + 1) xs) in
    subst P (sym (get_or-take (i + 1) xs k d below))
    (⊎_elim
    (λ same. subst (λ n. P (get_or xs n d)) (sym same) (last d))
    (λ apart.
    let inside : k < i = omega (arith, below, apart) in
    subst P (get_or-take i xs k d inside) (all k d (omega (arith, inside, length-take i xs, there))))
    (cases_eq k i))

-- one more row is read
pub rows_read : (rows new : List SavedObstacle) (count i : ℕ) (rest after : List ℕ) (total : List SavedObstacle) → i < count
    → rows ++ rows_of (count - i) rest ≡ total → new ≡ rows ++ row_of rest ∷ [] → after ≡ drop 21 rest → new ++ rows_of (count - (i + 1)) after ≡ total
unfolding rows_of
rows_read rows new count i rest after total below so_far made past =
    let k : count - i ≡ suc (count - (i + 1)) = omega arith in
    (λ j. made j ++ rows_of (count - (i + 1)) (past j))
    ∙ append_assoc rows (row_of rest ∷ []) (rows_of (count - (i + 1)) (drop 21 rest))
    ∙ sym (ap (λ n. rows ++ rows_of n rest) k) ∙ so_far

pub rows_done : (rows : List SavedObstacle) (count i : ℕ) (rest : List ℕ) (total : List SavedObstacle) → count ≤ i → rows ++ rows_of (count - i) rest ≡ total
    → rows ≡ total
unfolding rows_of
rows_done rows count i rest total past so_far =
    let k : count - i ≡ 0 = omega arith in
    sym (append-nil rows) ∙ sym (ap (λ n. rows ++ rows_of n rest) k) ∙ so_far

-- one more word is read
pub words_read : (words new : List ℕ) (count i : ℕ) (rest after : List ℕ) (total : List ℕ) → i < count
    → words ++ words_in (count - i) rest ≡ total → new ≡ words ++ from_le_bytes w32 (take 4 rest) ∷ [] → after ≡ drop 4 rest
    → new ++ words_in (count - (i + 1)) after ≡ total
unfolding words_in
words_read words new count i rest after total below so_far made past =
    let k : count - i ≡ suc (count - (i + 1)) = omega arith in
    (λ j. made j ++ words_in (count - (i + 1)) (past j))
    ∙ append_assoc words (from_le_bytes w32 (take 4 rest) ∷ []) (words_in (count - (i + 1)) (drop 4 rest))
    ∙ sym (ap (λ n. words ++ words_in n rest) k) ∙ so_far

pub words_done : (words : List ℕ) (count i : ℕ) (rest total : List ℕ) → count ≤ i → words ++ words_in (count - i) rest ≡ total → words ≡ total
unfolding words_in
words_done words count i rest total past so_far =
    let k : count - i ≡ 0 = omega arith in
    sym (append-nil words) ∙ sym (ap (λ n. words ++ words_in n rest) k) ∙ so_far

-- four elements are a list of four
pub four_cells : (bytes : List ℕ) → length bytes ≡ 4 → get_or bytes 0 0 ∷ get_or bytes 1 0 ∷ get_or bytes 2 0 ∷ get_or bytes 3 0 ∷ [] ≡ bytes
four_cells [] four = absurd (omega (arith, four))
four_cells (a ∷ []) four = absurd (omega (arith, four))
four_cells (a ∷ b ∷ []) four = absurd (omega (arith, four))
four_cells (a ∷ b ∷ c ∷ []) four = absurd (omega (arith, four))
four_cells (a ∷ b ∷ c ∷ d ∷ []) four = refl
four_cells (a ∷ b ∷ c ∷ d ∷ e ∷ more) four = absurd (omega (arith, four))

-- two rows that are there have their ids, whatever stands for those that are not
pub before_at : (rows : List SavedObstacle) (i j : ℕ) (d e f : SavedObstacle) → i < length rows → j < length rows
    → (get_or rows i d).id < (get_or rows j e).id → (get_or rows i f).id < (get_or rows j f).id
before_at rows i j d e f there within before =
    omega (arith, before, ap (λ (r : SavedObstacle). r.id) (same_at rows i d f there), ap (λ (r : SavedObstacle). r.id) (same_at rows j e f within))
