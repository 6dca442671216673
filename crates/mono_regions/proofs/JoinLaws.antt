-- Which strips join which, from what the scans over their cells saw.
use Rattle.std.proofs.Common.{◌≡◌, ℕ, ◌<◌, ◌≤◌, Bool, true, false, length, List, map, get_or, ap, ◌∙◌, sym, refl, subst, arith, inl, inr, Option, Some, None}
use Rattle.std.specs.Prelude.{not, slice_get}
use Rattle.std.specs.List.{find, list_any, range_with_len, position_or_len}
use Rattle.std.proofs.lemmas.Bool.{cases_lt, eqb-true, eq-eqb, and_parts, both_ways, false_from_ne_true}
use Rattle.std.proofs.lemmas.List.Folds.{find_at, fold-map, list_any_at, list_any_none}
use Rattle.std.proofs.lemmas.List.FromFn.{get_or-map-range_with_len, get_or-range_with_len, length-range_with_len}
use Rattle.std.proofs.lemmas.List.Sums.{passes_at_first}
use Rattle.std.proofs.lemmas.Option.{slice_get-get_or, slice_get_past}
use Rattle.nav_ground.specs.declared.cell.Cell.{Cell}
use Rattle.nav_ground.specs.Cells.{IsCut}
use Rattle.nav_ground.proofs.Found.{find_none}
use Rattle.cell_table.proofs.Places.{same_test}
use Rattle.mesh_types.specs.StripPolygons.{strip_runs}
use Rattle.mesh_types.specs.Regions.{numbers, joins, begins_region}
use Rattle.mono_regions.specs.declared.touching.SeenStrips.{SeenStrips}
use Rattle.mono_regions.specs.declared.touching.SeenStrips.TheVariants.{Nothing, One, Several}
use Rattle.mono_regions.specs.Seeing.{beyond, seen_with, is_one, IsSeenAmong}
use Rattle.mono_regions.specs.Joining.{indices_of, touched_from, joined_from, is_unjoined, names}
use Rattle.mono_regions.proofs.Found.{position_only}
use Rattle.mono_regions.proofs.Scans.{any_where, is_alone, seen_alone}
use Rattle.mono_regions.proofs.Owners.{run_count, few_firsts}
use Rattle.mono_regions.proofs.Touches.{strip_count, beyond_all, all_small, joins_is}

-- the number of an answer
pub named_some : (t : ℕ) (o : Option ℕ) → names t o ≡ true → o ≡ Some t
named_some t None named = absurd (both_ways false refl named)
named_some t (Some u) named = ap (λ (n : ℕ). Some n) (eqb-true u t named)

-- two answers are one
pub same_number : (a b : ℕ) → Some a ≡ Some b → a ≡ b
same_number a b e = eqb-true a b (ap (names b) e ∙ eq-eqb b b refl)

pub one_alone : (seen : SeenStrips) (t u : ℕ) → is_one t seen ≡ true → is_one u seen ≡ true → u ≡ t
one_alone Nothing t u first second = absurd (both_ways false refl first)
one_alone (One v) t u first second = sym (eqb-true v u second) ∙ eqb-true v t first
one_alone Several t u first second = absurd (both_ways false refl first)

-- the first number of a range that passes, where it is the only one
pub find_only : (p : ℕ → Bool) (n t : ℕ) → t < n → p t ≡ true → ((u : ℕ) → u < n → p u ≡ true → u ≡ t) → find p (range_with_len 0 n) ≡ Some t
find_only p n t there passes only =
    let xs : List ℕ = range_with_len 0 n in
    let many : length xs ≡ n = length-range_with_len 0 n in
    let at : (k : ℕ) → k < n → get_or xs k 0 ≡ k = λ k small. get_or-range_with_len 0 n k 0 small ∙ omega arith in
    let P : ℕ → Type 0 = λ k. p k ≡ true in
    let first : position_or_len p xs ≡ t =
    position_only p xs t 0 (omega (arith, there, many)) (subst P (sym (at t there)) passes)
    (λ k inside h. let small : k < n = omega (arith, inside, many) in only k small (subst P (at k small) h)) in
    find_at p xs ∙ ap (slice_get xs) first ∙ slice_get-get_or xs t 0 (omega (arith, there, many)) ∙ ap (λ (k : ℕ). Some k) (at t there)

-- what is found passes
pub find_passes : (p : ℕ → Bool) (n t : ℕ) → find p (range_with_len 0 n) ≡ Some t → (t < n) × (p t ≡ true)
find_passes p n t found =
    let xs : List ℕ = range_with_len 0 n in
    let many : length xs ≡ n = length-range_with_len 0 n in
    let first : ℕ = position_or_len p xs in
    elim (cases_lt first (length xs)) [
      | inl inside ↦
          let small : first < n = omega (arith, inside, many) in
          let at : get_or xs first 0 ≡ first = get_or-range_with_len 0 n first 0 small ∙ omega arith in
          let is : t ≡ first = same_number t first (sym found ∙ find_at p xs ∙ slice_get-get_or xs first 0 inside ∙ ap (λ (k : ℕ). Some k) at) in
          let P : ℕ → Type 0 = λ k. p k ≡ true in
          (omega (arith, small, is), subst P (at ∙ sym is) (passes_at_first p xs 0 inside))
      | inr past ↦ absurd (none t (sym found ∙ find_at p xs ∙ slice_get_past xs first past))
    ]
  where
    none : (a : ℕ) → Some a ≡ None → ⊥
    none a e = both_ways (names a (Some a)) (ap (names a) e) (eq-eqb a a refl)

-- a strip that was seen alone is a strip
pub one_small : (cells : List Cell) (dir s u : ℕ) → touched_from cells dir s ≡ One u → u < length (strip_runs cells)
one_small cells dir s u is =
    let xs : List (Option ℕ) = beyond_all cells dir s in
    let alone : is_alone u xs ≡ true =
    sym (seen_alone u xs) ∙ ap (is_one u) (fold-map seen_with (beyond cells dir) Nothing (indices_of cells s)) ∙ ap (is_one u) is ∙ eq-eqb u u refl in
    let w = any_where (names u) xs None (and_parts _ _ alone).0 in
    all_small cells dir s w.0 u w.1 (named_some u (get_or xs w.0 None) w.2)

-- who joins was seen alone, on both sides
pub joins_above : (cells : List Cell) → IsCut cells → (s t : ℕ) → s < length (strip_runs cells) → t < length (strip_runs cells)
    → joins (strip_runs cells) s t ≡ true → is_one t (touched_from cells 1 s) ≡ true
joins_above cells cut s t here there h = (and_parts _ _ (and_parts _ _ (and_parts _ _ (sym (joins_is cells cut s t here there) ∙ h)).0).0).0

pub joins_below : (cells : List Cell) → IsCut cells → (s t : ℕ) → s < length (strip_runs cells) → t < length (strip_runs cells)
    → joins (strip_runs cells) s t ≡ true → is_one s (touched_from cells 3 t) ≡ true
joins_below cells cut s t here there h = (and_parts _ _ (and_parts _ _ (and_parts _ _ (sym (joins_is cells cut s t here there) ∙ h)).0).0).1

pub joined_one : (cells : List Cell) → IsCut cells → (s t : ℕ) → s < length (strip_runs cells) → t < length (strip_runs cells)
    → joins (strip_runs cells) s t ≡ true → joined_from (strip_runs cells) s ≡ Some t
joined_one cells cut s t here there h =
    find_only (joins (strip_runs cells) s) (length (strip_runs cells)) t there h
    (λ u small h'. one_alone (touched_from cells 1 s) t u (joins_above cells cut s t here there h) (joins_above cells cut s u here small h'))

pub joined_back : (cells : List Cell) (s t : ℕ) → joined_from (strip_runs cells) s ≡ Some t
    → (t < length (strip_runs cells)) × (joins (strip_runs cells) s t ≡ true)
joined_back cells s t is = find_passes (joins (strip_runs cells) s) (length (strip_runs cells)) t is

pub joined_none : (cells : List Cell) (s : ℕ) → ((t : ℕ) → t < length (strip_runs cells) → joins (strip_runs cells) s t ≡ false)
    → joined_from (strip_runs cells) s ≡ None
joined_none cells s none =
    find_none (joins (strip_runs cells) s) (numbers (strip_runs cells))
    (λ k d inside.
    let small : k < length (strip_runs cells) = omega (arith, inside, length-range_with_len 0 (length (strip_runs cells))) in
    none (get_or (numbers (strip_runs cells)) k d) (omega (arith, small, get_or-range_with_len 0 (length (strip_runs cells)) k d small)))

-- the strip that was seen alone is the only one that may be joined
pub joined_else : (cells : List Cell) → IsCut cells → (s t : ℕ) → s < length (strip_runs cells) → touched_from cells 1 s ≡ One t
    → joins (strip_runs cells) s t ≡ false → joined_from (strip_runs cells) s ≡ None
joined_else cells cut s t here seen apart =
    joined_none cells s (λ u small. false_from_ne_true (joins (strip_runs cells) s u) (λ h.
    let same : t ≡ u = eqb-true t u (sym (ap (is_one u) seen) ∙ joins_above cells cut s u here small h) in
    both_ways _ apart (ap (joins (strip_runs cells) s) same ∙ h)))

pub joined_unseen : (cells : List Cell) → IsCut cells → (s : ℕ) → s < length (strip_runs cells)
    → ((t : ℕ) → is_one t (touched_from cells 1 s) ≡ false) → joined_from (strip_runs cells) s ≡ None
joined_unseen cells cut s here unseen =
    joined_none cells s (λ u small. false_from_ne_true (joins (strip_runs cells) s u) (λ h. both_ways _ (unseen u) (joins_above cells cut s u here small h)))

-- a strip is joined by the one that it alone touches below, or by none
pub begins_one : (cells : List Cell) → IsCut cells → (r t : ℕ) → t < length (strip_runs cells) → touched_from cells 3 t ≡ One r
    → names t (joined_from (strip_runs cells) r) ≡ list_any (λ s. joins (strip_runs cells) s t) (numbers (strip_runs cells))
begins_one cells cut r t there seen =
    let runs : List (List Cell) = strip_runs cells in
    let p : ℕ → Bool = λ s. joins runs s t in
    let small : r < length runs = one_small cells 3 t r seen in
    let many : length (numbers runs) ≡ length runs = length-range_with_len 0 (length runs) in
    let P : ℕ → Type 0 = λ s. p s ≡ true in
    same_test _ _
    (λ h.
    let at : get_or (numbers runs) r 0 ≡ r = get_or-range_with_len 0 (length runs) r 0 small ∙ omega arith in
    list_any_at p (numbers runs) r 0 (omega (arith, small, many)) (subst P (sym at) (joined_back cells r t (named_some t (joined_from runs r) h)).1))
    (λ h.
    let w = any_where p (numbers runs) 0 h in
    let small' : w.0 < length runs = omega (arith, w.1, many) in
    let at : get_or (numbers runs) w.0 0 ≡ w.0 = get_or-range_with_len 0 (length runs) w.0 0 small' ∙ omega arith in
    let joined : joins runs w.0 t ≡ true = subst P at w.2 in
    let same : r ≡ w.0 = eqb-true r w.0 (sym (ap (is_one w.0) seen) ∙ joins_below cells cut w.0 t small' there joined) in
    ap (names t) (ap (joined_from runs) same ∙ joined_one cells cut w.0 t small' there joined) ∙ eq-eqb t t refl)

pub begins_unseen : (cells : List Cell) → IsCut cells → (t : ℕ) → t < length (strip_runs cells)
    → ((s : ℕ) → is_one s (touched_from cells 3 t) ≡ false) → list_any (λ s. joins (strip_runs cells) s t) (numbers (strip_runs cells)) ≡ false
begins_unseen cells cut t there unseen =
    let runs : List (List Cell) = strip_runs cells in
    list_any_none (λ s. joins runs s t) (numbers runs)
    (λ k d inside.
    let small : k < length runs = omega (arith, inside, length-range_with_len 0 (length runs)) in
    let s : ℕ = get_or (numbers runs) k d in
    let small' : s < length runs = omega (arith, small, get_or-range_with_len 0 (length runs) k d small) in
    false_from_ne_true (joins runs s t) (λ h. both_ways _ (unseen s) (joins_below cells cut s t small' there h)))

-- the value of a table at a number
pub number_of : {A : Type 0} (f : ℕ → A) (table : List A) (n k : ℕ) (d : A) {a : A} → table ≡ map f (range_with_len 0 n) → k < n → get_or table k d ≡ a → f k ≡ a
number_of f table n k d are there is = sym (ap (λ xs. get_or xs k d) are ∙ get_or-map-range_with_len f 0 n k k d there (omega arith)) ∙ is

-- there are few strips
pub strips_few : (cells : List Cell) → IsCut cells → length (strip_runs cells) ≤ 2000000
strips_few cells cut =
    omega (arith, strip_count cells, run_count cells, few_firsts cells (length cells), cut.rules.few)

-- so a region begins at it
pub begins_is : (cells : List Cell) → IsCut cells → (joined : List (Option ℕ)) (seen : SeenStrips) (t : ℕ) → joined ≡ map (joined_from (strip_runs cells)) (numbers (strip_runs cells))
    → t < length (strip_runs cells) → touched_from cells 3 t ≡ seen → is_unjoined joined t seen ≡ begins_region (strip_runs cells) t
begins_is cells cut joined Nothing t are there is = ap not (sym (begins_unseen cells cut t there (λ s. ap (is_one s) is)))
begins_is cells cut joined (One r) t are there is =
    let small = one_small cells 3 t r is in
    ap not (ap (names t) (sym (number_of (joined_from (strip_runs cells)) joined _ r None are small refl)) ∙ begins_one cells cut r t there is)
begins_is cells cut joined Several t are there is = ap not (sym (begins_unseen cells cut t there (λ s. ap (is_one s) is)))

pub seen_among : (cells : List Cell) (dir t count : ℕ) (seen : SeenStrips) → touched_from cells dir t ≡ seen → count ≡ length (strip_runs cells) → IsSeenAmong count seen
seen_among cells dir t count Nothing is many = tt
seen_among cells dir t count (One u) is many = omega (arith, one_small cells dir t u is, many)
seen_among cells dir t count Several is many = tt
