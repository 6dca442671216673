-- The strips of cells as their cells are marked, one strip after the other.
use Rattle.std.proofs.Common.{◌≡◌, ℕ, ◌+◌, ◌-◌, ◌<◌, ◌≤◌, Bool, true, false, length, List, [], ◌∷◌, ◌++◌, map, filter, get_or, set, replicate, ap, ◌∙◌, sym, refl, arith, zero, suc, inl, inr, ◌⊎◌}
use Rattle.std.specs.Prelude.{◌==◌, ◌||◌, nat_lt, if◌then◌else◌}
use Rattle.std.specs.List.{range_with_len}
use Rattle.std.proofs.lemmas.Bool.{cases_lt, cases_eq, lt-ltb, le-ltb, cond-true, cond-false, ne_eqb, eq-eqb, or_left}
use Rattle.std.proofs.lemmas.List.{get_or-set_same, get_or-set_other, length-set, length-append, get_or-replicate, length-replicate, get_or_default, get_or_at, same_lists}
use Rattle.std.proofs.lemmas.List.Elements.{filter-append}
use Rattle.std.proofs.lemmas.List.FromFn.{get_or-map-range_with_len, length-map-range_with_len}
use Rattle.nav_ground.specs.declared.cell.Cell.{Cell}
use Rattle.nav_ground.specs.Cells.{IsCells, IsCut}
use Rattle.mono_regions.specs.Indices.{along, run_at, begins_at, firsts_below, index_runs, has_index, owner_of, IsMarkedWith}
use Rattle.mono_regions.proofs.Chains.{along_before, followed_back}
use Rattle.mono_regions.proofs.Walks.{rest_from, run_step}
use Rattle.mono_regions.proofs.Owners.{begins_true, begins_false, one_first, no_first, few_firsts, owner_first, owner_after, owner_there, run_count, range_split, firsts_around}
use Rattle.mono_regions.proofs.StripLaws.{run_with_number}
use Rattle.mono_regions.proofs.Touches.{held_by}

-- the number of a cell's strip, where it is one of those that begin among the first so many cells, else how many cells there are
abbrev pub owner_until : List Cell → ℕ → ℕ → ℕ
owner_until cells n k = if nat_lt (owner_of cells k) (length (firsts_below cells n)) then owner_of cells k else length cells

abbrev pub owners_until : List Cell → ℕ → List ℕ
owners_until cells n = map (owner_until cells n) (range_with_len 0 (length cells))

-- while a strip is walked: once a number stands at what is left of it too, it stands at all of it, and elsewhere what stood there
pub record IsMarking (cells : List Cell) (first at number : ℕ) (old now : List ℕ) : Type 0 where
  pub same : length now ≡ length old
  pub left : (k : ℕ) → k < length old
      → (if has_index k (rest_from cells at) then number else get_or now k 0) ≡ (if has_index k (run_at cells first) then number else get_or old k 0)

pub marking_begins : (cells : List Cell) (first number : ℕ) (old : List ℕ) → first < length cells → IsMarking cells first first number old old
marking_begins cells first number old there = record {
  same = refl;
  left = λ k _. ap (λ (run : List ℕ). if has_index k run then number else get_or old k 0) (cond-true (nat_lt first (length cells)) (run_at cells first) [] (lt-ltb _ _ there));
}

either_way : (b : Bool) (number x : ℕ) → x ≡ number → (if b then number else x) ≡ number
either_way true number x is = refl
either_way false number x is = is

pub marking_more : (cells : List Cell) → IsCells cells → (first at next number : ℕ) (old now new : List ℕ) → at < length cells → next ≡ along cells 2 at
    → length old ≡ length cells → new ≡ set now at number → IsMarking cells first at number old now → IsMarking cells first next number old new
marking_more cells rules' first at next number old now new there is count written before = record {
  same = ap length written ∙ length-set now at number ∙ before.same;
  left = λ k small. step k small (cases_eq k at) ∙ before.left k small;
}
  where
    rest : List ℕ
    rest = rest_from cells next

    here : rest_from cells at ≡ at ∷ rest
    here =
        cond-true (nat_lt at (length cells)) (run_at cells at) [] (lt-ltb _ _ there)
        ∙ run_step cells rules' at there ∙ ap (λ n. at ∷ rest_from cells n) (sym is)

    step : (k : ℕ) → k < length old → (k ≡ at) ⊎ (k ≡ at → ⊥)
        → (if has_index k rest then number else get_or new k 0) ≡ (if has_index k (rest_from cells at) then number else get_or now k 0)
    step k small (inl same) =
        let value : get_or new k 0 ≡ number =
        ap (λ (xs : List ℕ). get_or xs k 0) written ∙ ap (λ n. get_or (set now at number) n 0) same
        ∙ get_or-set_same now at number 0 (omega (arith, there, count, before.same)) in
        either_way (has_index k rest) number (get_or new k 0) value
        ∙ sym (cond-true ((at == k) || has_index k rest) number (get_or now k 0) (or_left (at == k) (has_index k rest) (eq-eqb at k (sym same))))
        ∙ ap (λ (run : List ℕ). if has_index k run then number else get_or now k 0) (sym here)
    step k small (inr apart) =
        let value : get_or new k 0 ≡ get_or now k 0 = ap (λ (xs : List ℕ). get_or xs k 0) written ∙ get_or-set_other now at k number 0 apart in
        ap (λ n. if has_index k rest then number else n) value
        ∙ ap (λ b. if b || has_index k rest then number else get_or now k 0) (sym (ne_eqb at k (λ (e : at ≡ k). apart (sym e))))
        ∙ ap (λ (run : List ℕ). if has_index k run then number else get_or now k 0) (sym here)

pub marking_ends : (cells : List Cell) (first at number : ℕ) (old now : List ℕ) → length cells ≤ at → IsMarking cells first at number old now
    → IsMarkedWith (run_at cells first) number old now
marking_ends cells first at number old now past before = record {
  same = before.same;
  each = λ k small.
      ap (λ (run : List ℕ). if has_index k run then number else get_or now k 0) (sym (cond-false (nat_lt at (length cells)) (run_at cells at) [] (le-ltb _ _ past)))
      ∙ before.left k small;
}

-- among more cells begin no fewer strips
firsts_more : (cells : List Cell) (m n : ℕ) → m ≤ n → length (firsts_below cells m) ≤ length (firsts_below cells n)
firsts_more cells m n most =
    let rest : List ℕ = filter (begins_at cells) (range_with_len (0 + m) (n - m)) in
    let parts : firsts_below cells n ≡ firsts_below cells m ++ rest =
    ap (firsts_below cells) {x = n} {y = m + (n - m)} (omega (arith, most))
    ∙ ap (filter (begins_at cells)) (range_split 0 m (n - m))
    ∙ filter-append (begins_at cells) (range_with_len 0 m) (range_with_len (0 + m) (n - m)) in
    omega (arith, ap length parts, length-append (firsts_below cells m) rest)

pub one_strip_more : (cells : List Cell) (n : ℕ) → begins_at cells n ≡ true → length (firsts_below cells (n + 1)) ≡ length (firsts_below cells n) + 1
one_strip_more cells n begins = ap length (one_first cells n begins) ∙ length-append (firsts_below cells n) (n ∷ [])

-- the strip of a cell begins not after it
owner_early : (cells : List Cell) → IsCut cells → (n i : ℕ) → i < n → i < length cells → owner_of cells i < length (firsts_below cells (i + 1))
owner_early cells cut zero i small there = absurd (omega (arith, small))
owner_early cells cut (suc n) i small there =
    elim (cases_lt (along cells 0 i) (length cells)) [
      | inl inside ↦
          let p : ℕ = along cells 0 i in
          let less : p < i = along_before cells cut.rules i there inside in
          let back = followed_back cells cut i there inside in
          let next : along cells 2 p < length cells = omega (arith, back, there) in
          let same : owner_of cells i ≡ owner_of cells p = ap (owner_of cells) (sym back) ∙ owner_after cells cut p inside next in
          let further = owner_early cells cut n p (omega (arith, less, small)) inside in
          omega (arith, same, further, firsts_more cells (p + 1) (i + 1) (omega (arith, less)))
      | inr past ↦ omega (arith, owner_first cells cut i there past, one_strip_more cells i (begins_true cells cut i there past))
    ]

-- a strip begins at a cell exactly where none that began before holds it
pub begins_unowned : (cells : List Cell) → IsCut cells → (n : ℕ) → n < length cells → owner_until cells n n ≡ length cells → begins_at cells n ≡ true
begins_unowned cells cut n there none =
    elim (cases_lt (along cells 0 n) (length cells)) [
      | inl inside ↦
          let early = owner_early cells cut (n + 1) n (omega arith) there in
          let less : owner_of cells n < length (firsts_below cells n) = omega (arith, early, ap length (no_first cells n (begins_false cells cut n there inside))) in
          absurd (omega (
            arith,
            sym (cond-true (nat_lt (owner_of cells n) (length (firsts_below cells n))) (owner_of cells n) (length cells) (lt-ltb _ _ less)) ∙ none,
            owner_there cells cut n there,
            run_count cells,
            few_firsts cells (length cells),
          ))
      | inr past ↦ begins_true cells cut n there past
    ]

pub begins_owned : (cells : List Cell) → IsCut cells → (n : ℕ) → n < length cells → (owner_until cells n n ≡ length cells → ⊥) → begins_at cells n ≡ false
begins_owned cells cut n there some =
    elim (cases_lt (along cells 0 n) (length cells)) [
      | inl inside ↦ begins_false cells cut n there inside
      | inr past ↦ absurd (some (cond-false (nat_lt (owner_of cells n) (length (firsts_below cells n))) (owner_of cells n) (length cells)
          (le-ltb _ _ (omega (arith, owner_first cells cut n there past)))))
    ]

-- what the code reads
pub owner_read : (cells : List Cell) (n d : ℕ) (owners : List ℕ) → n < length cells → owners ≡ owners_until cells n → get_or owners n d ≡ owner_until cells n n
owner_read cells n d owners there is =
    ap (λ (xs : List ℕ). get_or xs n d) is ∙ get_or-map-range_with_len (owner_until cells n) 0 (length cells) n n d there (omega arith)

pub owners_length : (cells : List Cell) (n : ℕ) (owners : List ℕ) → owners ≡ owners_until cells n → length owners ≡ length cells
owners_length cells n owners is = ap length is ∙ length-map-range_with_len (owner_until cells n) 0 (length cells)

-- at first no cell has a strip
pub no_owners : (cells : List Cell) (owners : List ℕ) → owners ≡ replicate (length cells) (length cells) → owners ≡ owners_until cells 0
no_owners cells owners is =
    is ∙ same_lists (replicate (length cells) (length cells)) (owners_until cells 0)
    (length-replicate (length cells) (length cells) ∙ sym (length-map-range_with_len (owner_until cells 0) 0 (length cells)))
    (λ k d there.
    let there' : k < length cells = omega (arith, there, length-replicate (length cells) (length cells)) in
    get_or-replicate (length cells) k (length cells) d there'
    ∙ sym (cond-false (nat_lt (owner_of cells k) (length (firsts_below cells 0))) (owner_of cells k) (length cells) (le-ltb _ _ (omega (arith, few_firsts cells 0))))
    ∙ sym (get_or-map-range_with_len (owner_until cells 0) 0 (length cells) k k d there' (omega arith)))

-- the strip that begins at a cell, by its number
strip_there : (cells : List Cell) → (n : ℕ) → n < length cells → begins_at cells n ≡ true
    → (length (firsts_below cells n) < length (index_runs cells)) × (get_or (index_runs cells) (length (firsts_below cells n)) [] ≡ run_at cells n)
strip_there cells n there begins =
    let number : ℕ = length (firsts_below cells n) in
    let rest : List ℕ = filter (begins_at cells) (range_with_len (n + 1) (length cells - (n + 1))) in
    let around = firsts_around cells n there begins in
    let small : number < length (index_runs cells) =
    omega (arith, run_count cells, ap length around, length-append (firsts_below cells n) (n ∷ rest)) in (
      small,
      run_with_number cells number small
          ∙ ap (run_at cells) (ap (λ (fs : List ℕ). get_or fs number 0) around ∙ get_or_at (firsts_below cells n) n rest 0 number refl),
    )

-- one strip more
pub strip_marked : (cells : List Cell) → IsCut cells → (n number : ℕ) (old new : List ℕ) → n < length cells → begins_at cells n ≡ true
    → number ≡ length (firsts_below cells n) → old ≡ owners_until cells n → IsMarkedWith (run_at cells n) number old new → new ≡ owners_until cells (n + 1)
strip_marked cells cut n number old new there begins is old_is marked =
    let count : length old ≡ length cells = owners_length cells n old old_is in
    same_lists new (owners_until cells (n + 1)) (marked.same ∙ count ∙ sym (length-map-range_with_len (owner_until cells (n + 1)) 0 (length cells)))
    (λ k d small.
    let small' : k < length old = omega (arith, small, marked.same) in
    let inside : k < length cells = omega (arith, small', count) in
    get_or_default new k d 0 small ∙ marked.each k small'
    ∙ ap (λ b. if b then number else get_or old k 0) (held k inside)
    ∙ ap (λ m. if owner_of cells k == strip then number else m)
    (ap (λ (xs : List ℕ). get_or xs k 0) old_is ∙ get_or-map-range_with_len (owner_until cells n) 0 (length cells) k k 0 inside (omega arith))
    ∙ one_more k (cases_eq (owner_of cells k) strip)
    ∙ sym (get_or-map-range_with_len (owner_until cells (n + 1)) 0 (length cells) k k d inside (omega arith)))
  where
    strip : ℕ
    strip = length (firsts_below cells n)

    more : length (firsts_below cells (n + 1)) ≡ strip + 1
    more = one_strip_more cells n begins

    held : (k : ℕ) → k < length cells → has_index k (run_at cells n) ≡ (owner_of cells k == strip)
    held k inside =
        let at = strip_there cells n there begins in
        ap (has_index k) (sym at.1) ∙ held_by cells cut k strip inside at.0

    one_more : (k : ℕ) → (owner_of cells k ≡ strip) ⊎ (owner_of cells k ≡ strip → ⊥)
        → (if owner_of cells k == strip then number else owner_until cells n k) ≡ owner_until cells (n + 1) k
    one_more k (inl same) =
        cond-true (owner_of cells k == strip) number (owner_until cells n k) (eq-eqb _ _ same) ∙ is ∙ sym same
        ∙ sym (cond-true (nat_lt (owner_of cells k) (length (firsts_below cells (n + 1)))) (owner_of cells k) (length cells) (lt-ltb _ _ (omega (arith, same, more))))
    one_more k (inr apart) =
        cond-false (owner_of cells k == strip) number (owner_until cells n k) (ne_eqb _ _ apart)
        ∙ elim (cases_lt (owner_of cells k) strip) [
          | inl less ↦
              cond-true (nat_lt (owner_of cells k) strip) (owner_of cells k) (length cells) (lt-ltb _ _ less)
              ∙ sym (cond-true (nat_lt (owner_of cells k) (length (firsts_below cells (n + 1)))) (owner_of cells k) (length cells) (lt-ltb _ _ (omega (arith, less, more))))
          | inr past ↦ elim (cases_lt strip (owner_of cells k)) [
            | inl greater ↦
                cond-false (nat_lt (owner_of cells k) strip) (owner_of cells k) (length cells) (le-ltb _ _ past)
                ∙ sym (cond-false (nat_lt (owner_of cells k) (length (firsts_below cells (n + 1)))) (owner_of cells k) (length cells) (le-ltb _ _ (omega (arith, greater, more))))
            | inr most ↦ absurd (apart (omega (arith, past, most)))
          ]
        ]

pub strip_passed : (cells : List Cell) (n : ℕ) (owners : List ℕ) → begins_at cells n ≡ false → owners ≡ owners_until cells n → owners ≡ owners_until cells (n + 1)
strip_passed cells n owners begins is =
    is ∙ ap (λ (fs : List ℕ). map (λ k. if nat_lt (owner_of cells k) (length fs) then owner_of cells k else length cells) (range_with_len 0 (length cells)))
    (sym (no_first cells n begins))

-- at last each cell has its strip
pub all_owners : (cells : List Cell) → IsCut cells → (n : ℕ) (owners : List ℕ) → n ≡ length cells → owners ≡ owners_until cells n
    → owners ≡ map (owner_of cells) (range_with_len 0 (length cells))
all_owners cells cut n owners end is =
    is ∙ same_lists (owners_until cells n) (map (owner_of cells) (range_with_len 0 (length cells)))
    (length-map-range_with_len (owner_until cells n) 0 (length cells) ∙ sym (length-map-range_with_len (owner_of cells) 0 (length cells)))
    (λ k d there.
    let there' : k < length cells = omega (arith, there, length-map-range_with_len (owner_until cells n) 0 (length cells)) in
    get_or-map-range_with_len (owner_until cells n) 0 (length cells) k k d there' (omega arith)
    ∙ cond-true (nat_lt (owner_of cells k) (length (firsts_below cells n))) (owner_of cells k) (length cells)
    (lt-ltb _ _ (omega (arith, owner_there cells cut k there', run_count cells, ap (λ m. length (firsts_below cells m)) end)))
    ∙ sym (get_or-map-range_with_len (owner_of cells) 0 (length cells) k k d there' (omega arith)))
