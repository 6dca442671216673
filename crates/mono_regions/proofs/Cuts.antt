-- Lists that stand one after the other, between the places where they begin.
use Rattle.std.proofs.Common.{◌≡◌, ℕ, ◌+◌, ◌-◌, ◌<◌, ◌≤◌, List, [], ◌∷◌, ◌++◌, length, take, drop, map, get_or, ap, ◌∙◌, sym, refl, arith}
use Rattle.std.specs.Prelude.{slice_range}
use Rattle.std.specs.List.{concat, range_with_len}
use Rattle.std.proofs.lemmas.List.{take-append-le, take_more, take_all, take_at, drop_at, drop_more, take-append-drop, length-append, append-nil, same_lists, get_or_default, get_or_read}
use Rattle.std.proofs.lemmas.List.Folds.{concat-append}
use Rattle.std.proofs.lemmas.List.FromFn.{get_or-map-range_with_len, length-map-range_with_len, map-range_with_len_more}
use Rattle.mono_regions.specs.Lists.{starts_of, lists_between, AreCut}

-- how many indices the first lists have together
abbrev before : List (List ℕ) → ℕ → ℕ
before lists k = length (concat (take k lists))

starts_length : (lists : List (List ℕ)) → length (starts_of lists) ≡ length lists + 1
starts_length lists = length-map-range_with_len (before lists) 0 (length lists + 1)

start_at : (lists : List (List ℕ)) (k d : ℕ) → k < length lists + 1 → get_or (starts_of lists) k d ≡ before lists k
start_at lists k d there = get_or-map-range_with_len (before lists) 0 (length lists + 1) k k d there (omega arith)

-- the first lists with one more
one_more : (lists : List (List ℕ)) (k : ℕ) → k < length lists → concat (take (k + 1) lists) ≡ concat (take k lists) ++ get_or lists k []
one_more lists k there =
    ap concat (take_more lists k [] there)
    ∙ concat-append (take k lists) (get_or lists k [] ∷ [])
    ∙ ap (λ (xs : List ℕ). concat (take k lists) ++ xs) (append-nil (get_or lists k []))

-- all lists, as those before one, the one, and those after it
around : (lists : List (List ℕ)) (k : ℕ) → k < length lists
    → concat lists ≡ concat (take k lists) ++ (get_or lists k [] ++ concat (drop (k + 1) lists))
around lists k there =
    ap concat (sym (take-append-drop k lists))
    ∙ concat-append (take k lists) (drop k lists)
    ∙ ap (λ xs. concat (take k lists) ++ concat xs) (drop_more lists k [] there)

next_start : (lists : List (List ℕ)) (k : ℕ) → k < length lists → before lists (k + 1) ≡ before lists k + length (get_or lists k [])
next_start lists k there = ap length (one_more lists k there) ∙ length-append (concat (take k lists)) (get_or lists k [])

-- so the slice from where a list begins to where the next begins is the list
slice_is : (lists : List (List ℕ)) (k : ℕ) → k < length lists → slice_range (concat lists) (before lists k) (before lists (k + 1)) ≡ get_or lists k []
slice_is lists k there =
    let list : List ℕ = get_or lists k [] in
    let rest : List ℕ = concat (drop (k + 1) lists) in
    ap (λ n. take n (drop (before lists k) (concat lists))) {x = before lists (k + 1) - before lists k} {y = length list} (omega (arith, next_start lists k there))
    ∙ ap (λ xs. take (length list) (drop (before lists k) xs)) (around lists k there)
    ∙ ap (take (length list)) (drop_at (concat (take k lists)) (list ++ rest) (before lists k) refl)
    ∙ take_at list rest (length list) refl

-- the lists that were cut are the lists
pub cut_are : (lists : List (List ℕ)) → lists_between (concat lists) (starts_of lists) ≡ lists
cut_are lists =
    let many : length (lists_between (concat lists) (starts_of lists)) ≡ length lists =
    length-map-range_with_len (λ k. slice_range (concat lists) (get_or (starts_of lists) k 0) (get_or (starts_of lists) (k + 1) 0)) 0 (length (starts_of lists) - 1)
    ∙ omega (arith, starts_length lists) in
    same_lists (lists_between (concat lists) (starts_of lists)) lists many
    (λ k d there.
    let there' : k < length lists = omega (arith, there, many) in
    get_or-map-range_with_len (λ k. slice_range (concat lists) (get_or (starts_of lists) k 0) (get_or (starts_of lists) (k + 1) 0)) 0 (length (starts_of lists) - 1) k k d
    (omega (arith, there', starts_length lists)) (omega arith)
    ∙ ap (λ a. slice_range (concat lists) a (get_or (starts_of lists) (k + 1) 0)) (start_at lists k 0 (omega (arith, there')))
    ∙ ap (slice_range (concat lists) (before lists k)) (start_at lists (k + 1) 0 (omega (arith, there')))
    ∙ slice_is lists k there'
    ∙ get_or_default lists k [] d there')

-- what was cut is what the cut says
pub lists_are : (items starts : List ℕ) (lists : List (List ℕ)) → items ≡ concat lists → starts ≡ starts_of lists → lists_between items starts ≡ lists
lists_are items starts lists are begin =
    ap (λ xs. lists_between xs starts) are ∙ ap (lists_between (concat lists)) begin ∙ cut_are lists

pub cut_count : (items starts : List ℕ) → AreCut items starts → length starts - 1 ≡ length (lists_between items starts)
cut_count items starts cut = sym (length-map-range_with_len (λ k. slice_range items (get_or starts k 0) (get_or starts (k + 1) 0)) 0 (length starts - 1))

-- the place after a list's is there too
pub number_there : (items starts : List ℕ) (number : ℕ) → AreCut items starts → number < length (lists_between items starts) → number + 1 < length starts
number_there items starts number cut there = omega (arith, there, cut_count items starts cut)

-- a list stands between its start and the next
pub starts_rise : (items starts : List ℕ) (number first end : ℕ) → AreCut items starts → number + 1 < length starts
    → first ≡ get_or starts number first → end ≡ get_or starts (number + 1) end → (first ≤ end) × (end ≤ length items)
starts_rise items starts number first end cut there at at' =
    let lists : List (List ℕ) = cut.lists in
    let there' : number < length lists = omega (arith, there, ap length cut.starts_are, starts_length lists) in
    let one : first ≡ before lists number = at ∙ ap (λ xs. get_or xs number first) cut.starts_are ∙ start_at lists number first (omega (arith, there')) in
    let two : end ≡ before lists (number + 1) = at' ∙ ap (λ xs. get_or xs (number + 1) end) cut.starts_are ∙ start_at lists (number + 1) end (omega (arith, there')) in
    let all = ap length (around lists number there') ∙ length-append (concat (take number lists)) (get_or lists number [] ++ concat (drop (number + 1) lists)) in
    let rest = length-append (get_or lists number []) (concat (drop (number + 1) lists)) in
    let items_are : length items ≡ length (concat lists) = ap length cut.items_are in
    (omega (arith, one, two, next_start lists number there'), omega (arith, one, two, next_start lists number there', all, rest, items_are))

pub list_at : (items starts : List ℕ) (number first end : ℕ) → number + 1 < length starts
    → first ≡ get_or starts number first → end ≡ get_or starts (number + 1) end → slice_range items first end ≡ get_or (lists_between items starts) number []
list_at items starts number first end there at at' =
    ap (λ a. slice_range items a end) (get_or_read starts number first (omega (arith, there)) at 0)
    ∙ ap (slice_range items (get_or starts number 0)) (get_or_read starts (number + 1) end there at' 0)
    ∙ sym (get_or-map-range_with_len (λ k. slice_range items (get_or starts k 0) (get_or starts (k + 1) 0)) 0 (length starts - 1) number number []
    (omega (arith, there)) (omega arith))

-- one list more
pub one_more_start : (lists : List (List ℕ)) (list : List ℕ) → starts_of (lists ++ list ∷ []) ≡ starts_of lists ++ length (concat lists ++ list) ∷ []
one_more_start lists list =
    let more : List (List ℕ) = lists ++ list ∷ [] in
    let count : length more ≡ length lists + 1 = length-append lists (list ∷ []) in
    ap (λ n. map (before more) (range_with_len 0 (n + 1))) count
    ∙ map-range_with_len_more (before more) 0 (length lists + 1) (length lists + 1) (omega arith)
    ∙ ap (λ (xs : List ℕ). xs ++ before more (length lists + 1) ∷ []) (same_range (length lists + 1) (omega arith))
    ∙ ap (λ n. starts_of lists ++ n ∷ []) {x = before more (length lists + 1)} {y = length (concat lists ++ list)} last
  where
    all_of : take (length lists + 1) (lists ++ list ∷ []) ≡ lists ++ list ∷ []
    all_of = take_all (length lists + 1) (lists ++ list ∷ []) (omega (arith, length-append lists (list ∷ [])))

    last : before (lists ++ list ∷ []) (length lists + 1) ≡ length (concat lists ++ list)
    last =
        ap (λ xs. length (concat xs)) all_of ∙ ap length (concat-append lists (list ∷ []))
        ∙ ap (λ (xs : List ℕ). length (concat lists ++ xs)) (append-nil list)

    same_before : (k : ℕ) → k ≤ length lists → before (lists ++ list ∷ []) k ≡ before lists k
    same_before k most = ap (λ xs. length (concat xs)) (take-append-le k lists (list ∷ []) most)

    same_range : (n : ℕ) → n ≤ length lists + 1 → map (before (lists ++ list ∷ [])) (range_with_len 0 n) ≡ map (before lists) (range_with_len 0 n)
    same_range n most =
        same_lists (map (before (lists ++ list ∷ [])) (range_with_len 0 n)) (map (before lists) (range_with_len 0 n))
        (length-map-range_with_len (before (lists ++ list ∷ [])) 0 n ∙ sym (length-map-range_with_len (before lists) 0 n))
        (λ k d there.
        let there' : k < n = omega (arith, there, length-map-range_with_len (before (lists ++ list ∷ [])) 0 n) in
        get_or-map-range_with_len (before (lists ++ list ∷ [])) 0 n k k d there' (omega arith)
        ∙ same_before k (omega (arith, there', most))
        ∙ sym (get_or-map-range_with_len (before lists) 0 n k k d there' (omega arith)))
