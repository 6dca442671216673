-- Sums over the steps of places that run round: of any function of a place and the next.
use Rattle.std.proofs.Common.{◌≡◌, ◌≢◌, ℕ, zero, suc, ◌+◌, ◌-◌, ◌<◌, ◌≤◌, ℤ, pos, ◌+ℤ◌, true, List, [], ◌∷◌, ◌++◌, length, get_or, take, drop, refl, sym, ap, ◌∙◌, inl, inr, arith, length-append, length-drop, length-take, get_or-drop, get_or-take}
use Rattle.std.specs.Prelude.{slice_index, ◌==◌}
use Rattle.std.specs.List.{remove, sum_by, range_with_len}
use Rattle.std.proofs.lemmas.Int.{ints}
use Rattle.std.proofs.lemmas.Bool.{and_parts, cases_eq, eqb-true}
use Rattle.std.proofs.lemmas.Bool.Decides.{nat_tests}
use Rattle.std.proofs.lemmas.List.{append-nil, drop_all, get_or_append_left, get_or-append_right, take-append-drop}
use Rattle.std.proofs.lemmas.List.Sums.{sum_by-cons}
use Rattle.std.proofs.Math.Seq.{drop-cons, get_or-append_seam}
use Rattle.nav_base.specs.Convex.{place_after}
use Rattle.mesh_types.specs.Merging.{edge_end, is_facing, past_edge}
use Rattle.mesh_types.specs.Rings.{place_before}
use Rattle.mesh_types.specs.Rounds.{sum_along, sum_round}
use Rattle.mesh_types.proofs.Totals.{sum_by-range_same}

-- ---- rotation

along-append : (f : ℕ → ℕ → ℤ) (first here : ℕ) (xs : List ℕ) (y : ℕ) (ys : List ℕ)
    → sum_along f first here (xs ++ y ∷ ys) ≡ sum_along f y here xs +ℤ sum_along f first y ys
along-append f first here [] y ys = refl
along-append f first here (x ∷ xs) y ys =
    ap (λ n. f here x +ℤ n) (along-append f first x xs y ys) ∙ grouped (f here x) (sum_along f y x xs) (sum_along f first y ys)
  where
    grouped : (a b c : ℤ) → a +ℤ (b +ℤ c) ≡ (a +ℤ b) +ℤ c
    grouped a b c = omega (arith, ints)

-- the beginning of a list does not matter
pub round-rotate : (f : ℕ → ℕ → ℤ) (xs ys : List ℕ) → sum_round f (xs ++ ys) ≡ sum_round f (ys ++ xs)
round-rotate f [] ys = ap (sum_round f) (sym (append-nil ys))
round-rotate f (x ∷ xs) [] = ap (sum_round f) (append-nil (x ∷ xs))
round-rotate f (x ∷ xs) (y ∷ ys) =
    along-append f x x xs y ys ∙ swapped (sum_along f y x xs) (sum_along f x y ys) ∙ sym (along-append f y y ys x xs)
  where
    swapped : (a b : ℤ) → a +ℤ b ≡ b +ℤ a
    swapped a b = omega (arith, ints)

-- the places before a position, the one at it, and those behind it
pub parts : (places : List ℕ) (i : ℕ) → i < length places → places ≡ take i places ++ slice_index places i ∷ drop (i + 1) places
parts places i below =
    sym (take-append-drop i places)
    ∙ ap (λ xs. take i places ++ xs) (drop-cons places i 0 below ∙ ap (λ k. slice_index places i ∷ drop k places) {x = suc i} {y = i + 1} (omega arith))

-- a list with the place at a position in front
pub round-past : (f : ℕ → ℕ → ℤ) (places : List ℕ) (i : ℕ) → i < length places
    → sum_round f places ≡ sum_round f (slice_index places i ∷ past_edge places i)
round-past f places i below =
    ap (sum_round f) (parts places i below) ∙ round-rotate f (take i places) (slice_index places i ∷ drop (i + 1) places)

-- ---- what stands behind and before a position

after_end : (count i : ℕ) → i + 1 ≡ count → 0 ≡ place_after count i
after_end count i last = grind (arith, nat_tests)

after_other : (count i : ℕ) → i + 1 ≢ count → i + 1 ≡ place_after count i
after_other count i inner = grind (arith, nat_tests)

before_first : (count i : ℕ) → i ≡ 0 → count - 1 ≡ place_before count i
before_first count i first = grind (arith, nat_tests)

before_other : (count i : ℕ) → i ≢ 0 → i - 1 ≡ place_before count i
before_other count i later = grind (arith, nat_tests)

pub past-length : (places : List ℕ) (i : ℕ) → i < length places → length (past_edge places i) + 1 ≡ length places
past-length places i below = simp (length-append, length-drop, length-take) (omega (arith, below))

-- what stands behind a position begins where its edge ends
pub past-first : (places : List ℕ) (i : ℕ) → i < length places → 2 ≤ length places → get_or (past_edge places i) 0 0 ≡ edge_end places i
past-first places i below enough =
    elim (cases_eq (i + 1) (length places)) [
      | inl last ↦ ap (λ xs. get_or (xs ++ take i places) 0 0) (drop_all (i + 1) places (omega (arith, last))) ∙ get_or-take i places 0 0 (omega (arith, last, enough))
          ∙ ap (λ k. get_or places k 0) (after_end (length places) i last)
      | inr inner ↦ get_or_append_left (drop (i + 1) places) (take i places) 0 0 (omega (arith, below, inner, length-drop (i + 1) places))
          ∙ get_or-drop (i + 1) places 0 0 ∙ ap (λ k. get_or places k 0) {x = i + 1 + 0} {y = i + 1} (omega arith) ∙ ap (λ k. get_or places k 0) (after_other (length places) i inner)
    ]

-- and ends with what stands before the position
pub past-last : (places : List ℕ) (i : ℕ) → i < length places → 2 ≤ length places
    → get_or (past_edge places i) (length places - 2) 0 ≡ slice_index places (place_before (length places) i)
past-last places i below enough =
    elim (cases_eq i 0) [
      | inl first ↦ get_or_append_left (drop (i + 1) places) (take i places) 0 (length places - 2) (omega (arith, first, enough, length-drop (i + 1) places))
          ∙ get_or-drop (i + 1) places (length places - 2) 0
          ∙ ap (λ k. get_or places k 0) {x = i + 1 + (length places - 2)} {y = length places - 1} (omega (arith, first, enough))
          ∙ ap (λ k. get_or places k 0) (before_first (length places) i first)
      | inr later ↦ get_or-append_right (drop (i + 1) places) (take i places) (length places - (i + 1)) (length places - 2) 0 (length-drop (i + 1) places) (omega (arith, later, below))
          ∙ ap (λ k. get_or (take i places) k 0) {x = length places - 2 - (length places - (i + 1))} {y = i - 1} (omega (arith, below, later, enough))
          ∙ get_or-take i places (i - 1) 0 (omega (arith, later))
          ∙ ap (λ k. get_or places k 0) (before_other (length places) i later)
    ]

-- ---- a place taken out

-- a walk with another first
along-first : (f : ℕ → ℕ → ℤ) (first other here : ℕ) (rest : List ℕ)
    → sum_along f first here rest +ℤ f (get_or (here ∷ rest) (length rest) 0) other
    ≡ sum_along f other here rest +ℤ f (get_or (here ∷ rest) (length rest) 0) first
along-first f first other here [] = swapped (f here first) (f here other)
  where
    swapped : (a b : ℤ) → a +ℤ b ≡ b +ℤ a
    swapped a b = omega (arith, ints)
along-first f first other here (next ∷ rest) =
    let last = get_or (next ∷ rest) (length rest) 0 in
    under (f here next) (sum_along f first next rest) (f last other) (sum_along f other next rest) (f last first) (along-first f first other next rest)
  where
    under : (a b c d e : ℤ) → b +ℤ c ≡ d +ℤ e → (a +ℤ b) +ℤ c ≡ (a +ℤ d) +ℤ e
    under a b c d e h = omega (arith, ints)

-- the first place taken out
first-out : (f : ℕ → ℕ → ℤ) (b : ℕ) (rest : List ℕ) (count : ℕ) → length rest ≡ count + 1
    → sum_round f (b ∷ rest) +ℤ f (get_or rest count 0) (get_or rest 0 0)
    ≡ sum_round f rest +ℤ (f (get_or rest count 0) b +ℤ f b (get_or rest 0 0))
first-out f b [] count some = absurd (omega (arith, some))
first-out f b (c ∷ rest) count some =
    let size : length rest ≡ count = omega (arith, some) in
    joined (f b c) (sum_along f b c rest) (f (get_or (c ∷ rest) count 0) c) (sum_along f c c rest) (f (get_or (c ∷ rest) count 0) b)
    (ap (λ k. sum_along f b c rest +ℤ f (get_or (c ∷ rest) k 0) c) (sym size) ∙ along-first f b c c rest
    ∙ ap (λ k. sum_along f c c rest +ℤ f (get_or (c ∷ rest) k 0) b) size)
  where
    joined : (bc walk ac other ab : ℤ) → walk +ℤ ac ≡ other +ℤ ab → (bc +ℤ walk) +ℤ ac ≡ other +ℤ (ab +ℤ bc)
    joined bc walk ac other ab e = omega (arith, ints)

-- the step over the place that is taken out comes in for the two steps to it and from it
pub round-remove : (f : ℕ → ℕ → ℤ) (rest : List ℕ) (i : ℕ) → i < length rest → 2 ≤ length rest
    → sum_round f rest +ℤ f (slice_index rest (place_before (length rest) i)) (slice_index rest (place_after (length rest) i))
    ≡ sum_round f (remove rest i)
    +ℤ (f (slice_index rest (place_before (length rest) i)) (slice_index rest i) +ℤ f (slice_index rest i) (slice_index rest (place_after (length rest) i)))
round-remove f rest i below enough =
    let b : ℕ = slice_index rest i in
    let past : List ℕ = past_edge rest i in
    let c = past-first rest i below enough in
    let a = past-last rest i below enough in
    let kept : sum_round f past ≡ sum_round f (remove rest i) =
    round-rotate f (drop (i + 1) rest) (take i rest) ∙ ap (λ k. sum_round f (take i rest ++ drop k rest)) {x = i + 1} {y = suc i} (omega arith) in
    (λ k. round-past f rest i below k +ℤ f (sym a k) (sym c k)) ∙ first-out f b past (length rest - 2) (omega (arith, enough, past-length rest i below))
    ∙ (λ k. kept k +ℤ (f (a k) b +ℤ f b (c k)))

-- ---- two lists over an edge that both have, in opposite directions

round-both : (f : ℕ → ℕ → ℤ) (i j : ℕ) (xs ys : List ℕ) → get_or xs 0 0 ≡ j → get_or ys 0 0 ≡ i → 0 < length xs → 0 < length ys
    → sum_round f (xs ++ ys) +ℤ (f i j +ℤ f j i) ≡ sum_round f (i ∷ xs) +ℤ sum_round f (j ∷ ys)
round-both f i j [] ys is_j is_i some some' = absurd (omega (arith, some))
round-both f i j (x ∷ xs) [] is_j is_i some some' = absurd (omega (arith, some'))
round-both f i j (x ∷ xs) (y ∷ ys) is_j is_i some some' =
    ap (λ n. n +ℤ (f i j +ℤ f j i)) (along-append f x x xs y ys ∙ (λ k. sum_along f (is_i k) x xs +ℤ sum_along f (is_j k) y ys))
    ∙ grouped (sum_along f i x xs) (sum_along f j y ys) (f i j) (f j i)
    ∙ (λ k. (f i (sym is_j k) +ℤ sum_along f i x xs) +ℤ (f j (sym is_i k) +ℤ sum_along f j y ys))
  where
    grouped : (c d a b : ℤ) → (c +ℤ d) +ℤ (a +ℤ b) ≡ (a +ℤ c) +ℤ (b +ℤ d)
    grouped c d a b = omega (arith, ints)

-- the steps round two lists are those round the two together, and the shared edge both ways
pub round-union : (f : ℕ → ℕ → ℤ) (p q : List ℕ) (edge facing : ℕ) → edge < length p → facing < length q → 2 ≤ length p → 2 ≤ length q → is_facing p edge q facing ≡ true
    → sum_round f (past_edge p edge ++ past_edge q facing) +ℤ (f (slice_index p edge) (slice_index q facing) +ℤ f (slice_index q facing) (slice_index p edge))
    ≡ sum_round f p +ℤ sum_round f q
round-union f p q edge facing inside inside' more more' faces =
    let both = and_parts (slice_index q facing == edge_end p edge) (edge_end q facing == slice_index p edge) faces in
    round-both f (slice_index p edge) (slice_index q facing) (past_edge p edge) (past_edge q facing)
    (past-first p edge inside more ∙ sym (eqb-true (slice_index q facing) (edge_end p edge) both.0)) (past-first q facing inside' more' ∙ eqb-true (edge_end q facing) (slice_index p edge) both.1)
    (omega (arith, more, past-length p edge inside)) (omega (arith, more', past-length q facing inside'))
    ∙ (λ k. sym (round-past f p edge inside) k +ℤ sym (round-past f q facing inside') k)

-- ---- sums of whole numbers, by positions

-- the sum of a walk's steps where the function gives whole numbers from 0 on
abbrev pub total_along : (ℕ → ℕ → ℕ) → ℕ → ℕ → List ℕ → ℕ
total_along g first here [] = g here first
total_along g first here (next ∷ rest) = g here next + total_along g first next rest

abbrev pub total_round : (ℕ → ℕ → ℕ) → List ℕ → ℕ
total_round g [] = 0
total_round g (first ∷ rest) = total_along g first first rest

along-total : (g : ℕ → ℕ → ℕ) (first here : ℕ) (rest : List ℕ) → pos (total_along g first here rest) ≡ sum_along (λ a b. pos (g a b)) first here rest
along-total g first here [] = refl
along-total g first here (next ∷ rest) = ap (λ n. pos (g here next) +ℤ n) (along-total g first next rest)

pub round-total : (g : ℕ → ℕ → ℕ) (places : List ℕ) → pos (total_round g places) ≡ sum_round (λ a b. pos (g a b)) places
round-total g [] = refl
round-total g (first ∷ rest) = along-total g first first rest

-- numbers that are one more
range-shift : (h : ℕ → ℕ) (first count : ℕ) → sum_by h (range_with_len (first + 1) count) ≡ sum_by (λ k. h (k + 1)) (range_with_len first count)
range-shift h first zero = refl
range-shift h first (suc count) =
    omega (arith, sum_by-cons h (first + 1) (range_with_len (first + 1 + 1) count), sum_by-cons (λ k. h (k + 1)) first (range_with_len (first + 1) count), range-shift h (first + 1) count)

-- a walk by its positions
along-positions : (g : ℕ → ℕ → ℕ) (first here : ℕ) (rest : List ℕ)
    → sum_by (λ k. g (get_or (here ∷ rest) k 0) (get_or (rest ++ first ∷ []) k 0)) (range_with_len 0 (length (here ∷ rest))) ≡ total_along g first here rest
along-positions g first here [] = sum_by-cons (λ k. g (get_or (here ∷ []) k 0) (get_or (first ∷ []) k 0)) 0 [] ∙ omega arith
along-positions g first here (next ∷ rest) =
    let h : ℕ → ℕ = λ k. g (get_or (here ∷ next ∷ rest) k 0) (get_or (next ∷ rest ++ first ∷ []) k 0) in
    let later : ℕ → ℕ = λ k. g (get_or (next ∷ rest) k 0) (get_or (rest ++ first ∷ []) k 0) in
    omega (
      arith,
      sum_by-cons h 0 (range_with_len (0 + 1) (length (next ∷ rest))),
      range-shift h 0 (length (next ∷ rest)),
      sum_by-range_same (λ k. h (k + 1)) later 0 (length (next ∷ rest))
          (λ k least most. ap (λ (n : ℕ). g (get_or (here ∷ next ∷ rest) n 0) (get_or (next ∷ rest ++ first ∷ []) n 0)) {x = k + 1} {y = suc k} (omega arith)),
      along-positions g first next rest,
    )

-- the place at which an edge ends, in a walk
end-along : (first : ℕ) (rest : List ℕ) (k : ℕ) → k < length (first ∷ rest) → edge_end (first ∷ rest) k ≡ get_or (rest ++ first ∷ []) k 0
end-along first rest k below =
    elim (cases_eq (k + 1) (length (first ∷ rest))) [
      | inl last ↦ ap (λ n. get_or (first ∷ rest) n 0) (sym (after_end (length (first ∷ rest)) k last)) ∙ sym (get_or-append_seam rest first [] 0)
          ∙ ap (λ n. get_or (rest ++ first ∷ []) n 0) {x = length rest} {y = k} (omega (arith, last))
      | inr inner ↦ ap (λ n. get_or (first ∷ rest) n 0) (sym (after_other (length (first ∷ rest)) k inner))
          ∙ ap (λ n. get_or (first ∷ rest) n 0) {x = k + 1} {y = suc k} (omega arith)
          ∙ sym (get_or_append_left rest (first ∷ []) 0 k (omega (arith, below, inner)))
    ]

-- the sum round by positions: of each place and the end of its edge
pub round-positions : (g : ℕ → ℕ → ℕ) (places : List ℕ)
    → sum_by (λ k. g (slice_index places k) (edge_end places k)) (range_with_len 0 (length places)) ≡ total_round g places
round-positions g [] = refl
round-positions g (first ∷ rest) =
    sum_by-range_same (λ k. g (slice_index (first ∷ rest) k) (edge_end (first ∷ rest) k)) (λ k. g (get_or (first ∷ rest) k 0) (get_or (rest ++ first ∷ []) k 0)) 0 (length (first ∷ rest))
    (λ k least most. ap (g (get_or (first ∷ rest) k 0)) (end-along first rest k (omega (arith, most))))
    ∙ along-positions g first first rest
