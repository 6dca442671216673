-- How many edges lead from one place to another, as a sum over steps; what a place taken out changes.
use Rattle.std.proofs.Common.{◌≡◌, ◌≢◌, ℕ, suc, ◌+◌, ◌-◌, ◌<◌, ◌≤◌, ℤ, pos, ◌+ℤ◌, Bool, true, false, cond, List, [], ◌∷◌, ◌++◌, length, get_or, take, drop, refl, ap, subst, ◌∙◌, inl, inr, arith}
use Rattle.std.specs.Prelude.{slice_index, ◌==◌, ◌&&◌, ◌⊎◌}
use Rattle.std.specs.List.{count_by, remove}
use Rattle.std.proofs.lemmas.Int.{ints}
use Rattle.std.proofs.lemmas.Bool.{cases_Bool, and_parts, eq-eqb, eqb-true}
use Rattle.std.proofs.lemmas.List.Sums.{sum_by-cons, sum_by-append, sum_by-remove, sum_by_push, get_or-le-sum_by}
use Rattle.nav_base.specs.Convex.{place_after}
use Rattle.mesh_types.specs.Merging.{past_edge}
use Rattle.mesh_types.specs.Rings.{place_before}
use Rattle.mesh_types.specs.Rounds.{sum_round}
use Rattle.mesh_types.specs.Edges.{edges_round}
use Rattle.mesh_types.proofs.Rounds.{past-first, past-last, past-length, round-past, round-positions, round-remove, round-total, total_along, total_round}

-- ---- steps and places

-- 1 where a test is passed
abbrev pub one_if : Bool → ℕ
one_if b = cond b 1 0

-- 1 where the step from a to b is the one from u to v
abbrev pub step : ℕ → ℕ → ℕ → ℕ → ℕ
step u v a b = one_if (a == u && b == v)

-- how often a place stands in a list
abbrev pub times : ℕ → List ℕ → ℕ
times u places = count_by (λ place. place == u) places

-- the edges are the steps round
pub edges-total : (u v : ℕ) (places : List ℕ) → edges_round u v places ≡ total_round (step u v) places
edges-total u v places = round-positions (step u v) places

pub edges-sum : (u v : ℕ) (places : List ℕ) → pos (edges_round u v places) ≡ sum_round (λ a b. pos (step u v a b)) places
edges-sum u v places = ap pos (edges-total u v places) ∙ round-total (step u v) places

pub step-from : (u v a b : ℕ) → step u v a b ≤ cond (a == u) 1 0
step-from u v a b = by_case (a == u) (b == v)
  where
    by_case : (p q : Bool) → cond (p && q) 1 0 ≤ cond p 1 0
    by_case true true = omega arith
    by_case true false = omega arith
    by_case false q = omega arith

pub step-to : (u v a b : ℕ) → step u v a b ≤ cond (b == v) 1 0
step-to u v a b = by_case (a == u) (b == v)
  where
    by_case : (p q : Bool) → cond (p && q) 1 0 ≤ cond q 1 0
    by_case true true = omega arith
    by_case true false = omega arith
    by_case false true = omega arith
    by_case false false = omega arith

pub step-back : (u v a b : ℕ) → step u v a b ≡ step v u b a
step-back u v a b = by_case (a == u) (b == v)
  where
    by_case : (p q : Bool) → one_if (p && q) ≡ one_if (q && p)
    by_case true true = refl
    by_case true false = refl
    by_case false true = refl
    by_case false false = refl

pub step-itself : (a b : ℕ) → step a b a b ≡ 1
step-itself a b = (λ k. one_if (eq-eqb a a refl k && eq-eqb b b refl k))

-- a step is another one, or it is that one
pub step_cases : (u v a b : ℕ) → (step u v a b ≡ 0) ⊎ ((step u v a b ≡ 1) × (a ≡ u) × (b ≡ v))
step_cases u v a b =
    elim (cases_Bool (a == u && b == v)) [
      | inl is ↦ let both = and_parts (a == u) (b == v) is in inr (ap one_if is, eqb-true a u both.0, eqb-true b v both.1)
      | inr not ↦ inl (ap one_if not)
    ]

own : (n : ℕ) → one_if (n == n) ≡ 1
own n = ap one_if (eq-eqb n n refl)

-- a walk has no more steps from a place than that place stands in it, and no more to it
along-from : (u v first here : ℕ) (rest : List ℕ) → total_along (step u v) first here rest ≤ times u (here ∷ rest)
along-from u v first here [] = omega (arith, step-from u v here first, sum_by-cons (λ place. cond (place == u) 1 0) here [])
along-from u v first here (next ∷ rest) =
    omega (arith, step-from u v here next, sum_by-cons (λ place. cond (place == u) 1 0) here (next ∷ rest), along-from u v first next rest)

along-to : (u v first here : ℕ) (rest : List ℕ) → total_along (step u v) first here rest ≤ times v (rest ++ first ∷ [])
along-to u v first here [] = omega (arith, step-to u v here first, sum_by-cons (λ place. cond (place == v) 1 0) first [])
along-to u v first here (next ∷ rest) =
    omega (arith, step-to u v here next, sum_by-cons (λ place. cond (place == v) 1 0) next (rest ++ first ∷ []), along-to u v first next rest)

pub edges-from : (u v : ℕ) (places : List ℕ) → edges_round u v places ≤ times u places
edges-from u v [] = omega arith
edges-from u v (first ∷ rest) = omega (arith, edges-total u v (first ∷ rest), along-from u v first first rest)

-- ---- a place taken out

pub edges-remove : (u v : ℕ) (rest : List ℕ) (i : ℕ) → i < length rest → 2 ≤ length rest
    → edges_round u v rest + step u v (slice_index rest (place_before (length rest) i)) (slice_index rest (place_after (length rest) i))
    ≡ edges_round u v (remove rest i)
    + (step u v (slice_index rest (place_before (length rest) i)) (slice_index rest i) + step u v (slice_index rest i) (slice_index rest (place_after (length rest) i)))
edges-remove u v rest i below enough =
    whole _ _ _ _ _ _ _ (edges-sum u v rest) (edges-sum u v (remove rest i)) (round-remove (λ a b. pos (step u v a b)) rest i below enough)
  where
    whole : (r s p q t : ℕ) (x y : ℤ) → pos r ≡ x → pos s ≡ y → x +ℤ pos p ≡ y +ℤ (pos q +ℤ pos t) → r + p ≡ s + (q + t)
    whole r s p q t x y is_x is_y same = omega (arith, ints)

pub times-remove : (u : ℕ) (rest : List ℕ) (i : ℕ) → i < length rest → times u (remove rest i) + cond (slice_index rest i == u) 1 0 ≡ times u rest
times-remove u rest i below = sum_by-remove (λ place. cond (place == u) 1 0) rest i 0 below

times-past : (u : ℕ) (rest : List ℕ) (i : ℕ) → i < length rest → times u (slice_index rest i ∷ past_edge rest i) ≡ times u rest
times-past u rest i below =
    let p : ℕ → ℕ = λ place. cond (place == u) 1 0 in
    let same : times u (drop (i + 1) rest) ≡ times u (drop (suc i) rest) = ap (λ k. times u (drop k rest)) {x = i + 1} {y = suc i} (omega arith) in
    omega (
      arith,
      sum_by-cons p (slice_index rest i) (past_edge rest i),
      sum_by-append p (drop (i + 1) rest) (take i rest),
      sum_by-append p (take i rest) (drop (suc i) rest),
      times-remove u rest i below,
      same,
    )

edges-past : (u v : ℕ) (rest : List ℕ) (i : ℕ) → i < length rest → edges_round u v rest ≡ total_round (step u v) (slice_index rest i ∷ past_edge rest i)
edges-past u v rest i below =
    whole _ _ _ _ (edges-sum u v rest) (round-past (λ a b. pos (step u v a b)) rest i below)
    (round-total (step u v) (slice_index rest i ∷ past_edge rest i))
  where
    whole : (r s : ℕ) (x y : ℤ) → pos r ≡ x → x ≡ y → pos s ≡ y → r ≡ s
    whole r s x y is same is' = omega (arith, ints)

-- ---- where more than three places remain, those before and behind a place are not neighbours

-- two places are different, and no edge joins them
pub record AreParted (rest : List ℕ) (a c : ℕ) : Type 0 where
  pub differ : a ≢ c
  pub there : edges_round a c rest ≡ 0
  pub back : edges_round c a rest ≡ 0

record AreApart (rest : List ℕ) (a c : ℕ) : Type 0 where
  pub differ : a ≢ c
  pub there : total_round (step a c) rest ≡ 0
  pub back : total_round (step c a) rest ≡ 0

times-four : (u b c x : ℕ) (xs : List ℕ) → times u (b ∷ c ∷ x ∷ xs) ≡ cond (b == u) 1 0 + (cond (c == u) 1 0 + (cond (x == u) 1 0 + times u xs))
times-four u b c x xs =
    let p : ℕ → ℕ = λ place. cond (place == u) 1 0 in
    omega (arith, sum_by-cons p b (c ∷ x ∷ xs), sum_by-cons p c (x ∷ xs), sum_by-cons p x xs)

apart : (b c x a : ℕ) (xs : List ℕ) → 1 ≤ times a xs → ((u : ℕ) → times u (b ∷ c ∷ x ∷ xs) ≤ 1) → AreApart (b ∷ c ∷ x ∷ xs) a c
apart b c x a xs has different =
    let one_c = different c in
    let one_a = different a in
    let four_c = times-four c b c x xs in
    let four_a = times-four a b c x xs in
    let own_c = own c in
    record {
      differ = λ same.
          let one : one_if (c == a) ≡ 1 = ap (λ n. one_if (c == n)) same ∙ own_c in
          omega (arith, one, one_a, four_a, has);
      there = omega (
        arith,
        step-from a c b c,
        step-from a c c x,
        along-to a c b x xs,
        sum_by_push (λ place. cond (place == c) 1 0) xs b,
        one_c,
        one_a,
        four_c,
        four_a,
        own_c,
        has,
      );
      back = omega (
        arith,
        step-from c a b c,
        step-to c a c x,
        along-from c a b x xs,
        sum_by-cons (λ place. cond (place == c) 1 0) x xs,
        one_c,
        one_a,
        four_c,
        four_a,
        own_c,
        has,
      );
    }

apart_in : (b a c : ℕ) (past : List ℕ) (count : ℕ) → length past ≡ count + 1 → 3 ≤ length past → get_or past count 0 ≡ a → get_or past 0 0 ≡ c
    → ((u : ℕ) → times u (b ∷ past) ≤ 1) → AreApart (b ∷ past) a c
apart_in b a c [] count size enough is_a is_c different = absurd (omega (arith, enough))
apart_in b a c (d ∷ []) count size enough is_a is_c different = absurd (omega (arith, enough))
apart_in b a c (d ∷ x ∷ []) count size enough is_a is_c different = absurd (omega (arith, enough))
apart_in b a c (d ∷ x ∷ y ∷ xs) count size enough is_a is_c different =
    let last : get_or (y ∷ xs) (length xs) 0 ≡ a = ap (λ k. get_or (d ∷ x ∷ y ∷ xs) k 0) {x = suc (suc (length xs))} {y = count} (omega (arith, size)) ∙ is_a in
    let one : one_if (get_or (y ∷ xs) (length xs) 0 == a) ≡ 1 = ap (λ n. one_if (n == a)) last ∙ own a in
    let has : 1 ≤ times a (y ∷ xs) = omega (arith, one, get_or-le-sum_by (λ place. cond (place == a) 1 0) (y ∷ xs) (length xs) 0 (omega arith)) in
    subst (AreApart (b ∷ d ∷ x ∷ y ∷ xs) a) is_c (apart b d x a (y ∷ xs) has different)

pub parted : (rest : List ℕ) (i : ℕ) → i < length rest → 3 < length rest → ((u : ℕ) → times u rest ≤ 1)
    → AreParted rest (slice_index rest (place_before (length rest) i)) (slice_index rest (place_after (length rest) i))
parted rest i below more different =
    let a : ℕ = slice_index rest (place_before (length rest) i) in
    let c : ℕ = slice_index rest (place_after (length rest) i) in
    let long = past-length rest i below in
    let is = apart_in (slice_index rest i) a c (past_edge rest i) (length rest - 2) (omega (arith, long, more)) (omega (arith, long, more))
    (past-last rest i below (omega (arith, more))) (past-first rest i below (omega (arith, more))) (λ u. omega (arith, times-past u rest i below, different u)) in
    record {
      differ = is.differ;
      there = edges-past a c rest i below ∙ is.there;
      back = edges-past c a rest i below ∙ is.back;
    }

-- a place stands in the list
pub there-at : (rest : List ℕ) (k : ℕ) → k < length rest → 1 ≤ times (slice_index rest k) rest
there-at rest k below = omega (arith, own (slice_index rest k), get_or-le-sum_by (λ place. cond (place == slice_index rest k) 1 0) rest k 0 below)
