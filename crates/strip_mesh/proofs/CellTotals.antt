-- The strips of a tile have together no more than its free cells: each cell is in one strip.
use Rattle.std.proofs.Common.{◌≡◌, ℕ, zero, suc, ◌+◌, ◌<◌, ◌≤◌, ◌⊎◌, Bool, true, cond, List, [], ◌∷◌, map, length, get_or, ap, ◌∙◌, sym, refl, subst, arith, inl, inr}
use Rattle.std.specs.Prelude.{◌==◌, All, AllPairs, nat_lt, if◌then◌else◌}
use Rattle.std.specs.List.{sum_by, range_with_len}
use Rattle.std.proofs.lemmas.Bool.{cases_lt, lt-ltb, le-ltb, cond-true, cond-false, eq-eqb, eqb-true}
use Rattle.std.proofs.lemmas.List.Elements.{All-nil}
use Rattle.std.proofs.lemmas.List.FromFn.{fill_by_all}
use Rattle.std.proofs.lemmas.List.Kept.{AllPairs-cons}
use Rattle.std.proofs.lemmas.List.Sums.{sum_by-cons}
use Rattle.nav_ground.specs.declared.cell.Cell.{Cell}
use Rattle.nav_ground.specs.Cells.{IsCells, IsCut}
use Rattle.mesh_types.specs.StripPolygons.{some_cell, strip_runs}
use Rattle.mesh_types.proofs.Totals.{sum_by-map, sum_by-range_no_more, sum_by-shared, sum_by-numbers, once_in_range}
use Rattle.mono_regions.specs.Indices.{cell_at, along, indices_from, firsts_below, index_runs, owner_of}
use Rattle.mono_regions.proofs.Chains.{along_after}
use Rattle.mono_regions.proofs.Owners.{firsts_small, run_count}
use Rattle.mono_regions.proofs.RunLaws.{runs_are, runs_indices}
use Rattle.mono_regions.proofs.StripLaws.{owner_is, run_with_number}
use Rattle.mono_regions.proofs.Walks.{along_run}

-- the indices of a strip rise
walk_rises : (cells : List Cell) → IsCells cells → (n i : ℕ) → i < length cells → AllPairs (λ a b. a < b) (indices_from cells n i)
unfolding indices_from
walk_rises cells rules' zero i there = AllPairs-cons (λ a b. a < b) i [] (All-nil (λ b. i < b)) (λ j k d less inside. absurd (omega (arith, inside)))
walk_rises cells rules' (suc n) i there =
    by_case (cases_lt (along cells 2 i) (length cells)) (λ next. walk_rises cells rules' n (along cells 2 i) next)
  where
    rest : List ℕ
    rest = if nat_lt (along cells 2 i) (length cells) then indices_from cells n (along cells 2 i) else []

    by_case : (along cells 2 i < length cells) ⊎ (length cells ≤ along cells 2 i)
        → ((along cells 2 i < length cells) → AllPairs (λ a b. a < b) (indices_from cells n (along cells 2 i)))
        → AllPairs (λ a b. a < b) (i ∷ rest)
    by_case (inl next) further =
        let is : rest ≡ indices_from cells n (along cells 2 i) =
        cond-true (nat_lt (along cells 2 i) (length cells)) (indices_from cells n (along cells 2 i)) [] (lt-ltb _ _ next) in
        let later = along_run cells rules' (λ j. i < j) (λ j here next' before. omega (arith, before, (along_after cells rules' j here next').0)) n (along cells 2 i) next
        (along_after cells rules' i there next).0 in
        let P : List ℕ → Type 0 = λ js. AllPairs (λ a b. a < b) (i ∷ js) in
        subst P (sym is) (AllPairs-cons (λ a b. a < b) i (indices_from cells n (along cells 2 i)) later (further next))
    by_case (inr past) further =
        let is : rest ≡ [] = cond-false (nat_lt (along cells 2 i) (length cells)) (indices_from cells n (along cells 2 i)) [] (le-ltb _ _ past) in
        let P : List ℕ → Type 0 = λ js. AllPairs (λ a b. a < b) (i ∷ js) in
        subst P (sym is) (AllPairs-cons (λ a b. a < b) i [] (All-nil (λ b. i < b)) (λ j k d less inside. absurd (omega (arith, inside))))

run_rises : (cells : List Cell) → IsCells cells → (s : ℕ) → s < length (index_runs cells) → AllPairs (λ a b. a < b) (get_or (index_runs cells) s [])
run_rises cells rules' s there =
    let firsts : List ℕ = firsts_below cells (length cells) in
    let P : List ℕ → Type 0 = AllPairs (λ a b. a < b) in
    subst P (sym (run_with_number cells s there))
    (walk_rises cells rules' (length cells) (get_or firsts s 0) (firsts_small cells (length cells) s 0 (omega (arith, there, run_count cells))))

-- numbers that rise in a range and pass have no more together than those of the range that pass
rising_within : (g : ℕ → ℕ) (p : ℕ → Bool) (first count : ℕ) (xs : List ℕ) → AllPairs (λ a b. a < b) xs
    → All (λ i. (first ≤ i) × (i < first + count) × (p i ≡ true)) xs → sum_by g xs ≤ sum_by (λ i. cond (p i) (g i) 0) (range_with_len first count)
rising_within g p first count [] pairs each = omega arith
rising_within g p first zero (x ∷ xs) pairs each =
    let here = each 0 x (omega arith) in
    absurd (omega (arith, here.0, here.1))
rising_within g p first (suc count) (x ∷ xs) pairs each =
    by_case (cases_lt first x)
    (λ after. rising_within g p (first + 1) count (x ∷ xs) pairs
    (λ k d there. let at = each k d there in (above after k d there, omega (arith, at.1), at.2)))
    (λ same. rising_within g p (first + 1) count xs (λ i j d less there. pairs (suc i) (suc j) d (omega (arith, less)) (omega (arith, there)))
    (λ k d there.
    let at = each (suc k) d (omega (arith, there)) in
    (omega (arith, same, pairs 0 (suc k) d (omega arith) (omega (arith, there))), omega (arith, at.1), at.2)))
  where
    rest : ℕ
    rest = sum_by (λ i. cond (p i) (g i) 0) (range_with_len (first + 1) count)

    above : first < x → (k d : ℕ) → k < length (x ∷ xs) → first + 1 ≤ get_or (x ∷ xs) k d
    above after zero d there = omega (arith, after)
    above after (suc k) d there = omega (arith, after, pairs 0 (suc k) d (omega arith) there)

    by_case : (first < x) ⊎ (x ≤ first) → (first < x → sum_by g (x ∷ xs) ≤ rest) → (x ≡ first → sum_by g xs ≤ rest)
        → sum_by g (x ∷ xs) ≤ sum_by (λ i. cond (p i) (g i) 0) (range_with_len first (suc count))
    by_case (inl after) further same =
        omega (arith, further after, sum_by-cons (λ i. cond (p i) (g i) 0) first (range_with_len (first + 1) count))
    by_case (inr before) further same =
        let at = each 0 x (omega arith) in
        let is : x ≡ first = omega (arith, before, at.0) in
        let passes : cond (p first) (g first) 0 ≡ g first = cond-true (p first) (g first) 0 (ap p (sym is) ∙ at.2) in
        omega (
          arith,
          same is,
          passes,
          ap g is,
          sum_by-cons g x xs,
          sum_by-cons (λ i. cond (p i) (g i) 0) first (range_with_len (first + 1) count),
        )

-- what the strips have of the cells, by indices
indices_within : (cells : List Cell) → IsCut cells → (g : ℕ → ℕ) → sum_by (λ run. sum_by g run) (index_runs cells) ≤ sum_by g (range_with_len 0 (length cells))
indices_within cells cut g =
    let runs : List (List ℕ) = index_runs cells in
    let count : ℕ = length runs in
    let has : ℕ → ℕ → ℕ = λ s i. cond (owner_of cells i == s) (g i) 0 in
    let numbered = sum_by-numbers (λ run. sum_by g run) runs [] in
    let each = sum_by-range_no_more (λ s. sum_by g (get_or runs s [])) (λ s. sum_by (has s) (range_with_len 0 (length cells))) 0 count
    (λ s least most.
    let there : s < length runs = omega (arith, most) in
    rising_within g (λ i. owner_of cells i == s) 0 (length cells) (get_or runs s []) (run_rises cells cut.rules s there)
    (λ k d inside. (
      omega arith,
      omega (arith, (runs_indices cells cut.rules s [] there).each k d inside),
      eq-eqb _ s (owner_is cells cut s there k d inside),
    ))) in
    let shared = sum_by-shared has g (range_with_len 0 count) (range_with_len 0 (length cells))
    (λ k d there.
    let i : ℕ = get_or (range_with_len 0 (length cells)) k d in
    once_in_range (λ s. owner_of cells i == s) (g i) 0 count
    (λ s t less below is_s is_t. omega (arith, less, eqb-true (owner_of cells i) s is_s, eqb-true (owner_of cells i) t is_t))) in
    omega (arith, numbered, each, shared)

pub strips_within : (cells : List Cell) → IsCut cells → (g : Cell → ℕ) → sum_by (λ run. sum_by g run) (strip_runs cells) ≤ sum_by g cells
strips_within cells cut g =
    let by_strip = ap (sum_by (λ run. sum_by g run)) (runs_are cells) ∙ sum_by-map (λ run. sum_by g run) (map (cell_at cells)) (index_runs cells) in
    let same = same_sums (index_runs cells) in
    let by_cell = ap (sum_by g) (fill_by_all (cell_at cells) cells (length cells) some_cell refl (λ k there. refl))
    ∙ sum_by-map g (cell_at cells) (range_with_len 0 (length cells)) in
    omega (arith, by_strip, same, by_cell, indices_within cells cut (λ i. g (cell_at cells i)))
  where
    same_sums : (runs : List (List ℕ)) → sum_by (λ run. sum_by g (map (cell_at cells) run)) runs ≡ sum_by (λ run. sum_by (λ i. g (cell_at cells i)) run) runs
    same_sums [] = refl
    same_sums (run ∷ runs) =
        sum_by-cons (λ run. sum_by g (map (cell_at cells) run)) run runs
        ∙ ap (λ n. n + sum_by (λ run. sum_by g (map (cell_at cells) run)) runs) (sum_by-map g (cell_at cells) run)
        ∙ ap (λ n. sum_by (λ i. g (cell_at cells i)) run + n) (same_sums runs)
        ∙ sym (sum_by-cons (λ run. sum_by (λ i. g (cell_at cells i)) run) run runs)
