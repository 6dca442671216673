-- The laws of strips: where their cells lie, that no cell is in two of them, and how ends of two of them meet in a row.
use Rattle.std.proofs.Common.{◌≡◌, ℕ, ◌+◌, ◌<◌, ◌≤◌, ◌⊎◌, true, length, List, [], ◌∷◌, get_or, ap, ◌∙◌, sym, refl, subst, arith, zero, suc, inl, inr}
use Rattle.std.specs.Prelude.{◌==◌, nat_lt, All, AllPairs, if◌then◌else◌}
use Rattle.std.specs.List.{range_with_len}
use Rattle.std.proofs.lemmas.Bool.{cases_lt, cases_order, lt-ltb, le-ltb, cond-true, cond-false, eq-eqb, eqb-true}
use Rattle.std.proofs.lemmas.List.{get_or-map}
use Rattle.std.proofs.lemmas.List.Elements.{Contains-get_or}
use Rattle.std.proofs.lemmas.List.FromFn.{get_or-range_with_len, length-range_with_len}
use Rattle.std.proofs.lemmas.List.Kept.{AllPairs-filter}
use Rattle.nav_ground.specs.declared.cell.Cell.{Cell}
use Rattle.nav_ground.specs.Cells.{IsCells, IsCut, is_naming}
use Rattle.nav_ground.proofs.FreeLayers.{names_one}
use Rattle.cell_table.proofs.Tables.{one_index}
use Rattle.mesh_types.specs.StripPolygons.{some_cell}
use Rattle.mono_regions.specs.Indices.{cell_at, along, indices_from, run_at, begins_at, firsts_below, index_runs, owner_of}
use Rattle.mono_regions.proofs.Found.{position_only}
use Rattle.mono_regions.proofs.Chains.{along_is, along_after}
use Rattle.mono_regions.proofs.Walks.{along_run}
use Rattle.mono_regions.proofs.Owners.{owner_place, owner_after, firsts_small, firsts_begin, begins_past, run_count}

-- a cell lies some columns after another in its row, and has its area
pub record IsAt (cells : List Cell) (first i k : ℕ) : Type 0 where
  pub x : (cell_at cells i).at.x ≡ (cell_at cells first).at.x + k
  pub z : (cell_at cells i).at.z ≡ (cell_at cells first).at.z
  pub area : (cell_at cells i).area ≡ (cell_at cells first).area

walk_at : (cells : List Cell) → IsCells cells → (n i k d : ℕ) → i < length cells → k < length (indices_from cells n i)
    → IsAt cells i (get_or (indices_from cells n i) k d) k
unfolding indices_from
walk_at cells rules' zero i zero d there inside = record { x = omega arith; z = refl; area = refl }
walk_at cells rules' zero i (suc k) d there inside = absurd (omega (arith, inside))
walk_at cells rules' (suc n) i zero d there inside = record { x = omega arith; z = refl; area = refl }
walk_at cells rules' (suc n) i (suc k) d there inside =
    by_case (cases_lt (along cells 2 i) (length cells)) (λ next. walk_at cells rules' n (along cells 2 i) k d next) (omega (arith, inside))
  where
    rest : List ℕ
    rest = if nat_lt (along cells 2 i) (length cells) then indices_from cells n (along cells 2 i) else []

    by_case : (along cells 2 i < length cells) ⊎ (length cells ≤ along cells 2 i)
        → ((along cells 2 i < length cells) → k < length (indices_from cells n (along cells 2 i))
        → IsAt cells (along cells 2 i) (get_or (indices_from cells n (along cells 2 i)) k d) k)
        → k < length rest → IsAt cells i (get_or rest k d) (suc k)
    by_case (inl next) further inside' =
        let is : rest ≡ indices_from cells n (along cells 2 i) =
        cond-true (nat_lt (along cells 2 i) (length cells)) (indices_from cells n (along cells 2 i)) [] (lt-ltb _ _ next) in
        let at = further next (omega (arith, inside', ap length is)) in
        let after = along_after cells rules' i there next in
        let area = (along_is cells 2 i next).1 in
        let P : List ℕ → Type 0 = λ xs. IsAt cells i (get_or xs k d) (suc k) in
        subst P (sym is) (record { x = omega (arith, at.x, after.1); z = at.z ∙ after.2; area = at.area ∙ area })
    by_case (inr past) further inside' =
        let is : rest ≡ [] = cond-false (nat_lt (along cells 2 i) (length cells)) (indices_from cells n (along cells 2 i)) [] (le-ltb _ _ past) in
        absurd (omega (arith, inside', ap length is))

walk_begins : (cells : List Cell) (n i d : ℕ) → get_or (indices_from cells n i) 0 d ≡ i
unfolding indices_from
walk_begins cells zero i d = refl
walk_begins cells (suc n) i d = refl

-- each cell of a strip is followed by the next
walk_step : (cells : List Cell) (n i k d : ℕ) → k + 1 < length (indices_from cells n i)
    → (get_or (indices_from cells n i) (suc k) d ≡ along cells 2 (get_or (indices_from cells n i) k d))
    × (along cells 2 (get_or (indices_from cells n i) k d) < length cells)
unfolding indices_from
walk_step cells zero i k d inside = absurd (omega (arith, inside))
walk_step cells (suc n) i k d inside =
    by_case k (cases_lt (along cells 2 i) (length cells)) (λ j. walk_step cells n (along cells 2 i) j d) (omega (arith, inside))
  where
    rest : List ℕ
    rest = if nat_lt (along cells 2 i) (length cells) then indices_from cells n (along cells 2 i) else []

    by_case : (k : ℕ) → (along cells 2 i < length cells) ⊎ (length cells ≤ along cells 2 i)
        → ((j : ℕ) → j + 1 < length (indices_from cells n (along cells 2 i))
        → (get_or (indices_from cells n (along cells 2 i)) (suc j) d ≡ along cells 2 (get_or (indices_from cells n (along cells 2 i)) j d))
        × (along cells 2 (get_or (indices_from cells n (along cells 2 i)) j d) < length cells))
        → k < length rest
        → (get_or rest k d ≡ along cells 2 (get_or (i ∷ rest) k d)) × (along cells 2 (get_or (i ∷ rest) k d) < length cells)
    by_case k (inr past) further inside' =
        let is : rest ≡ [] = cond-false (nat_lt (along cells 2 i) (length cells)) (indices_from cells n (along cells 2 i)) [] (le-ltb _ _ past) in
        absurd (omega (arith, inside', ap length is))
    by_case zero (inl next) further inside' =
        let is : rest ≡ indices_from cells n (along cells 2 i) =
        cond-true (nat_lt (along cells 2 i) (length cells)) (indices_from cells n (along cells 2 i)) [] (lt-ltb _ _ next) in
        (ap (λ xs. get_or xs 0 d) is ∙ walk_begins cells n (along cells 2 i) d, next)
    by_case (suc j) (inl next) further inside' =
        let is : rest ≡ indices_from cells n (along cells 2 i) =
        cond-true (nat_lt (along cells 2 i) (length cells)) (indices_from cells n (along cells 2 i)) [] (lt-ltb _ _ next) in
        let P : List ℕ → Type 0 = λ xs. (get_or xs (suc j) d ≡ along cells 2 (get_or xs j d)) × (along cells 2 (get_or xs j d) < length cells) in
        subst P (sym is) (further j (omega (arith, inside', ap length is)))

-- the first cells of strips rise
pub firsts_rise : (cells : List Cell) (n : ℕ) → AllPairs (λ a b. a < b) (firsts_below cells n)
firsts_rise cells n =
    AllPairs-filter (λ a b. a < b) (begins_at cells) (range_with_len 0 n)
    (λ i j d less there.
    let there' : j < n = omega (arith, there, length-range_with_len 0 n) in
    omega (arith, get_or-range_with_len 0 n i d (omega (arith, less, there')), get_or-range_with_len 0 n j d there', less))

-- the strip with a number begins at the first cell with the number
pub run_with_number : (cells : List Cell) (s : ℕ) → s < length (index_runs cells) → get_or (index_runs cells) s [] ≡ run_at cells (get_or (firsts_below cells (length cells)) s 0)
unfolding index_runs
run_with_number cells s there = get_or-map (run_at cells) (firsts_below cells (length cells)) s 0 [] (omega (arith, there, run_count cells))

-- a cell stands in no strip but its own
pub owner_is : (cells : List Cell) → IsCut cells → (s : ℕ) → s < length (index_runs cells) → All (λ i. owner_of cells i ≡ s) (get_or (index_runs cells) s [])
owner_is cells cut s there =
    let firsts : List ℕ = firsts_below cells (length cells) in
    let there' : s < length firsts = omega (arith, there, run_count cells) in
    let f : ℕ = get_or firsts s 0 in
    let small : f < length cells = firsts_small cells (length cells) s 0 there' in
    let past = begins_past cells cut f small (firsts_begin cells (length cells) s 0 there') in
    let own : owner_of cells f ≡ s =
    owner_place cells cut f small past
    ∙ position_only (λ g. g == f) firsts s 0 there' (eq-eqb f f refl)
    (λ k inside h. elim (cases_order k s) [
      | inl same ↦ same
      | inr (inl less) ↦ absurd (omega (arith, firsts_rise cells (length cells) k s 0 less there', eqb-true (get_or firsts k 0) f h))
      | inr (inr more) ↦ absurd (omega (arith, firsts_rise cells (length cells) s k 0 more inside, eqb-true (get_or firsts k 0) f h))
    ]) in
    let P : List ℕ → Type 0 = All (λ i. owner_of cells i ≡ s) in
    subst P (sym (run_with_number cells s there))
    (along_run cells cut.rules (λ i. owner_of cells i ≡ s) (λ i here next before. owner_after cells cut i here next ∙ before) (length cells) f small own)

-- where the cells of a strip lie, seen from its first
pub run_columns : (cells : List Cell) → IsCells cells → (s k d : ℕ) → s < length (index_runs cells) → k < length (get_or (index_runs cells) s [])
    → IsAt cells (get_or (get_or (index_runs cells) s []) 0 d) (get_or (get_or (index_runs cells) s []) k d) k
run_columns cells rules' s k d there inside =
    let firsts : List ℕ = firsts_below cells (length cells) in
    let f : ℕ = get_or firsts s 0 in
    let small : f < length cells = firsts_small cells (length cells) s 0 (omega (arith, there, run_count cells)) in
    let is = run_with_number cells s there in
    let P : List ℕ → Type 0 = λ xs. IsAt cells (get_or xs 0 d) (get_or xs k d) k in
    let Q : ℕ → Type 0 = λ j. IsAt cells j (get_or (run_at cells f) k d) k in
    subst P (sym is) (subst Q (sym (walk_begins cells (length cells) f d)) (walk_at cells rules' (length cells) f k d small (omega (arith, inside, ap length is))))

pub run_next : (cells : List Cell) (s k d : ℕ) → s < length (index_runs cells) → k + 1 < length (get_or (index_runs cells) s [])
    → (get_or (get_or (index_runs cells) s []) (suc k) d ≡ along cells 2 (get_or (get_or (index_runs cells) s []) k d))
    × (along cells 2 (get_or (get_or (index_runs cells) s []) k d) < length cells)
run_next cells s k d there inside =
    let f : ℕ = get_or (firsts_below cells (length cells)) s 0 in
    let is = run_with_number cells s there in
    let P : List ℕ → Type 0 = λ xs. (get_or xs (suc k) d ≡ along cells 2 (get_or xs k d)) × (along cells 2 (get_or xs k d) < length cells) in
    subst P (sym is) (walk_step cells (length cells) f k d (omega (arith, inside, ap length is)))

-- where a cell of a strip names a cell of another toward x + 1, it is the last of its own, and that one is the first
pub ends_meet : (cells : List Cell) → IsCut cells → (s t k j : ℕ) → s < length (index_runs cells) → t < length (index_runs cells) → (s ≡ t → ⊥)
    → k < length (get_or (index_runs cells) s []) → j < length (get_or (index_runs cells) t [])
    → All (λ i. i < length cells) (get_or (index_runs cells) s []) → All (λ i. i < length cells) (get_or (index_runs cells) t [])
    → is_naming 2 (cell_at cells (get_or (get_or (index_runs cells) s []) k 0)) (cell_at cells (get_or (get_or (index_runs cells) t []) j 0)).at ≡ true
    → (k + 1 ≡ length (get_or (index_runs cells) s [])) × (j ≡ 0)
ends_meet cells cut s t k j s-in t-in apart k-in j-in each each' named = (last, first j refl)
  where
    own : List ℕ
    own = get_or (index_runs cells) s []

    other : List ℕ
    other = get_or (index_runs cells) t []

    a : ℕ
    a = get_or own k 0

    b : ℕ
    b = get_or other j 0

    -- a cell of both strips would be in one
    both : (i : ℕ) → owner_of cells i ≡ s → owner_of cells i ≡ t → ⊥
    both i is is' = apart (sym is ∙ is')

    last : k + 1 ≡ length own
    last = elim (cases_lt (k + 1) (length own)) [
      | inl more ↦
          let next = run_next cells s k 0 s-in more in
          let following : is_naming 2 (cell_at cells a) (cell_at cells (along cells 2 a)).at ≡ true = (along_is cells 2 a next.1).0 in
          let same : b ≡ along cells 2 a = one_index cells cut.rules b (along cells 2 a) some_cell (each' j 0 j-in) next.1 (names_one 2 (cell_at cells a) _ _ (omega arith) named following) in
          absurd (both b (ap (owner_of cells) (same ∙ sym next.0) ∙ owner_is cells cut s s-in (suc k) 0 (omega (arith, more))) (owner_is cells cut t t-in j 0 j-in))
      | inr none ↦ omega (arith, none, k-in)
    ]

    first : (i : ℕ) → j ≡ i → i ≡ 0
    first zero is = refl
    first (suc i) is =
        let inside : i + 1 < length other = omega (arith, is, j-in) in
        let next = run_next cells t i 0 t-in inside in
        let p : ℕ = get_or other i 0 in
        let here : p < length cells = each' i 0 (omega (arith, inside)) in
        let b_is : along cells 2 p ≡ b = sym next.0 ∙ ap (λ n. get_or other n 0) (sym is) in
        let back = cut.named_back 2 (cell_at cells p) (cell_at cells (along cells 2 p)) (omega arith) (Contains-get_or cells p some_cell here)
        (Contains-get_or cells (along cells 2 p) some_cell next.1) (along_is cells 2 p next.1).0 in
        let P : ℕ → Type 0 = λ n. is_naming 0 (cell_at cells n) (cell_at cells p).at ≡ true in
        let back' = cut.named_back 2 (cell_at cells a) (cell_at cells b) (omega arith) (Contains-get_or cells a some_cell (each k 0 k-in))
        (Contains-get_or cells b some_cell (each' j 0 j-in)) named in
        let same : a ≡ p = one_index cells cut.rules a p some_cell (each k 0 k-in) here (names_one 0 (cell_at cells b) _ _ (omega arith) back' (subst P b_is back)) in
        absurd (both a (owner_is cells cut s s-in k 0 k-in) (ap (owner_of cells) same ∙ owner_is cells cut t t-in i 0 (omega (arith, inside))))
