-- Runs: the cells of a row of columns stand one after the other, and rows of a rectangle make up its cells.
use Rattle.std.proofs.Common.{◌≡◌, ℕ, ◌+◌, ◌-◌, ◌<◌, ◌≤◌, Bool, true, false, cond, length, List, [], ◌∷◌, ◌++◌, take, drop, filter, get_or, ap, ◌∙◌, sym, refl, subst, arith, tests, zero, suc, inl, inr, lt-ltb, le-ltb, eq-eqb, ne_eqb}
use Rattle.std.specs.Prelude.{◌&&◌, not, ℤ, pos, ◌≤ℤ◌, ◌==◌, int_le, nat_lt}
use Rattle.std.specs.List.Sorted.{IsPartitionedBy, IsPartitionPoint, IsNonDecreasingBy}
use Rattle.std.proofs.lemmas.Int.{ints}
use Rattle.std.proofs.lemmas.Bool.{and_parts, and_from, and_right, both_ways, cases_lt, cases_order, eqb-true, false_from_ne_true}
use Rattle.std.proofs.lemmas.List.{get_or-take, get_or-drop, length-take, length-drop, append-nil, take-append-drop}
use Rattle.std.proofs.lemmas.List.Elements.{filter-append}
use Rattle.nav_ground.specs.declared.cell.Cell.{Cell}
use Rattle.nav_ground.specs.declared.cell.CellRef.{CellRef}
use Rattle.nav_ground.specs.declared.cell.Window.{Window}
use Rattle.nav_ground.specs.Cells.{IsCells, IsCellBefore}
use Rattle.nav_ground.specs.Tiling.{is_in_window}
use Rattle.nav_ground.proofs.Selections.{filter_all, filter_none}
use Rattle.cell_table.proofs.Places.{no_cell}
use Rattle.agent_erode.specs.Runs.{is_before_column, is_in_run, IsBetween}

-- the cells before a column of a row come first
before_through : (a b : CellRef) (row x : ℕ) → IsCellBefore a b → is_before_column row x b ≡ true → is_before_column row x a ≡ true
before_through a b row x h e = grind (arith, tests)

pub columns_parted : (cells : List Cell) (row x : ℕ) → IsCells cells → IsPartitionedBy (λ (cell : Cell). is_before_column row x cell.at) cells
columns_parted cells row x rules' i j d le within later =
    elim (cases_lt i j) [
      | inl before ↦ before_through (get_or cells i d).at (get_or cells j d).at row x (rules'.order i j d before within) later
      | inr rest ↦
          let same : j ≡ i = omega (arith, le, rest) in
          subst (λ k. is_before_column row x (get_or cells k d).at ≡ true) same later
    ]

-- what lies before the begin of a run lies before its end
pub begins_before : (at : CellRef) (row first end : ℕ) → first ≤ end → is_before_column row first at ≡ true → is_before_column row end at ≡ true
begins_before at row first end order h = grind (arith, tests)

-- a test that the elements from one place to another pass, and no others, keeps those
pub run_is : {A : Type 0} (p : A → Bool) (xs : List A) (a b : ℕ) → a ≤ b → b ≤ length xs
    → ((k : ℕ) (d : A) → k < a → p (get_or xs k d) ≡ false) → ((k : ℕ) (d : A) → a ≤ k → k < b → p (get_or xs k d) ≡ true)
    → ((k : ℕ) (d : A) → b ≤ k → k < length xs → p (get_or xs k d) ≡ false)
    → take (b - a) (drop a xs) ≡ filter p xs
run_is p xs a b order most before inside after =
    let ys = drop a xs in
    let n = b - a in
    let none : filter p (take a xs) ≡ [] = filter_none p (take a xs) (λ k d there.
    let small : k < a = omega (arith, there, length-take a xs) in
    ap p (get_or-take a xs k d small) ∙ before k d small) in
    let all : filter p (take n ys) ≡ take n ys = filter_all p (take n ys) (λ k d there.
    let small : k < n = omega (arith, there, length-take n ys) in
    ap p (get_or-take n ys k d small ∙ get_or-drop a xs k d) ∙ inside (a + k) d (omega arith) (omega (arith, small))) in
    let rest : filter p (drop n ys) ≡ [] = filter_none p (drop n ys) (λ k d there.
    ap p (get_or-drop n ys k d ∙ get_or-drop a xs (n + k) d)
    ∙ after (a + (n + k)) d (omega (arith, order)) (omega (arith, there, length-drop n ys, length-drop a xs, order, most))) in
    sym (ap (filter p) (sym (take-append-drop a xs)) ∙ filter-append p (take a xs) ys ∙ (λ i. none i ++ filter p ys)
    ∙ ap (filter p) (sym (take-append-drop n ys)) ∙ filter-append p (take n ys) (drop n ys) ∙ (λ i. all i ++ rest i) ∙ append-nil (take n ys))

-- where the cells of a row from a first column on begin and end, the test keeps what stands between
abbrev pub IsBegin : List Cell → ℕ → ℕ → ℕ → Type 0
IsBegin cells row x n =
    IsPartitionPoint (λ (cell : Cell). is_before_column row x cell.at ≡ true) (λ (cell : Cell). is_before_column row x cell.at ≡ false) cells n

pub ends_rise : (cells : List Cell) (row first end from to : ℕ) → first ≤ end → from ≤ length cells → IsBegin cells row first from
    → IsBegin cells row end to → from ≤ to
ends_rise cells row first end from to order most begins ends =
    elim (cases_lt to from) [
      | inl less ↦
          let at = (get_or cells to no_cell).at in
          absurd (both_ways (is_before_column row end at)
          (ends.1 to no_cell (omega arith) (omega (arith, less, most)))
          (begins_before at row first end order (begins.0 to no_cell (omega arith) less)))
      | inr rest ↦ omega (arith, rest)
    ]

pub run_between : (cells : List Cell) (row first end from to : ℕ) → first ≤ end → from ≤ length cells → to ≤ length cells
    → IsBegin cells row first from → IsBegin cells row end to → take (to - from) (drop from cells) ≡ filter (is_in_run row first end) cells
run_between cells row first end from to order most most' begins ends =
    run_is (is_in_run row first end) cells from to (ends_rise cells row first end from to order most begins ends) most'
    (λ k d below. ap (λ b. not b && is_before_column row end (get_or cells k d).at) (begins.0 k d (omega arith) below))
    (λ k d above below.
    ap (λ b. not b && is_before_column row end (get_or cells k d).at) (begins.1 k d above (omega (arith, below, most')))
    ∙ ends.0 k d (omega arith) below)
    (λ k d above there. and_right _ _ (ends.1 k d above there))

-- elements in order of a number: those below a number and one more, of which a test keeps some
early : {A : Type 0} (q : Bool) (x : A) (ls ks bs : List A) → ls ≡ ks ++ bs → cond q (x ∷ ls) ls ≡ cond q (x ∷ ks) ks ++ bs
early true x ls ks bs h = ap (λ ys. x ∷ ys) h
early false x ls ks bs h = h

here : {A : Type 0} (q : Bool) (x : A) (ls ks bs : List A) → ls ≡ ks ++ bs → ks ≡ [] → cond q (x ∷ ls) ls ≡ ks ++ cond q (x ∷ bs) bs
here true x ls ks bs h none = ap (λ ys. x ∷ ys) (h ∙ ap (λ ys. ys ++ bs) none) ∙ ap (λ ys. ys ++ (x ∷ bs)) (sym none)
here false x ls ks bs h none = h

pub next_number : {A : Type 0} (n : A → ℕ) (p : A → Bool) (xs : List A) (m : ℕ) → IsNonDecreasingBy n xs
    → filter (λ x. nat_lt (n x) (m + 1) && p x) xs ≡ filter (λ x. nat_lt (n x) m && p x) xs ++ filter (λ x. n x == m && p x) xs
next_number n p [] m up = refl
next_number {A} n p (x ∷ xs) m up =
    let ls = filter (λ y. nat_lt (n y) (m + 1) && p y) xs in
    let ks = filter (λ y. nat_lt (n y) m && p y) xs in
    let bs = filter (λ y. n y == m && p y) xs in
    let rest : ls ≡ ks ++ bs =
    next_number n p xs m (λ i j d before there. up (suc i) (suc j) d (omega (arith, before)) (omega (arith, there))) in
    elim (cases_order (n x) m) [
      | inl same ↦
          let none : ks ≡ [] = filter_none (λ y. nat_lt (n y) m && p y) xs (λ k d there. false_from_ne_true _ (λ h.
          let low = and_parts (nat_lt (n (get_or xs k d)) m) (p (get_or xs k d)) h in
          let rise = up zero (suc k) d (omega arith) (omega (arith, there)) in
          absurd (omega (arith, tests, low.0, rise, same)))) in
          by_tests (p x) ls ks bs (lt-ltb (n x) (m + 1) (omega (arith, same))) (le-ltb (n x) m (omega (arith, same))) (eq-eqb (n x) m same) (here (p x) x ls ks bs rest none)
      | inr (inl below) ↦
          by_tests (p x) ls ks bs (lt-ltb (n x) (m + 1) (omega (arith, below))) (lt-ltb (n x) m below) (ne_eqb (n x) m (λ same. omega (arith, below, same)))
          (early (p x) x ls ks bs rest)
      | inr (inr above) ↦
          by_tests (p x) ls ks bs (le-ltb (n x) (m + 1) (omega (arith, above))) (le-ltb (n x) m (omega (arith, above))) (ne_eqb (n x) m (λ same. omega (arith, above, same))) rest
    ]
  where
    by_tests : {a b c a' b' c' : Bool} (q : Bool) (ls ks bs : List A) → a ≡ a' → b ≡ b' → c ≡ c'
        → cond (a' && q) (x ∷ ls) ls ≡ cond (b' && q) (x ∷ ks) ks ++ cond (c' && q) (x ∷ bs) bs
        → cond (a && q) (x ∷ ls) ls ≡ cond (b && q) (x ∷ ks) ks ++ cond (c && q) (x ∷ bs) bs
    by_tests q ls ks bs e f g h =
        ap (λ t. cond (t && q) (x ∷ ls) ls) e ∙ h
        ∙ sym (λ i. cond (f i && q) (x ∷ ks) ks ++ cond (g i && q) (x ∷ bs) bs)

-- a test of whole numbers as a fact, and back
pub at_least : (a b : ℤ) → int_le a b ≡ true → a ≤ℤ b
at_least a b h = grind (arith, ints)

is_least : (a b : ℤ) → a ≤ℤ b → int_le a b ≡ true
is_least a b h = grind (arith, ints)

pub between_x : (window : Window) (x z : ℕ) → is_in_window window x z ≡ true → IsBetween window.x0 x window.x1
between_x window x z inside =
    let both = and_parts (int_le window.x0 (pos x) && int_le (pos x) window.x1) (int_le window.z0 (pos z) && int_le (pos z) window.z1) inside in
    let ends = and_parts (int_le window.x0 (pos x)) (int_le (pos x) window.x1) both.0 in
    (at_least window.x0 (pos x) ends.0, at_least (pos x) window.x1 ends.1)

pub between_z : (window : Window) (x z : ℕ) → is_in_window window x z ≡ true → IsBetween window.z0 z window.z1
between_z window x z inside =
    let both = and_parts (int_le window.x0 (pos x) && int_le (pos x) window.x1) (int_le window.z0 (pos z) && int_le (pos z) window.z1) inside in
    let ends = and_parts (int_le window.z0 (pos z)) (int_le (pos z) window.z1) both.1 in
    (at_least window.z0 (pos z) ends.0, at_least (pos z) window.z1 ends.1)

in_window_from : (window : Window) (x z : ℕ) → IsBetween window.x0 x window.x1 → IsBetween window.z0 z window.z1 → is_in_window window x z ≡ true
in_window_from window x z in_x in_z =
    and_from _ _ (and_from _ _ (is_least window.x0 (pos x) in_x.0) (is_least (pos x) window.x1 in_x.1))
    (and_from _ _ (is_least window.z0 (pos z) in_z.0) (is_least (pos z) window.z1 in_z.1))

-- what a run of a row has
run_parts : (cell : Cell) (row first end : ℕ) → is_in_run row first end cell ≡ true → (cell.at.z ≡ row) × (first ≤ cell.at.x) × (cell.at.x < end)
run_parts cell row first end h = grind (arith, tests)

run_from : (cell : Cell) (row first end : ℕ) → cell.at.z ≡ row → first ≤ cell.at.x → cell.at.x < end → is_in_run row first end cell ≡ true
run_from cell row first end same least most = grind (arith, tests)

same_truth : (p q : Bool) → (p ≡ true → q ≡ true) → (q ≡ true → p ≡ true) → p ≡ q
same_truth true q forth back = sym (forth refl)
same_truth false true forth back = back refl
same_truth false false forth back = refl

-- the run that a rectangle has of one of its rows
pub run_in_window : (window : Window) (cell : Cell) (row first end : ℕ) → IsBetween window.z0 row window.z1
    → (IsBetween window.x0 cell.at.x window.x1 → (first ≤ cell.at.x) × (cell.at.x < end))
    → (first ≤ cell.at.x → cell.at.x < end → IsBetween window.x0 cell.at.x window.x1)
    → is_in_run row first end cell ≡ (cell.at.z == row && is_in_window window cell.at.x cell.at.z)
run_in_window window cell row first end in_z all only =
    same_truth (is_in_run row first end cell) (cell.at.z == row && is_in_window window cell.at.x cell.at.z)
    (λ h.
    let parts = run_parts cell row first end h in
    and_from _ _ (eq-eqb cell.at.z row parts.0)
    (in_window_from window cell.at.x cell.at.z (only parts.1 parts.2)
    (subst (λ z. IsBetween window.z0 z window.z1) (sym parts.0) in_z)))
    (λ h.
    let parts = and_parts (cell.at.z == row) (is_in_window window cell.at.x cell.at.z) h in
    let ends = all (between_x window cell.at.x cell.at.z parts.1) in
    run_from cell row first end (eqb-true cell.at.z row parts.0) ends.0 ends.1)

-- a test beside another from which it follows
pub only_true : (a b : Bool) → (b ≡ true → a ≡ true) → (a && b) ≡ b
only_true true b follows = refl
only_true false true follows = follows refl
only_true false false follows = refl
