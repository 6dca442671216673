-- The cells of a list beside which a mark is true: a part of the list, in order.
use Rattle.std.proofs.Common.{◌≡◌, ℕ, ◌+◌, ◌<◌, ◌≤◌, ◌++◌, Bool, true, false, cond, length, List, [], ◌∷◌, take, map, filter, get_or, ap, ◌∙◌, refl, arith, zero, suc}
use Rattle.std.specs.Prelude.{All, AllPairs, if◌then◌else◌}
use Rattle.std.proofs.lemmas.List.Elements.{All-nil, All-cons, All-head, All-tail}
use Rattle.std.proofs.lemmas.List.Kept.{AllPairs-cons}
use Rattle.nav_ground.specs.declared.cell.Cell.{Cell}
use Rattle.nav_ground.specs.Cells.{IsCell, IsCells, IsCellBefore}
use Rattle.nav_ground.specs.Clearance.{marked}

-- what holds of each cell, and of each two, holds of those that are marked
All-marked : (P : Cell → Type 0) (cells : List Cell) (marks : List Bool) → All P cells → All P (marked cells marks)
All-marked P [] marks each = each
All-marked P (cell ∷ cells) [] each = All-nil P
All-marked P (cell ∷ cells) (true ∷ marks) each =
    All-cons P cell (marked cells marks) (All-head P cell cells each) (All-marked P cells marks (All-tail P cell cells each))
All-marked P (cell ∷ cells) (false ∷ marks) each = All-marked P cells marks (All-tail P cell cells each)

AllPairs-marked : (R : Cell → Cell → Type 0) (cells : List Cell) (marks : List Bool) → AllPairs R cells → AllPairs R (marked cells marks)
AllPairs-marked R [] marks pairs = pairs
AllPairs-marked R (cell ∷ cells) [] pairs = λ i j d before there. absurd (omega (arith, there))
AllPairs-marked R (cell ∷ cells) (true ∷ marks) pairs =
    AllPairs-cons R cell (marked cells marks)
    (All-marked (R cell) cells marks (λ k d there. pairs zero (suc k) d (omega arith) (omega (arith, there))))
    (AllPairs-marked R cells marks (λ i j d before there. pairs (suc i) (suc j) d (omega (arith, before)) (omega (arith, there))))
AllPairs-marked R (cell ∷ cells) (false ∷ marks) pairs =
    AllPairs-marked R cells marks (λ i j d before there. pairs (suc i) (suc j) d (omega (arith, before)) (omega (arith, there)))

few_marked : (cells : List Cell) (marks : List Bool) → length (marked cells marks) ≤ length cells
few_marked [] marks = omega arith
few_marked (cell ∷ cells) [] = omega arith
few_marked (cell ∷ cells) (true ∷ marks) = omega (arith, few_marked cells marks)
few_marked (cell ∷ cells) (false ∷ marks) = omega (arith, few_marked cells marks)

-- so they keep the rules of cells
pub marked_rules : (cells : List Cell) (marks : List Bool) → IsCells cells → IsCells (marked cells marks)
marked_rules cells marks rules' = record {
  few = omega (arith, few_marked cells marks, rules'.few);
  order = AllPairs-marked (λ (a b : Cell). IsCellBefore a.at b.at) cells marks rules'.order;
  each = All-marked IsCell cells marks rules'.each;
}

-- the marks that a test gives mark what the test keeps
pub marked_by_test : (p : Cell → Bool) (cells : List Cell) → marked cells (map p cells) ≡ filter p cells
marked_by_test p [] = refl
marked_by_test p (cell ∷ cells) =
    let rest = marked_by_test p cells in
    elim (p cell) as (λ b. (if b then cell ∷ marked cells (map p cells) else marked cells (map p cells)) ≡ cond b (cell ∷ filter p cells) (filter p cells))
    [ true ↦ ap (λ (cs : List Cell). cell ∷ cs) rest | false ↦ rest ]

-- one cell more, which is marked, and which is not
next_marked : (cells : List Cell) (marks : List Bool) (i : ℕ) (d : Cell) (e : Bool) → i < length cells → i < length marks
    → get_or marks i e ≡ true
    → marked (take (suc i) cells) (take (suc i) marks) ≡ marked (take i cells) (take i marks) ++ get_or cells i d ∷ []
next_marked [] marks i d e there beside mark = absurd (omega (arith, there))
next_marked (cell ∷ cells) [] i d e there beside mark = absurd (omega (arith, beside))
next_marked (cell ∷ cells) (m ∷ marks) zero d e there beside mark = ap (λ b. if b then cell ∷ [] else []) mark
next_marked (cell ∷ cells) (true ∷ marks) (suc i) d e there beside mark =
    ap (λ (cs : List Cell). cell ∷ cs) (next_marked cells marks i d e (omega (arith, there)) (omega (arith, beside)) mark)
next_marked (cell ∷ cells) (false ∷ marks) (suc i) d e there beside mark =
    next_marked cells marks i d e (omega (arith, there)) (omega (arith, beside)) mark

next_unmarked : (cells : List Cell) (marks : List Bool) (i : ℕ) (e : Bool) → i < length cells → i < length marks → get_or marks i e ≡ false
    → marked (take (suc i) cells) (take (suc i) marks) ≡ marked (take i cells) (take i marks)
next_unmarked [] marks i e there beside mark = absurd (omega (arith, there))
next_unmarked (cell ∷ cells) [] i e there beside mark = absurd (omega (arith, beside))
next_unmarked (cell ∷ cells) (m ∷ marks) zero e there beside mark = ap (λ b. if b then cell ∷ [] else []) mark
next_unmarked (cell ∷ cells) (true ∷ marks) (suc i) e there beside mark =
    ap (λ (cs : List Cell). cell ∷ cs) (next_unmarked cells marks i e (omega (arith, there)) (omega (arith, beside)) mark)
next_unmarked (cell ∷ cells) (false ∷ marks) (suc i) e there beside mark =
    next_unmarked cells marks i e (omega (arith, there)) (omega (arith, beside)) mark

pub one_more_marked : (cells : List Cell) (marks : List Bool) (i : ℕ) (d : Cell) (e : Bool) → i < length cells → i < length marks
    → get_or marks i e ≡ true
    → marked (take (i + 1) cells) (take (i + 1) marks) ≡ marked (take i cells) (take i marks) ++ get_or cells i d ∷ []
one_more_marked cells marks i d e there beside mark =
    let same : i + 1 ≡ suc i = omega arith in
    ap (λ (n : ℕ). marked (take n cells) (take n marks)) same ∙ next_marked cells marks i d e there beside mark

pub one_less_marked : (cells : List Cell) (marks : List Bool) (i : ℕ) (e : Bool) → i < length cells → i < length marks → get_or marks i e ≡ false
    → marked (take (i + 1) cells) (take (i + 1) marks) ≡ marked (take i cells) (take i marks)
one_less_marked cells marks i e there beside mark =
    let same : i + 1 ≡ suc i = omega arith in
    ap (λ (n : ℕ). marked (take n cells) (take n marks)) same ∙ next_unmarked cells marks i e there beside mark
