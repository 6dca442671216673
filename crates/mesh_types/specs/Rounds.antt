-- Rounds: sums over the steps of places that run round, from each to the next and from the last to the first.
use Rattle.std.specs.Prelude.{ℕ, ℤ, pos, ◌+ℤ◌, List, [], ◌∷◌}

-- the sum of a function of two places over the steps of a walk, from one place on and at its end to the first
abbrev pub sum_along : (ℕ → ℕ → ℤ) → ℕ → ℕ → List ℕ → ℤ
sum_along f first here [] = f here first
sum_along f first here (next ∷ rest) = f here next +ℤ sum_along f first next rest

-- the sum over the steps round
abbrev pub sum_round : (ℕ → ℕ → ℤ) → List ℕ → ℤ
sum_round f [] = pos 0
sum_round f (first ∷ rest) = sum_along f first first rest
