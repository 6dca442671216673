-- From where to where a row's spots reach.
use Rattle.std.proofs.Common.{ℕ, ◌*◌, ◌/◌, ◌≤◌, ◌<◌, min, max, inl, inr, arith, List, [], ◌∷◌, map}
use Rattle.std.specs.List.{All, fold}
use Rattle.std.specs.Int.{div_ceil}
use Rattle.std.proofs.lemmas.Bool.{cases_lt}
use Rattle.std.proofs.lemmas.List.Elements.{All-nil, All-cons, All-head, All-tail}
use Rattle.tri_raster.specs.declared.triangle.Spot.{Spot}
use Rattle.tri_raster.specs.declared.triangle.Mark.{Mark}
use Rattle.tri_raster.specs.Spots.{mark_of}

-- the least of a number and the spots' columns, and the greatest of a number and their ends
abbrev pub least : List Spot → ℕ → ℕ
least spots a = fold (λ (first : ℕ) (mark : Mark). min first mark.column) a (map mark_of spots)

abbrev pub greatest : List Spot → ℕ → ℕ
greatest spots a = fold (λ (end : ℕ) (mark : Mark). max end mark.end) a (map mark_of spots)

abbrev IsRightOf : ℕ → Spot → Type 0
IsRightOf x s = x < s.x / (16 * s.n)

abbrev IsLeftOf : ℕ → Spot → Type 0
IsLeftOf x s = div_ceil s.x (16 * s.n) ≤ x

pub all_from : (spots : List Spot) (a x : ℕ) → x < least spots a → (x < a) × All (IsRightOf x) spots
all_from [] a x h = (h, All-nil (IsRightOf x))
all_from (s ∷ spots) a x h =
    let more = all_from spots (min a (s.x / (16 * s.n))) x h in
    (omega (arith, more.0), All-cons (IsRightOf x) s spots (omega (arith, more.0)) more.1)

pub all_until : (spots : List Spot) (a x : ℕ) → greatest spots a ≤ x → (a ≤ x) × All (IsLeftOf x) spots
all_until [] a x h = (h, All-nil (IsLeftOf x))
all_until (s ∷ spots) a x h =
    let more = all_until spots (max a (div_ceil s.x (16 * s.n))) x h in
    (omega (arith, more.0), All-cons (IsLeftOf x) s spots (omega (arith, more.0)) more.1)

pub some_from : (P : Spot → Type 0) (spots : List Spot) (a x : ℕ) → All P spots → least spots a ≤ x → x < a → (s : Spot) × P s × (s.x / (16 * s.n) ≤ x)
some_from P [] a x all h less = absurd (omega (arith, h, less))
some_from P (s ∷ spots) a x all h less = elim (cases_lt x (s.x / (16 * s.n))) [
  | inl right ↦ some_from P spots (min a (s.x / (16 * s.n))) x (All-tail P s spots all) h (omega (arith, right, less))
  | inr here ↦ (s, All-head P s spots all, here)
]

pub some_until : (P : Spot → Type 0) (spots : List Spot) (a x : ℕ) → All P spots → x < greatest spots a → a ≤ x → (s : Spot) × P s × (x < div_ceil s.x (16 * s.n))
some_until P [] a x all h less = absurd (omega (arith, h, less))
some_until P (s ∷ spots) a x all h less = elim (cases_lt x (div_ceil s.x (16 * s.n))) [
  | inl here ↦ (s, All-head P s spots all, here)
  | inr left ↦ some_until P spots (max a (div_ceil s.x (16 * s.n))) x (All-tail P s spots all) h (omega (arith, left, less))
]
