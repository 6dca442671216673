-- What was put into bounds so far, and one more.
use Rattle.std.proofs.Common.{◌≡◌, ℕ, ◌+◌, ◌≤◌, ◌<◌, inl, inr, arith, sym, subst, List, length, take}
use Rattle.std.specs.List.{All}
use Rattle.std.specs.Prelude.{slice_index_or}
use Rattle.std.proofs.lemmas.Bool.{cases_lt}
use Rattle.std.proofs.lemmas.List.{get_or_default, get_or-take, length-take}
use Rattle.tri_raster.specs.declared.triangle.Spot.{Spot}
use Rattle.tri_raster.specs.declared.triangle.Mark.{Mark}
use Rattle.tri_raster.specs.declared.triangle.Bound.{Bound}
use Rattle.tri_raster.specs.Bounds.{line_crossing, IsWider, AreAbout, AreAboutCrossings, AreAboutBetween}
use Rattle.tri_raster.proofs.Puts.{about_later}

-- what an index beyond the end would read
abbrev pub no_mark : Mark
no_mark = record { spot = record { n = 0; x = 0; y = 0 }; column = 0; end = 0; low = 0; high = 0 }

-- what holds of the first of a list, and of the next
pub first_more : (P : Mark → Type 0) (marks : List Mark) (i : ℕ) → i < length marks → ((j : ℕ) (d : Mark) → j < i → P (slice_index_or marks j d)) → P (slice_index_or marks i no_mark)
    → (j : ℕ) (d : Mark) → j < i + 1 → P (slice_index_or marks j d)
first_more P marks i within before here j d less = elim (cases_lt j i) [
  | inl earlier ↦ before j d earlier
  | inr later ↦ let same : j ≡ i = omega (arith, less, later) in
      subst (λ (k : ℕ). P (slice_index_or marks k d)) (sym same) (subst P (get_or_default marks i no_mark d within) here)
]

-- what lies about spots and crossings still does in wider bounds
pub spots_later : (spot : Spot) (old new : List Bound) → IsWider old new → AreAbout spot old → AreAbout spot new
spots_later spot old new wider about x inside left right = about_later spot x old new wider (about x (subst (λ (n : ℕ). x < n) wider.same inside) left right)

pub crossings_later : (left right : Spot) (old new : List Bound) → IsWider old new → AreAboutCrossings left right old → AreAboutCrossings left right new
crossings_later left right old new wider about line x before behind beside inside =
    about_later (line_crossing left right line) x old new wider (about line x before behind beside (subst (λ (n : ℕ). x < n) wider.same inside))

pub between_later : (a b : Spot) (old new : List Bound) → IsWider old new → AreAboutBetween a b old → AreAboutBetween a b new
between_later a b old new wider about = (crossings_later a b old new wider about.0, crossings_later b a old new wider about.1)

-- what holds between the first of a list, and of the next and each before it
pub pairs_more : (marks : List Mark) (i : ℕ) (new : List Bound) → i < length marks
    → ((j k : ℕ) (d e : Mark) → j < i → k < i → AreAboutCrossings (slice_index_or marks j d).spot (slice_index_or marks k e).spot new)
    → All (λ (other : Mark). AreAboutBetween (slice_index_or marks i no_mark).spot other.spot new) (take i marks)
    → AreAboutCrossings (slice_index_or marks i no_mark).spot (slice_index_or marks i no_mark).spot new
    → (j k : ℕ) (d e : Mark) → j < i + 1 → k < i + 1 → AreAboutCrossings (slice_index_or marks j d).spot (slice_index_or marks k e).spot new
pairs_more marks i new within before next itself j k d e less less' = elim (cases_lt j i) [
  | inl first ↦ elim (cases_lt k i) [
    | inl second ↦ before j k d e first second
    | inr here ↦ at_last e k (same k less' here) (λ (m : Mark). AreAboutCrossings (slice_index_or marks j d).spot m.spot new) (with j d first).1
  ]
  | inr here ↦ at_last d j (same j less here) (λ (m : Mark). AreAboutCrossings m.spot (slice_index_or marks k e).spot new) (elim (cases_lt k i) [
    | inl second ↦ (with k e second).0
    | inr there ↦ at_last e k (same k less' there) (λ (m : Mark). AreAboutCrossings (slice_index_or marks i no_mark).spot m.spot new) itself
  ])
]
  where
    same : (n : ℕ) → n < i + 1 → i ≤ n → n ≡ i
    same n p q = omega (arith, p, q)

    at_last : (d : Mark) (n : ℕ) → n ≡ i → (P : Mark → Type 0) → P (slice_index_or marks i no_mark) → P (slice_index_or marks n d)
    at_last d n e P p = subst (λ (k : ℕ). P (slice_index_or marks k d)) (sym e) (subst P (get_or_default marks i no_mark d within) p)

    with : (n : ℕ) (d : Mark) → n < i → AreAboutBetween (slice_index_or marks i no_mark).spot (slice_index_or marks n d).spot new
    with n d first = subst (λ (m : Mark). AreAboutBetween (slice_index_or marks i no_mark).spot m.spot new) (get_or-take i marks n d first)
        (next n d (omega (arith, length-take i marks, first, within)))

-- the first of a list fulfil what all do
pub all_first : (P : Mark → Type 0) (marks : List Mark) (i : ℕ) → i ≤ length marks → All P marks → All P (take i marks)
all_first P marks i within all j d less =
    let first : j < i = omega (arith, length-take i marks, less) in
    subst P (sym (get_or-take i marks j d first)) (all j d (omega (arith, first, within)))
