-- What heights put into bounds do to them.
use Rattle.std.proofs.Common.{◌≡◌, ℕ, zero, suc, ◌+◌, ◌*◌, ◌≤◌, ◌<◌, min, max, inl, inr, ◌≢◌, List, [], ◌∷◌, length, refl, sym, ◌∙◌, ap, subst, arith}
use Rattle.std.specs.Prelude.{slice_set}
use Rattle.std.proofs.lemmas.Bool.{cases_lt, cases_eq}
use Rattle.std.proofs.lemmas.List.{length-set, get_or-set_same, get_or-set_other, get_or_past, set-set}
use Rattle.tri_raster.specs.declared.triangle.Tri.{Tri}
use Rattle.tri_raster.specs.declared.triangle.Spot.{Spot}
use Rattle.tri_raster.specs.declared.triangle.Bound.{Bound}
use Rattle.tri_raster.specs.Triangles.{Weights, count_of, y_of, IsOver}
use Rattle.tri_raster.specs.Bounds.{no_bound, bound_at, widened, put_at, fresh, IsAbout, IsReached, IsFilled, IsWider, StaysFilled}
use Rattle.tri_raster.proofs.Divisions.{times_le}

-- ---- one bound

pub widened_about : (spot : Spot) (bound : Bound) (low high : ℕ) → low * spot.n ≤ spot.y → spot.y ≤ high * spot.n → IsAbout spot (widened bound low high)
widened_about spot bound low high under over = record {
  low = omega (arith, times_le (min bound.low low) low spot.n (omega arith));
  high = omega (arith, times_le high (max bound.high high) spot.n (omega arith));
}

pub about_wider : (spot : Spot) (old new : Bound) → new.low ≤ old.low → old.high ≤ new.high → IsAbout spot old → IsAbout spot new
about_wider spot old new lower higher about = record {
  low = omega (arith, times_le new.low old.low spot.n lower, about.low);
  high = omega (arith, times_le old.high new.high spot.n higher, about.high);
}

-- a height of a point over a column, down and up to whole numbers
pub record IsHeightOver (tri : Tri) (x z low high : ℕ) : Type 0 where
  pub point : Weights
  pub over : IsOver tri x z point
  pub floor : y_of tri point < (low + 1) * count_of point
  pub ceiling : high * count_of point < y_of tri point + count_of point
  pub few : low ≤ 8191

filled_fresh : (tri : Tri) (x z low high : ℕ) → IsHeightOver tri x z low high → IsReached tri x z (widened fresh low high)
filled_fresh tri x z low high h = record {
  low_point = h.point;
  low_over = h.over;
  low = omega (arith, times_le (low + 1) (min 8191 low + 1) (count_of h.point) (omega (arith, h.few)), h.floor);
  high_point = h.point;
  high_over = h.over;
  high = omega (arith, times_le (max 0 high) high (count_of h.point) (omega arith), h.ceiling);
}

reached_more : (tri : Tri) (x z low high : ℕ) (bound : Bound) → IsHeightOver tri x z low high → IsReached tri x z bound → IsReached tri x z (widened bound low high)
reached_more tri x z low high bound h r = elim (cases_lt low bound.low) [
  | inl lower ↦ elim (cases_lt bound.high high) [ inl higher ↦ given h.point h.over (by_low lower) h.point h.over (by_high higher) | inr same ↦ given h.point h.over (by_low lower) r.high_point r.high_over (old_high same) ]
  | inr level ↦ elim (cases_lt bound.high high) [ inl higher ↦ given r.low_point r.low_over (old_low level) h.point h.over (by_high higher) | inr same ↦ given r.low_point r.low_over (old_low level) r.high_point r.high_over (old_high same) ]
]
  where
    given : (p : Weights) → IsOver tri x z p → y_of tri p < (min bound.low low + 1) * count_of p → (q : Weights) → IsOver tri x z q → max bound.high high * count_of q < y_of tri q + count_of q
        → IsReached tri x z (widened bound low high)
    given p over l q over' g = record { low_point = p; low_over = over; low = l; high_point = q; high_over = over'; high = g }

    by_low : low < bound.low → y_of tri h.point < (min bound.low low + 1) * count_of h.point
    by_low lower = omega (arith, times_le (low + 1) (min bound.low low + 1) (count_of h.point) (omega arith), h.floor)

    old_low : bound.low ≤ low → y_of tri r.low_point < (min bound.low low + 1) * count_of r.low_point
    old_low level = omega (arith, times_le (bound.low + 1) (min bound.low low + 1) (count_of r.low_point) (omega arith), r.low)

    by_high : bound.high < high → max bound.high high * count_of h.point < y_of tri h.point + count_of h.point
    by_high higher = omega (arith, times_le (max bound.high high) high (count_of h.point) (omega arith), h.ceiling)

    old_high : high ≤ bound.high → max bound.high high * count_of r.high_point < y_of tri r.high_point + count_of r.high_point
    old_high same = omega (arith, times_le (max bound.high high) bound.high (count_of r.high_point) (omega arith), r.high)

pub widened_filled : (tri : Tri) (x z low high : ℕ) (bound : Bound) → IsHeightOver tri x z low high → IsFilled tri x z bound → IsFilled tri x z (widened bound low high)
widened_filled tri x z low high bound h (inl e) = inr (subst (λ (b : Bound). IsReached tri x z (widened b low high)) (sym e) (filled_fresh tri x z low high h))
widened_filled tri x z low high bound h (inr r) = inr (reached_more tri x z low high bound h r)

-- ---- a list of bounds

-- nothing is written beyond the end
pub set_beyond : (xs : List Bound) (i : ℕ) (v : Bound) → length xs ≤ i → slice_set xs i v ≡ xs
set_beyond [] i v beyond = refl
set_beyond (x ∷ xs) zero v beyond = absurd (omega arith)
set_beyond (x ∷ xs) (suc i) v beyond = ap (λ ys. x ∷ ys) (set_beyond xs i v (omega arith))

pub put-length : (bounds : List Bound) (x low high : ℕ) → length (put_at bounds x low high) ≡ length bounds
put-length bounds x low high = length-set bounds x (widened (bound_at bounds x) low high)

pub put-same : (bounds : List Bound) (x low high : ℕ) → x < length bounds → bound_at (put_at bounds x low high) x ≡ widened (bound_at bounds x) low high
put-same bounds x low high inside = get_or-set_same bounds x (widened (bound_at bounds x) low high) no_bound inside

pub put-other : (bounds : List Bound) (x low high y : ℕ) → y ≢ x → bound_at (put_at bounds x low high) y ≡ bound_at bounds y
put-other bounds x low high y apart = get_or-set_other bounds x y (widened (bound_at bounds x) low high) no_bound apart

pub put-beyond : (bounds : List Bound) (x low high y : ℕ) → length bounds ≤ y → bound_at (put_at bounds x low high) y ≡ bound_at bounds y
put-beyond bounds x low high y beyond =
    get_or_past (put_at bounds x low high) y no_bound (omega (arith, put-length bounds x low high)) ∙ sym (get_or_past bounds y no_bound beyond)

-- what holds of each bound that is kept and of the one that is widened
by_place : (P : Bound → Type 0) (bounds : List Bound) (x low high y : ℕ) → P (bound_at bounds y) → (y ≡ x → y < length bounds → P (widened (bound_at bounds y) low high)) → P (bound_at (put_at bounds x low high) y)
by_place P bounds x low high y kept wide = elim (cases_lt y (length bounds)) [
  | inl inside ↦ elim (cases_eq y x) [
    | inl here ↦ subst (λ (k : ℕ). P (bound_at (put_at bounds k low high) y)) here (subst P (sym (put-same bounds y low high inside)) (wide here inside))
    | inr apart ↦ subst P (sym (put-other bounds x low high y apart)) kept
  ]
  | inr beyond ↦ subst P (sym (put-beyond bounds x low high y beyond)) kept
]

pub put_wider : (bounds : List Bound) (x low high : ℕ) → IsWider bounds (put_at bounds x low high)
put_wider bounds x low high = record {
  same = put-length bounds x low high;
  lower = λ y. by_place (λ (b : Bound). b.low ≤ (bound_at bounds y).low) bounds x low high y (omega arith) (λ e inside. omega arith);
  higher = λ y. by_place (λ (b : Bound). (bound_at bounds y).high ≤ b.high) bounds x low high y (omega arith) (λ e inside. omega arith);
}

pub put_filled : (tri : Tri) (z : ℕ) (bounds : List Bound) (x low high : ℕ) → IsHeightOver tri x z low high → StaysFilled tri z bounds (put_at bounds x low high)
put_filled tri z bounds x low high over y before = by_place (λ (b : Bound). IsFilled tri y z b) bounds x low high y before
    (λ e inside. widened_filled tri y z low high (bound_at bounds y) (subst (λ (k : ℕ). IsHeightOver tri k z low high) (sym e) over) before)

pub put_about : (spot : Spot) (bounds : List Bound) (x low high y : ℕ) → y ≡ x → y < length bounds → low * spot.n ≤ spot.y → spot.y ≤ high * spot.n → IsAbout spot (bound_at (put_at bounds x low high) y)
put_about spot bounds x low high y e inside under over =
    subst (λ (k : ℕ). IsAbout spot (bound_at (put_at bounds k low high) y)) e (subst (IsAbout spot) (sym (put-same bounds y low high inside)) (widened_about spot (bound_at bounds y) low high under over))

abbrev bound_of : ℕ → ℕ → Bound
bound_of low high = record { low = low; high = high }

-- two heights put into one column are the lower and the higher of both put once
pub put_twice : (bounds : List Bound) (x low high low' high' : ℕ) → put_at (put_at bounds x low high) x low' high' ≡ put_at bounds x (min low low') (max high high')
put_twice bounds x low high low' high' = elim (cases_lt x (length bounds)) [
  | inl inside ↦
      ap (λ (b : Bound). slice_set (put_at bounds x low high) x (widened b low' high')) (put-same bounds x low high inside)
      ∙ set-set bounds x (widened (bound_at bounds x) low high) (widened (widened (bound_at bounds x) low high) low' high')
      ∙ ap (λ (b : Bound). slice_set bounds x b) (least (min (min (bound_at bounds x).low low) low') (max (max (bound_at bounds x).high high) high') (omega arith) (omega arith))
  | inr beyond ↦
      ap (λ (bs : List Bound). put_at bs x low' high') (set_beyond bounds x (widened (bound_at bounds x) low high) beyond)
      ∙ set_beyond bounds x (widened (bound_at bounds x) low' high') beyond
      ∙ sym (set_beyond bounds x (widened (bound_at bounds x) (min low low') (max high high')) beyond)
]
  where
    least : (l h : ℕ) → l ≡ min (bound_at bounds x).low (min low low') → h ≡ max (bound_at bounds x).high (max high high')
        → bound_of l h ≡ widened (bound_at bounds x) (min low low') (max high high')
    least l h e f = ap (λ (n : ℕ). bound_of n h) e ∙ ap (λ (n : ℕ). bound_of (min (bound_at bounds x).low (min low low')) n) f

-- ---- one after another

pub no_wider : (bounds : List Bound) → IsWider bounds bounds
no_wider bounds = record { same = refl; lower = λ x. omega arith; higher = λ x. omega arith }

pub wider_then : (a b c : List Bound) → IsWider a b → IsWider b c → IsWider a c
wider_then a b c g h = record { same = h.same ∙ g.same; lower = λ x. omega (arith, g.lower x, h.lower x); higher = λ x. omega (arith, g.higher x, h.higher x) }

-- what lies about a spot still does in wider bounds
pub about_later : (spot : Spot) (x : ℕ) (a b : List Bound) → IsWider a b → IsAbout spot (bound_at a x) → IsAbout spot (bound_at b x)
about_later spot x a b w about = about_wider spot (bound_at a x) (bound_at b x) (w.lower x) (w.higher x) about
