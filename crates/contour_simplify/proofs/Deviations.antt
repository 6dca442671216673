-- The order of deviations, and the first corner of greatest deviation.
use Rattle.std.proofs.Common.{◌≡◌, ℕ, ◌+◌, ◌*◌, ◌<◌, true, false, List, length, get_or, arith, ap, ◌∙◌}
use Rattle.std.specs.List.{IsFirstBest, list_any}
use Rattle.std.specs.Cmp.{IsStrictWeakOrder}
use Rattle.std.proofs.lemmas.Bool.{ltb-true, ltb-false, lt-ltb, false_from_ne_true}
use Rattle.std.proofs.lemmas.List.{get_or_default}
use Rattle.std.proofs.lemmas.List.Folds.{list_any_at, list_any_none}
use Rattle.std.proofs.lemmas.List.MinMax.{IsFirstBest-keeps, IsFirstBest-takes}
use Rattle.nav_base.specs.declared.point.Point.{Point}
use Rattle.nav_base.specs.declared.deviation.Deviation.{Deviation}
use Rattle.nav_base.specs.Deviation.{Exceeds, IsLess, deviation_of}
use Rattle.nav_base.proofs.FractionLaws.{IsLess-asymmetric, IsLess-negatively_transitive, Exceeds-not_less, IsFraction-deviation_of}
use Rattle.mesh_types.specs.Simplified.{origin, deviates_more, deviates_over}
use Rattle.contour_simplify.specs.declared.run.RunHalf.{RunHalf}
use Rattle.contour_simplify.specs.Halves.{IsStraight, IsSplit}
use Rattle.contour_simplify.proofs.Bests.{best_is}

module _ (a b : Point) where
  -- the tests say what the relations say
  less_if_more : (p q : Point) → deviates_more a b p q ≡ true → IsLess (deviation_of a b q) (deviation_of a b p)
  less_if_more p q is = record { less = ltb-true _ _ is }

  more_if_less : (p q : Point) → IsLess (deviation_of a b q) (deviation_of a b p) → deviates_more a b p q ≡ true
  more_if_less p q is = lt-ltb _ _ is.less

  not_less : (p q : Point) → deviates_more a b p q ≡ false → ¬ (IsLess (deviation_of a b q) (deviation_of a b p))
  not_less p q is less = omega (arith, less.less, ltb-false ((deviation_of a b q).num * (deviation_of a b p).den) ((deviation_of a b p).num * (deviation_of a b q).den) is)

  not_more : (p q : Point) → ¬ (IsLess (deviation_of a b q) (deviation_of a b p)) → deviates_more a b p q ≡ false
  not_more p q never = false_from_ne_true (deviates_more a b p q) (λ more. never (less_if_more p q more))

  pub deviations_order : IsStrictWeakOrder (deviates_more a b)
  deviations_order = record {
    one_way = λ p q more. not_more q p (IsLess-asymmetric (deviation_of a b q) (deviation_of a b p) (less_if_more p q more));
    chain = λ p q r first second. not_more p r
        (IsLess-negatively_transitive (deviation_of a b r) (deviation_of a b q) (deviation_of a b p) (IsFraction-deviation_of a b q)
        (not_less q r second) (not_less p q first));
  }

  -- a step of the loop over the corners
  pub farther : (inner : List Point) (index place : ℕ) (most deviation : Deviation) → IsFirstBest (deviates_more a b) inner index place → index < length inner
      → most ≡ deviation_of a b (get_or inner place origin) → deviation ≡ deviation_of a b (get_or inner index origin) → IsLess most deviation
      → IsFirstBest (deviates_more a b) inner (index + 1) index
  farther inner index place most deviation best there most_is deviation_is less =
      IsFirstBest-takes deviations_order inner index place (get_or inner index origin) (get_or inner place origin) best there
      (get_or_default inner index origin (get_or inner index origin) there)
      (get_or_default inner place origin (get_or inner place origin) (omega (arith, there, best.0)))
      (more_if_less (get_or inner index origin) (get_or inner place origin) (rw (← most_is, ← deviation_is) less))

  pub no_farther : (inner : List Point) (index place : ℕ) (most deviation : Deviation) → IsFirstBest (deviates_more a b) inner index place → index < length inner
      → most ≡ deviation_of a b (get_or inner place origin) → deviation ≡ deviation_of a b (get_or inner index origin) → ¬ (IsLess most deviation)
      → IsFirstBest (deviates_more a b) inner (index + 1) place
  no_farther inner index place most deviation best there most_is deviation_is never =
      IsFirstBest-keeps deviations_order inner index place (get_or inner index origin) (get_or inner place origin) best there
      (get_or_default inner index origin (get_or inner index origin) there)
      (get_or_default inner place origin (get_or inner place origin) (omega (arith, there, best.0)))
      (not_more (get_or inner index origin) (get_or inner place origin) (λ less. never (rw (most_is, deviation_is) less)))

  over_if : (error : ℕ) (p : Point) → Exceeds (deviation_of a b p) error → deviates_over error a b p ≡ true
  over_if error p exceeds = lt-ltb _ _ exceeds.over

  over_is : (error : ℕ) (p : Point) → deviates_over error a b p ≡ true → Exceeds (deviation_of a b p) error
  over_is error p is = record { over = ltb-true _ _ is }

  -- a corner deviates over the error where that of greatest deviation does
  pub some_over : (error : ℕ) (inner : List Point) (place : ℕ) (d : Point) → place < length inner → Exceeds (deviation_of a b (get_or inner place d)) error
      → list_any (deviates_over error a b) inner ≡ true
  some_over error inner place d there exceeds = list_any_at (deviates_over error a b) inner place d there (over_if error (get_or inner place d) exceeds)

  pub none_over : (error : ℕ) (inner : List Point) (place : ℕ) (d : Point) → IsFirstBest (deviates_more a b) inner (length inner) place
      → ¬ (Exceeds (deviation_of a b (get_or inner place d)) error) → list_any (deviates_over error a b) inner ≡ false
  none_over error inner place d best never =
      list_any_none (deviates_over error a b) inner (λ k e inside. false_from_ne_true (deviates_over error a b (get_or inner k e))
      (λ over. never (Exceeds-not_less (deviation_of a b (get_or inner k e)) (deviation_of a b (get_or inner place d)) error
      (IsFraction-deviation_of a b (get_or inner k e)) (IsFraction-deviation_of a b (get_or inner place d))
      (not_less (get_or inner k e) (get_or inner place d) (ap (deviates_more a b (get_or inner k e)) (get_or_default inner place d e best.0) ∙ best.1 k e inside))
      (over_is error (get_or inner k e) over))))

-- the half is split at its first corner of greatest deviation where that exceeds the error, and is straight otherwise
pub split_is : (error : ℕ) (half : RunHalf) (place : ℕ) (d : Point) → IsFirstBest (deviates_more half.first half.last) half.inner.now (length half.inner.now) place
    → Exceeds (deviation_of half.first half.last (get_or half.inner.now place d)) error → IsSplit error half place
split_is error half place d best exceeds = record {
  some = some_over half.first half.last error half.inner.now place d best.0 exceeds;
  there = best.0;
  best = best_is (deviates_more half.first half.last) half.inner.now place d best;
}

pub straight_is : (error : ℕ) (half : RunHalf) (place : ℕ) (d : Point) → IsFirstBest (deviates_more half.first half.last) half.inner.now (length half.inner.now) place
    → ¬ (Exceeds (deviation_of half.first half.last (get_or half.inner.now place d)) error) → IsStraight error half
straight_is error half place d best never = record { none = none_over half.first half.last error half.inner.now place d best never }
