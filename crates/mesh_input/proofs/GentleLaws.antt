-- What the tests of a triangle say together.
use Rattle.std.proofs.Common.{◌≡◌, ℕ, Bool, true, false, sym, subst}
use Rattle.std.specs.Prelude.{MatchBool}
use Rattle.std.specs.Int.RustNames.{unsigned_abs}
use Rattle.mesh_input.specs.Slopes.{IsGentle, IsUpper, IsFlatEnough, shadow_x, shadow_y, shadow_z}
use Rattle.mesh_input.specs.declared.slope.Slope.{Slope}
use Rattle.mesh_input.specs.declared.slope.Edge.{Edge}

pub flat_at : (slope : Slope) (a b c d e f : ℕ) → a ≡ d → b ≡ e → c ≡ f → IsFlatEnough slope a b c → IsFlatEnough slope d e f
flat_at slope a b c d e f p q r h = subst (IsFlatEnough slope d e) r (subst (λ (n : ℕ). IsFlatEnough slope d n c) q (subst (λ (n : ℕ). IsFlatEnough slope n b c) p h))

module _ (slope : Slope) (p q : Edge) where
  pub by_flat : (result : Bool) (x y z : ℕ) → IsUpper slope (shadow_y p q)
      → x ≡ unsigned_abs (shadow_x p q) → y ≡ unsigned_abs (shadow_y p q) → z ≡ unsigned_abs (shadow_z p q)
      → MatchBool result (IsFlatEnough slope x y z) (¬ IsFlatEnough slope x y z) → MatchBool result (IsGentle slope p q) (¬ IsGentle slope p q)
  by_flat true x y z upper ex ey ez flat = record { upper = upper; flat_enough = flat_at slope x y z _ _ _ ex ey ez flat }
  by_flat false x y z upper ex ey ez steep = λ gentle. steep (flat_at slope _ _ _ x y z (sym ex) (sym ey) (sym ez) gentle.flat_enough)

  pub by_upper : (result : Bool) → result ≡ false → ¬ IsUpper slope (shadow_y p q) → MatchBool result (IsGentle slope p q) (¬ IsGentle slope p q)
  by_upper result e none = subst (λ (b : Bool). MatchBool b (IsGentle slope p q) (¬ IsGentle slope p q)) (sym e) (λ gentle. none gentle.upper)
