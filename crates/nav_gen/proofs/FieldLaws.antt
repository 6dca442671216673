-- The made level is within its limits.
use Rattle.std.proofs.Common.{◌≡◌, ℕ, ◌+◌, ◌*◌, ◌/◌, ◌%◌, ◌<◌, ◌≤◌, ◌⊎◌, Bool, true, false, cond, ◌==◌, [], length, inl, inr, refl, sym, ap, subst, subst₂, arith}
use Rattle.std.proofs.Math.Nat.{mod-lt, div-mul-le_self, div-lt_iff_lt-mul}
use Rattle.std.proofs.lemmas.Nat.{le-div, div-add-mod', mul-le}
use Rattle.std.proofs.lemmas.Bool.{cases_order}
use Rattle.std.proofs.lemmas.List.FromFn.{length-map-range_with_len, get_or-map-range_with_len}
use Rattle.nav_ground.specs.declared.field.Span.{Span}
use Rattle.nav_ground.specs.Limits.{IsSetting}
use Rattle.nav_ground.specs.Fields.{IsSpan, IsSpanBefore, IsField}
use Rattle.span_text.specs.declared.front.TextForm.TheVariants.{First}
use Rattle.span_text.specs.FieldText.{IsFieldText}
use Rattle.nav_gen.specs.Draws.{draw}
use Rattle.nav_gen.specs.MadeField.{IsMadeSize, made_setting, made_span, made_spans, made_field}
use Rattle.nav_gen.specs.MadeText.{made_field_text}

pub setting_rules : (size : ℕ) → IsMadeSize size → IsSetting (made_setting size)
setting_rules size fits =
    let least : 32 ≤ size = fits.0 in
    let most : size ≤ 512 = fits.1 in record {
      wide = omega arith;
      width = omega arith;
      deep = omega arith;
      depth = omega arith;
      tile_least = omega arith;
      tile_most = omega arith;
      agent = record { stands = omega arith; low_enough = omega arith; climb = omega arith; radius = omega arith };
      error = omega arith;
      limit_least = omega arith;
      limit_most = omega arith;
      areas = refl;
      costs = refl;
      clear = λ e. absurd cc;
    }

-- numbers row by row
rows_rise : (size i j : ℕ) → 0 < size → i < j → (i / size < j / size) ⊎ ((i / size ≡ j / size) × (i % size < j % size))
rows_rise size i j some before =
    elim (cases_order (i / size) (j / size)) [
      | inl same ↦
          let rows : i / size * size ≡ j / size * size = ap (λ q. q * size) same in
          inr (same, omega (arith, div-add-mod' i size, div-add-mod' j size, rows))
      | inr (inl lower) ↦ inl lower
      | inr (inr higher) ↦
          let below : i / size * size ≤ j = omega (arith, div-mul-le_self i size) in
          let row : i / size ≤ j / size = le-div (i / size) j size some below in
          absurd (omega arith)
    ]

either : (P : ℕ → Type 0) (b : Bool) (x y : ℕ) → P x → P y → P (cond b x y)
either P true x y first second = first
either P false x y first second = second

span_rules : (size column drawn : ℕ) → IsMadeSize size → column < size * size → IsSpan size size (made_span size column drawn)
span_rules size column drawn fits within =
    let least : 32 ≤ size = fits.0 in
    let one : drawn / 64 % 2 < 2 = mod-lt (drawn / 64) (omega arith) in
    let tall = either (λ top. (0 < top) × (top ≤ 8191)) (drawn % 64 == 0) 40 (10 + drawn / 64 % 2) (omega arith, omega arith) (omega arith, omega arith) in record {
      x = mod-lt column (omega arith);
      z = (div-lt_iff_lt-mul (omega arith)).1 within;
      solid = tall.0;
      top = tall.1;
      area = either (λ area. area ≤ 63) (drawn % 64 == 0) 0 63 (omega arith) (omega arith);
    }

pub field_rules : (number size : ℕ) → IsMadeSize size → IsField (made_field number size)
field_rules number size fits =
    let least : 32 ≤ size = fits.0 in
    let most : size ≤ 512 = fits.1 in
    let columns : size * size ≤ 512 * 512 = mul-le size size 512 512 most most in
    let span : ℕ → Span = λ column. made_span size column (draw number column) in
    let count : length (made_spans number size) ≡ size * size = length-map-range_with_len span 0 (size * size) in record {
      wide = omega arith;
      width = omega arith;
      deep = omega arith;
      depth = omega arith;
      few = omega (arith, count, columns);
      spans = λ k d there.
          let below : k < size * size = omega (arith, there, count) in
          subst (IsSpan size size) (sym (get_or-map-range_with_len span 0 (size * size) k k d below (omega arith))) (span_rules size k (draw number k) fits below);
      order = λ i j d before there.
          let below : j < size * size = omega (arith, there, count) in
          let first = get_or-map-range_with_len span 0 (size * size) i i d (omega (arith, before, below)) (omega arith) in
          let second = get_or-map-range_with_len span 0 (size * size) j j d below (omega arith) in
          subst₂ IsSpanBefore (sym first) (sym second)
          (elim (rows_rise size i j (omega arith) before) [ inl lower ↦ inl lower | inr same ↦ inr (same.0, inl same.1) ]);
    }

unfoldable pub field_text : (number size : ℕ) → IsFieldText (made_field_text number size) (made_setting size) (made_field number size)
unfolding made_field_text
field_text number size = record { form = First; costs = []; rise = tt; table = refl; clear = λ first. refl; width = refl; depth = refl; spelled = refl }
