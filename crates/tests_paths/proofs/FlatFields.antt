-- Flat fields: one span over each column.
use Rattle.std.proofs.Common.{ℕ, ◌+◌, ◌*◌, ◌/◌, ◌%◌, ◌<◌, ◌≤◌, List, map, get_or, ap, arith, inl, inr, mod-lt, mul-le-mul, mul-le-mul_right, mul_comm, div-lt_iff_lt-mul}
use Rattle.std.specs.List.{range_with_len}
use Rattle.std.proofs.lemmas.Bool.{cases_order}
use Rattle.std.proofs.lemmas.List.Elements.{All-map}
use Rattle.std.proofs.lemmas.List.FromFn.{get_or-range_with_len, length-range_with_len, length-map-range_with_len}
use Rattle.nav_ground.specs.declared.field.Span.{Span}
use Rattle.nav_ground.specs.Fields.{IsField, IsSpan, IsSmallSpan, IsSpanBefore}
use Rattle.nav_ground.proofs.Kept.{AllPairs-map}

-- the span over a column, by the column's number
abbrev pub flat_span : ℕ → ℕ → Span
flat_span width i = record { x = i % width; z = i / width; bottom = 0; top = 10; area = 63 }

abbrev pub flat_spans : ℕ → ℕ → List Span
flat_spans width count = map (flat_span width) (range_with_len 0 count)

span_fits : (width depth i : ℕ) → 1 ≤ width → i < width * depth → IsSpan width depth (flat_span width i)
span_fits width depth i some there = record {
  x = mod-lt i some;
  z = (div-lt_iff_lt-mul some).1 (omega (arith, there, mul_comm width depth));
  solid = omega arith;
  top = omega arith;
  area = omega arith;
}

pub flat_small : (width depth i : ℕ) → 1 ≤ width → width ≤ 1024 → depth ≤ 1024 → i < width * depth → IsSmallSpan (flat_span width i)
flat_small width depth i some wide far there =
    let fits = span_fits width depth i some there in
    record { x = omega (arith, fits.x, wide); z = omega (arith, fits.z, far); bottom = omega arith; top = omega arith; area = omega arith }

in_order : (width i j : ℕ) → 1 ≤ width → i < j → IsSpanBefore (flat_span width i) (flat_span width j)
in_order width i j some less =
    elim (cases_order (i / width) (j / width)) [
      | inl same ↦ inr (same, inl (omega (arith, less, same, ap (λ n. width * n) same)))
      | inr (inl before) ↦ inl before
      | inr (inr after) ↦
          let up : (j / width + 1) * width ≤ (i / width) * width = mul-le-mul_right width (omega (arith, after)) in
          absurd (omega (arith, up, less, mul_comm (i / width) width, mul_comm (j / width + 1) width, mod-lt j some))
    ]

pub flat_is_field : (width depth : ℕ) → 1 ≤ width → width ≤ 1024 → 1 ≤ depth → depth ≤ 1024
    → IsField (record { width = width; depth = depth; spans = flat_spans width (width * depth) })
flat_is_field width depth some wide deep far =
    let count : ℕ = width * depth in
    let few : count ≤ 1024 * 1024 = mul-le-mul wide far in
    record {
      wide = some;
      width = wide;
      deep = deep;
      depth = far;
      few = omega (arith, few, length-map-range_with_len (flat_span width) 0 count);
      spans = All-map (IsSpan width depth) (flat_span width) (range_with_len 0 count)
          (λ k d there.
          let inside : k < count = omega (arith, there, length-range_with_len 0 count) in
          span_fits width depth (get_or (range_with_len 0 count) k d) some (omega (arith, get_or-range_with_len 0 count k d inside, inside)));
      order = AllPairs-map IsSpanBefore (flat_span width) (range_with_len 0 count)
          (λ i j d before there.
          let inside : j < count = omega (arith, there, length-range_with_len 0 count) in
          in_order width (get_or (range_with_len 0 count) i d) (get_or (range_with_len 0 count) j d) some
          (omega (arith, before, inside, get_or-range_with_len 0 count i d (omega (arith, before, inside)), get_or-range_with_len 0 count j d inside)));
    }
