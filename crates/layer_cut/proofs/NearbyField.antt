-- A field with the spans over a rectangle alone is a field again.
use Rattle.std.proofs.Common.{◌≡◌, ℕ, ◌≤◌, List, get_or, subst, sym, arith, inl, inr}
use Rattle.std.specs.Prelude.{AllPairs}
use Rattle.std.specs.List.Sorted.{IsNonDecreasingBy}
use Rattle.std.proofs.lemmas.Bool.{cases_lt}
use Rattle.std.proofs.lemmas.List.Sums.{length-filter, count_by-le-length}
use Rattle.std.proofs.lemmas.List.Elements.{All-filter}
use Rattle.std.proofs.lemmas.List.Kept.{AllPairs-filter}
use Rattle.nav_ground.specs.declared.field.Span.{Span}
use Rattle.nav_ground.specs.declared.field.Field.{Field}
use Rattle.nav_ground.specs.declared.cell.Window.{Window}
use Rattle.nav_ground.specs.declared.setting.Setting.{Setting}
use Rattle.nav_ground.specs.Fields.{IsField, IsSpan, IsSpanBefore}
use Rattle.nav_ground.specs.Grounds.{IsSized}
use Rattle.nav_ground.specs.Tiling.{is_in_window}
use Rattle.layer_cut.specs.Nearby.{field_in}

-- a later span's row is not before an earlier one's
row_rises : (a b : Span) → IsSpanBefore a b → a.z ≤ b.z
row_rises a b (inl below) = omega (arith, below)
row_rises a b (inr (same, after)) = omega (arith, same)

pub rows_rise : (spans : List Span) → AllPairs IsSpanBefore spans → IsNonDecreasingBy (λ (span : Span). span.z) spans
rows_rise spans order i j d before there =
    elim (cases_lt i j) [
      | inl less ↦ row_rises (get_or spans i d) (get_or spans j d) (order i j d less there)
      | inr more ↦
          let P : ℕ → Type 0 = λ k. (get_or spans i d).z ≤ (get_or spans k d).z in
          let same : i ≡ j = omega (arith, before, more) in
          subst P same (omega arith)
    ]

pub field_in_rules : (window : Window) (field near : Field) → IsField field → near ≡ field_in window field → IsField near
field_in_rules window field near rules' is =
    let inside = λ (span : Span). is_in_window window span.x span.z in
    subst IsField (sym is) (record {
      wide = rules'.wide;
      width = rules'.width;
      deep = rules'.deep;
      depth = rules'.depth;
      few = omega (arith, length-filter inside field.spans, count_by-le-length inside field.spans, rules'.few);
      spans = All-filter inside (IsSpan field.width field.depth) field.spans rules'.spans;
      order = AllPairs-filter IsSpanBefore inside field.spans rules'.order;
    })

pub field_in_sized : (window : Window) (setting : Setting) (field near : Field) → IsSized setting field → near ≡ field_in window field → IsSized setting near
field_in_sized window setting field near sized is =
    let P : Field → Type 0 = IsSized setting in subst P (sym is) (record { width = sized.width; depth = sized.depth })
