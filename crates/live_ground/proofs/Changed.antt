-- The field with other spans in a rectangle is a field.
use Rattle.std.proofs.Common.{◌≡◌, ◌+◌, ◌≤◌, List, length, refl, sym, subst, ap, arith}
use Rattle.std.specs.Prelude.{not, All, AllPairs}
use Rattle.std.proofs.lemmas.List.Elements.{All-filter}
use Rattle.std.proofs.lemmas.List.Filters.{length-filter_both}
use Rattle.nav_ground.specs.declared.cell.Window.{Window}
use Rattle.nav_ground.specs.declared.field.Span.{Span}
use Rattle.nav_ground.specs.declared.field.Field.{Field}
use Rattle.nav_ground.specs.Fields.{IsField, IsSpan, IsSpanBefore}
use Rattle.nav_ground.specs.Tiling.{is_in_window}
use Rattle.layer_cut.specs.Nearby.{spans_in}
use Rattle.live_ground.specs.Changes.{AreSpansFor, IsChangedIn, spans_outside}
use Rattle.live_ground.proofs.Ordered.{all_from_parts}

module _ (window : Window) (field : Field) (news made : List Span) (rules' : IsField field) (given : AreSpansFor field window news)
    (few : length (spans_outside window field.spans) + length news ≤ 2000000) (inside : spans_in window made ≡ news)
    (outside : spans_outside window made ≡ spans_outside window field.spans) (order : AllPairs IsSpanBefore made) where
  pub changed_field : IsField (record { width = field.width; depth = field.depth; spans = made })
  changed_field =
      let is_in = λ (span : Span). is_in_window window span.x span.z in
      let is_out = λ (span : Span). not (is_in span) in
      let P : List Span → Type 0 = λ list. All (IsSpan field.width field.depth) list in
      let both = length-filter_both is_in is_out (λ span. refl) made in
      record {
        wide = rules'.wide;
        width = rules'.width;
        deep = rules'.deep;
        depth = rules'.depth;
        few = omega (arith, both, ap length inside, ap length outside, few);
        spans = all_from_parts (IsSpan field.width field.depth) is_in made (subst P (sym inside) given.each)
            (subst P (sym outside) (All-filter is_out (IsSpan field.width field.depth) field.spans rules'.spans));
        order = order;
      }

  pub changed_in : IsChangedIn window news field (record { width = field.width; depth = field.depth; spans = made })
  changed_in = record { inside = inside; outside = record { width = refl; depth = refl; spans = outside }; rules = changed_field }
