-- The cells of a field before they are connected: in order, and in each column one above the other, each ceiling below the next floor.
use Rattle.std.proofs.Common.{◌≡◌, ℕ, ◌<◌, length, List, get_or, refl, sym, ap, ◌∙◌, arith, inl, inr}
use Rattle.std.specs.Prelude.{All, AllPairs}
use Rattle.std.specs.List.{count_by}
use Rattle.std.proofs.lemmas.List.Elements.{All-map}
use Rattle.std.proofs.lemmas.Bool.{false_from_ne_true}
use Rattle.nav_ground.specs.declared.field.Span.{Span}
use Rattle.nav_ground.specs.declared.field.Field.{Field}
use Rattle.nav_ground.specs.declared.cell.Cell.{Cell}
use Rattle.nav_ground.specs.Fields.{IsField, IsSpanBefore, AreAreas}
use Rattle.nav_ground.specs.Cells.{IsCell, IsCellBefore}
use Rattle.nav_ground.specs.Column.{stands_above, ceiling_of}
use Rattle.nav_ground.specs.Connection.{walkable_spans, unconnected_cell, unconnected_cells}
use Rattle.nav_ground.proofs.Found.{count_by-below}
use Rattle.nav_ground.proofs.Kept.{AllPairs-map}
use Rattle.nav_ground.proofs.Walkable.{IsAbove, IsAbove-from_test, test_of_IsAbove, above_from_order, ceiling_below, ceiling_at_most, IsWalkable, walkable, walkable_order}

-- the level of a span is below that of one that stands above it
level_rises : (width depth : ℕ) (spans walkable : List Span) (i : ℕ) (d b : Span) → All (IsWalkable width depth spans) walkable → i < length walkable
    → IsAbove (get_or walkable i d) b
    → count_by (λ (other : Span). stands_above other (get_or walkable i d)) walkable < count_by (λ (other : Span). stands_above other b) walkable
level_rises width depth spans walkable i d b each there above =
    let a = get_or walkable i d in
    let solid = (each i d there).limits.solid in
    count_by-below (λ (other : Span). stands_above other a) (λ (other : Span). stands_above other b) walkable i d
    (λ k e within under.
    let h = IsAbove-from_test (get_or walkable k e) a under in
    test_of_IsAbove (get_or walkable k e) b (record { x = above.x ∙ h.x; z = above.z ∙ h.z; over = omega (arith, h.over, above.over, solid) }))
    there
    (false_from_ne_true (stands_above a a) (λ itself. let h = IsAbove-from_test a a itself in omega (arith, h.over, solid)))
    (test_of_IsAbove a b above)

-- a cell before another in a list of cells: in an earlier place, and in the same column under a ceiling that is below the other's floor
pub record IsStacked (a b : Cell) : Type 0 where
  pub before : IsCellBefore a.at b.at
  pub floor : a.at.x ≡ b.at.x → a.at.z ≡ b.at.z → a.floor < b.floor
  pub ceiling : a.at.x ≡ b.at.x → a.at.z ≡ b.at.z → a.ceiling < b.floor

-- a span above which a walkable one stands has a ceiling below that one's top
ceiling_under : (field : Field) (a b : Span) → IsField field → IsWalkable field.width field.depth field.spans b → IsAbove a b → ceiling_of field.spans a < b.top
ceiling_under field a b rules' here above =
    let e = here.under a in
    let on = get_or field.spans here.place a in
    let x : on.x ≡ b.x = ap (λ (s : Span). s.x) e in
    let z : on.z ≡ b.z = ap (λ (s : Span). s.z) e in
    let bottom : on.bottom ≡ b.bottom = ap (λ (s : Span). s.bottom) e in
    let most = ceiling_below field.width field.depth field.spans a here.place a rules'.spans rules'.order here.there
    (record { x = x ∙ above.x; z = z ∙ above.z; over = omega (arith, above.over, bottom) }) in
    omega (arith, most, bottom, here.limits.solid)

-- the cells of two walkable spans in order are stacked
stacked_pair : (field : Field) (walkable : List Span) (i j : ℕ) (d : Span) → IsField field → All (IsWalkable field.width field.depth field.spans) walkable
    → i < length walkable → j < length walkable → IsSpanBefore (get_or walkable i d) (get_or walkable j d)
    → IsStacked (unconnected_cell field.spans walkable (get_or walkable i d)) (unconnected_cell field.spans walkable (get_or walkable j d))
stacked_pair field walkable i j d rules' each here there order = record {
  before = place_before order;
  floor = λ x z.
      let over = above_from_order a b order x z in
      omega (arith, over, (each j d there).limits.solid);
  ceiling = λ x z. ceiling_under field a b rules' (each j d there) (record { x = sym x; z = sym z; over = above_from_order a b order x z });
}
  where
    a : Span
    a = get_or walkable i d

    b : Span
    b = get_or walkable j d

    place_before : IsSpanBefore (get_or walkable i d) (get_or walkable j d)
        → IsCellBefore (unconnected_cell field.spans walkable (get_or walkable i d)).at (unconnected_cell field.spans walkable (get_or walkable j d)).at
    place_before (inl below) = inl below
    place_before (inr (row, inl left)) = inr (row, inl left)
    place_before (inr (row, inr (column, over))) =
        inr (
          row,
          inr (
            column,
            level_rises field.width field.depth field.spans walkable i d (get_or walkable j d) each here
                (record { x = sym column; z = sym row; over = over }),
          ),
        )

-- the cells of a field are stacked before they are connected
pub stacked : (field : Field) (areas : List ℕ) → IsField field → AreAreas areas → length areas ≡ length field.spans
    → AllPairs IsStacked (unconnected_cells field areas)
stacked field areas rules' limits same =
    let spans = walkable_spans field.spans areas in
    let each = walkable field areas rules' limits same in
    let order = walkable_order field.spans areas same rules'.order in
    AllPairs-map IsStacked (unconnected_cell field.spans spans) spans
    (λ i j d before there. stacked_pair field spans i j d rules' each (omega (arith, before, there)) there (order i j d before there))

-- each of them keeps the rules of a cell
pub are_cells : (field : Field) (areas : List ℕ) → IsField field → AreAreas areas → length areas ≡ length field.spans
    → All IsCell (unconnected_cells field areas)
are_cells field areas rules' limits same =
    let spans = walkable_spans field.spans areas in
    let each = walkable field areas rules' limits same in
    All-map IsCell (unconnected_cell field.spans spans) spans
    (λ k d there.
    let here = each k d there in
    record {
      x = omega (arith, here.limits.x, rules'.width);
      z = omega (arith, here.limits.z, rules'.depth);
      area = record { least = here.area; most = here.limits.area };
      floor = here.limits.top;
      ceiling = ceiling_at_most field.width field.depth field.spans (get_or spans k d) rules'.spans;
      sides = refl;
    })
