use Rattle.std.proofs.Common.{◌≡◌, ◌+◌, ◌≤◌, List, [], ◌∷◌, ◌++◌, length, get_or, ◌∙◌, refl, sym, ap, subst, arith}
use Rattle.std.specs.Prelude.{All, slice_get}
use Rattle.std.specs.Global.{Vec}
use Rattle.std.proofs.lemmas.List.{get_or_default}
use Rattle.nav_ground.specs.declared.cell.Cell.{Cell}
use Rattle.nav_ground.specs.declared.field.Field.{Field}
use Rattle.nav_ground.specs.declared.field.Span.{Span}
use Rattle.nav_ground.specs.Fields.{IsField, IsSpan}
use Rattle.nav_ground.specs.Connection.{unconnected_cells}
use Rattle.compact_layer.specs.Making.{cell_with, level_over, ceiling_over}
use Rattle.compact_layer.proofs.SpansSoFar.{one_more_cell, one_more_blocked, all_cells, levels_so_far, spans_of_field}
use Rattle.compact_layer.proofs.compact_field.unconnected.Goals as goal
use Rattle.compact_layer.proofs.compact_field.unconnected.Goals.{then-area-ne0+in_ok-push, else-area-ne0}

abbrev no_span : Span
no_span = record { x = 0; z = 0; bottom = 0; top = 0; area = 0 }

-- a field with the spans that are read
field_with : (field : Field) (spans : List Span) → spans ≡ field.spans → IsField field → IsField (record field { spans = spans })
field_with field spans same rules' =
    let P : List Span → Type 0 = λ (s : List Span). IsField (record field { spans = s }) in
    subst P (sym same) rules'

pub cell_on-requires-clause-before : goal.cell_on-requires-clause-before
cell_on-requires-clause-before c =
    let field : Field = record c.args.field.now { spans = c.as_slice-spans.result.now } in
    let rules' = field_with c.args.field.now c.as_slice-spans.result.now c.as_slice-spans.ensures c.requires.field in
    let P : List Cell → Type 0 = λ (cells : List Cell). All (λ (cell : Cell). cell.at.level ≤ 8191) cells in
    subst P (sym (c.as_slice.ensures.value ∙ c.loop-i.invariant))
    (levels_so_far field c.args.areas.now c.loop-i.i rules' c.requires.areas (c.requires.each ∙ sym (ap length c.as_slice-spans.ensures)))

pub cell_on-requires-clause-spans : goal.cell_on-requires-clause-spans
cell_on-requires-clause-spans c =
    (spans_of_field _ (field_with c.args.field.now c.as_slice-spans.result.now c.as_slice-spans.ensures c.requires.field)).each

pub cell_on-requires-clause-span : goal.cell_on-requires-clause-span
cell_on-requires-clause-span c =
    subst (IsSpan 1024 1024) (sym c.index-spans-i.is) (cell_on-requires-clause-spans c c.loop-i.i c.index-spans-i.result c.loop-i-test.true)

pub cell_on-requires-clause-area : goal.cell_on-requires-clause-area
cell_on-requires-clause-area c = c.requires.areas c.loop-i.i 0 (omega (arith, c.requires.each, c.loop-i-test.true, ap length c.as_slice-spans.ensures))

pub loop-i-preserved : goal.loop-i-preserved
loop-i-preserved c =
    let field : Field = record c.args.field.now { spans = c.as_slice-spans.result.now } in
    let rules' = field_with c.args.field.now c.as_slice-spans.result.now c.as_slice-spans.ensures c.requires.field in
    let same : length c.args.areas.now ≡ length field.spans = c.requires.each ∙ sym (ap length c.as_slice-spans.ensures) in
    elim c.if-area-ne0.branch [
      | then-area-ne0+in_ok-push w ↦
          let area = get_or c.args.areas.now c.loop-i.i 0 in
          let above = slice_get c.as_slice-spans.result.now (c.loop-i.i + 1) in
          let read : Span = c.index-spans-i.result in
          ap (λ (v : Vec Cell). v.items) w.cells-is ∙ w.in_ok-push.ensures.items
          ∙ (λ i. c.loop-i.cells.items ++ (w.cell_on.ensures
          ∙ ap (λ (before : List Cell). cell_with (record read { area = area }) (level_over before read) (ceiling_over above read)) w.as_slice.ensures.value
          ∙ ap (λ (span : Span). cell_with (record span { area = area }) (level_over c.loop-i.cells.items span) (ceiling_over above span))
          (c.index-spans-i.is ∙ get_or_default c.as_slice-spans.result.now c.loop-i.i read no_span c.loop-i-test.true)) i ∷ [])
          ∙ one_more_cell field c.args.areas.now c.loop-i.i no_span c.loop-i.cells.items _ _ rules' c.requires.areas
          same c.loop-i-test.true w.if-area-ne0.true refl refl c.loop-i.invariant
      | else-area-ne0 w ↦
          ap (λ (v : Vec Cell). v.items) w.cells-is
          ∙ one_more_blocked field.spans c.args.areas.now c.loop-i.i no_span c.loop-i.cells.items same c.loop-i-test.true w.if-area-ne0.false c.loop-i.invariant
    ]

pub returns : goal.returns
returns c =
    let field : Field = record c.args.field.now { spans = c.as_slice-spans.result.now } in
    let same : length c.args.areas.now ≡ length field.spans = c.requires.each ∙ sym (ap length c.as_slice-spans.ensures) in
    all_cells field c.args.areas.now c.loop-i.i c.loop-i.cells.items same c.loop-i-test.false c.loop-i.invariant
    ∙ ap (λ (spans : List Span). unconnected_cells (record c.args.field.now { spans = spans }) c.args.areas.now) c.as_slice-spans.ensures
