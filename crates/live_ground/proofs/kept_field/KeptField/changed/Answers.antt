use Rattle.std.proofs.Common.{◌≡◌, ℕ, ◌+◌, ◌-◌, ◌<◌, ◌≤◌, ◌∙◌, Bool, true, false, Result, Err, ap, sym, refl, subst, List, length, arith}
use Rattle.std.proofs.lemmas.Bool.{both_ways}
use Rattle.std.proofs.lemmas.Result.{err_from_is_err_and}
use Rattle.nav_ground.specs.declared.cell.Window.{Window}
use Rattle.nav_ground.specs.declared.field.Span.{Span}
use Rattle.nav_ground.specs.declared.field.Field.{Field}
use Rattle.nav_ground.specs.Fields.{IsField}
use Rattle.live_ground.specs.declared.kept_field.ChangeRefusal.TheVariants as refusals
use Rattle.live_ground.specs.Changes.{AreSpansFor, IsChangedIn, spans_outside}
use Rattle.live_ground.proofs.Changed.{changed_field, changed_in}
use Rattle.live_ground.proofs.Merges.{outside_most}
use Rattle.live_ground.proofs.kept_field.KeptField.changed.Goals as goal

-- how many spans stand outside, as the rows tell it
outside_told : (window : Window) (field : Field) (old : List Span) (count : ℕ) → count ≡ length (spans_outside window old) → old ≡ field.spans
    → count ≡ length (spans_outside window field.spans)
outside_told window field old count told same = told ∙ ap (λ (list : List Span). length (spans_outside window list)) same

told_most : (window : Window) (field : Field) (old : List Span) (count : ℕ) → count ≡ length (spans_outside window old) → old ≡ field.spans → IsField field
    → count ≤ 2000000
told_most window field old count told same rules' =
    omega (arith, outside_told window field old count told same, outside_most window field.spans, rules'.few)

-- refused memory is no refused count
abbrev is_many : refusals.the_data → Bool
is_many refusals.TooManySpans = true
is_many refusals.OutOfMemory = false

other_refusal : {A : Type 0} (result : Result A refusals.the_data) (why : refusals.the_data) (count : ℕ) → result ≡ Err why → why ≡ refusals.OutOfMemory
    → count ≤ 2000000 → (result ≡ Err refusals.TooManySpans → 2000000 < count) × (2000000 < count → result ≡ Err refusals.TooManySpans)
other_refusal result why count is memory few = (
  λ many.
      let same : why ≡ refusals.TooManySpans = cc (is, many) in
      absurd (both_ways false refl (sym (ap is_many memory) ∙ ap is_many same)),
  λ more. absurd (omega (arith, few, more)),
)

pub overflow_sub-rows : goal.overflow_sub-rows
overflow_sub-rows c =
    told_most c.args.window c.self.inside.field c.as_slice-old.result.now c.row_spans-rows.result.outside c.row_spans-rows.ensures.outside
    c.as_slice-old.ensures c.self.invariant

pub merged-requires-clause-few : goal.merged-requires-clause-few
merged-requires-clause-few c =
    let most = told_most c.args.window c.self.inside.field c.as_slice-old.result.now c.row_spans-rows.result.outside c.row_spans-rows.ensures.outside
    c.as_slice-old.ensures c.self.invariant in
    omega (arith, most, c.if-spans-rows.false)

-- how many spans there are after the change
few_then : (window : Window) (field now : Field) (old news : List Span) (count : ℕ) → count ≡ length (spans_outside window old) → old ≡ field.spans
    → field ≡ now → IsField field → length news ≤ 2000000 - count → length (spans_outside window now.spans) + length news ≤ 2000000
few_then window field now old news count told same is rules' few =
    let seen = ap (λ (f : Field). length (spans_outside window f.spans)) is in
    omega (arith, outside_told window field old count told same, seen, told_most window field old count told same rules', few)

pub returns-in_err-made-clause-many : goal.returns-in_err-made-clause-many
returns-in_err-made-clause-many c =
    let p = err_from_is_err_and c.from_residual.result c.from_residual.ensures.1 in
    other_refusal c.from_residual.result p.0 (length (spans_outside c.args.window c.args.self.now.spans) + length c.args.spans.now) p.1 p.2
    (few_then c.args.window c.self.inside.field c.args.self.now c.as_slice-old.result.now c.args.spans.now c.row_spans-rows.result.outside
    c.row_spans-rows.ensures.outside c.as_slice-old.ensures c.self.view_is c.self.invariant c.if-spans-rows.false)

pub returns-clause-many : goal.returns-clause-many
returns-clause-many c =
    let few = few_then c.args.window c.self.inside.field c.args.self.now c.as_slice-old.result.now c.args.spans.now c.row_spans-rows.result.outside
    c.row_spans-rows.ensures.outside c.as_slice-old.ensures c.self.view_is c.self.invariant c.if-spans-rows.false in
    (λ is. absurd (cc is), λ more. absurd (omega (arith, few, more)))

-- the spans outside, and what is given, as of the field inside
pub invariant_of-result : goal.invariant_of-result
invariant_of-result c =
    let given = subst (λ (field : Field). AreSpansFor field c.args.window c.args.spans.now) (sym c.self.view_is) c.requires.spans in
    let few = few_then c.args.window c.self.inside.field c.self.inside.field c.as_slice-old.result.now c.args.spans.now c.row_spans-rows.result.outside
    c.row_spans-rows.ensures.outside c.as_slice-old.ensures refl c.self.invariant c.if-spans-rows.false in
    subst (λ (list : List Span). IsField (record { width = c.self.inside.field.width; depth = c.self.inside.field.depth; spans = list })) (sym c.from_vec.ensures)
    (changed_field c.args.window c.self.inside.field c.args.spans.now c.in_ok-made.made.items c.self.invariant given few c.in_ok-made.ensures.inside
    (c.in_ok-made.ensures.outside ∙ ap (spans_outside c.args.window) c.as_slice-old.ensures) c.in_ok-made.ensures.order)

pub returns-clause-changed : goal.returns-clause-changed
returns-clause-changed c =
    let field = c.self.inside.field in
    let given = subst (λ (f : Field). AreSpansFor f c.args.window c.args.spans.now) (sym c.self.view_is) c.requires.spans in
    let few = few_then c.args.window field field c.as_slice-old.result.now c.args.spans.now c.row_spans-rows.result.outside
    c.row_spans-rows.ensures.outside c.as_slice-old.ensures refl c.self.invariant c.if-spans-rows.false in
    let made = changed_in c.args.window field c.args.spans.now c.in_ok-made.made.items c.self.invariant given few c.in_ok-made.ensures.inside
    (c.in_ok-made.ensures.outside ∙ ap (spans_outside c.args.window) c.as_slice-old.ensures) c.in_ok-made.ensures.order in
    let there = subst (λ (list : List Span). IsChangedIn c.args.window c.args.spans.now field (record { width = field.width; depth = field.depth; spans = list }))
    (sym c.from_vec.ensures) made in
    subst (λ (f : Field). IsChangedIn c.args.window c.args.spans.now f (record { width = field.width; depth = field.depth; spans = c.from_vec.result }))
    c.self.view_is there
