use Rattle.std.proofs.Common.{◌≡◌, ◌<◌, ◌≤◌, ◌++◌, ◌∷◌, [], ◌∙◌, length, subst, arith}
use Rattle.std.proofs.lemmas.Grind.{common_steps}
use Rattle.span_text.specs.Body.{Fits}
use Rattle.span_text.proofs.BodyLaws.{HasRead_cost, HasRead_span, read_end_line, read_bad_line, read_no_line}
use Rattle.span_text.proofs.BodyLineLaws.{small_said}
use Rattle.span_text.proofs.field.read_body.Goals.{in-Cost, in-Spans+else-is_err}
use Rattle.span_text.proofs.field.read_body.Goals as goal

pub returns-in-End : goal.returns-in-End
returns-in-End c =
    let first = rw c.as_slice.ensures.value at c.in-Some.ensures.value in
    let told = read_end_line _ _ _ _ _ _ _ _ c.loop-said.invariant first.first first.spelled (first.says ∙ c.in-End.is) in
    rw c.field_text.ensures (told.0, told.1, omega arith)

pub returns-in-Fails : goal.returns-in-Fails
returns-in-Fails c =
    let first = rw c.as_slice.ensures.value at c.in-Some.ensures.value in
    rw c.new-fault.ensures (read_bad_line _ _ _ _ _ _ _ c.in-Some.after.now _ c.loop-said.invariant first.first (first.says ∙ c.in-Fails.is))

-- a span that is said lies in the field, and so fits ten bytes
pub new-small-requires : goal.new-small-requires
new-small-requires c =
    let first = rw c.as_slice.ensures.value at c.in-Some.ensures.value in
    small_said c.loop-said.setting.width c.loop-said.setting.depth c.loop-said.before c.loop-said.spans.items first.line c.in-Spans.span
    (first.says ∙ c.in-Spans.is) c.loop-said.invariant.sides

pub loop-said-preserved : goal.loop-said-preserved
loop-said-preserved c =
    let first = rw c.as_slice.ensures.value at c.in-Some.ensures.value in
    let fits : Fits c.loop-said.before (length c.loop-said.spans.items) c.in-Some.said = rw (← c.as_slice.ensures.value) c.in-Some.ensures.fits in
    elim c.match-said.branch [
      | in-Cost w ↦
          let further : (c.loop-said.before < w.in-Cost.area) × (w.in-Cost.area ≤ 63) = subst (Fits c.loop-said.before (length c.loop-said.spans.items)) w.in-Cost.is fits in
          rw (w.setting-is, w.spans-is, w.before-is)
          (HasRead_cost _ _ _ _ _ _ _ _ _ _ c.loop-said.invariant first.first first.spelled (first.says ∙ w.in-Cost.is) further.0 further.1)
      | in-Spans+else-is_err w ↦
          let room : length c.loop-said.spans.items < 2000000 = subst (Fits c.loop-said.before (length c.loop-said.spans.items)) w.in-Spans.is fits in
          let items : w.push.new.self.items ≡ c.loop-said.spans.items ++ w.in-Spans.span ∷ [] = grind (arith, common_steps) in
          rw (w.setting-is, w.spans-is, w.before-is, items)
          (HasRead_span _ _ _ _ _ _ _ _ _ c.loop-said.invariant first.first first.spelled (first.says ∙ w.in-Spans.is) room)
    ]

pub returns : goal.returns
returns c = rw c.new.ensures (read_no_line _ _ _ _ _ _ c.loop-said.invariant c.in_default.ensures.value)
