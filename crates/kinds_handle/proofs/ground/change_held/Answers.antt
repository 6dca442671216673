use Rattle.std.proofs.Common.{◌∙◌, Err, ℕ, List, Some, ap, inl, inr, refl}
use Rattle.build_queue.specs.BookState.{BookState}
use Rattle.kinds_handle.specs.KindGroundChanges.{GroundEnded, change_status}
use Rattle.kinds_handle.proofs.GroundSpans.{can_all, can_field}
use Rattle.kinds_handle.proofs.ground.change_held.Goals as goal

-- an end by a status, with what is held then
abbrev ended_by : ℕ → List BookState → GroundEnded
ended_by status held = record { status = status; held = Some held }

pub returns-in_default : goal.returns-in_default
returns-in_default g c = record {
  asked = λ can.
      absurd (c.in_default.ensures
      (can_field c.args.columns.now c.args.spans.now c.field.result.now c.args.held.now c.field.ensures.kinds c.field.ensures.value can));
  refused = λ not. refl;
}

pub returns-in-Ok : goal.returns-in-Ok
returns-in-Ok g c =
    let can = can_all c.args.columns.now c.args.spans.now c.field.result.now c.args.held.now c.field.ensures.value c.in-Some.ensures.1 in
    record {
      asked = λ _. record {
        few = λ few. inl (record {
          status = λ k d there. c.change_status.ensures ∙ ap change_status (c.in-Ok.ensures.answer k d there);
          after = c.change.new.held;
          held = refl;
          changed = c.in-Ok.ensures.state;
          differ = c.change.ensures.differ;
        });
        many = λ all. absurd (c.in-Ok.ensures.few all);
      };
      refused = λ not. absurd (not can);
    }

pub returns-in-Err-TooManySpans : goal.returns-in-Err-TooManySpans
returns-in-Err-TooManySpans g c =
    let can = can_all c.args.columns.now c.args.spans.now c.field.result.now c.args.held.now c.field.ensures.value c.in-Some.ensures.1 in
    let all = c.change.ensures.many (c.in-Err-TooManySpans.is ∙ ap Err c.in-Err-TooManySpans.field-0-is) in
    let ends = ap (ended_by 18) c.in-Err-TooManySpans.ensures.refused in
    record {
      asked = λ _. record { few = λ few. absurd (few all); many = λ _. inl ends };
      refused = λ not. absurd (not can);
    }

pub returns-in-Err-OutOfMemory : goal.returns-in-Err-OutOfMemory
returns-in-Err-OutOfMemory g c =
    let can = can_all c.args.columns.now c.args.spans.now c.field.result.now c.args.held.now c.field.ensures.value c.in-Some.ensures.1 in
    let ends = ap (ended_by 1) c.in-Err-OutOfMemory.ensures.refused in
    record {
      asked = λ _. record { few = λ _. inr ends; many = λ _. inr ends };
      refused = λ not. absurd (not can);
    }
