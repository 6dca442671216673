use Rattle.std.proofs.Common.{Err, ap, ◌∙◌, refl, inl}
use Rattle.std.proofs.KnownBytes.{Keeps-refl}
use Rattle.top_call.proofs.KindRuns.{answer_stepped, fault_run, reads_as, spans_run, text_run}
use Rattle.top_call.proofs.TopLaws.{long_run, took_within, took_many, took_all}
use Rattle.top_call.proofs.top.respond_to_input.Goals as goal

pub returns-in-Err-ReadFault-clause-run : goal.returns-in-Err-ReadFault-clause-run
returns-in-Err-ReadFault-clause-run g c words form =
    (reads_as words _ form, c.read_all.ensures.fault (c.in-Err-ReadFault.is ∙ ap Err c.in-Err-ReadFault.field-0-is), Keeps-refl _)

pub returns-in-Err-TooLong-clause-run : goal.returns-in-Err-TooLong-clause-run
returns-in-Err-TooLong-clause-run g c words form =
    long_run _ _ _ (c.read_all.ensures.long (c.in-Err-TooLong.is ∙ ap Err c.in-Err-TooLong.field-0-is)) c.finish.ensures.ended words
    (reads_as words _ form)

pub returns-in-Err-OutOfMemory-clause-run : goal.returns-in-Err-OutOfMemory-clause-run
returns-in-Err-OutOfMemory-clause-run g c words form = (inl (reads_as words _ form), Keeps-refl _)

pub returns-in-Text-clause-run : goal.returns-in-Text-clause-run
returns-in-Text-clause-run g c =
    text_run _ _ _ _ _ _ _ _ c.in-Ok.ensures.ok c.in-Ok.ensures.short refl c.as_slice.ensures.value
    c.in-Text.ensures.right c.finish-in-Text.ensures.ended

pub returns-in-Fault-clause-run : goal.returns-in-Fault-clause-run
returns-in-Fault-clause-run g c =
    fault_run _ _ _ _ _ _ _ _ c.in-Ok.ensures.ok c.in-Ok.ensures.short refl c.as_slice-in-Fault.ensures.value
    c.in-Fault.ensures.right c.finish-in-Fault.ensures.ended

pub returns-in-TooManySpans-clause-run : goal.returns-in-TooManySpans-clause-run
returns-in-TooManySpans-clause-run g c =
    spans_run _ _ _ _ _ _ c.in-Ok.ensures.ok c.in-Ok.ensures.short refl c.in-TooManySpans.ensures.right c.finish-in-TooManySpans.ensures.ended

pub returns-in-OutOfMemory-clause-run : goal.returns-in-OutOfMemory-clause-run
returns-in-OutOfMemory-clause-run g c words form = (inl (reads_as words _ form), Keeps-refl _)

pub returns-in-Err-ReadFault-clause-took : goal.returns-in-Err-ReadFault-clause-took
returns-in-Err-ReadFault-clause-took g c =
    took_within _ _ (c.read_all.ensures.fault_within (c.in-Err-ReadFault.is ∙ ap Err c.in-Err-ReadFault.field-0-is))

pub returns-in-Err-TooLong-clause-took : goal.returns-in-Err-TooLong-clause-took
returns-in-Err-TooLong-clause-took g c = took_many _ _ (c.read_all.ensures.long (c.in-Err-TooLong.is ∙ ap Err c.in-Err-TooLong.field-0-is))

pub returns-in-Err-OutOfMemory-clause-took : goal.returns-in-Err-OutOfMemory-clause-took
returns-in-Err-OutOfMemory-clause-took g c =
    took_within _ _ (c.read_all.ensures.memory_within (c.in-Err-OutOfMemory.is ∙ ap Err c.in-Err-OutOfMemory.field-0-is))

pub returns-in-Text-clause-took : goal.returns-in-Text-clause-took
returns-in-Text-clause-took g c = took_all _ _ _ c.in-Ok.ensures.ok c.in-Ok.ensures.short

pub returns-in-Fault-clause-took : goal.returns-in-Fault-clause-took
returns-in-Fault-clause-took g c = took_all _ _ _ c.in-Ok.ensures.ok c.in-Ok.ensures.short

pub returns-in-TooManySpans-clause-took : goal.returns-in-TooManySpans-clause-took
returns-in-TooManySpans-clause-took g c = took_all _ _ _ c.in-Ok.ensures.ok c.in-Ok.ensures.short

pub returns-in-OutOfMemory-clause-took : goal.returns-in-OutOfMemory-clause-took
returns-in-OutOfMemory-clause-took g c = took_all _ _ _ c.in-Ok.ensures.ok c.in-Ok.ensures.short

pub returns-in-Err-ReadFault-clause-steps : goal.returns-in-Err-ReadFault-clause-steps
returns-in-Err-ReadFault-clause-steps g c words form = inl refl

pub returns-in-Err-TooLong-clause-steps : goal.returns-in-Err-TooLong-clause-steps
returns-in-Err-TooLong-clause-steps g c words form = inl refl

pub returns-in-Err-OutOfMemory-clause-steps : goal.returns-in-Err-OutOfMemory-clause-steps
returns-in-Err-OutOfMemory-clause-steps g c words form = inl refl

pub returns-in-Text-clause-steps : goal.returns-in-Text-clause-steps
returns-in-Text-clause-steps g c =
    answer_stepped _ _ _ _ _ _ _ c.in-Ok.ensures.ok c.in-Ok.ensures.short refl c.answer_to.ensures.steps

pub returns-in-Fault-clause-steps : goal.returns-in-Fault-clause-steps
returns-in-Fault-clause-steps g c =
    answer_stepped _ _ _ _ _ _ _ c.in-Ok.ensures.ok c.in-Ok.ensures.short refl c.answer_to.ensures.steps

pub returns-in-TooManySpans-clause-steps : goal.returns-in-TooManySpans-clause-steps
returns-in-TooManySpans-clause-steps g c =
    answer_stepped _ _ _ _ _ _ _ c.in-Ok.ensures.ok c.in-Ok.ensures.short refl c.answer_to.ensures.steps

pub returns-in-OutOfMemory-clause-steps : goal.returns-in-OutOfMemory-clause-steps
returns-in-OutOfMemory-clause-steps g c =
    answer_stepped _ _ _ _ _ _ _ c.in-Ok.ensures.ok c.in-Ok.ensures.short refl c.answer_to.ensures.steps
