use Rattle.std.proofs.Common.{refl, inl}
use Rattle.std.proofs.KnownBytes.{Keeps-refl}
use Rattle.top_call.proofs.KindRuns.{reads_as}
use Rattle.top_call.proofs.TopLaws.{kind_form_of, gen_form_of, is_gen_form, summed_run, formless_run, took_none, gen_stepped}
use Rattle.top_call.proofs.top.respond.Goals as goal

pub returns-in-Some-Read-clause-run : goal.returns-in-Some-Read-clause-run
returns-in-Some-Read-clause-run g c =
    c.respond_to_input.ensures.run _ (kind_form_of _ _ _ c.in-Some-Read.ensures c.in-Some-Read.field-0-is)

pub returns-in-Some-Read-clause-took : goal.returns-in-Some-Read-clause-took
returns-in-Some-Read-clause-took g c = c.respond_to_input.ensures.took

pub returns-in-Some-Read-clause-unread : goal.returns-in-Some-Read-clause-unread
returns-in-Some-Read-clause-unread g c other =
    absurd (other (reads_as _ _ (kind_form_of _ _ _ c.in-Some-Read.ensures c.in-Some-Read.field-0-is)))

pub returns-in-Some-Read-clause-steps : goal.returns-in-Some-Read-clause-steps
returns-in-Some-Read-clause-steps g c =
    c.respond_to_input.ensures.steps _ (kind_form_of _ _ _ c.in-Some-Read.ensures c.in-Some-Read.field-0-is)

pub returns-in-Ok-clause-run : goal.returns-in-Ok-clause-run
returns-in-Ok-clause-run g c =
    summed_run _ _ _ _ _ _ _ _ (gen_form_of _ _ _ _ c.in-Some-Gen.ensures c.in-Some-Gen.field-0-is) refl c.in-Ok.ensures.summary
    c.as_slice.ensures.value c.finish.ensures.ended

pub returns-in-Ok-clause-took : goal.returns-in-Ok-clause-took
returns-in-Ok-clause-took g c = took_none _

pub returns-in-Ok-clause-unread : goal.returns-in-Ok-clause-unread
returns-in-Ok-clause-unread g c other = refl

pub returns-in-Ok-clause-steps : goal.returns-in-Ok-clause-steps
returns-in-Ok-clause-steps g c =
    gen_stepped _ _ _ _ _ _ _ (gen_form_of _ _ _ _ c.in-Some-Gen.ensures c.in-Some-Gen.field-0-is) c.summarize.ensures.steps

pub returns-in-Err-clause-run : goal.returns-in-Err-clause-run
returns-in-Err-clause-run g c =
    (is_gen_form _ _ _ (gen_form_of _ _ _ _ c.in-Some-Gen.ensures c.in-Some-Gen.field-0-is), Keeps-refl _)

pub returns-in-Err-clause-took : goal.returns-in-Err-clause-took
returns-in-Err-clause-took g c = took_none _

pub returns-in-Err-clause-unread : goal.returns-in-Err-clause-unread
returns-in-Err-clause-unread g c other = refl

pub returns-in-Err-clause-steps : goal.returns-in-Err-clause-steps
returns-in-Err-clause-steps g c =
    gen_stepped _ _ _ _ _ _ _ (gen_form_of _ _ _ _ c.in-Some-Gen.ensures c.in-Some-Gen.field-0-is) c.summarize.ensures.steps

pub returns-in-None-clause-run : goal.returns-in-None-clause-run
returns-in-None-clause-run g c = formless_run _ _ _ _ c.in-None.ensures refl c.finish-in-None.ensures.ended

pub returns-in-None-clause-took : goal.returns-in-None-clause-took
returns-in-None-clause-took g c = took_none _

pub returns-in-None-clause-unread : goal.returns-in-None-clause-unread
returns-in-None-clause-unread g c other = refl

pub returns-in-None-clause-steps : goal.returns-in-None-clause-steps
returns-in-None-clause-steps g c = inl refl
