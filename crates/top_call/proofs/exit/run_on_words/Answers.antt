use Rattle.std.proofs.Common.{refl, inl, inr}
use Rattle.top_call.proofs.TopLaws.{took_none}
use Rattle.top_call.proofs.exit.run_on_words.Goals as goal

pub returns-in-Ok-clause-ran : goal.returns-in-Ok-clause-ran
returns-in-Ok-clause-ran g c = inl (_, c.run.ensures.run)

pub returns-in-Ok-clause-took : goal.returns-in-Ok-clause-took
returns-in-Ok-clause-took g c = c.run.ensures.took

pub returns-in-Err-clause-ran : goal.returns-in-Err-clause-ran
returns-in-Err-clause-ran g c = inr (refl, refl)

pub returns-in-Err-clause-took : goal.returns-in-Err-clause-took
returns-in-Err-clause-took g c = took_none _
