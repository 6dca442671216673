use Rattle.top_call.proofs.exit.program.Goals as goal

pub returns-clause-exited : goal.returns-clause-exited
returns-clause-exited g c = record { status = c.run_on_words.result; number = c.number.ensures; ran = c.run_on_words.ensures.ran }

pub returns-clause-took : goal.returns-clause-took
returns-clause-took g c = c.run_on_words.ensures.took
