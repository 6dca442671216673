use Rattle.top_call.proofs.exit.run_on_words.Given as goal

-- the counter's ledger is the blank one
abbrev pub ghosts-run : goal.ghosts-run
ghosts-run g a = record { name = a.blank.name; parts = a.blank.parts }
