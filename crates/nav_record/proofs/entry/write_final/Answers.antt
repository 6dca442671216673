use Rattle.nav_record.proofs.entry.write_final.Goals as goal

pub returns-clause-ok : goal.returns-clause-ok
returns-clause-ok c = c.append.ensures.ok

pub returns-clause-room : goal.returns-clause-room
returns-clause-room c = c.append.ensures.room
