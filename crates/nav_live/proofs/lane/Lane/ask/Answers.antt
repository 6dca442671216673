use Rattle.nav_live.proofs.LaneLaws.{ran_ask_by}
use Rattle.nav_live.proofs.lane.Lane.ask.Goals as goal

pub returns-clause-ran : goal.returns-clause-ran
returns-clause-ran c = λ lock spoken keeps. ran_ask_by lock spoken c.args.self.now c.note.new.self c.ask.new.self c.args.question c.in_ok-k.k c.in_ok-k.answer keeps
    (record { text = c.in_ok-note.ensures.noted.text; adds = c.in_ok-note.ensures.noted.adds; last = c.in_ok-note.ensures.noted.last })
    c.in_ok-note.ensures.number c.in_ok-note.ensures.pass c.in_ok-note.ensures.walker c.in_ok-note.ensures.eye c.in_ok-k.ensures.looked c.in_ok-k.ensures.length c.in_ok-k.ensures.right
