use Rattle.nav_live.proofs.LaneLaws.{finds_full, has_asked, ran_request}
use Rattle.nav_live.proofs.lane.Lane.request.Goals as goal

pub returns-in_ok-note-in-Asked-clause-ran : goal.returns-in_ok-note-in-Asked-clause-ran
returns-in_ok-note-in-Asked-clause-ran g c = λ spoken keeps. ran_request c.args.context.now.lock.now spoken c.args.self.now c.note.new.self c.args.line c.args.request c.in-Asked.number c.in-Asked.reply keeps
    (record { text = c.in_ok-note-in-Asked.ensures.noted.text; adds = c.in_ok-note-in-Asked.ensures.noted.adds; last = c.in_ok-note-in-Asked.ensures.noted.last })
    c.in_ok-note-in-Asked.ensures.number c.in_ok-note-in-Asked.ensures.eye c.in_ok-note-in-Asked.ensures.walker
    (has_asked c.args.context.now.lock.now c.args.self.now c.note.new.self c.with.new.pass c.args.request c.in-Asked.number c.in-Asked.reply
    c.in_ok-note-in-Asked.ensures.pass c.with.ensures.of c.with.ensures.number c.in-Asked.ensures.acts)
    c.requires.request

pub returns-in-HistoryFull-clause-full : goal.returns-in-HistoryFull-clause-full
returns-in-HistoryFull-clause-full g c = finds_full c.args.context.now.lock.now c.args.self.now c.with.new.pass c.args.line c.args.request _ c.with.ensures.of c.with.ensures.number
    c.in-HistoryFull.ensures.acts c.requires.request
