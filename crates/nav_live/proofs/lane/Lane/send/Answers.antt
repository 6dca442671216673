use Rattle.nav_live.proofs.LaneLaws.{ran_send}
use Rattle.nav_live.proofs.lane.Lane.send.Goals as goal

pub returns-clause-ran : goal.returns-clause-ran
returns-clause-ran g c = λ lock spoken keeps. ran_send lock spoken c.args.self.now c.note.new.self c.send.new.eye c.args.from.point c.args.from.y c.args.to.point c.args.to.y
    c.in_ok-k.k c.in_ok-k.answer c.in_ok-k.sent keeps
    (record { text = c.in_ok-note.ensures.noted.text; adds = c.in_ok-note.ensures.noted.adds; last = c.in_ok-note.ensures.noted.last })
    c.in_ok-note.ensures.number c.in_ok-note.ensures.pass c.in_ok-note.ensures.eye c.in_ok-note.ensures.walker
    (record {
      looked = c.in_ok-k.ensures.looked;
      long = c.in_ok-k.ensures.length;
      sent = c.in_ok-k.ensures.sent;
      way = c.in_ok-k.ensures.way;
      leaves = c.in_ok-k.ensures.walker;
      may_march = c.in_ok-k.ensures.may_march;
    })
