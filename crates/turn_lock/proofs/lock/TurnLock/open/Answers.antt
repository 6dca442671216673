use Rattle.std.proofs.Common.{refl}
use Rattle.turn_lock.proofs.Seats.{starts}
use Rattle.turn_lock.proofs.lock.TurnLock.open.Goals as goal

pub new-requires : goal.new-requires
new-requires g c =
    rw (c.push_reserved.ensures.items, c.in-Ok.ensures.items, c.of.ensures)
    (starts g.B.Booked.root g.B.Booked.entries g.B.Booked.maker (g.B.Booked.root c.args.value) c.args.passes c.args.value refl c.requires.empty c.requires.some)
