use Rattle.std.proofs.Common.{◌≡◌, ◌<◌, Bool, false, List, set, ap, sym, subst}
use Rattle.build_queue.specs.Flags.{flag_of, set_count}
use Rattle.build_queue.specs.Waiting.{Waiting}
use Rattle.build_queue.proofs.FlagLaws.{one_less, released}
use Rattle.build_queue.proofs.Leasts.{least_passes}
use Rattle.build_queue.proofs.waiting.WaitingTiles.release_all.Goals as goal

pub loop-tile-smaller : goal.loop-tile-smaller
loop-tile-smaller c =
    let claims : List Bool = c.loop-tile.self.claimed in
    let found = least_passes _ c.in-Some.tile (flag_of claims) (sym c.in-Some.ensures.least) in
    let after : c.set_claimed.new.self.claimed ≡ set claims c.in-Some.tile false =
    ap (λ (w : Waiting). w.claimed) c.set_claimed.ensures in
    subst (λ (flags : List Bool). set_count flags < set_count claims) (sym after) (one_less claims c.in-Some.tile found.0 found.1)

pub returns : goal.returns
returns c =
    released c.args.self.now c.loop-tile.self c.loop-tile.invariant.awaited c.loop-tile.invariant.each (sym c.in_default.ensures.least)
