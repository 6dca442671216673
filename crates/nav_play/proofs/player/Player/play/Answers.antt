use Rattle.std.proofs.Common.{◌∙◌, ap, length, refl, sym, arith}
use Rattle.std.specs.Option.{option_map}
use Rattle.std.proofs.lemmas.List.{length-map}
use Rattle.nav_book.specs.Results.{job_built}
use Rattle.nav_play.proofs.Arms.{state_is, still_steady}
use Rattle.nav_play.proofs.Playable.{line_playable}
use Rattle.nav_play.proofs.Playing.{all_steps, are_totals, last_state, line_broken, no_line_played, one_line_played, whole_text}
use Rattle.nav_play.proofs.Tallying.{room}
use Rattle.nav_play.specs.PlayStates.{PlayState}
use Rattle.nav_play.proofs.player.Player.play.Goals as goal

pub loop-line-init : goal.loop-line-init
loop-line-init g c = record {
  playing = no_line_played _ _ _ _ _ _ _ refl c.requires.begun.text c.requires.begun.totals refl;
  steady = c.requires.begun.steady;
}

pub step-requires-clause-playable : goal.step-requires-clause-playable
step-requires-clause-playable g c =
    line_playable c.args.script.now _ _ _ _ _ _ c.requires.script c.as_slice-line-items.ensures c.loop-line-test.true
    (c.loop-line.invariant.playing.lanes ∙ c.requires.begun.lanes)
    (sym (length-map c.loop-line.self.workers (option_map job_built)) ∙ c.loop-line.invariant.playing.workers
    ∙ length-map c.args.self.now.workers (option_map job_built) ∙ c.requires.begun.workers)
    (let none = ap length c.requires.begun.jumps in omega (arith, c.loop-line.invariant.playing.jumps, none, c.requires.script.jumps))

pub step-requires-clause-room : goal.step-requires-clause-room
step-requires-clause-room g c =
    let items = ap length c.as_slice-line-items.ensures in
    room _ _ _ _ _ c.loop-line.invariant.playing.tallied (omega (arith, c.loop-line-test.true, items, c.requires.script.few))

pub returns-in_err-step-clause-most : goal.returns-in_err-step-clause-most
returns-in_err-step-clause-most g c =
    line_broken _ _ _ _ _ _ _ _ _ _ _ c.loop-line.invariant.playing c.as_slice-line-items.ensures c.loop-line-test.true c.step.ensures.most

pub loop-line-preserved : goal.loop-line-preserved
loop-line-preserved g c =
    let done = c.in_ok-step.ensures.played in
    record {
      playing = one_line_played _ _ _ _ _ _ _ _ _ _ _ _ _ _ c.loop-line.invariant.playing c.as_slice-line-items.ensures c.loop-line-test.true
          done.text (state_is _ _ done.state) done.totals done.count;
      steady = still_steady _ _ _ _ _ done;
    }

pub returns-clause-text : goal.returns-clause-text
returns-clause-text g c =
    whole_text _ _ _ _ _ _ _ _ _ _ _ _ c.loop-line.invariant.playing c.as_slice-line-items.ensures (omega (arith, c.loop-line-test.false)) c.published.ensures.value
    c.length.ensures c.in_ok-write_done.ensures.ok

pub returns-clause-totals : goal.returns-clause-totals
returns-clause-totals g c =
    are_totals _ _ _ _ _ _ _ _ _ _ c.loop-line.invariant.playing c.as_slice-line-items.ensures (omega (arith, c.loop-line-test.false)) c.told.ensures

pub returns-clause-steps : goal.returns-clause-steps
returns-clause-steps g c =
    all_steps _ _ _ _ _ _ _ _ _ c.loop-line.invariant.playing c.as_slice-line-items.ensures (omega (arith, c.loop-line-test.false))

pub returns-clause-ended : goal.returns-clause-ended
returns-clause-ended g c =
    ap (λ (s : PlayState). s.book)
    (sym (last_state _ _ _ _ _ _ _ _ _ c.loop-line.invariant.playing c.as_slice-line-items.ensures (omega (arith, c.loop-line-test.false))))
