use Rattle.std.proofs.Common.{ap, ◌+◌, [], take, drop}
use Rattle.std.specs.List.{flat_map}
use Rattle.std.proofs.lemmas.List.{take_all}
use Rattle.nav_record.specs.AnswerTexts.{turn_text}
use Rattle.nav_text.proofs.AppendLaws.{nothing, spelled, and_then, longer, handed, one_more, and_rest}
use Rattle.nav_record.proofs.answer.append_turns.Goals as goal

pub loop-turn-init : goal.loop-turn-init
loop-turn-init c = nothing _ tt

pub loop-turn-preserved : goal.loop-turn-preserved
loop-turn-preserved c =
    let i = c.loop-turn.turn-index in
    spelled _ _ (one_more turn_text [] c.args.turns.now i _ c.loop-turn-test.true)
    (and_then (flat_map turn_text (take i c.args.turns.now)) _ c.loop-turn.invariant c.in_ok-append_turn.ensures)

pub returns-in_err-append_turn : goal.returns-in_err-append_turn
returns-in_err-append_turn c =
    let i = c.loop-turn.turn-index in
    let so_far = flat_map turn_text (take i c.args.turns.now) in
    handed _ _ c.from_residual.ensures.0
    (spelled _ _ (and_rest turn_text [] c.args.turns.now i _ c.loop-turn-test.true)
    (longer _ (flat_map turn_text (drop (i + 1) c.args.turns.now)) (and_then so_far _ c.loop-turn.invariant c.in_err-append_turn.ensures)))

pub returns : goal.returns
returns c = spelled _ _ (ap (flat_map turn_text) (take_all c.loop-turn.turn-index c.args.turns.now c.loop-turn-test.false)) c.loop-turn.invariant
