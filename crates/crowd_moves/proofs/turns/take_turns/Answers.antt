use Rattle.std.proofs.Common.{◌+◌, Bool, List, get_or, sym, subst}
use Rattle.std.proofs.lemmas.Option.{slice_get-get_or}
use Rattle.crowd_moves.specs.declared.agents.CrowdMove.{CrowdMove}
use Rattle.crowd_moves.specs.Wishes.{AreTurns}
use Rattle.crowd_moves.proofs.TurnLaws.{next_turn, skipped_turn}
use Rattle.crowd_moves.proofs.turns.take_turns.Goals as goal
use Rattle.crowd_moves.proofs.turns.take_turns.Goals.{then-i-crowd, else-i-crowd}

pub loop-q-preserved : goal.loop-q-preserved
loop-q-preserved g c =
    let lets = g.S.MoveSpace.lets c.args.space.now in
    let height = c.args.crowd.height in
    let agents = c.args.crowd.agents.now in
    let order = c.args.wishes.order.now in
    let first = c.args.wishes.first.now in
    let vectors = c.args.wishes.vectors.now in
    let old = c.args.moves.now in
    let q = c.loop-q.q in
    elim c.if-i-crowd.branch [
      | then-i-crowd w ↦
          subst (λ (moves : List CrowdMove). AreTurns lets height agents order first vectors old (q + 1) c.if-i-crowd.gains moves) (sym w.moves-is)
          (subst (λ (gains : Bool). AreTurns lets height agents order first vectors old (q + 1) gains w.take_turn-gains.new.moves) (sym w.gains-is)
          (next_turn lets height agents order first vectors old c.loop-q.moves w.take_turn-gains.new.moves q (get_or order q 0) c.loop-q.gains w.take_turn-gains.result
          c.loop-q.invariant (slice_get-get_or order q 0 c.loop-q-test.true) w.take_turn-gains.ensures))
      | else-i-crowd w ↦
          subst (λ (moves : List CrowdMove). AreTurns lets height agents order first vectors old (q + 1) c.if-i-crowd.gains moves) (sym w.moves-is)
          (subst (λ (gains : Bool). AreTurns lets height agents order first vectors old (q + 1) gains c.loop-q.moves) (sym w.gains-is)
          (skipped_turn lets height agents order first vectors old c.loop-q.moves q (get_or order q 0) c.loop-q.gains c.loop-q.invariant
          (slice_get-get_or order q 0 c.loop-q-test.true) w.if-i-crowd.false))
    ]
