use Rattle.std.proofs.Common.{rules}
use Rattle.crowd_moves.proofs.StepLaws.{no_agent, no_move, clear_beside, mover_there, other_mover}
use Rattle.crowd_moves.proofs.steps.is_clear_beside.Goals as goal

pub is_clear-requires-clause-first : goal.is_clear-requires-clause-first
is_clear-requires-clause-first c = mover_there c.args.crowd.agents.now c.args.i c.args.made.now no_agent c.requires.there c.requires.mover

pub is_clear-requires-clause-second : goal.is_clear-requires-clause-second
is_clear-requires-clause-second c = other_mover c.args.crowd.agents.now c.args.moves.now c.args.j no_agent no_move c.requires.movers (search rules)

pub returns : goal.returns
returns c =
    clear_beside c.args.crowd.height c.args.crowd.agents.now c.args.moves.now c.args.i c.args.j c.args.made.now no_agent no_move c.is_clear.result c.requires.movers
    c.requires.there (search rules) (search rules) c.is_clear.ensures
