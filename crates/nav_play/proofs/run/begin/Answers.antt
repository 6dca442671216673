use Rattle.std.proofs.Common.{◌∙◌, ap}
use Rattle.nav_ground.specs.declared.history.Ground.{Ground}
use Rattle.nav_book.specs.Openings.{ground_of}
use Rattle.nav_play.specs.PlayStates.{opening_state}
use Rattle.nav_play.proofs.Claiming.{no_step}
use Rattle.nav_play.proofs.Parts.{tiles_risen, tiles_taken}
use Rattle.nav_play.proofs.run.begin.Goals as goal

pub returns-clause-state : goal.returns-clause-state
returns-clause-state g c =
    c.in_ok-opened.ensures.state
    ∙ ap (λ (ground : Ground). opening_state ground c.args.script.now.lanes c.args.script.now.workers) c.in_ok-level.ensures.value

pub returns-in_err-level-clause-most : goal.returns-in_err-level-clause-most
returns-in_err-level-clause-most g c = no_step _ _

pub returns-in_err-tiles-clause-most : goal.returns-in_err-tiles-clause-most
returns-in_err-tiles-clause-most g c = tiles_risen (ground_of c.args.start.setting c.args.start.field) _ _ _ c.in_ok-level.ensures.value c.build_tiles.ensures.most

pub returns-in_err-opened-clause-most : goal.returns-in_err-opened-clause-most
returns-in_err-opened-clause-most g c = tiles_risen (ground_of c.args.start.setting c.args.start.field) _ _ _ c.in_ok-level.ensures.value c.build_tiles.ensures.most

pub returns-clause-most : goal.returns-clause-most
returns-clause-most g c = tiles_risen (ground_of c.args.start.setting c.args.start.field) _ _ _ c.in_ok-level.ensures.value c.build_tiles.ensures.most

pub returns-clause-steps : goal.returns-clause-steps
returns-clause-steps g c = tiles_taken (ground_of c.args.start.setting c.args.start.field) _ _ _ c.in_ok-level.ensures.value c.in_ok-tiles.ensures.steps
