use Rattle.std.proofs.Common.{refl, rules}
use Rattle.nav_play.proofs.Arms.{at_line, back_played, claim_played, lane_played, publish_played, settle_played, submit_played}
use Rattle.nav_play.proofs.Claiming.{no_step}
use Rattle.nav_play.proofs.player.Player.step.Goals as goal

pub returns-in-Lane-clause-played : goal.returns-in-Lane-clause-played
returns-in-Lane-clause-played g c = lane_played _ c.args.self.now c.in-Lane.lane _ c.in-Lane.is c.requires.steady c.requires.playable

pub returns-in-Ask-clause-played : goal.returns-in-Ask-clause-played
returns-in-Ask-clause-played g c = at_line _ _ _ _ _ _ _ c.in-Ask.is (c.ask.ensures _)

pub returns-in-Add-clause-played : goal.returns-in-Add-clause-played
returns-in-Add-clause-played g c = at_line _ _ _ _ _ _ _ c.in-Add.is (c.add.ensures _)

pub returns-in-Undo-clause-played : goal.returns-in-Undo-clause-played
returns-in-Undo-clause-played g c = at_line _ _ _ _ _ _ _ c.in-Undo.is (c.undo.ensures _)

pub returns-in-Settle-clause-played : goal.returns-in-Settle-clause-played
returns-in-Settle-clause-played g c =
    at_line _ _ _ _ _ _ _ c.in-Settle.is
    (settle_played _ _ _ _ _ _ c.requires.steady c.write_answered.ensures c.settle-answer.ensures.answer c.settle-answer.ensures.book
    c.settle-answer.ensures.jobs c.settle-answer.ensures.held c.settle-answer.ensures.steps refl refl refl refl)

pub returns-in-Aim-clause-played : goal.returns-in-Aim-clause-played
returns-in-Aim-clause-played g c = at_line _ _ _ _ _ _ _ c.in-Aim.is (c.aim.ensures _)

pub returns-in-Claim-clause-played : goal.returns-in-Claim-clause-played
returns-in-Claim-clause-played g c =
    at_line _ _ _ _ _ _ _ c.in-Claim.is
    (claim_played _ _ _ _ _ _ _ c.requires.steady c.write_answered-in-Claim.ensures c.claim-answer.ensures.claimed refl refl refl refl)

pub returns-in-Back-clause-played : goal.returns-in-Back-clause-played
returns-in-Back-clause-played g c =
    at_line _ _ _ _ _ _ _ c.in-Back.is
    (back_played _ _ _ _ _ _ c.requires.steady c.write_step.ensures.ok c.put_back-answer.ensures.answer c.put_back-answer.ensures.book
    c.put_back-answer.ensures.jobs c.put_back-answer.ensures.held refl refl refl refl)

pub returns-in-Submit-clause-played : goal.returns-in-Submit-clause-played
returns-in-Submit-clause-played g c =
    at_line _ _ _ _ _ _ _ c.in-Submit.is
    (submit_played _ _ _ _ _ _ c.requires.steady c.write_step-in-Submit.ensures.ok c.submit-answer.ensures.answer c.submit-answer.ensures.book
    c.submit-answer.ensures.jobs c.submit-answer.ensures.held refl refl refl refl)

pub returns-in-Publish-clause-played : goal.returns-in-Publish-clause-played
returns-in-Publish-clause-played g c =
    at_line _ _ _ _ _ _ _ c.in-Publish.is
    (publish_played _ _ _ _ _ c.requires.steady c.write_answered-in-Publish.ensures c.publish-answer.ensures.answer c.publish-answer.ensures.book
    refl refl refl refl refl)

pub returns-in-Jump-clause-played : goal.returns-in-Jump-clause-played
returns-in-Jump-clause-played g c = at_line _ _ _ _ _ _ _ c.in-Jump.is (c.declare.ensures _)

pub returns-in-Jump-clause-most : goal.returns-in-Jump-clause-most
returns-in-Jump-clause-most g c = no_step _ _

pub returns-in-Hop-clause-played : goal.returns-in-Hop-clause-played
returns-in-Hop-clause-played g c = at_line _ _ _ _ _ _ _ c.in-Hop.is (c.ask_hop.ensures _)

pub returns-in-Hop-clause-most : goal.returns-in-Hop-clause-most
returns-in-Hop-clause-most g c = no_step _ _

pub returns-in-Lane-clause-most : goal.returns-in-Lane-clause-most
returns-in-Lane-clause-most g c = no_step _ _

pub returns-in-Ask-clause-most : goal.returns-in-Ask-clause-most
returns-in-Ask-clause-most g c = no_step _ _

pub returns-in-Add-clause-most : goal.returns-in-Add-clause-most
returns-in-Add-clause-most g c = no_step _ _

pub returns-in-Remove-clause-most : goal.returns-in-Remove-clause-most
returns-in-Remove-clause-most g c = no_step _ _

pub returns-in-Undo-clause-most : goal.returns-in-Undo-clause-most
returns-in-Undo-clause-most g c = no_step _ _

pub returns-in-Aim-clause-most : goal.returns-in-Aim-clause-most
returns-in-Aim-clause-most g c = no_step _ _

pub returns-in-Back-clause-most : goal.returns-in-Back-clause-most
returns-in-Back-clause-most g c = no_step _ _

pub returns-in-Submit-clause-most : goal.returns-in-Submit-clause-most
returns-in-Submit-clause-most g c = no_step _ _

pub returns-in-Publish-clause-most : goal.returns-in-Publish-clause-most
returns-in-Publish-clause-most g c = no_step _ _

pub returns-in-Remove-clause-played : goal.returns-in-Remove-clause-played
returns-in-Remove-clause-played g c = search rules
