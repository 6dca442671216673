use Rattle.std.proofs.Common.{◌∙◌, sym}
use Rattle.nav_play.proofs.Claiming.{busy_claims, no_step, none_claimed, one_step, tile_claimed}
use Rattle.nav_play.proofs.run.claim.Goals as goal

pub returns-then-is_busy-clause-claimed : goal.returns-then-is_busy-clause-claimed
returns-then-is_busy-clause-claimed g c = busy_claims _ _ _ _ (sym c.is_busy.ensures ∙ c.if-is_busy.true) c.requires.held

pub returns-in-None-clause-claimed : goal.returns-in-None-clause-claimed
returns-in-None-clause-claimed g c =
    none_claimed _ _ _ _ _ c.in_ok-claim.field-0 (sym c.is_busy.ensures ∙ c.if-is_busy.false) c.in_ok-claim.ensures.did.job c.in-None.is
    c.in_ok-claim.ensures.did.claimed c.requires.held

pub returns-in_ok-made-in-Some-clause-claimed : goal.returns-in_ok-made-in-Some-clause-claimed
returns-in_ok-made-in-Some-clause-claimed g c =
    tile_claimed _ _ _ _ _ _ _ c.in_ok-claim.field-0 c.in-Some.job c.in_ok-made-in-Some.made (sym c.is_busy.ensures ∙ c.if-is_busy.false)
    c.in_ok-claim.ensures.did.job c.in-Some.is c.in_ok-claim.ensures.did.claimed c.in_ok-made-in-Some.ensures.job c.in_ok-made-in-Some.ensures.made c.hold.ensures
    c.build.ensures.step c.requires.held

pub returns-then-is_busy-clause-most : goal.returns-then-is_busy-clause-most
returns-then-is_busy-clause-most g c = no_step _ _

pub returns-in_err-claim-clause-most : goal.returns-in_err-claim-clause-most
returns-in_err-claim-clause-most g c = no_step _ _

pub returns-in-None-clause-most : goal.returns-in-None-clause-most
returns-in-None-clause-most g c = no_step _ _

pub returns-in_err-made-in-Some-clause-most : goal.returns-in_err-made-in-Some-clause-most
returns-in_err-made-in-Some-clause-most g c =
    one_step c.args.book.now.state c.args.workers.now c.args.worker _ _ c.in_ok-claim.field-0 c.in-Some.job (sym c.is_busy.ensures ∙ c.if-is_busy.false) c.in_ok-claim.ensures.did.job c.in-Some.is
    c.build.ensures.step

pub returns-in_ok-made-in-Some-clause-most : goal.returns-in_ok-made-in-Some-clause-most
returns-in_ok-made-in-Some-clause-most g c =
    one_step c.args.book.now.state c.args.workers.now c.args.worker _ _ c.in_ok-claim.field-0 c.in-Some.job (sym c.is_busy.ensures ∙ c.if-is_busy.false) c.in_ok-claim.ensures.did.job c.in-Some.is
    c.build.ensures.step
