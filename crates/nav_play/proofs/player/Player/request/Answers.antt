use Rattle.std.proofs.Common.{◌∙◌, sym, refl}
use Rattle.nav_play.proofs.Arms.{number_made, request_made}
use Rattle.nav_play.proofs.player.Player.request.Goals as goal

pub returns-in_ok-write_reply-in-Ok-clause-number : goal.returns-in_ok-write_reply-in-Ok-clause-number
returns-in_ok-write_reply-in-Ok-clause-number c = number_made c.args.self.now.book.state c.args.request _ _ (sym c.in-Ok.is ∙ c.request.ensures.did.answer) c.added.ensures

pub returns-in_ok-write_reply-in-Ok-clause-requested : goal.returns-in_ok-write_reply-in-Ok-clause-requested
returns-in_ok-write_reply-in-Ok-clause-requested c =
    request_made c.args.self.now _ c.args.request _ (sym c.in-Ok.is ∙ c.request.ensures.did.answer) c.in_ok-write_reply-in-Ok.ensures.ok c.request.ensures.did.state refl refl refl refl refl

pub returns-in_ok-write_step-in-Err-clause-number : goal.returns-in_ok-write_step-in-Err-clause-number
returns-in_ok-write_step-in-Err-clause-number c = number_made c.args.self.now.book.state c.args.request _ _ (sym c.in-Err.is ∙ c.request.ensures.did.answer) refl

pub returns-in_ok-write_step-in-Err-clause-requested : goal.returns-in_ok-write_step-in-Err-clause-requested
returns-in_ok-write_step-in-Err-clause-requested c =
    request_made c.args.self.now _ c.args.request _ (sym c.in-Err.is ∙ c.request.ensures.did.answer) c.in_ok-write_step-in-Err.ensures.ok c.request.ensures.did.state refl refl refl refl refl
