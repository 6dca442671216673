use Rattle.std.proofs.Common.{◌≡◌, List, subst, sym}
use Rattle.std.specs.Prelude.{All, IfOk}
use mathlib.Core.List.{IsPrefix}
use Rattle.logbook.specs.Pages.{Book}
use Rattle.nav_ground.specs.declared.history.Entry.{Entry}
use Rattle.nav_version.specs.Pairs.{EyeView}
use Rattle.nav_live.specs.LiveRecord.{live_text}
use Rattle.nav_live.proofs.Catching.{all_published, in_any_case, once_each}
use Rattle.nav_live.proofs.run.finish.Goals as goal

pub catch_up-requires : goal.catch_up-requires
catch_up-requires g c = subst (λ (pair : Book). All (λ (eye : EyeView). eye.pair ≡ pair) c.args.eyes.now) (sym c.settle.ensures.pair) c.requires.pairs

pub returns-clause-text : goal.returns-clause-text
returns-clause-text g c =
    subst (λ whole_text. IfOk c.write_live.result (λ text. text.items ≡ whole_text))
    (λ i. live_text (c.in_ok-settle.ensures.did.ground i) (c.in_ok-settle.ensures.did.history i) c.args.lanes.items) c.write_live.ensures

pub returns-clause-seen : goal.returns-clause-seen
returns-clause-seen g c =
    in_any_case _
    (subst (λ (list : List Entry). All (λ (eye : EyeView). IsPrefix eye.seen list) c.args.eyes.now)
    (all_published c.settle.new.self.state c.args.book.now.state.history c.in_ok-settle.ensures.did.history c.in_ok-settle.ensures.did.shown) c.in_ok-catch_up.ensures)

pub returns-clause-free : goal.returns-clause-free
returns-clause-free g c = in_any_case _ c.in_ok-settle.ensures.did.free

pub returns-in_err-settle-clause-most : goal.returns-in_err-settle-clause-most
returns-in_err-settle-clause-most g c = once_each c.args.book.now.state _ _ c.settle.ensures.did.most

pub returns-in_err-catch_up-clause-most : goal.returns-in_err-catch_up-clause-most
returns-in_err-catch_up-clause-most g c = once_each c.args.book.now.state _ _ c.settle.ensures.did.most

pub returns-clause-most : goal.returns-clause-most
returns-clause-most g c = once_each c.args.book.now.state _ _ c.settle.ensures.did.most
