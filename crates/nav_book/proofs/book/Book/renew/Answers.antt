use Rattle.std.proofs.Common.{◌≡◌, ◌∙◌, ap, length, rules, sym, subst}
use Rattle.std.specs.Prelude.{replicate}
use Rattle.nav_ground.specs.History.{alive_after}
use Rattle.nav_version.specs.Pairs.{PressView, eye_of}
use Rattle.build_queue.specs.BookState.{BookState}
use Rattle.build_queue.specs.Renewal.{AddsAgain}
use Rattle.build_queue.specs.StepContracts.{IsRenewStep}
use Rattle.build_queue.proofs.Renewals.{only_adds}
use Rattle.nav_book.specs.Representation.{IsShown}
use Rattle.nav_book.proofs.Showing.{shown_renewed}
use Rattle.nav_book.proofs.book.Book.renew.Goals as goal

pub invariant_of-self : goal.invariant_of-self
invariant_of-self g c =
    let is : c.args.self.now.state ≡ c.self.inside.level = ap (λ v. v.state) (sym c.self.view_is) in
    let press = c.in_ok-press.press in
    let stands : press ≡ c.replace-last.new.dest = search rules in
    subst (λ (p : PressView). IsShown c.begin_again.new.self p) stands
    (shown_renewed c.self.inside.level c.begin_again.new.self press (c.in_ok-press.ensures.ground ∙ ap (λ (s : BookState). s.ground) is)
    (subst (λ (s : BookState). AddsAgain s.history (alive_after s.history (length s.history)) press.entries) is c.in_ok-press.ensures.again)
    c.begin_again.ensures.did.renewed c.begin_again.ensures.did.rules)

pub returns-clause-eyes : goal.returns-clause-eyes
returns-clause-eyes g c =
    let is : c.args.self.now.state ≡ c.self.inside.level = ap (λ v. v.state) (sym c.self.view_is) in
    let press = c.in_ok-press.press in
    let stands : press ≡ c.replace-last.new.dest = search rules in
    let state = c.self.inside.level in
    let again = subst (λ (s : BookState). AddsAgain s.history (alive_after s.history (length s.history)) press.entries) is c.in_ok-press.ensures.again in
    let renewed = c.begin_again.ensures.did.renewed in
    let ground = ap (λ (s : BookState). s.ground) is ∙ sym renewed.ground in
    let entries = only_adds state.history (alive_after state.history (length state.history)) press.entries _ again renewed.history in
    c.in_ok-press.ensures.eyes ∙ (λ i. replicate c.args.readers (eye_of (stands i).pair (ground i) (entries i)))

pub returns-clause-did : goal.returns-clause-did
returns-clause-did g c = subst (λ (s : BookState). IsRenewStep s c.begin_again.new.self) (ap (λ v. v.state) c.self.view_is) c.begin_again.ensures.did
