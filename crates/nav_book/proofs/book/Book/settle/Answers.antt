use Rattle.std.proofs.Common.{ap, refl}
use Rattle.nav_book.proofs.CallLaws.{not_settled, settled}
use Rattle.nav_book.proofs.Showing.{shown_same}
use Rattle.nav_book.proofs.book.Book.settle.Goals as goal

pub invariant_of-self : goal.invariant_of-self
invariant_of-self g c =
    let did = c.build_target.ensures.did in
    shown_same c.self.inside.level c.self.inside.press c.self.invariant c.build_target.new.self did.rules did.ground did.history did.published

pub invariant_of-self-2 : goal.invariant_of-self-2
invariant_of-self-2 g c =
    let did = c.build_target.ensures.did in
    shown_same c.self.inside.level c.self.inside.press c.self.invariant c.build_target.new.self did.rules did.ground did.history did.published

pub returns-in_err-k-clause-did : goal.returns-in_err-k-clause-did
returns-in_err-k-clause-did g c =
    not_settled _ _ _ _ _ _ _ _ (ap (λ v. v.state) c.self.view_is) refl c.from_residual.ensures.0 c.build_target.ensures.did

pub returns-in_err-publish-clause-did : goal.returns-in_err-publish-clause-did
returns-in_err-publish-clause-did g c =
    not_settled _ _ _ _ _ _ _ _ (ap (λ v. v.state) c.self.view_is) c.in_err-publish.ensures.did.refused c.from_residual-in_err-publish.ensures.0
    c.in_ok-k.ensures.did

pub returns-clause-did : goal.returns-clause-did
returns-clause-did g c =
    settled _ _ _ _ _ _ _ (ap (λ v. v.state) c.self.view_is) c.in_ok-k.ensures.did c.in_ok-k.ensures.length c.in_ok-publish.ensures.did.published
