use Rattle.std.proofs.Common.{subst, sym}
use Rattle.agent_kinds.specs.KindGrounds.{AreOver}
use Rattle.agent_kinds.proofs.FieldKept.{either_way, kept_anew}
use Rattle.agent_kinds.proofs.OverField.{over_renewed}
use Rattle.agent_kinds.proofs.kinds.Kinds.renew.Goals as goal

pub invariant_of-self : goal.invariant_of-self
invariant_of-self c =
    let field = c.self.inside.field in
    let old = c.as_mut_slice.result.now in
    let new = c.renew_all.new.levels in
    let before : AreOver field old = subst (AreOver field) (sym c.as_mut_slice.ensures.value) c.self.invariant.over in
    let over : AreOver field new = either_way c.renew_all.result _ _ _ c.renew_all.ensures.did c.renew_all.ensures.refused
    (λ is. over_renewed field old new is before) (λ is. subst (AreOver field) (sym is) before) in
    let anew = kept_anew c.self.inside field old new c.as_mut_slice.ensures.value c.renew_all.auto.levels c.renew_all.ensures.rules over in
    record { kinds = anew.0; over = anew.1 }
