use Rattle.std.proofs.Common.{subst, sym}
use Rattle.agent_kinds.specs.KindGrounds.{AreOver}
use Rattle.agent_kinds.proofs.FieldKept.{kept_anew}
use Rattle.agent_kinds.proofs.OverField.{over_grounds}
use Rattle.agent_kinds.proofs.kinds.Kinds.settle.Goals as goal

pub invariant_of-self : goal.invariant_of-self
invariant_of-self g c =
    let field = c.self.inside.field in
    let old = c.as_mut_slice.result.now in
    let before : AreOver field old = subst (AreOver field) (sym c.as_mut_slice.ensures.value) c.self.invariant.over in
    let anew = kept_anew c.self.inside field old c.settle_all.new.levels c.as_mut_slice.ensures.value c.settle_all.auto.levels c.settle_all.ensures.rules
    (over_grounds field old c.settle_all.new.levels c.settle_all.ensures.ground before) in
    record { kinds = anew.0; over = anew.1 }
