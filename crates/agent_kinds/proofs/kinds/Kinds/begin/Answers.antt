use Rattle.std.proofs.Common.{subst, sym}
use Rattle.nav_ground.specs.declared.field.Field.{Field}
use Rattle.agent_kinds.specs.KindGrounds.{AreOver}
use Rattle.agent_kinds.proofs.OverField.{over_opened}
use Rattle.agent_kinds.proofs.kinds.Kinds.begin.Goals as goal

pub invariant_of-result : goal.invariant_of-result
invariant_of-result g c = record {
  kinds = c.in_ok-levels.ensures.rules;
  over = subst (λ (field : Field). AreOver field c.in_ok-levels.levels.items) (sym c.in_ok-field.ensures)
      (subst (AreOver c.args.field.now) (sym c.in_ok-levels.ensures.state) (over_opened c.args.settings.now c.args.field.now));
}
