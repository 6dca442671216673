use Rattle.std.proofs.Common.{List, ◌∙◌, sym, subst}
use Rattle.nav_ground.specs.declared.field.Field.{Field}
use Rattle.nav_ground.specs.declared.setting.Setting.{Setting}
use Rattle.nav_ground.specs.Fields.{IsField}
use Rattle.agent_kinds.specs.KindOpenings.{AreKindSettings}
use Rattle.kinds_handle.specs.KindSettings.{kind_settings}
use Rattle.kinds_handle.proofs.KindRules.{field_rules, ground_rules, settings_made}
use Rattle.kinds_handle.proofs.opening.opened.Goals as goal

pub field_of-requires-clause-width : goal.field_of-requires-clause-width
field_of-requires-clause-width c = (ground_rules c.args.ground.now c.args.kinds.now c.args.costs c.args.spans.now c.requires.can).width

pub field_of-requires-clause-depth : goal.field_of-requires-clause-depth
field_of-requires-clause-depth c = (ground_rules c.args.ground.now c.args.kinds.now c.args.costs c.args.spans.now c.requires.can).depth

pub kinds_over-requires-clause-settings : goal.kinds_over-requires-clause-settings
kinds_over-requires-clause-settings c =
    subst (λ (settings : List Setting). AreKindSettings settings c.in_ok-field.field) (sym (c.as_slice.ensures.value ∙ c.in_ok-settings.ensures))
    (subst (λ (field : Field). AreKindSettings (kind_settings c.args.ground.now c.args.costs c.args.kinds.now) field) (sym c.in_ok-field.ensures)
    (settings_made c.args.ground.now c.args.kinds.now c.args.costs c.args.spans.now c.requires.can))

pub kinds_over-requires-clause-field : goal.kinds_over-requires-clause-field
kinds_over-requires-clause-field c =
    subst (λ (field : Field). IsField field) (sym c.in_ok-field.ensures)
    (field_rules c.args.ground.now c.args.kinds.now c.args.costs c.args.spans.now c.requires.can c.requires.few)
