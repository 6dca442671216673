use Rattle.nav_version.proofs.PressLaws.{IsKept-whole}
use Rattle.std.proofs.Common.{List, Some, ap, subst, sym, ◌∙◌}
use Rattle.nav_ground.specs.declared.history.Entry.{Entry}
use Rattle.nav_version.specs.VersionRule.{IsKept}
use Rattle.nav_version.specs.declared.version.PublishedVersion.{PublishedVersion}
use Rattle.nav_version.proofs.press.Press.showing.Goals as goal

pub invariant_of-result : goal.invariant_of-result
invariant_of-result g c =
    subst (λ (ahead : List Entry). IsKept c.in_ok-stage.stage.told c.first_of.new.history (Some ahead)) (sym c.new.ensures) (
    IsKept-whole c.in_ok-stage.stage.told c.first_of.new.history (ap (λ (shown : PublishedVersion). shown.told) c.in_ok-stage.ensures ∙ c.in_ok-first.ensures.told))
