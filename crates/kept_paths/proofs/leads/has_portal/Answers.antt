use Rattle.std.proofs.Common.{◌≡◌, refl, arith}
use Rattle.std.proofs.lemmas.Bool.{iff_false, false≢true}
use Rattle.std.proofs.lemmas.List.Elements.{Contains-get_or}
use Rattle.mesh_types.specs.declared.links.Link.{Link}
use Rattle.kept_paths.proofs.LeadLaws.{none-contained, none-more}
use Rattle.kept_paths.proofs.leads.has_portal.Goals as goal

pub returns-then-is_same : goal.returns-then-is_same
returns-then-is_same c = (
  λ _. (_, Contains-get_or c.args.links.now c.loop-link.link-index _ c.loop-link-test.true, c.is_same.ensures.0 c.if-is_same.true),
  λ _. refl,
)

pub loop-link-preserved : goal.loop-link-preserved
loop-link-preserved c =
    none-more (λ (link : Link). link.portal ≡ c.args.portal) c.args.links.now c.loop-link.link-index _ c.loop-link-test.true c.loop-link.invariant
    (iff_false c.is_same.ensures c.if-is_same.false)

pub returns : goal.returns
returns c = (
  λ same. absurd (false≢true same),
  λ held. absurd (none-contained (λ (link : Link). link.portal ≡ c.args.portal) c.args.links.now c.loop-link.link-index (omega (arith, c.loop-link-test.false))
      c.loop-link.invariant held.0 held.1 held.2),
)
