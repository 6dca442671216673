use Rattle.std.proofs.Common.{◌≡◌, refl, subst, arith}
use Rattle.std.specs.Prelude.{Contains}
use Rattle.std.proofs.lemmas.Bool.{iff_false, false≢true}
use Rattle.std.proofs.lemmas.List.Elements.{Contains-get_or}
use Rattle.mesh_types.specs.declared.links.Link.{Link}
use Rattle.kept_paths.proofs.LeadLaws.{none-contained, none-more}
use Rattle.kept_paths.proofs.leads.has_link.Goals as goal

pub returns-then-is_link : goal.returns-then-is_link
returns-then-is_link c = (
  λ _. subst (Contains c.args.links.now) (c.is_link.ensures.0 c.if-is_link.true)
      (Contains-get_or c.args.links.now c.loop-other.other-index _ c.loop-other-test.true),
  λ _. refl,
)

pub loop-other-preserved : goal.loop-other-preserved
loop-other-preserved c =
    none-more (λ (link : Link). link ≡ c.args.link.now) c.args.links.now c.loop-other.other-index _ c.loop-other-test.true c.loop-other.invariant
    (iff_false c.is_link.ensures c.if-is_link.false)

pub returns : goal.returns
returns c = (
  λ same. absurd (false≢true same),
  λ held. absurd (none-contained (λ (link : Link). link ≡ c.args.link.now) c.args.links.now c.loop-other.other-index
      (omega (arith, c.loop-other-test.false)) c.loop-other.invariant c.args.link.now held refl),
)
