use Rattle.std.proofs.Common.{◌≡◌, arith}
use Rattle.std.proofs.lemmas.Bool.{iff_false}
use Rattle.std.proofs.lemmas.List.Elements.{Contains-get_or}
use Rattle.mesh_types.specs.declared.links.Link.{Link}
use Rattle.path_queries.specs.Filters.{Enters}
use Rattle.kept_paths.proofs.LeadLaws.{none-contained, none-more}
use Rattle.kept_paths.proofs.leads.first_on.Goals as goal
use Rattle.kept_paths.proofs.leads.first_on.Goals.{else-is_same-via-then-is_same+else-enters, else-is_same-via-else-is_same}

pub returns-then-enters-clause-some : goal.returns-then-enters-clause-some
returns-then-enters-clause-some c = (
  Contains-get_or c.args.links.now c.loop-link.link-index _ c.loop-link-test.true,
  c.is_same.ensures.0 c.if-is_same.true,
  c.enters.ensures.0 c.if-enters.true,
)

pub loop-link-preserved : goal.loop-link-preserved
loop-link-preserved c =
    none-more (λ (link : Link). (link.portal ≡ c.args.portal) × Enters c.args.mesh.now c.args.areas link) c.args.links.now c.loop-link.link-index _
    c.loop-link-test.true c.loop-link.invariant
    (λ holds.
    elim c.else-is_same.branch [
      | else-is_same-via-then-is_same+else-enters w ↦ iff_false w.enters.ensures w.if-enters.false holds.1
      | else-is_same-via-else-is_same w ↦ iff_false c.is_same.ensures w.if-is_same.false holds.0
    ])

pub returns-clause-none : goal.returns-clause-none
returns-clause-none c =
    λ link held same enters.
    none-contained (λ (link : Link). (link.portal ≡ c.args.portal) × Enters c.args.mesh.now c.args.areas link) c.args.links.now c.loop-link.link-index
    (omega (arith, c.loop-link-test.false)) c.loop-link.invariant link held (same, enters)
