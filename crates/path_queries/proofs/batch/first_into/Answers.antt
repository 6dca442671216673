use Rattle.std.proofs.Common.{◌≡◌, arith}
use Rattle.std.proofs.lemmas.List.Elements.{Contains-get_or}
use Rattle.mesh_types.specs.declared.links.Link.{Link}
use Rattle.path_queries.proofs.LinksBetween.{none-contained, none-more}
use Rattle.path_queries.proofs.batch.first_into.Goals as goal

pub returns-then-is_same-clause-some : goal.returns-then-is_same-clause-some
returns-then-is_same-clause-some c =
    (Contains-get_or c.args.links.now c.loop-link.link-index _ c.loop-link-test.true, rw c.if-is_same.true at c.is_same.ensures)

pub loop-link-preserved : goal.loop-link-preserved
loop-link-preserved c =
    none-more (λ (link : Link). link.to ≡ c.args.to) c.args.links.now c.loop-link.link-index _ c.loop-link-test.true c.loop-link.invariant
    (rw c.if-is_same.false at c.is_same.ensures)

pub returns-clause-none : goal.returns-clause-none
returns-clause-none c =
    none-contained (λ (link : Link). link.to ≡ c.args.to) c.args.links.now c.loop-link.link-index (omega (arith, c.loop-link-test.false))
    c.loop-link.invariant
