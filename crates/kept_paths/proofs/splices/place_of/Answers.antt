use Rattle.std.proofs.Common.{◌≡◌}
use Rattle.std.proofs.lemmas.Bool.{iff_false}
use Rattle.mesh_types.specs.declared.links.Link.{Link}
use Rattle.kept_paths.proofs.LeadLaws.{none-more}
use Rattle.kept_paths.proofs.SpliceLaws.{stands-inside}
use Rattle.kept_paths.proofs.splices.place_of.Goals as goal

pub returns-then-is_same-clause-some : goal.returns-then-is_same-clause-some
returns-then-is_same-clause-some c =
    stands-inside c.args.links.now c.args.last c.args.at c.loop-place.place _ c.loop-place-test.true (c.is_same.ensures.0 c.if-is_same.true)

pub loop-place-preserved : goal.loop-place-preserved
loop-place-preserved c =
    none-more (λ (link : Link). link.from ≡ c.args.at) c.args.links.now c.loop-place.place _ c.loop-place-test.true c.loop-place.invariant
    (iff_false c.is_same.ensures c.if-is_same.false)
