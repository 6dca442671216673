use Rattle.std.proofs.Common.{subst, ◌↔◌, ◌≡◌, true, List}
use Rattle.nav_base.specs.declared.point.Point.{Point}
use Rattle.nav_ground.specs.Prisms.{SharesArea, corners_of}
use Rattle.nav_ground.proofs.PrismLaws.{reaches, both}
use Rattle.nav_ground.proofs.prism.shares_area.Goals as goal

pub returns-clause-value : goal.returns-clause-value
returns-clause-value c =
    subst (λ (cs : List Point). (c.is_sharing.result ≡ true) ↔ SharesArea cs c.args.x c.args.z) c.corners.ensures c.is_sharing.ensures

pub returns-clause-reaches : goal.returns-clause-reaches
returns-clause-reaches c = λ n at some point inside.
    (returns-clause-value c).1 (reaches (corners_of c.args.base.now) n at c.args.x c.args.z c.requires.corners some point inside)

pub returns-clause-held : goal.returns-clause-held
returns-clause-held c = λ holds. (returns-clause-value c).1 (both (corners_of c.args.base.now) c.args.x c.args.z c.requires.corners holds)
