use Rattle.nav_ground.proofs.BoxLaws.{told_box, in_box_near}
use Rattle.nav_ground.proofs.prism.is_in_box.Goals as goal

pub returns-then-is_reached-clause-value : goal.returns-then-is_reached-clause-value
returns-then-is_reached-clause-value c =
    told_box c.args.corners.now c.corner_box.result c.args.x c.args.z c.is_reached.result c.is_reached-then-is_reached.result c.requires c.corner_box.ensures
    c.is_reached.ensures c.is_reached-then-is_reached.ensures c.if-is_reached.true

pub returns-then-is_reached-clause-near : goal.returns-then-is_reached-clause-near
returns-then-is_reached-clause-near c =
    λ told. in_box_near c.args.corners.now c.args.x c.args.z c.requires ((returns-then-is_reached-clause-value c).0 told)
