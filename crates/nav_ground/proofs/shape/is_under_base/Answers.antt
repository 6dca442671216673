use Rattle.std.proofs.Common.{refl}
use Rattle.nav_ground.proofs.PrismLaws.{told_stopping, told_setting}
use Rattle.nav_ground.proofs.shape.is_under_base.Goals as goal

pub returns-then-area-eq0 : goal.returns-then-area-eq0
returns-then-area-eq0 c =
    told_stopping c.args.area _ _ c.args.x c.args.z c.shares_area.result c.if-area-eq0.true refl c.shares_area.ensures.value

pub returns-else-area-eq0 : goal.returns-else-area-eq0
returns-else-area-eq0 c =
    told_setting c.args.area _ _ c.args.x c.args.z c.holds_middle.result c.if-area-eq0.false c.corners.ensures c.holds_middle.ensures
