use Rattle.std.proofs.Common.{pos, arith}
use Rattle.wall_slide.specs.Feet.{IsOnRow}
use Rattle.wall_slide.proofs.FootLaws.{found, none_held, none_within, nothing}
use Rattle.wall_slide.proofs.feet.nearer_on_line.Goals as goal

pub returns-then-is_row_beyond : goal.returns-then-is_row_beyond
returns-then-is_row_beyond c =
    nothing c.args.polygon.now c.args.motion c.args.best (IsOnRow (pos c.args.z)) c.requires.best
    (λ q foot on. let far = c.is_row_beyond.ensures c.if-is_row_beyond.true q on (c.requires.facing.left q foot.holds) in omega (arith, far, c.square_distance.ensures))

pub returns-in_default : goal.returns-in_default
returns-in_default c =
    none_within c.args.polygon.now c.args.motion c.requires.rules c.args.best c.requires.best c.args.z c.in_default.ensures

pub returns-in_default-part_held : goal.returns-in_default-part_held
returns-in_default-part_held c =
    none_held c.args.polygon.now c.args.motion c.requires.rules c.args.best c.requires.best c.args.z c.in-Some.within c.in-Some.ensures
    c.in_default-part_held.ensures

pub returns : goal.returns
returns c =
    found c.args.polygon.now c.args.motion c.requires.rules c.args.best c.requires.best c.args.z c.in-Some.within c.in-Some.ensures
    c.in-Some-part_held.held c.in-Some-part_held.ensures c.nearest_place.result c.point_on.result c.nearer.result c.nearest_place.ensures.inside
    c.nearest_place.ensures.nearest c.point_on.ensures.value c.point_on.ensures.coordinates c.nearer.ensures
