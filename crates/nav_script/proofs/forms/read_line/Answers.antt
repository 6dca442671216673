use Rattle.std.proofs.Common.{sym}
use Rattle.nav_script.proofs.LineLaws.{question_right, request_right, area_right, lane_right, way_right, right_names}
use Rattle.nav_script.proofs.forms.read_line.Goals as goal

pub returns-in-Some-clause-lane : goal.returns-in-Some-clause-lane
returns-in-Some-clause-lane c =
    right_names c.args.way c.args.header.lanes c.args.header.workers c.args.adds c.args.line.now _ (question_right _ _ _ _ _ _ (sym c.in-Some.ensures))

pub returns-in-Some-request_line-clause-lane : goal.returns-in-Some-request_line-clause-lane
returns-in-Some-request_line-clause-lane c =
    right_names c.args.way c.args.header.lanes c.args.header.workers c.args.adds c.args.line.now _ (request_right _ _ _ _ _ _ (sym c.in-Some-request_line.ensures))

pub returns-in-Some-area_line-clause-lane : goal.returns-in-Some-area_line-clause-lane
returns-in-Some-area_line-clause-lane c =
    right_names c.args.way c.args.header.lanes c.args.header.workers c.args.adds c.args.line.now _ (area_right _ _ _ _ _ _ (sym c.in-Some-area_line.ensures))

pub returns-in-Some-lane_line-clause-lane : goal.returns-in-Some-lane_line-clause-lane
returns-in-Some-lane_line-clause-lane c =
    right_names c.args.way c.args.header.lanes c.args.header.workers c.args.adds c.args.line.now _ (lane_right _ _ _ _ _ _ (sym c.in-Some-lane_line.ensures))

pub returns-in-Some-way_line-clause-lane : goal.returns-in-Some-way_line-clause-lane
returns-in-Some-way_line-clause-lane c =
    right_names c.args.way c.args.header.lanes c.args.header.workers c.args.adds c.args.line.now _ (way_right _ _ _ _ _ _ (sym c.in-Some-way_line.ensures))
