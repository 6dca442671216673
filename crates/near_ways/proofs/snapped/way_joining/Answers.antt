use Rattle.near_ways.proofs.JoinLaws.{alike_joined, can_join, near_way, on_ok}
use Rattle.near_ways.proofs.snapped.way_joining.Goals as goal

pub way_between-requires-clause-query : goal.way_between-requires-clause-query
way_between-requires-clause-query c =
    can_join c.args.mesh.now c.args.query.now c.args.from c.args.goal c.requires.sound c.requires.query c.requires.start_place c.requires.end_place

pub returns-clause-right : goal.returns-clause-right
returns-clause-right c =
    on_ok (near_way c.args.mesh.now c.args.query.now c.args.from c.args.goal c.requires.start c.requires.end c.requires.start_place c.requires.end_place)
    c.way_between.result c.way_between.ensures.right

pub returns-clause-only : goal.returns-clause-only
returns-clause-only c =
    on_ok (alike_joined c.args.mesh.now c.args.query.now c.args.from c.args.goal c.requires.start c.requires.end c.requires.one_start c.requires.one_end)
    c.way_between.result c.way_between.ensures.only
