use Rattle.std.proofs.Common.{◌∙◌}
use Rattle.path_queries.proofs.OpenAreas.{all-flooded}
use Rattle.path_queries.proofs.floods.polygons_of.Goals as goal

pub returns-then-are_all_open : goal.returns-then-are_all_open
returns-then-are_all_open c =
    c.from_vec.ensures ∙ c.in_ok-list.ensures
    ∙ all-flooded c.args.mesh.now c.args.areas c.args.first c.args.reached.now c.requires.sound (c.are_all_open.ensures c.if-are_all_open.true) c.requires.there
    c.requires.via
