use Rattle.std.proofs.Common.{◌∙◌, List, map, ap, refl, rules, sym, subst}
use Rattle.path_queries.specs.declared.floods.Flooded.{Flooded}
use Rattle.path_queries.specs.BackGraphs.{flooded_back}
use Rattle.path_queries.specs.FloodsBack.{IsWholeFloodBack}
use Rattle.path_queries.proofs.FloodBackLaws.{whole-flood-is}
use Rattle.path_queries.proofs.floods_back.flood_to.Goals as goal

pub returns : goal.returns
returns c =
    let mesh = c.args.mesh.now in
    let filter = c.args.filter.now in
    subst (λ (flood : List Flooded). IsWholeFloodBack mesh filter c.args.last c.args.most_cost flood)
    (sym (c.from_vec.ensures ∙ c.in_ok-list.ensures ∙ ap (map flooded_back) c.as_slice.ensures.value))
    (whole-flood-is mesh filter c.args.last _ _ _ c.requires.sound c.requires.two_way c.in_ok-found.ensures refl (search rules))
