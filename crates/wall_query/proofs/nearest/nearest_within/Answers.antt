use Rattle.std.proofs.Common.{List, refl, sym, subst}
use Rattle.std.specs.Prelude.{All, Contains}
use Rattle.std.proofs.lemmas.Result.{IfOk-weaker}
use Rattle.mesh_types.specs.declared.links.PolyRef.{PolyRef}
use Rattle.wall_slide.specs.Ends.{IsThere}
use Rattle.wall_query.specs.declared.questions.Wall.{Wall}
use Rattle.wall_query.specs.Walls.{HasWallsOf, IsBestOf, IsInReach}
use Rattle.wall_query.proofs.AllLaws.{in_reach}
use Rattle.wall_query.proofs.BestLaws.{of_within}
use Rattle.wall_query.proofs.ListedThere.{all_there}
use Rattle.wall_query.proofs.nearest.nearest_within.Goals as goal

pub walls_of-requires-clause-list : goal.walls_of-requires-clause-list
walls_of-requires-clause-list c =
    subst (All (IsThere c.args.mesh.now)) (sym c.as_slice.ensures.value)
    (all_there c.args.mesh.now (record { from = c.args.asked.now.from; areas = c.args.asked.now.areas; far = c.args.far }) c.in_ok-list.list.items
    c.requires.place.held (λ at held. (c.in_ok-list.ensures at).0 held))

pub nearest_of-requires-clause-walls : goal.nearest_of-requires-clause-walls
nearest_of-requires-clause-walls c =
    subst (All (IsInReach c.args.mesh.now c.args.asked.now)) (sym c.as_slice-2.ensures.value)
    (in_reach c.args.mesh.now c.args.asked.now c.args.far _ c.in_ok-walls.walls.items c.requires.fraction c.requires.within c.in_ok-walls.ensures)

pub returns : goal.returns
returns c =
    IfOk-weaker c.nearest_of.result _ _ (λ best is.
    of_within c.args.mesh.now c.args.asked.now c.args.far _ c.in_ok-list.list.items c.in_ok-walls.walls.items best
    refl
    c.in_ok-list.ensures
    (subst (λ (list : List PolyRef). HasWallsOf c.args.mesh.now (record { from = c.args.asked.now.from; areas = c.args.asked.now.areas; far = c.args.far }) list c.in_ok-walls.walls.items)
    c.as_slice.ensures.value c.in_ok-walls.ensures.has)
    (subst (λ (walls : List Wall). IsBestOf c.args.mesh.now c.args.asked.now (Contains walls) best) c.as_slice-2.ensures.value is))
    c.nearest_of.ensures
