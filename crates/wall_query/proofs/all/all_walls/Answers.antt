use Rattle.std.proofs.Common.{List, sym, subst}
use Rattle.std.specs.Prelude.{All}
use Rattle.std.proofs.lemmas.List.Sorted.{All-permutation}
use Rattle.std.proofs.lemmas.Result.{IfOk-weaker}
use Rattle.mesh_types.specs.declared.links.PolyRef.{PolyRef}
use Rattle.wall_slide.specs.Ends.{IsThere}
use Rattle.wall_query.specs.Walls.{AreWallsOf}
use Rattle.wall_query.proofs.AllLaws.{all_of}
use Rattle.wall_query.proofs.ListedThere.{all_there}
use Rattle.wall_query.proofs.all.all_walls.Goals as goal

pub walls_of-requires-clause-list : goal.walls_of-requires-clause-list
walls_of-requires-clause-list c =
    subst (All (IsThere c.args.mesh.now)) (sym c.as_slice.ensures.value)
    (All-permutation (IsThere c.args.mesh.now) c.in_ok-list.list.items c.order_polygons.new.list.items c.order_polygons.ensures.all
    (all_there c.args.mesh.now (record { from = c.args.asked.now.from; areas = c.args.asked.now.areas; far = c.square_of_reach.result }) c.in_ok-list.list.items
    c.requires.place.held (λ at held. (c.in_ok-list.ensures at).0 held)))

pub returns : goal.returns
returns c =
    IfOk-weaker c.walls_of.result _ _ (λ walls is.
    all_of c.args.mesh.now c.args.asked.now (record { from = c.args.asked.now.from; areas = c.args.asked.now.areas; far = c.square_of_reach.result })
    c.in_ok-list.list.items c.order_polygons.new.list.items walls.items
    (λ i. record { from = c.args.asked.now.from; areas = c.args.asked.now.areas; far = c.square_of_reach.ensures i })
    c.in_ok-list.ensures c.order_polygons.ensures.all c.order_polygons.ensures.order
    (subst (λ (list : List PolyRef). AreWallsOf c.args.mesh.now (record { from = c.args.asked.now.from; areas = c.args.asked.now.areas; far = c.square_of_reach.result }) list walls.items)
    c.as_slice.ensures.value is))
    c.walls_of.ensures
