use Rattle.std.proofs.Common.{subst, arith, List}
use Rattle.std.specs.Prelude.{All}
use Rattle.std.proofs.lemmas.List.{take_all}
use Rattle.std.proofs.lemmas.Slice.Zip.{AllZip-long}
use Rattle.mesh_types.specs.declared.storeys.Storey.{Storey}
use Rattle.mesh_types.specs.Reaches.{IsReach, IsStoreyBetween}
use Rattle.mesh_types.proofs.ReachLaws.{no-reach, no-storey, reach-at, rows-wider, storeys-more}
use Rattle.mesh_types.proofs.reaches.all_floors.Goals as goal
use Rattle.std.proofs.Common.{get_or}

pub loop-reach-preserved : goal.loop-reach-preserved
loop-reach-preserved c =
    let list = c.args.list.now in
    let i = c.loop-reach.reach-index in
    let long = AllZip-long IsReach list c.args.reaches.now c.requires in
    let here = reach-at list c.args.reaches.now i no-storey no-reach c.requires (omega arith) in
    let floors = here.floors in
    storeys-more c.loop-reach.floors c.with_reach-floors.result list i no-storey (omega (arith, long)) c.with_reach-floors.ensures.one c.loop-reach.invariant
    (rows-wider (get_or c.args.reaches.now i no-reach).floors c.with_reach-floors.result (get_or list i no-storey).rows c.with_reach-floors.ensures.other floors)

pub returns : goal.returns
returns c =
    subst (λ (list : List Storey). All (IsStoreyBetween c.loop-reach.floors) list)
    (take_all c.loop-reach.reach-index c.args.list.now (omega (arith, AllZip-long IsReach c.args.list.now c.args.reaches.now c.requires)))
    c.loop-reach.invariant
