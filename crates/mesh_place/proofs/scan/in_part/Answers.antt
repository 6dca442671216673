use Rattle.std.proofs.Common.{◌≡◌, ℕ, ◌<◌, sym, subst, arith}
use Rattle.std.proofs.lemmas.Nat.{mul-le}
use Rattle.nav_base.specs.Deviation.{square_of}
use Rattle.nav_base.specs.Point.{from_to}
use Rattle.mesh_types.specs.declared.storeys.MeshPlace.{MeshPlace}
use Rattle.mesh_place.specs.declared.near.Near.{Near}
use Rattle.mesh_place.specs.Searches.{IsFound}
use Rattle.mesh_place.proofs.ScanLaws.{holds_it}
use Rattle.mesh_place.proofs.SearchLaws.{beyond, found_measurable, near_as, no_less, no_more, after_more, over_limit, skipped}
use Rattle.mesh_place.proofs.scan.in_part.Goals as goal

pub limit-requires-clause-best : goal.limit-requires-clause-best
limit-requires-clause-best c = found_measurable c.args.mesh.now c.args.asked.now c.args.best c.requires.sound c.requires.best

pub returns-then-is_polygon_beyond : goal.returns-then-is_polygon_beyond
returns-then-is_polygon_beyond c =
    let mesh = c.args.mesh.now in
    let asked = c.args.asked.now in
    let part = c.args.part.now in
    let climb = mesh.setting.agent.climb in
    skipped mesh asked c.args.best (λ (other : MeshPlace). other.polygon ≡ part.at) c.requires.best
    (λ other stands near one.
    let gap : ℕ = square_of (from_to asked.point other.point) in
    beyond mesh asked c.args.best gap c.args.least other
    (over_limit climb asked c.args.least c.args.best gap
    (subst (λ (n : ℕ). n < gap) c.limit.ensures
    (c.is_polygon_beyond.ensures c.if-is_polygon_beyond.true other.point (holds_it mesh asked part other c.requires.part stands one))))
    (omega arith) (c.requires.least other stands near one) near)

pub reach_left-requires-clause-best : goal.reach_left-requires-clause-best
reach_left-requires-clause-best c = found_measurable c.args.mesh.now c.args.asked.now c.args.best c.requires.sound c.requires.best

pub reach_left-rest-requires-clause-best : goal.reach_left-rest-requires-clause-best
reach_left-rest-requires-clause-best c =
    let asked = c.args.asked.now in
    let at = c.args.part.now.at in
    let near = near_as c.args.mesh.now c.search_within.result asked c.near_reach-near.result c.args.best c.in_storey-nearest.result (λ (other : MeshPlace). other.polygon ≡ at)
    c.search_within.ensures.asked c.search_within.ensures.reach c.in_storey-nearest.ensures in
    found_measurable c.args.mesh.now asked c.in_storey-nearest.result c.requires.sound near.found

pub returns-then-rest-near : goal.returns-then-rest-near
returns-then-rest-near c =
    let asked = c.args.asked.now in
    let at = c.args.part.now.at in
    let rest : ℕ = c.reach_left-rest.result in
    let reach : ℕ = c.near_reach-near.result in
    let near = near_as c.args.mesh.now c.search_within.result asked reach c.args.best c.in_storey-nearest.result (λ (other : MeshPlace). other.polygon ≡ at)
    c.search_within.ensures.asked c.search_within.ensures.reach c.in_storey-nearest.ensures in
    no_more c.args.mesh.now asked c.args.best c.in_storey-nearest.result c.args.least reach (λ (other : MeshPlace). other.polygon ≡ at) c.requires.least
    (omega (arith, c.reach_left-rest.ensures.enough, mul-le rest rest reach reach c.if-rest-near.true c.if-rest-near.true)) near

pub in_storey-requires-clause-best : goal.in_storey-requires-clause-best
in_storey-requires-clause-best c =
    let asked = c.args.asked.now in
    let at = c.args.part.now.at in
    let near = near_as c.args.mesh.now c.search_within.result asked c.near_reach-near.result c.args.best c.in_storey-nearest.result (λ (other : MeshPlace). other.polygon ≡ at)
    c.search_within.ensures.asked c.search_within.ensures.reach c.in_storey-nearest.ensures in
    subst (λ (a : Near). IsFound c.args.mesh.now a c.in_storey-nearest.result) (sym c.search_within-2.ensures.asked) near.found

pub returns : goal.returns
returns c =
    let asked = c.args.asked.now in
    let at = c.args.part.now.at in
    let near = near_as c.args.mesh.now c.search_within.result asked c.near_reach-near.result c.args.best c.in_storey-nearest.result (λ (other : MeshPlace). other.polygon ≡ at)
    c.search_within.ensures.asked c.search_within.ensures.reach c.in_storey-nearest.ensures in
    let next = near_as c.args.mesh.now c.search_within-2.result asked c.reach_left-rest.result c.in_storey-nearest.result c.in_storey.result
    (λ (other : MeshPlace). other.polygon ≡ at) c.search_within-2.ensures.asked c.search_within-2.ensures.reach c.in_storey.ensures in
    after_more c.args.mesh.now asked c.args.best c.in_storey-nearest.result c.in_storey.result _ (λ (other : MeshPlace). other.polygon ≡ at) near
    (no_less c.args.mesh.now asked c.in_storey-nearest.result c.in_storey.result c.args.least c.reach_left-rest.result (λ (other : MeshPlace). other.polygon ≡ at)
    c.requires.least c.reach_left-rest.ensures.enough next)
