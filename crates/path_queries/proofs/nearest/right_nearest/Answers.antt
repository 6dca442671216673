use Rattle.std.proofs.Common.{◌<◌, List, length, arith, refl, sym, subst}
use Rattle.std.specs.Prelude.{All, Contains}
use Rattle.std.proofs.lemmas.Bool.{eqb-false, eqb-true}
use Rattle.std.proofs.lemmas.List.{nil_from_length}
use Rattle.mesh_types.specs.declared.links.Link.{Link}
use Rattle.mesh_types.specs.Chains.{IsChain}
use Rattle.mesh_types.specs.Right.{portals_of}
use Rattle.mesh_types.specs.Taut.{IsTaut}
use Rattle.funnel_path.specs.Coordinates.{HasChainCoordinates}
use Rattle.corridor_search.specs.MeshGraphs.{IsThere}
use Rattle.path_queries.specs.declared.nearest.Goal.{Goal}
use Rattle.path_queries.specs.declared.nearest.HeldGoal.{HeldGoal}
use Rattle.path_queries.specs.HeldGoals.{AreHeldGoals, polygons_held}
use Rattle.path_queries.specs.NearestGoals.{goal_at}
use Rattle.path_queries.specs.Reaches.{IsReach}
use Rattle.path_queries.proofs.HeldLaws.{held-there, none-held}
use Rattle.path_queries.proofs.NearestLaws as laws
use Rattle.path_queries.proofs.nearest.right_nearest.Goals as goal

pub returns-in_default-clause-right : goal.returns-in_default-clause-right
returns-in_default-clause-right c = c.in_default.ensures.none.0 refl

pub returns-then-is_empty-clause-right : goal.returns-then-is_empty-clause-right
returns-then-is_empty-clause-right c =
    let q = c.args.query.now in
    let held = subst (λ (goals : List Goal). AreHeldGoals c.args.mesh.now goals c.in_ok-held.held.items) c.as_slice.ensures c.in_ok-held.ensures in
    let none = nil_from_length c.in_ok-held.held.items (omega (arith, eqb-true _ _ (sym c.if-is_empty.ensures), c.in_ok-held.held.ok.0)) in
    record { first = c.in-Some.first; start = c.in-Some.ensures.located; none = none-held c.args.mesh.now q.goals c.in_ok-held.held.items held none }

pub cheapest_to_held-requires-clause-held : goal.cheapest_to_held-requires-clause-held
cheapest_to_held-requires-clause-held c =
    subst (λ (held : List HeldGoal). All (IsThere c.args.mesh.now) (polygons_held held)) (sym c.as_slice-2.ensures.value)
    (held-there c.args.mesh.now c.as_slice.result.now c.in_ok-held.held.items c.in_ok-held.ensures)

pub turns-requires-clause-chain : goal.turns-requires-clause-chain
turns-requires-clause-chain c =
    let q = c.args.query.now in
    let held = subst (λ (goals : List Goal). AreHeldGoals c.args.mesh.now goals c.in_ok-held.held.items) c.as_slice.ensures c.in_ok-held.ensures in
    let found = rw c.in-Found.is at (subst (λ (hs : List HeldGoal). IsReach c.args.mesh.now q.filter c.in-Some.first (polygons_held hs)
    (laws.limits c.args.mesh.now q c.in-Some.first c.in-Some.ensures.located c.in_ok-held.held.items held) c.in_ok-at.field-0) c.as_slice-2.ensures.value c.in_ok-at.ensures) in
    let has = subst (λ (hs : List HeldGoal). Contains hs (record { which = c.place_of-which.result; at = c.in-Found.at })) c.as_slice-in-Found.ensures.value c.place_of-which.ensures in
    subst (λ (links : List Link). IsChain q.from (portals_of links) (goal_at c.as_slice-in-Found-2.result.now c.place_of-which.result).point) (sym c.as_slice-in-Found-3.ensures)
    (subst (λ (goals : List Goal). IsChain q.from (portals_of c.in-Found.corridor.links) (goal_at goals c.place_of-which.result).point) (sym c.as_slice-in-Found-2.ensures)
    (laws.nearest-pulled c.args.mesh.now q c.in-Some.first c.in-Some.ensures.located c.in_ok-held.held.items held c.place_of-which.result c.in-Found.at has
    c.in-Found.corridor found c.requires.sound c.requires.query).chain)

pub turns-requires-clause-coordinates : goal.turns-requires-clause-coordinates
turns-requires-clause-coordinates c =
    let q = c.args.query.now in
    let held = subst (λ (goals : List Goal). AreHeldGoals c.args.mesh.now goals c.in_ok-held.held.items) c.as_slice.ensures c.in_ok-held.ensures in
    let found = rw c.in-Found.is at (subst (λ (hs : List HeldGoal). IsReach c.args.mesh.now q.filter c.in-Some.first (polygons_held hs)
    (laws.limits c.args.mesh.now q c.in-Some.first c.in-Some.ensures.located c.in_ok-held.held.items held) c.in_ok-at.field-0) c.as_slice-2.ensures.value c.in_ok-at.ensures) in
    let has = subst (λ (hs : List HeldGoal). Contains hs (record { which = c.place_of-which.result; at = c.in-Found.at })) c.as_slice-in-Found.ensures.value c.place_of-which.ensures in
    subst (λ (links : List Link). HasChainCoordinates q.from (portals_of links) (goal_at c.as_slice-in-Found-2.result.now c.place_of-which.result).point) (sym c.as_slice-in-Found-3.ensures)
    (subst (λ (goals : List Goal). HasChainCoordinates q.from (portals_of c.in-Found.corridor.links) (goal_at goals c.place_of-which.result).point) (sym c.as_slice-in-Found-2.ensures)
    (laws.nearest-pulled c.args.mesh.now q c.in-Some.first c.in-Some.ensures.located c.in_ok-held.held.items held c.place_of-which.result c.in-Found.at has
    c.in-Found.corridor found c.requires.sound c.requires.query).coordinates)

pub returns-in-Found-clause-right : goal.returns-in-Found-clause-right
returns-in-Found-clause-right c =
    let q = c.args.query.now in
    let held = subst (λ (goals : List Goal). AreHeldGoals c.args.mesh.now goals c.in_ok-held.held.items) c.as_slice.ensures c.in_ok-held.ensures in
    let found = rw c.in-Found.is at (subst (λ (hs : List HeldGoal). IsReach c.args.mesh.now q.filter c.in-Some.first (polygons_held hs)
    (laws.limits c.args.mesh.now q c.in-Some.first c.in-Some.ensures.located c.in_ok-held.held.items held) c.in_ok-at.field-0) c.as_slice-2.ensures.value c.in_ok-at.ensures) in
    let has = subst (λ (hs : List HeldGoal). Contains hs (record { which = c.place_of-which.result; at = c.in-Found.at })) c.as_slice-in-Found.ensures.value c.place_of-which.ensures in
    laws.nearest-way c.args.mesh.now q c.in-Some.first c.in-Some.ensures.located c.in_ok-held.held.items held c.place_of-which.result c.in-Found.at has
    c.in-Found.corridor found c.in_ok-turns-in-Found.turns
    (subst (λ (links : List Link). IsTaut q.from (portals_of links) (goal_at q.goals c.place_of-which.result).point c.in_ok-turns-in-Found.turns) c.as_slice-in-Found-3.ensures
    (subst (λ (goals : List Goal). IsTaut q.from (portals_of c.as_slice-in-Found-3.result.now) (goal_at goals c.place_of-which.result).point c.in_ok-turns-in-Found.turns)
    c.as_slice-in-Found-2.ensures c.in_ok-turns-in-Found.ensures))

pub returns-in-Limit-clause-right : goal.returns-in-Limit-clause-right
returns-in-Limit-clause-right c =
    let q = c.args.query.now in
    let held = subst (λ (goals : List Goal). AreHeldGoals c.args.mesh.now goals c.in_ok-held.held.items) c.as_slice.ensures c.in_ok-held.ensures in
    let some : 0 < length c.in_ok-held.held.items = omega (arith, eqb-false _ _ (sym c.if-is_empty.ensures), c.in_ok-held.held.ok.0) in
    let seen = rw c.in-Limit.is at (subst (λ (hs : List HeldGoal). IsReach c.args.mesh.now q.filter c.in-Some.first (polygons_held hs)
    (laws.limits c.args.mesh.now q c.in-Some.first c.in-Some.ensures.located c.in_ok-held.held.items held) c.in_ok-at.field-0) c.as_slice-2.ensures.value c.in_ok-at.ensures) in
    laws.seen-none c.args.mesh.now q c.in-Some.first c.in-Some.ensures.located c.in_ok-held.held.items held c.in-Limit.seen some seen

pub returns-clause-right : goal.returns-clause-right
returns-clause-right c =
    let q = c.args.query.now in
    let held = subst (λ (goals : List Goal). AreHeldGoals c.args.mesh.now goals c.in_ok-held.held.items) c.as_slice.ensures c.in_ok-held.ensures in
    let some : 0 < length c.in_ok-held.held.items = omega (arith, eqb-false _ _ (sym c.if-is_empty.ensures), c.in_ok-held.held.ok.0) in
    let apart = rw c.in-Apart.is at (subst (λ (hs : List HeldGoal). IsReach c.args.mesh.now q.filter c.in-Some.first (polygons_held hs)
    (laws.limits c.args.mesh.now q c.in-Some.first c.in-Some.ensures.located c.in_ok-held.held.items held) c.in_ok-at.field-0) c.as_slice-2.ensures.value c.in_ok-at.ensures) in
    laws.apart-goals c.args.mesh.now q c.in-Some.first c.in-Some.ensures.located c.in_ok-held.held.items held some apart
