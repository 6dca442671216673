use Rattle.std.proofs.Common.{ℕ, ◌-◌, drop, ap, sym, subst, ◌∙◌, arith}
use Rattle.std.specs.Prelude.{All}
use Rattle.mesh_types.specs.Corridors.{IsLinkOf, cost_of}
use Rattle.agent_walks.proofs.Arrivals as arrivals
use Rattle.agent_walks.proofs.marching.along.Goals as goal

pub stop_along-requires-clause-line : goal.stop_along-requires-clause-line
stop_along-requires-clause-line c =
    let path = c.requires.path in (
      path.last,
      arrivals.line c.args.mesh.now c.args.march.from.point c.args.march.from.y c.args.march.goal.point c.args.march.goal.y c.args.found path c.requires.sound c.requires.setting
          c.as_slice-links.result.now c.as_slice-corners.result.now c.as_slice-links.ensures c.as_slice-corners.ensures,
    )

pub nth_polygon-at-requires : goal.nth_polygon-at-requires
nth_polygon-at-requires c =
    arrivals.within c.args.mesh.now c.args.march.from.point c.args.march.from.y c.args.march.goal.point c.args.march.goal.y c.args.found c.requires.path c.requires.sound c.requires.setting
    c.as_slice-links.result.now c.as_slice-corners.result.now c.as_slice-links.ensures c.as_slice-corners.ensures c.args.march.length c.in_ok-stop.stop c.in_ok-stop.ensures

pub floor_of-y-requires : goal.floor_of-y-requires
floor_of-y-requires c =
    arrivals.there c.args.mesh.now c.args.march.from.point c.args.march.from.y c.args.march.goal.point c.args.march.goal.y c.args.found c.requires.path c.requires.sound c.requires.setting
    c.as_slice-links.result.now c.as_slice-corners.result.now c.as_slice-links.ensures c.as_slice-corners.ensures c.args.march.length c.in_ok-stop.stop c.in_ok-stop.ensures
    c.nth_polygon-at.result c.nth_polygon-at.ensures

pub cost-passed-requires-clause-links : goal.cost-passed-requires-clause-links
cost-passed-requires-clause-links c =
    subst (All (IsLinkOf c.args.mesh.now)) (sym c.first_links.ensures)
    (arrivals.passed_links c.args.mesh.now c.args.march.from.point c.args.march.from.y c.args.march.goal.point c.args.march.goal.y c.args.found c.requires.path c.requires.sound c.requires.setting
    c.as_slice-links.result.now c.as_slice-corners.result.now c.as_slice-links.ensures c.as_slice-corners.ensures c.args.march.length c.in_ok-stop.stop c.in_ok-stop.ensures)

pub cost-passed-requires-clause-small : goal.cost-passed-requires-clause-small
cost-passed-requires-clause-small c =
    let most =
    arrivals.passed_cost c.args.mesh.now c.args.march.from.point c.args.march.from.y c.args.march.goal.point c.args.march.goal.y c.args.found c.requires.path c.requires.sound c.requires.setting
    c.as_slice-links.result.now c.as_slice-corners.result.now c.as_slice-links.ensures c.as_slice-corners.ensures c.args.march.length c.in_ok-stop.stop c.in_ok-stop.ensures in
    omega (arith, most, ap (cost_of c.args.mesh.now) c.first_links.ensures, c.requires.cost)

pub returns-clause-marched : goal.returns-clause-marched
returns-clause-marched c =
    arrivals.is_march c.args.mesh.now c.args.march.from.point c.args.march.from.y c.args.march.goal.point c.args.march.goal.y c.args.found c.requires.path c.requires.sound c.requires.setting
    c.as_slice-links.result.now c.as_slice-corners.result.now c.as_slice-links.ensures c.as_slice-corners.ensures c.args.march.length c.in_ok-stop.stop c.in_ok-stop.ensures
    c.nth_polygon-at.result c.floor_of-y.result (c.args.found.cost - c.cost-passed.result) c.in_ok-left.left c.nth_polygon-at.ensures c.floor_of-y.ensures
    (c.in_ok-left.ensures ∙ ap (drop c.in_ok-stop.stop.place) c.as_slice-links.ensures) (ap (λ (n : ℕ). c.args.found.cost - n) (c.cost-passed.ensures ∙ ap (cost_of c.args.mesh.now) c.first_links.ensures))

pub returns-clause-way : goal.returns-clause-way
returns-clause-way c =
    arrivals.is_on_way c.args.mesh.now c.args.march.from.point c.args.march.from.y c.args.march.goal.point c.args.march.goal.y c.args.found c.requires.path c.requires.sound c.requires.setting
    c.as_slice-links.result.now c.as_slice-corners.result.now c.as_slice-links.ensures c.as_slice-corners.ensures c.args.march.length c.in_ok-stop.stop c.in_ok-stop.ensures
    c.nth_polygon-at.result c.floor_of-y.result (c.args.found.cost - c.cost-passed.result) c.in_ok-left.left c.nth_polygon-at.ensures c.floor_of-y.ensures
    (c.in_ok-left.ensures ∙ ap (drop c.in_ok-stop.stop.place) c.as_slice-links.ensures) (ap (λ (n : ℕ). c.args.found.cost - n) (c.cost-passed.ensures ∙ ap (cost_of c.args.mesh.now) c.first_links.ensures))
