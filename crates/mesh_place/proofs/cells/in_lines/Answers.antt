use Rattle.std.proofs.Common.{◌≡◌, ap, ◌∙◌}
use Rattle.mesh_types.specs.declared.storeys.MeshPlace.{MeshPlace}
use Rattle.mesh_place.specs.Bounds.{IsNearTo, height_part}
use Rattle.mesh_place.specs.Floors.{height_off}
use Rattle.mesh_place.specs.Searches.{IsOverCell, IsWithin}
use Rattle.mesh_place.proofs.ScanLaws.{cell_adds}
use Rattle.mesh_place.proofs.SearchLaws.{fewer, found_measurable, no_less}
use Rattle.mesh_place.proofs.cells.in_lines.Goals as goal

pub reach_left-reach-requires-clause-best : goal.reach_left-reach-requires-clause-best
reach_left-reach-requires-clause-best c =
    found_measurable c.args.mesh.now c.args.search.now.asked c.args.best c.requires.sound c.requires.best

pub returns : goal.returns
returns c =
    let mesh = c.args.mesh.now in
    let search = c.args.search.now in
    let part = c.args.part.now in
    let cell = c.args.cell in
    let climb = mesh.setting.agent.climb in
    let among : MeshPlace → Type 0 = λ (other : MeshPlace). IsOverCell part cell other × IsWithin search other.point in
    let high : c.height_part-high.result ≡ height_part climb search.asked (height_off search.asked.y cell.y) =
    c.height_part-high.ensures.value ∙ ap (height_part climb search.asked) c.height_off.ensures in
    no_less mesh search.asked c.args.best c.in_near_lines.result c.height_part-high.result c.reach_left-reach.result among
    (cell_adds mesh search part cell c.height_part-high.result high) c.reach_left-reach.ensures.enough
    (fewer mesh search.asked c.args.best c.in_near_lines.result
    (λ (other : MeshPlace). (IsOverCell part cell other × IsNearTo search.asked c.reach_left-reach.result other) × IsWithin search other.point)
    (λ (other : MeshPlace). among other × IsNearTo search.asked c.reach_left-reach.result other) c.in_near_lines.ensures
    (λ other stands near one. ((one.0.0, one.1), one.0.1)))
