use Rattle.std.proofs.Common.{◌≡◌}
use Rattle.std.proofs.lemmas.Bool.{iff_false}
use Rattle.mesh_types.specs.declared.storeys.MeshPlace.{MeshPlace}
use Rattle.mesh_place.specs.Searches.{IsOverCell, IsWithin}
use Rattle.mesh_place.proofs.Earlier.{passed_since}
use Rattle.mesh_place.proofs.SearchLaws.{passed, skipped}
use Rattle.mesh_place.proofs.ScanLaws.{not_near, over_beyond}
use Rattle.mesh_place.proofs.cells.in_near_cell.Goals as goal

pub returns-then-not-is_height_near : goal.returns-then-not-is_height_near
returns-then-not-is_height_near c =
    let search = c.args.search.now in
    passed c.args.mesh.now search.asked c.args.best (λ (other : MeshPlace). IsOverCell c.args.part.now c.args.cell other × IsWithin search other.point) c.requires.best
    (λ other stands near one. not_near c.args.mesh.now search.asked c.args.part.now c.args.cell
    (iff_false c.is_height_near.ensures c.if-not-is_height_near.true) other near one.0)

pub returns-then-is_cell_beyond : goal.returns-then-is_cell_beyond
returns-then-is_cell_beyond c =
    let mesh = c.args.mesh.now in
    let search = c.args.search.now in
    let part = c.args.part.now in
    let cell = c.args.cell in
    let earlier = c.args.limit.now.earlier in
    let among : MeshPlace → Type 0 = λ (other : MeshPlace). IsOverCell part cell other × IsWithin search other.point in
    passed_since mesh search.asked earlier c.args.best among c.requires.best c.requires.kept
    (skipped mesh search.asked earlier among c.requires.earlier
    (λ other stands near one. over_beyond mesh search.asked part cell earlier other (c.is_cell_beyond.ensures c.if-is_cell_beyond.true) one.0 near))
