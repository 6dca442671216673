use Rattle.std.proofs.Common.{◌+◌, length, sym, subst, arith}
use Rattle.mesh_types.specs.declared.storeys.MeshPlace.{MeshPlace}
use Rattle.mesh_place.specs.declared.cells.NearCell.{NearCell}
use Rattle.mesh_place.specs.Searches.{IsFound, IsInRow, IsNotBefore, IsOverCell, IsWithin}
use Rattle.mesh_place.proofs.SearchLaws.{found_measurable, passed, more, fewer, either_within}
use Rattle.mesh_place.proofs.ScanLaws.{cell_of, before_columns, after_columns, next_column}
use Rattle.mesh_place.proofs.storey_scan.in_row.Goals as goal

pub loop-x-init : goal.loop-x-init
loop-x-init c =
    let search = c.args.search.now in
    passed c.args.mesh.now search.asked c.args.best
    (λ (other : MeshPlace). IsInRow c.args.row.now c.args.part.now.at c.args.z c.min-first.result other × IsWithin search other.point) c.requires.best
    (λ other stands near one. before_columns c.args.mesh.now search c.args.part.now c.args.row.now c.args.z c.min-first.result c.requires.search c.requires.part
    (omega (arith, c.min-first.ensures, c.max.ensures, c.max-least.ensures)) other stands one.1 one.0)

pub in_near_cell-nearest-requires-clause-cell : goal.in_near_cell-nearest-requires-clause-cell
in_near_cell-nearest-requires-clause-cell c =
    cell_of c.args.mesh.now c.args.search.now.asked c.args.part.now c.args.row.now c.args.z c.loop-x.x c.floor_of-y.result c.requires.part c.requires.row c.requires.rules
    c.requires.inside (omega (arith, c.loop-x.auto.x, c.loop-x-test.true, c.min-first.ensures, c.max.ensures))
    (omega (arith, c.loop-x-test.true, c.min-end.ensures, c.len.ensures)) c.floor_of-y.ensures

pub in_near_cell-nearest-requires-clause-best : goal.in_near_cell-nearest-requires-clause-best
in_near_cell-nearest-requires-clause-best c = c.loop-x.invariant.found

pub loop-x-preserved : goal.loop-x-preserved
loop-x-preserved c =
    let search = c.args.search.now in
    let row = c.args.row.now in
    let part = c.args.part.now in
    let cell : NearCell = record { x = c.loop-x.x; z = c.args.z; y = c.floor_of-y.result } in
    more c.args.mesh.now search.asked c.args.best c.loop-x.nearest c.in_near_cell-nearest.result
    (λ (other : MeshPlace). IsInRow row part.at c.args.z c.loop-x.x other × IsWithin search other.point)
    (λ (other : MeshPlace). IsOverCell part cell other × IsWithin search other.point)
    (λ (other : MeshPlace). IsInRow row part.at c.args.z (c.loop-x.x + 1) other × IsWithin search other.point)
    c.loop-x.invariant c.in_near_cell-nearest.ensures (λ other stands near one. either_within (next_column row part cell other c.floor_of-y.ensures one.0) one.1)

pub returns : goal.returns
returns c =
    let search = c.args.search.now in
    let row = c.args.row.now in
    let part = c.args.part.now in
    fewer c.args.mesh.now search.asked c.args.best c.loop-x.nearest
    (λ (other : MeshPlace). IsInRow row part.at c.args.z c.loop-x.x other × IsWithin search other.point)
    (λ (other : MeshPlace). IsInRow row part.at c.args.z (row.x0 + length row.floors) other × IsWithin search other.point)
    c.loop-x.invariant
    (λ other stands near one. (
      after_columns c.args.mesh.now search part row c.args.z c.min-end.result c.loop-x.x c.requires.search c.requires.part
          (omega (arith, c.min-end.ensures, c.len.ensures, c.min-last.ensures)) c.loop-x-test.false other stands one.1 one.0,
      one.1,
    ))

pub row_limit-limit-requires-clause-best : goal.row_limit-limit-requires-clause-best
row_limit-limit-requires-clause-best c = found_measurable c.args.mesh.now c.args.search.now.asked c.args.best c.requires.sound c.requires.best

pub in_near_cell-nearest-requires-clause-earlier : goal.in_near_cell-nearest-requires-clause-earlier
in_near_cell-nearest-requires-clause-earlier c =
    subst (IsFound c.args.mesh.now c.args.search.now.asked) (sym c.row_limit-limit.ensures.earlier) c.requires.best

pub in_near_cell-nearest-requires-clause-kept : goal.in_near_cell-nearest-requires-clause-kept
in_near_cell-nearest-requires-clause-kept c = λ other not.
    c.loop-x.invariant.kept other
    (subst (IsNotBefore c.args.mesh.now.setting.agent.climb c.args.search.now.asked other) c.row_limit-limit.ensures.earlier not)
