use Rattle.std.proofs.Common.{◌≡◌, ◌+◌, length, arith}
use Rattle.mesh_types.specs.declared.storeys.MeshPlace.{MeshPlace}
use Rattle.mesh_place.specs.Searches.{IsInRow, IsInRows, IsWithin}
use Rattle.mesh_place.proofs.SearchLaws.{passed, more, fewer, either_within}
use Rattle.mesh_place.proofs.ScanLaws.{before_rows, after_rows, next_row}
use Rattle.mesh_place.proofs.storey_scan.in_storey.Goals as goal

pub loop-z-init : goal.loop-z-init
loop-z-init c =
    let search = c.args.search.now in
    passed c.args.mesh.now search.asked c.args.best
    (λ (other : MeshPlace). IsInRows c.args.storey.now c.args.part.now.at c.min-first.result other × IsWithin search other.point) c.requires.best
    (λ other stands near one. before_rows c.args.mesh.now search c.args.part.now c.args.storey.now c.min-first.result c.requires.search c.requires.part
    (omega (arith, c.min-first.ensures, c.max.ensures, c.max-least.ensures)) other stands one.1 one.0)

pub in_row-nearest-requires-clause-row : goal.in_row-nearest-requires-clause-row
in_row-nearest-requires-clause-row c = record {
  storey = c.args.storey.now;
  home = c.requires.home;
  rules = c.requires.storey;
  above = omega (arith, c.loop-z.auto.z, c.loop-z-test.true, c.min-first.ensures, c.max.ensures);
  is_row = c.row_at.ensures.value;
}

pub in_row-nearest-requires-clause-best : goal.in_row-nearest-requires-clause-best
in_row-nearest-requires-clause-best c = c.loop-z.invariant.found

pub loop-z-preserved : goal.loop-z-preserved
loop-z-preserved c =
    let search = c.args.search.now in
    let storey = c.args.storey.now in
    let at = c.args.part.now.at in
    let row = c.row_at.result.now in
    more c.args.mesh.now search.asked c.args.best c.loop-z.nearest c.in_row-nearest.result
    (λ (other : MeshPlace). IsInRows storey at c.loop-z.z other × IsWithin search other.point)
    (λ (other : MeshPlace). IsInRow row at c.loop-z.z (row.x0 + length row.floors) other × IsWithin search other.point)
    (λ (other : MeshPlace). IsInRows storey at (c.loop-z.z + 1) other × IsWithin search other.point)
    c.loop-z.invariant c.in_row-nearest.ensures
    (λ other stands near one. either_within (next_row storey row at c.loop-z.z other c.row_at.ensures.value one.0) one.1)

pub returns : goal.returns
returns c =
    let search = c.args.search.now in
    let storey = c.args.storey.now in
    let at = c.args.part.now.at in
    fewer c.args.mesh.now search.asked c.args.best c.loop-z.nearest (λ (other : MeshPlace). IsInRows storey at c.loop-z.z other × IsWithin search other.point)
    (λ (other : MeshPlace). (other.polygon ≡ at) × IsWithin search other.point) c.loop-z.invariant
    (λ other stands near one. (
      after_rows c.args.mesh.now search c.args.part.now storey c.min-end.result c.loop-z.z c.requires.search c.requires.part c.requires.home
          (omega (arith, c.min-end.ensures, c.len.ensures, c.min-last.ensures)) c.loop-z-test.false other stands one.1 one.0,
      one.1,
    ))
