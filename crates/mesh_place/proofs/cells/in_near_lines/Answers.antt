use Rattle.std.proofs.Common.{◌+◌, ◌⊎◌, inl, inr, pos, ap, arith}
use Rattle.mesh_types.specs.declared.storeys.MeshPlace.{MeshPlace}
use Rattle.mesh_place.specs.declared.columns.ReachEnds.{ReachEnds}
use Rattle.mesh_place.specs.Bounds.{IsNearTo}
use Rattle.mesh_place.specs.Searches.{IsInLines, IsOnLine, IsOverCell, IsWithin}
use Rattle.mesh_place.proofs.SearchLaws.{passed, more, fewer}
use Rattle.mesh_place.proofs.ScanLaws.{next_line, before_lines, after_lines}
use Rattle.mesh_place.proofs.cells.in_near_lines.Goals as goal

pub loop-z-init : goal.loop-z-init
loop-z-init c =
    let search = c.args.search.now in
    let cell = c.args.cell in
    let low = ap (λ (e : ReachEnds). e.low) c.ends_along-ends.ensures.value in
    passed c.args.mesh.now search.asked c.args.best
    (λ (other : MeshPlace). (IsInLines c.args.part.now cell c.min-first.result other × IsNearTo search.asked c.args.reach other) × IsWithin search other.point)
    c.requires.best
    (λ other stands near one. before_lines c.args.part.now cell search.asked.point c.args.reach c.min-first.result
    (omega (arith, low, c.min-first.ensures, c.max.ensures)) other one.0.1 one.0.0)

pub in_line-nearest-requires-clause-best : goal.in_line-nearest-requires-clause-best
in_line-nearest-requires-clause-best c = c.loop-z.invariant.found

pub in_line-nearest-requires-clause-above : goal.in_line-nearest-requires-clause-above
in_line-nearest-requires-clause-above c = omega (arith, c.loop-z.auto.z, c.loop-z-test.true, c.min-first.ensures, c.max.ensures)

pub in_line-nearest-requires-clause-below : goal.in_line-nearest-requires-clause-below
in_line-nearest-requires-clause-below c = omega (arith, c.loop-z-test.true, c.min-end.ensures)

either : {A B N W : Type 0} → A ⊎ B → N × W → ((A × N) × W) ⊎ (B × W)
either (inl one) close = inl ((one, close.0), close.1)
either (inr one) close = inr (one, close.1)

pub loop-z-preserved : goal.loop-z-preserved
loop-z-preserved c =
    let search = c.args.search.now in
    let part = c.args.part.now in
    let cell = c.args.cell in
    let z = c.loop-z.z in
    let reach = c.args.reach in
    more c.args.mesh.now search.asked c.args.best c.loop-z.nearest c.in_line-nearest.result
    (λ (other : MeshPlace). (IsInLines part cell z other × IsNearTo search.asked reach other) × IsWithin search other.point)
    (λ (other : MeshPlace). IsOnLine part cell (pos z) other × IsWithin search other.point)
    (λ (other : MeshPlace). (IsInLines part cell (z + 1) other × IsNearTo search.asked reach other) × IsWithin search other.point)
    c.loop-z.invariant c.in_line-nearest.ensures (λ other stands near one. either (next_line part cell z other one.0.0) (one.0.1, one.1))

pub returns : goal.returns
returns c =
    let search = c.args.search.now in
    let part = c.args.part.now in
    let cell = c.args.cell in
    let reach = c.args.reach in
    let high = ap (λ (e : ReachEnds). e.high) c.ends_along-ends.ensures.value in
    fewer c.args.mesh.now search.asked c.args.best c.loop-z.nearest
    (λ (other : MeshPlace). (IsInLines part cell c.loop-z.z other × IsNearTo search.asked reach other) × IsWithin search other.point)
    (λ (other : MeshPlace). (IsOverCell part cell other × IsNearTo search.asked reach other) × IsWithin search other.point) c.loop-z.invariant
    (λ other stands near one. (
      (
        after_lines part cell search.asked.point reach c.min-end.result c.loop-z.z (omega (arith, high, c.min-end.ensures)) c.loop-z-test.false other one.0.1 one.0.0,
        one.0.1,
      ),
      one.1,
    ))
