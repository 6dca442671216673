use Rattle.std.proofs.Common.{List, subst, sym}
use Rattle.std.specs.Prelude.{All}
use Rattle.tri_raster.specs.declared.triangle.Shadow.{Shadow}
use Rattle.tri_raster.specs.Columns.{IsUpright, IsLimited}
use Rattle.tri_raster.specs.Sweeps.{HasPushed}
use Rattle.tri_raster.proofs.GroupLaws.{pushed_for, upright_for, limited_for}
use Rattle.tri_raster.proofs.group.push_spans.Goals as goal

pub push_groups-requires-clause-upright : goal.push_groups-requires-clause-upright
push_groups-requires-clause-upright c =
    let P : List Shadow → Type 0 = λ xs. All IsUpright xs in
    subst P (sym c.as_slice.ensures) (upright_for c.args.column.now c.sort.new.self c.sort.ensures.same c.requires.upright)

pub push_groups-requires-clause-limited : goal.push_groups-requires-clause-limited
push_groups-requires-clause-limited c =
    let P : List Shadow → Type 0 = λ xs. All IsLimited xs in
    subst P (sym c.as_slice.ensures) (limited_for c.args.column.now c.sort.new.self c.sort.ensures.same c.requires.limited)

pub returns : goal.returns
returns c =
    let P : List Shadow → Type 0 = λ xs. HasPushed c.args.climb c.args.x c.args.z xs c.args.spans.now.items c.push_groups.new.spans.items c.push_groups.result in
    pushed_for c.args.climb c.args.x c.args.z c.args.column.now c.sort.new.self c.args.spans.now.items c.push_groups.new.spans.items c.push_groups.result
    c.sort.ensures.same (subst P c.as_slice.ensures c.push_groups.ensures)
