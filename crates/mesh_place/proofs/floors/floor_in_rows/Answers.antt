use Rattle.std.proofs.Common.{◌≡◌, ℕ, subst, arith}
use Rattle.mesh_place.specs.Floors.{IsFloorToward}
use Rattle.mesh_place.proofs.Rows.{row_more}
use Rattle.mesh_place.proofs.floors.floor_in_rows.Goals as goal

pub loop-row-preserved : goal.loop-row-preserved
loop-row-preserved c =
    row_more c.args.storey.now c.as_slice-rows.result.now c.index-rows-row.result c.loop-row.row c.args.aim c.args.first c.loop-row.best c.nearer_of_row-best.result
    c.as_slice-rows.ensures c.index-rows-row.is (omega (arith, c.loop-row-test.true, c.requires.inside)) c.requires.storey.rows c.nearer_of_row-best.ensures
    c.loop-row.invariant

pub returns : goal.returns
returns c =
    let last : c.loop-row.row ≡ c.args.end = omega (arith, c.loop-row-test.false, c.loop-row.auto.row-end c.requires.order) in
    subst (λ (n : ℕ). IsFloorToward c.args.storey.now c.args.aim c.args.first n c.loop-row.best) last c.loop-row.invariant
