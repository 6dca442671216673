use Rattle.std.proofs.Common.{◌≡◌, ℕ, ◌+◌, ◌-◌, ◌<◌, List, length, get_or, drop, sym, ap, ◌∙◌, arith}
use Rattle.std.specs.Prelude.{flat_map, slice_get}
use Rattle.std.specs.List.{enumerate_from}
use Rattle.mesh_types.specs.declared.storeys.FloorRow.{FloorRow}
use Rattle.random_place.specs.Spots.{row_spots}
use Rattle.random_place.proofs.CountLaws.{length-row_spots}
use Rattle.random_place.proofs.Numbered.{in_this, past_this}
use Rattle.random_place.proofs.spots.spot_in_storey.Goals as goal

pub returns-then-left-count-clause-value : goal.returns-then-left-count-clause-value
returns-then-left-count-clause-value c =
    let storey = c.args.storey.now in
    let i = c.loop-row.row in
    let here = c.index-rows-row.result in
    let rows = c.as_slice-rows.ensures in
    let there : i < length storey.rows = omega (arith, c.loop-row-test.true, ap (λ (all : List FloorRow). length all) rows) in
    let is : here ≡ get_or storey.rows i here = c.index-rows-row.is ∙ ap (λ (all : List FloorRow). get_or all i here) rows in
    c.spot_in_row.ensures.value
    ∙ sym (in_this (λ (row : ℕ × FloorRow). row_spots c.args.home row.0 row.1) (storey.z0 + i) i storey.rows here c.loop-row.left c.len-count.result there is
    (length-row_spots c.args.home (storey.z0 + i) here ∙ sym c.len-count.ensures) c.if-left-count.true)
    ∙ c.loop-row.invariant

pub loop-row-preserved : goal.loop-row-preserved
loop-row-preserved c =
    let storey = c.args.storey.now in
    let i = c.loop-row.row in
    let here = c.index-rows-row.result in
    let rows = c.as_slice-rows.ensures in
    let there : i < length storey.rows = omega (arith, c.loop-row-test.true, ap (λ (all : List FloorRow). length all) rows) in
    let is : here ≡ get_or storey.rows i here = c.index-rows-row.is ∙ ap (λ (all : List FloorRow). get_or all i here) rows in
    let next : storey.z0 + (i + 1) ≡ storey.z0 + i + 1 = omega arith in
    ap
    (λ n. slice_get (flat_map (λ (row : ℕ × FloorRow). row_spots c.args.home row.0 row.1) (enumerate_from n (drop (i + 1) storey.rows)))
    (c.loop-row.left - c.len-count.result))
    next
    ∙ sym (past_this (λ (row : ℕ × FloorRow). row_spots c.args.home row.0 row.1) (storey.z0 + i) i storey.rows here c.loop-row.left c.len-count.result there is
    (length-row_spots c.args.home (storey.z0 + i) here ∙ sym c.len-count.ensures) c.if-left-count.false)
    ∙ c.loop-row.invariant
