use Rattle.std.proofs.Common.{◌≡◌, ℕ, ◌<◌, List, length, get_or, sym, ap, subst, ◌∙◌, arith}
use Rattle.std.specs.Prelude.{Some, slice_get}
use Rattle.mesh_types.specs.declared.storeys.Storey.{Storey}
use Rattle.mesh_types.specs.Reaches.{IsReach}
use Rattle.random_place.specs.declared.spots.Home.{Home}
use Rattle.random_place.specs.Spots.{open_cells, open_spots}
use Rattle.random_place.proofs.CountLaws.{length-open_spots, reach_at}
use Rattle.random_place.proofs.Numbered.{in_this, past_this}
use Rattle.random_place.proofs.SpotLaws.{open_where_some}
use Rattle.random_place.proofs.spots.spot_in_tile.Goals as goal

pub count_open-requires-clause-reach : goal.count_open-requires-clause-reach
count_open-requires-clause-reach c =
    reach_at c.list-list.result.now c.loop-storey.storey c.index-list-storey.result c.reach.result (omega (arith, c.loop-storey-test.true)) c.index-list-storey.is
    (subst (λ (list : List Storey). (it : Storey) → slice_get list c.loop-storey.storey ≡ Some it → IsReach it c.reach.result) (sym c.list-list.ensures.value)
    c.reach.ensures)

pub returns-then-left-count-clause-value : goal.returns-then-left-count-clause-value
returns-then-left-count-clause-value c =
    let areas = c.args.areas in
    let i = c.loop-storey.storey in
    let left = c.loop-storey.left in
    let here = c.index-list-storey.result in
    let storeys = c.args.storeys.now.list in
    let home : Home = record { tile = c.args.tile; storey = i } in
    let counted : c.from-count.result ≡ open_cells areas here = c.from-count.ensures ∙ c.count_open.ensures.value in
    let there : i < length storeys = omega (arith, c.loop-storey-test.true, ap (λ (all : List Storey). length all) c.list-list.ensures.value) in
    let is : here ≡ get_or storeys i here = c.index-list-storey.is ∙ ap (λ (all : List Storey). get_or all i here) c.list-list.ensures.value in
    c.spot_in_storey.ensures.value
    ∙ sym (ap (λ all. slice_get all left) (open_where_some areas home here left (omega (arith, counted, c.if-left-count.true))))
    ∙ sym (in_this (λ (storey : ℕ × Storey). open_spots areas (record { tile = c.args.tile; storey = storey.0 }) storey.1) i i storeys here left
    c.from-count.result there is (length-open_spots areas home here ∙ sym counted) c.if-left-count.true)
    ∙ c.loop-storey.invariant

pub loop-storey-preserved : goal.loop-storey-preserved
loop-storey-preserved c =
    let areas = c.args.areas in
    let i = c.loop-storey.storey in
    let here = c.index-list-storey.result in
    let storeys = c.args.storeys.now.list in
    let home : Home = record { tile = c.args.tile; storey = i } in
    let counted : c.from-count.result ≡ open_cells areas here = c.from-count.ensures ∙ c.count_open.ensures.value in
    let there : i < length storeys = omega (arith, c.loop-storey-test.true, ap (λ (all : List Storey). length all) c.list-list.ensures.value) in
    let is : here ≡ get_or storeys i here = c.index-list-storey.is ∙ ap (λ (all : List Storey). get_or all i here) c.list-list.ensures.value in
    sym (past_this (λ (storey : ℕ × Storey). open_spots areas (record { tile = c.args.tile; storey = storey.0 }) storey.1) i i storeys here
    c.loop-storey.left c.from-count.result there is (length-open_spots areas home here ∙ sym counted) c.if-left-count.false)
    ∙ c.loop-storey.invariant
