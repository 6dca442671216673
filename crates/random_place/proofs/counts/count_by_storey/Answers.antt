use Rattle.std.proofs.Common.{◌≡◌, List, sym, ap, subst, arith}
use Rattle.std.specs.Prelude.{Some, slice_get}
use Rattle.std.proofs.lemmas.List.Sums.{sum_by-take-le}
use Rattle.mesh_types.specs.declared.storeys.Storey.{Storey}
use Rattle.mesh_types.specs.Reaches.{IsReach}
use Rattle.random_place.specs.Spots.{open_cells, open_cells_in}
use Rattle.random_place.proofs.CountLaws.{reach_at, tile_fits}
use Rattle.random_place.proofs.counts.count_by_storey.Goals as goal

pub count_open-requires-clause-reach : goal.count_open-requires-clause-reach
count_open-requires-clause-reach c =
    reach_at c.list-list.result.now c.loop-storey.storey c.index-list-storey.result c.reach.result (omega (arith, c.loop-storey-test.true)) c.index-list-storey.is
    (subst (λ (list : List Storey). (it : Storey) → slice_get list c.loop-storey.storey ≡ Some it → IsReach it c.reach.result) (sym c.list-list.ensures.value)
    c.reach.ensures)

pub overflow_add-count : goal.overflow_add-count
overflow_add-count c =
    let list = c.list-list.ensures.value in
    omega (
      arith,
      c.loop-storey.invariant,
      sum_by-take-le (open_cells c.args.areas) c.args.storeys.now.list c.loop-storey.storey,
      ap (open_cells_in c.args.areas) list,
      tile_fits c.args.areas c.list-list.result.now c.list-list.ensures.rules (omega arith),
      c.count_open.ensures.bound,
      c.from-count.ensures,
    )

pub returns-clause-bound : goal.returns-clause-bound
returns-clause-bound c =
    omega (
      arith,
      c.loop-storey.invariant,
      sum_by-take-le (open_cells c.args.areas) c.args.storeys.now.list c.loop-storey.storey,
      ap (open_cells_in c.args.areas) c.list-list.ensures.value,
      tile_fits c.args.areas c.list-list.result.now c.list-list.ensures.rules (omega arith),
    )
