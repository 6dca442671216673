use Rattle.std.proofs.Common.{ap, subst, sym, ◌∙◌, arith}
use Rattle.mesh_types.specs.Storeys.{AreStoreys}
use Rattle.random_place.specs.Spots.{open_cells_in}
use Rattle.random_place.proofs.CountLaws.{all_open, none_open, one_open, tile_fits}
use Rattle.random_place.proofs.counts.count_in_tile.Goals as goal

pub returns-then-areas-eq18446744073709551615-clause-value : goal.returns-then-areas-eq18446744073709551615-clause-value
returns-then-areas-eq18446744073709551615-clause-value c =
    c.whole-whole.ensures.cells
    ∙ all_open c.args.areas c.args.storeys.now.list (subst AreStoreys c.list.ensures.value c.list.ensures.rules) (omega (arith, c.if-areas-eq18446744073709551615.true))

pub returns-then-areas-eq18446744073709551615-clause-bound : goal.returns-then-areas-eq18446744073709551615-clause-bound
returns-then-areas-eq18446744073709551615-clause-bound c =
    omega (
      arith,
      returns-then-areas-eq18446744073709551615-clause-value c,
      ap (open_cells_in c.args.areas) c.list.ensures.value,
      tile_fits c.args.areas c.list.result.now c.list.ensures.rules (omega arith),
    )

pub returns-then-is_open-clause-value : goal.returns-then-is_open-clause-value
returns-then-is_open-clause-value c =
    c.whole-whole.ensures.cells
    ∙ one_open c.args.areas c.whole-whole.result.area c.args.storeys.now.list (c.whole-whole.ensures.area (omega (arith, c.if-whole-eq0.false)))
    (sym c.is_open.ensures ∙ c.if-is_open.true)

pub returns-then-is_open-clause-bound : goal.returns-then-is_open-clause-bound
returns-then-is_open-clause-bound c =
    omega (
      arith,
      returns-then-is_open-clause-value c,
      ap (open_cells_in c.args.areas) c.list.ensures.value,
      tile_fits c.args.areas c.list.result.now c.list.ensures.rules (omega arith),
    )

pub returns-else-is_open-clause-value : goal.returns-else-is_open-clause-value
returns-else-is_open-clause-value c =
    none_open c.args.areas c.whole-whole.result.area c.args.storeys.now.list (c.whole-whole.ensures.area (omega (arith, c.if-whole-eq0.false)))
    (sym c.is_open.ensures ∙ c.if-is_open.false)
