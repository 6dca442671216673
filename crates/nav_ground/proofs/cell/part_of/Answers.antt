use Rattle.std.proofs.Common.{rules, ◌≡◌, length, take, drop, ◌-◌, sym, ap, subst, arith}
use Rattle.std.specs.List.Sorted.{IsPartitionedBy}
use Rattle.std.proofs.lemmas.List.{take_rest, length-drop}
use Rattle.std.proofs.lemmas.Fn.{always_returns_same}
use Rattle.nav_ground.specs.CellColumns.{is_before_column, is_in_column}
use Rattle.nav_ground.proofs.ColumnParts.{before_first, inside_first}
use Rattle.nav_ground.proofs.cell.part_of.Goals as goal

pub returns : goal.returns
returns c =
    let cells = c.args.cells.now in
    let first = c.partition_point-first.result in
    let rest : take (length cells - first) (drop first cells) ≡ drop first cells = take_rest cells first in
    let point = c.partition_point-first.ensures.partitioned (is_before_column c.args.x c.args.z) (always_returns_same _ _ _ (λ a r q k. search rules))
    (before_first c.args.x c.args.z cells c.requires) in
    let place = c.partition_point-count.ensures.partitioned (is_in_column c.args.x c.args.z) (always_returns_same _ _ _ (λ a r q k. search rules))
    (subst (IsPartitionedBy (is_in_column c.args.x c.args.z)) (sym rest) (inside_first c.args.x c.args.z cells first c.requires point.1)) in
    record {
      within = omega (arith, c.partition_point-first.ensures.bound, c.partition_point-count.ensures.bound, ap length rest, length-drop first cells);
      before = point;
      inside = rw rest at place;
    }
