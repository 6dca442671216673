use Rattle.std.proofs.Common.{◌≡◌, true, false, arith, rules}
use Rattle.std.specs.List.Sorted.{IsPartitionPoint}
use Rattle.std.proofs.lemmas.List.Sorted.{IsPartitionPoint-from_clause}
use Rattle.nav_ground.specs.declared.cell.Cell.{Cell}
use Rattle.obstacle_mark.specs.Columns.{is_before}
use Rattle.obstacle_mark.proofs.Rows.{before_first}
use Rattle.obstacle_mark.proofs.areas.cells_before.Goals as goal

-- the search finds where the column begins, since cells stand in order
point : (c : goal.After-partition_point)
    → IsPartitionPoint (λ (cell : Cell). is_before c.args.x c.args.z cell.at ≡ true) (λ (cell : Cell). is_before c.args.x c.args.z cell.at ≡ false)
    c.args.cells.now c.partition_point.result
point c =
    IsPartitionPoint-from_clause (λ (cell : Cell). is_before c.args.x c.args.z cell.at) _ _ c.partition_point.ensures.partitioned
    (before_first c.args.x c.args.z c.args.cells.now c.requires) (λ a r q k. search rules)

pub returns-clause-before : goal.returns-clause-before
returns-clause-before c = λ k d below. (point c).0 k d (omega arith) below

pub returns-clause-after : goal.returns-clause-after
returns-clause-after c = λ k d above there. (point c).1 k d above there
