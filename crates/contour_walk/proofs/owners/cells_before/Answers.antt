use Rattle.std.proofs.Common.{◌≡◌, true, false, arith, rules}
use Rattle.std.specs.List.Sorted.{IsPartitionPoint}
use Rattle.std.proofs.lemmas.List.Sorted.{IsPartitionPoint-from_clause}
use Rattle.nav_ground.specs.declared.cell.Cell.{Cell}
use Rattle.contour_walk.specs.Tables.{is_before}
use Rattle.contour_walk.proofs.Places.{parted_before}
use Rattle.contour_walk.proofs.owners.cells_before.Goals as goal

-- the search finds where the cells end that come before, since cells stand in order
point : (c : goal.After-partition_point)
    → IsPartitionPoint (λ (cell : Cell). is_before cell.at c.args.at ≡ true)
    (λ (cell : Cell). is_before cell.at c.args.at ≡ false) c.args.cells.now c.partition_point.result
point c =
    IsPartitionPoint-from_clause (λ (cell : Cell). is_before cell.at c.args.at) _ _ c.partition_point.ensures.partitioned
    (parted_before c.args.cells.now c.requires c.args.at) (λ a r q k. search rules)

pub returns-clause-before : goal.returns-clause-before
returns-clause-before c = λ k d below. (point c).0 k d (omega arith) below

pub returns-clause-after : goal.returns-clause-after
returns-clause-after c = λ k d above there. (point c).1 k d above there
