use Rattle.std.proofs.Common.{rules}
use Rattle.std.proofs.lemmas.List.Sorted.{IsPartitionPoint-from_clause}
use Rattle.nav_ground.specs.declared.cell.Cell.{Cell}
use Rattle.agent_erode.specs.Runs.{is_before_column}
use Rattle.agent_erode.proofs.RunLaws.{columns_parted}
use Rattle.agent_erode.proofs.windows.cells_before.Goals as goal

pub returns-clause-parted : goal.returns-clause-parted
returns-clause-parted c =
    IsPartitionPoint-from_clause (λ (cell : Cell). is_before_column c.args.row c.args.x cell.at) _ _ c.partition_point.ensures.partitioned
    (columns_parted c.args.cells.now c.args.row c.args.x c.requires) (λ a r q k. search rules)
