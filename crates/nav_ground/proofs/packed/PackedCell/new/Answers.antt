use Rattle.nav_ground.proofs.SmallCellLaws.{small_back}
use Rattle.nav_ground.proofs.packed.PackedCell.new.Goals as goal

pub returns : goal.returns
returns c = small_back c.args.cell.now c.number_of.result c.number_of-2.result c.number_of-3.result c.number_of-4.result c.requires
    c.number_of.ensures c.number_of-2.ensures c.number_of-3.ensures c.number_of-4.ensures
