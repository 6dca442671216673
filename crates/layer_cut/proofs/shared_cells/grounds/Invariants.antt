use Rattle.std.proofs.Common.{◌≡◌, map, take}
use Rattle.std.specs.Prelude.{All}
use Rattle.nav_ground.specs.Grounds.{IsGround}
use Rattle.layer_cut.specs.SharedCells.{AreCellsOf}
use Rattle.layer_cut.proofs.SharedCells.{ground_by}
use Rattle.layer_cut.proofs.shared_cells.grounds.Given as goal

-- the grounds so far, and the cells that are kept
abbrev pub invariant-loop-setting : goal.invariant-loop-setting
invariant-loop-setting l = record {
  value : l.grounds.items ≡ map (ground_by l.field) (take l.setting-index l.settings);
  rules : All IsGround l.grounds.items;
  made : All (AreCellsOf l.field) l.made.items;
}
