-- The cells of a field are small, once they are connected too.
use Rattle.std.proofs.Common.{◌≡◌, ℕ, Bool, true, false, cond, List, [], ◌∷◌, Option, Some, sym, subst, arith}
use Rattle.std.specs.Prelude.{All, ◌&&◌}
use Rattle.std.specs.List.{find}
use Rattle.std.specs.Option.{option_map}
use Rattle.std.proofs.lemmas.List.Elements.{All-head, All-tail}
use Rattle.nav_ground.specs.declared.setting.Agent.{Agent}
use Rattle.nav_ground.specs.declared.cell.Cell.{Cell}
use Rattle.nav_ground.specs.Cells.{is_toward}
use Rattle.nav_ground.specs.Connection.{is_connected, level_toward, connected_cell}
use Rattle.nav_ground.specs.Levels.{IsSmallLevel}
use Rattle.nav_ground.specs.SmallCells.{IsSmall}
use Rattle.nav_ground.proofs.SmallCellLaws.{small_with}
use Rattle.compact_layer.specs.Stacks.{IsStanding, AreStacked}

-- the level of a standing cell is small
level_small : (agent : Agent) (cells : List Cell) (cell : Cell) (dir : ℕ) → All IsStanding cells → IsSmallLevel (level_toward agent cells cell dir)
level_small agent [] cell dir each = tt
level_small agent (other ∷ cells) cell dir each =
    by_test (is_toward dir cell.at other.at && is_connected agent cell other) (All-head IsStanding other cells each)
    (level_small agent cells cell dir (All-tail IsStanding other cells each))
  where
    by_test : (b : Bool) → IsStanding other → IsSmallLevel (level_toward agent cells cell dir)
        → IsSmallLevel (option_map (λ (c : Cell). c.at.level) (cond b (Some other) (find (λ (c : Cell). is_toward dir cell.at c.at && is_connected agent cell c) cells)))
    by_test true here later = omega (arith, here.level)
    by_test false here later = later

-- a small cell that is connected with standing cells is small
pub connected_small : (agent : Agent) (cells : List Cell) (cell : Cell) (next : List (Option ℕ)) → AreStacked cells → IsSmall cell
    → next ≡ (connected_cell agent cells cell).next → IsSmall (record cell { next = next })
connected_small agent cells cell next stack small is =
    let P : List (Option ℕ) → Type 0 = λ (n : List (Option ℕ)). IsSmall (record cell { next = n }) in
    subst P (sym is)
    (small_with cell cell.area _ _ _ _ small small.area (level_small agent cells cell 0 stack.each) (level_small agent cells cell 1 stack.each)
    (level_small agent cells cell 2 stack.each) (level_small agent cells cell 3 stack.each))
