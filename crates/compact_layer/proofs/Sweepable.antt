-- The cells of a field before they are connected are stacked as the sweep needs them.
use Rattle.std.proofs.Common.{◌≡◌, ℕ, ◌≤◌, ◌++◌, List, length, map, take, get_or, ap, ◌∙◌, arith, inl, inr}
use Rattle.std.proofs.lemmas.List.{length-map, take_at}
use Rattle.nav_ground.specs.declared.setting.Agent.{Agent}
use Rattle.nav_ground.specs.declared.cell.Cell.{Cell}
use Rattle.nav_ground.specs.declared.cell.CellRef.{CellRef}
use Rattle.nav_ground.specs.declared.field.Field.{Field}
use Rattle.nav_ground.specs.Fields.{IsField, AreAreas}
use Rattle.nav_ground.specs.Cells.{IsCell, IsCellBefore}
use Rattle.nav_ground.specs.Connection.{unconnected_cells, connected_cell, compact_cells}
use Rattle.nav_ground.proofs.Stacks.{IsStacked, stacked, are_cells}
use Rattle.compact_layer.specs.Columns.{IsPlace, column_of}
use Rattle.compact_layer.specs.Stacks.{IsStanding, IsUnder, AreStacked}
use Rattle.compact_layer.proofs.SpansSoFar.{levels_of_field}

standing : (cell : Cell) → cell.at.level ≤ 8191 → IsCell cell → IsStanding cell
standing cell low rules' = record { at = record { x = rules'.x; z = rules'.z }; floor = rules'.floor; level = low }

column_rises : (a b : CellRef) → IsPlace a → IsPlace b → IsCellBefore a b → column_of a ≤ column_of b
column_rises a b pa pb (inl below) = omega (arith, below, pa.x, pb.x)
column_rises a b pa pb (inr (row, inl left)) = omega (arith, row, left)
column_rises a b pa pb (inr (row, inr (column, under))) = omega (arith, row, column)

one_column : (a b : CellRef) → IsPlace a → IsPlace b → column_of a ≡ column_of b → (a.x ≡ b.x) × (a.z ≡ b.z)
one_column a b pa pb same = (omega (arith, same, pa.x, pb.x), omega (arith, same, pa.x, pb.x))

under : (a b : Cell) → IsStanding a → IsStanding b → IsStacked a b → IsUnder a b
under a b sa sb stack = record {
  column = column_rises a.at b.at sa.at sb.at stack.before;
  floor = λ same. let e = one_column a.at b.at sa.at sb.at same in stack.floor e.0 e.1;
  ceiling = λ same. let e = one_column a.at b.at sa.at sb.at same in stack.ceiling e.0 e.1;
}

pub unconnected_stacked : (field : Field) (areas : List ℕ) → IsField field → AreAreas areas → length areas ≡ length field.spans
    → AreStacked (unconnected_cells field areas)
unconnected_stacked field areas rules' limits same =
    let cells = unconnected_cells field areas in
    let each = are_cells field areas rules' limits same in
    let order = stacked field areas rules' limits same in
    let low = levels_of_field field areas rules' limits same in
    record {
      each = λ k d there. standing (get_or cells k d) (low k d there) (each k d there);
      order = λ i j d before there.
          under (get_or cells i d) (get_or cells j d)
          (standing (get_or cells i d) (low i d (omega (arith, before, there))) (each i d (omega (arith, before, there))))
          (standing (get_or cells j d) (low j d there) (each j d there))
          (order i j d before there);
    }

-- the cells of a field, once they are connected in their place
pub connected_in_place : (field : Field) (areas : List ℕ) (agent : Agent) (before written rest made : List Cell) (len : ℕ)
    → before ≡ unconnected_cells field areas → length before ≡ len → written ≡ map (connected_cell agent before) before
    → made ≡ take len (written ++ rest) → made ≡ compact_cells field areas agent
unfolding compact_cells
connected_in_place field areas agent before written rest made len cells as_many connected is =
    let long : length written ≡ len = ap length connected ∙ length-map before (connected_cell agent before) ∙ as_many in
    is ∙ take_at written rest len long ∙ connected ∙ ap (λ (cells : List Cell). map (connected_cell agent cells) cells) cells
