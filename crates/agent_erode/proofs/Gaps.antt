-- Boundary cells, by the neighbour table.
use Rattle.std.proofs.Common.{◌≡◌, ℕ, ◌<◌, List, length, get_or, arith}
use Rattle.nav_ground.specs.declared.cell.Cell.{Cell}
use Rattle.nav_ground.specs.Clearance.{is_boundary}
use Rattle.cell_table.specs.Table.{neighbour_table}
use Rattle.cell_table.proofs.Tables.{table_neighbour}
use Rattle.agent_erode.specs.Reaching.{has_gap}

-- the boundary cells
pub table_boundary : (cells : List Cell) (i : ℕ) (d : Cell) → i < length cells
    → is_boundary cells (get_or cells i d) ≡ has_gap (neighbour_table cells) (length cells) i
table_boundary cells i d there =
    let e = λ (dir : ℕ) (small : dir < 4). table_neighbour cells i dir d there small in
    let e0 = e 0 (omega arith) in
    let e1 = e 1 (omega arith) in
    let e2 = e 2 (omega arith) in
    let e3 = e 3 (omega arith) in
    cc
