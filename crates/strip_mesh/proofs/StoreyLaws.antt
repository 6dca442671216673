-- The storeys of strips keep the rules of storeys.
use Rattle.std.proofs.Common.{◌+◌, ◌-◌, ◌<◌, ◌≤◌, length, List, [], ◌∷◌, map, arith}
use Rattle.std.proofs.lemmas.List.{length-map}
use Rattle.std.proofs.lemmas.List.Elements.{All-cons, All-map, All-nil}
use Rattle.nav_ground.specs.declared.cell.Cell.{Cell}
use Rattle.nav_ground.specs.Cells.{IsCut}
use Rattle.mesh_types.specs.declared.storeys.FloorRow.{FloorRow}
use Rattle.mesh_types.specs.StripPolygons.{some_cell, first_of, strip_runs}
use Rattle.mesh_types.specs.Storeys.{AreStoreys, IsFloorRow, IsStorey, strip_storey}
use Rattle.strip_mesh.proofs.FitLaws.{each_row}
use Rattle.strip_mesh.proofs.RowLaws.{IsRow}

-- the row of a strip
row_sound : (own : List Cell) → IsRow own → IsFloorRow (record { x0 = (first_of own).at.x; floors = map (λ (cell : Cell). cell.floor) own })
row_sound own row =
    let inside : length own - 1 < length own = omega (arith, row.some) in
    let last = row.each (length own - 1) some_cell inside in
    let many = length-map own (λ (cell : Cell). cell.floor) in
    record {
      some = omega (arith, row.some, many);
      right = omega (arith, many, last.x, row.x (length own - 1) some_cell inside, row.some);
      floors = All-map (λ floor. floor ≤ 8191) (λ (cell : Cell). cell.floor) own (λ k d there. (row.each k d there).floor);
    }

storey_sound : (own : List Cell) → IsRow own → IsStorey (strip_storey own)
storey_sound own row =
    let first = row.each 0 some_cell row.some in
    let own_row : FloorRow = record { x0 = (first_of own).at.x; floors = map (λ (cell : Cell). cell.floor) own } in
    record {
      some = omega arith;
      top = omega (arith, first.z);
      rows = All-cons IsFloorRow own_row [] (row_sound own row) (All-nil IsFloorRow);
      area = first.area;
    }

pub storeys_sound : (cells : List Cell) → IsCut cells → AreStoreys (map strip_storey (strip_runs cells))
storeys_sound cells cut = All-map IsStorey strip_storey (strip_runs cells) (λ k d there. storey_sound _ (each_row cells cut k d there))
