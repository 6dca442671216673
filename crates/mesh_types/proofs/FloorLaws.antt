-- The least and the greatest floor of cells.
use Rattle.std.proofs.Common.{ℕ, ◌<◌, ◌≤◌, length, List, [], ◌∷◌, arith, min, max}
use Rattle.std.specs.Prelude.{All, fold}
use Rattle.std.proofs.lemmas.List.Elements.{All-head, All-tail}
use Rattle.nav_ground.specs.declared.cell.Cell.{Cell}
use Rattle.mesh_types.specs.StripPolygons.{some_cell, first_of, low_of, high_of}

low_most : (low : ℕ) (own : List Cell) → fold (λ low (cell : Cell). min low cell.floor) low own ≤ low
low_most low [] = omega arith
low_most low (cell ∷ own) = omega (arith, low_most (min low cell.floor) own)

high_least : (high : ℕ) (own : List Cell) → high ≤ fold (λ high (cell : Cell). max high cell.floor) high own
high_least high [] = omega arith
high_least high (cell ∷ own) = omega (arith, high_least (max high cell.floor) own)

high_most : (high : ℕ) (own : List Cell) → high ≤ 8191 → All (λ (cell : Cell). cell.floor ≤ 8191) own
    → fold (λ high (cell : Cell). max high cell.floor) high own ≤ 8191
high_most high [] small each = small
high_most high (cell ∷ own) small each =
    let here = All-head (λ (cell : Cell). cell.floor ≤ 8191) cell own each in
    high_most (max high cell.floor) own (omega (arith, small, here)) (All-tail (λ (cell : Cell). cell.floor ≤ 8191) cell own each)

pub low_first : (own : List Cell) → low_of own ≤ high_of own
low_first own = omega (arith, low_most (first_of own).floor own, high_least (first_of own).floor own)

pub high_small : (own : List Cell) → 0 < length own → All (λ (cell : Cell). cell.floor ≤ 8191) own → high_of own ≤ 8191
high_small own some each = high_most (first_of own).floor own (each 0 some_cell some) each
