-- The cells of a field keep the rules of cells, and their connections lead there and back.
use Rattle.std.proofs.Common.{◌≡◌, ◌≤◌, ℕ, List, length, map, arith, refl}
use Rattle.std.specs.Prelude.{All, AllPairs}
use Rattle.std.proofs.lemmas.List.{length-map}
use Rattle.std.proofs.lemmas.List.Elements.{All-map}
use Rattle.nav_ground.specs.declared.setting.Agent.{Agent}
use Rattle.nav_ground.specs.declared.field.Field.{Field}
use Rattle.nav_ground.specs.declared.cell.Cell.{Cell}
use Rattle.nav_ground.specs.Limits.{IsAgent}
use Rattle.nav_ground.specs.Fields.{IsField, AreAreas}
use Rattle.nav_ground.specs.Cells.{IsCompact, IsCell, IsCells, IsCellBefore}
use Rattle.nav_ground.specs.Connection.{compact_cells, connected_cell, unconnected_cell, unconnected_cells, walkable_spans}
use Rattle.nav_ground.proofs.Kept.{AllPairs-map}
use Rattle.nav_ground.proofs.Walkable.{few_walkable}
use Rattle.nav_ground.proofs.Stacks.{IsStacked, stacked, are_cells}
use Rattle.nav_ground.proofs.Connected.{connected_complete, connected_mutual}

-- connected cells keep the rules of the cells before
connected_rules : (agent : Agent) (cells : List Cell) → length cells ≤ 2000000 → AllPairs IsStacked cells → All IsCell cells
    → IsCells (map (connected_cell agent cells) cells)
connected_rules agent cells few stack each = record {
  few = omega (arith, few, length-map cells (connected_cell agent cells));
  order = AllPairs-map (λ (a b : Cell). IsCellBefore a.at b.at) (connected_cell agent cells) cells
      (λ i j d before there. (stack i j d before there).before);
  each = All-map IsCell (connected_cell agent cells) cells
      (λ k d there.
      let here = each k d there in
      record { x = here.x; z = here.z; area = here.area; floor = here.floor; ceiling = here.ceiling; sides = refl });
}

-- the cells of a field, with one area beside each span
pub compact_rules : (field : Field) (areas : List ℕ) (agent : Agent) → IsField field → AreAreas areas → length areas ≡ length field.spans
    → IsAgent agent → IsCompact (compact_cells field areas agent)
unfolding compact_cells
compact_rules field areas agent rules' limits each small =
    let cells = unconnected_cells field areas in
    let spans = walkable_spans field.spans areas in
    let few = few_walkable field.spans areas in
    let as_many = length-map spans (unconnected_cell field.spans spans) in
    let stack = stacked field areas rules' limits each in
    record {
      rules = connected_rules agent cells (omega (arith, few, as_many, rules'.few)) stack (are_cells field areas rules' limits each);
      complete = connected_complete agent cells;
      named_back = connected_mutual agent cells small stack;
    }
