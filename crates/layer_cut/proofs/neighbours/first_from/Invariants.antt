use Rattle.std.proofs.Common.{◌≡◌, ◌≤◌, true, length, ◌-◌}
use Rattle.std.specs.List.{AllWithin}
use Rattle.nav_ground.specs.declared.cell.Cell.{Cell}
use Rattle.layer_cut.specs.Neighbours.{is_in_earlier_column}
use Rattle.layer_cut.proofs.neighbours.first_from.Given as goal

-- the cells so far lie in earlier columns
abbrev pub invariant-loop-first : goal.invariant-loop-first
invariant-loop-first l = (l.index ≤ l.first) × AllWithin (λ (cell : Cell). is_in_earlier_column cell.at l.place ≡ true) l.cells l.index l.first

-- the cells that are left
abbrev pub decreases-loop-first : goal.decreases-loop-first
decreases-loop-first l = length l.cells - l.first
