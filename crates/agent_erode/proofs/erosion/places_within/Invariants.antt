use Rattle.std.proofs.Common.{◌≡◌, Bool, ◌&&◌, take, map}
use Rattle.std.specs.List.{filter}
use Rattle.nav_ground.specs.declared.cell.Cell.{Cell}
use Rattle.nav_ground.specs.Tiling.{is_in_window}
use Rattle.nav_ground.specs.Clearance.{places_of}
use Rattle.agent_erode.proofs.erosion.places_within.Given as goal

-- the places so far
abbrev pub invariant-loop-i : goal.invariant-loop-i
invariant-loop-i l = (p : Cell → Bool) → l.marks ≡ map p l.cells
    → l.places.items ≡ places_of (filter (λ (cell : Cell). p cell && is_in_window l.window cell.at.x cell.at.z) (take l.i l.cells))
