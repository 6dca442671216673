use Rattle.std.proofs.Common.{◌≡◌, Bool, take, map}
use Rattle.std.specs.List.{filter}
use Rattle.nav_ground.specs.declared.cell.Cell.{Cell}
use Rattle.nav_ground.specs.Clearance.{places_of}
use Rattle.agent_erode.proofs.erosion.places_marked.Given as goal

-- the places so far
abbrev pub invariant-loop-i : goal.invariant-loop-i
invariant-loop-i l = (p : Cell → Bool) → l.marks ≡ map p l.cells → l.places.items ≡ places_of (filter p (take l.i l.cells))
