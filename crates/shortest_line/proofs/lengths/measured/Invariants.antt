use Rattle.std.proofs.Common.{◌≡◌, ◌≤◌, ◌+◌, ◌*◌, ◌^◌, ◌∷◌, ◌++◌, [], map, drop}
use Rattle.nav_base.specs.Point.{HasCoordinates}
use Rattle.mesh_types.specs.declared.answers.Corner.{Corner}
use Rattle.shortest_line.specs.Lines.{measured_of}
use Rattle.shortest_line.proofs.lengths.measured.Given as goal

abbrev pub invariant-loop-turn : goal.invariant-loop-turn
invariant-loop-turn l =
    (l.parts + measured_of (l.at ∷ map (λ (turn : Corner). turn.at) (drop l.turn-index l.fn.turns) ++ l.goal ∷ [])
    ≡ measured_of (l.fn.from ∷ map (λ (turn : Corner). turn.at) l.fn.turns ++ l.fn.goal ∷ []))
    × (l.parts ≤ 2 ^ 30 * l.turn-index) × HasCoordinates l.at
