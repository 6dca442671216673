-- The walk round a stack of strips, in what stands for each edge: by the direction of the edge, its strip, and its column.
use Rattle.std.specs.Prelude.{ℕ, ◌+◌, ◌-◌, ◌<◌, List, [], ◌∷◌, ◌++◌, map, length, get_or, reverse}
use Rattle.std.specs.List.{range_with_len}
use Rattle.nav_ground.specs.declared.cell.Cell.{Cell}
use Rattle.nav_ground.specs.declared.cell.Window.{Window}
use Rattle.mesh_types.specs.declared.region.Strip.{Strip}
use Rattle.mesh_types.specs.declared.region.Regions.{Regions}
use Rattle.mesh_types.specs.declared.region.UnitEdge.{UnitEdge}
use Rattle.mesh_types.specs.Regions.{IsUpon, place_in}
use Rattle.mesh_types.specs.Contours.{edge_of}

-- each strip lies on the one before
abbrev pub AreUpon : List Strip → Type 0
AreUpon strips = (k : ℕ) (d : Strip) → k + 1 < length strips → IsUpon (get_or strips k d) (get_or strips (k + 1) d)

-- the edge toward a direction of the cell of a strip in a column
abbrev pub edge_at : Window → List Cell → Regions → ℕ → Strip → ℕ → UnitEdge
edge_at window cells regions dir strip x = edge_of window cells regions dir (place_in strip x)

-- along the bottom of a strip from a column up to another, to the right, and along its top, to the left
abbrev pub bottoms : {X : Type 0} → (ℕ → Strip → ℕ → X) → Strip → ℕ → ℕ → List X
bottoms edge strip first end = map (edge 3 strip) (range_with_len first (end - first))

abbrev pub tops : {X : Type 0} → (ℕ → Strip → ℕ → X) → Strip → ℕ → ℕ → List X
tops edge strip first end = map (edge 1 strip) (reverse (range_with_len first (end - first)))

-- from the right end of a strip to that of the next: back along its top, or out along the bottom of the next
abbrev pub to_right_end : {X : Type 0} → (ℕ → Strip → ℕ → X) → Strip → Strip → List X
to_right_end edge lower upper = tops edge lower (upper.x1 + 1) (lower.x1 + 1) ++ bottoms edge upper (lower.x1 + 1) (upper.x1 + 1)

-- from the left end of a strip to that of the one below
abbrev pub to_left_end : {X : Type 0} → (ℕ → Strip → ℕ → X) → Strip → Strip → List X
to_left_end edge lower upper = tops edge lower lower.x0 upper.x0 ++ bottoms edge upper upper.x0 lower.x0

-- up the right side, along the top, and down the left side
abbrev pub right_side : {X : Type 0} → (ℕ → Strip → ℕ → X) → List Strip → List X
right_side edge [] = []
right_side edge (strip ∷ []) = edge 2 strip strip.x1 ∷ []
right_side edge (strip ∷ next ∷ rest) = edge 2 strip strip.x1 ∷ (to_right_end edge strip next ++ right_side edge (next ∷ rest))

abbrev pub top_side : {X : Type 0} → (ℕ → Strip → ℕ → X) → List Strip → List X
top_side edge [] = []
top_side edge (strip ∷ []) = tops edge strip strip.x0 (strip.x1 + 1)
top_side edge (strip ∷ next ∷ rest) = top_side edge (next ∷ rest)

abbrev pub left_side : {X : Type 0} → (ℕ → Strip → ℕ → X) → List Strip → List X
left_side edge [] = []
left_side edge (strip ∷ []) = edge 0 strip strip.x0 ∷ []
left_side edge (strip ∷ next ∷ rest) = left_side edge (next ∷ rest) ++ (to_left_end edge strip next ++ edge 0 strip strip.x0 ∷ [])

-- round the stack: along the bottom of the first strip, and then the three sides
abbrev pub round : {X : Type 0} → (ℕ → Strip → ℕ → X) → List Strip → List X
round edge [] = []
round edge (first ∷ rest) =
    bottoms edge first first.x0 (first.x1 + 1) ++ (right_side edge (first ∷ rest) ++ (top_side edge (first ∷ rest) ++ left_side edge (first ∷ rest)))
