-- Connection: the cells of a field, on its walkable spans, and which of them an agent can step between.
use Rattle.std.specs.Prelude.{ℕ, ◌+◌, Bool, nat_le, min, max, not, ◌==◌, ◌&&◌, List, [], ◌∷◌, map, filter, Option, None}
use Rattle.std.specs.List.{find, zip, count_by}
use Rattle.std.specs.Option.{option_map}
use Rattle.nav_ground.specs.declared.setting.Agent.{Agent}
use Rattle.nav_ground.specs.declared.field.Span.{Span}
use Rattle.nav_ground.specs.declared.field.Field.{Field}
use Rattle.nav_ground.specs.declared.cell.Cell.{Cell}
use Rattle.nav_ground.specs.Cells.{is_toward}
use Rattle.nav_ground.specs.Column.{stands_above, ceiling_of}
use Rattle.nav_ground.specs.Filters.{is_near}

-- the spans with the areas that stand beside them, but for those of area 0
abbrev pub walkable_spans : List Span → List ℕ → List Span
walkable_spans spans areas = filter (λ (span : Span). not (span.area == 0)) (map (λ (beside : Span × ℕ). record beside.0 { area = beside.1 }) (zip spans areas))

-- the cell on a walkable span, before it is connected: its level is how many walkable spans stand below it in its column
abbrev pub unconnected_cell : List Span → List Span → Span → Cell
unconnected_cell spans walkable span = record {
  at = record { x = span.x; z = span.z; level = count_by (λ (other : Span). stands_above other span) walkable };
  floor = span.top;
  ceiling = ceiling_of spans span;
  area = span.area;
  next = None ∷ None ∷ None ∷ None ∷ [];
}

-- the cells on all walkable spans, before they are connected
abbrev pub unconnected_cells : Field → List ℕ → List Cell
unconnected_cells field areas =
    map (unconnected_cell field.spans (walkable_spans field.spans areas)) (walkable_spans field.spans areas)

-- an agent can step between two cells of neighbouring columns: its height fits between the greater floor and the lesser ceiling, and the
-- floors differ by at most its climb
abbrev pub is_connected : Agent → Cell → Cell → Bool
is_connected agent a b = nat_le (max a.floor b.floor + agent.height) (min a.ceiling b.ceiling) && is_near agent.climb a.floor b.floor

-- the level of the cell in a direction to which a cell is connected, if there is one
abbrev pub level_toward : Agent → List Cell → Cell → ℕ → Option ℕ
level_toward agent cells cell dir =
    option_map (λ (other : Cell). other.at.level) (find (λ (other : Cell). is_toward dir cell.at other.at && is_connected agent cell other) cells)

-- a cell with its level in each of the four directions
abbrev pub connected_cell : Agent → List Cell → Cell → Cell
connected_cell agent cells cell = record cell {
  next = level_toward agent cells cell 0 ∷ level_toward agent cells cell 1 ∷ level_toward agent cells cell 2 ∷ level_toward agent cells cell 3 ∷ [];
}

-- the cells of a field with areas beside its spans, each connected in each direction where it can be
unfoldable pub compact_cells : Field → List ℕ → Agent → List Cell
compact_cells field areas agent = map (connected_cell agent (unconnected_cells field areas)) (unconnected_cells field areas)
