-- What strips a strip touches, cell by cell.
use Rattle.std.specs.Prelude.{ℕ, ◌<◌, ⊤, Bool, false, ◌==◌, if◌then◌else◌, List, Option, Some, None}
use Rattle.std.specs.List.{fold, position}
use Rattle.nav_ground.specs.declared.cell.Cell.{Cell}
use Rattle.mesh_types.specs.StripPolygons.{strip_runs}
use Rattle.mesh_types.specs.StripLinks.{holds_named}
use Rattle.mono_regions.specs.declared.touching.SeenStrips.{SeenStrips}
use Rattle.mono_regions.specs.declared.touching.SeenStrips.TheVariants.{Nothing, One, Several}
use Rattle.mono_regions.specs.Indices.{cell_at}

-- the number of the strip with the cell to which a cell is connected in a direction, if there is one
abbrev pub beyond : List Cell → ℕ → ℕ → Option ℕ
beyond cells dir i = position (holds_named dir (cell_at cells i)) (strip_runs cells)

-- what was seen, after one more cell
abbrev pub seen_with : SeenStrips → Option ℕ → SeenStrips
seen_with seen None = seen
seen_with Nothing (Some t) = One t
seen_with (One u) (Some t) = if u == t then One u else Several
seen_with Several (Some t) = Several

-- one strip was seen and no other
abbrev pub is_one : ℕ → SeenStrips → Bool
is_one t Nothing = false
is_one t (One u) = u == t
is_one t Several = false

-- a strip that was seen alone is one of so many
abbrev pub IsSeenAmong : ℕ → SeenStrips → Type 0
IsSeenAmong count Nothing = ⊤
IsSeenAmong count (One t) = t < count
IsSeenAmong count Several = ⊤

-- what the cells with some indices touch in a direction
abbrev pub touched_by : List Cell → ℕ → List ℕ → SeenStrips
touched_by cells dir run = fold (λ seen i. seen_with seen (beyond cells dir i)) Nothing run
