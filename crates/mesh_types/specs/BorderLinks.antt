-- BorderLinks: the links from one tile to the tile across one of its sides.
use Rattle.std.specs.Prelude.{◌≡◌, ℕ, ◌+◌, ◌-◌, ℤ, pos, ◌*ℤ◌, Bool, false, nat_le, ◌==◌, ◌&&◌, if◌then◌else◌, List, map, filter, length, slice_get, Option, Some, None, All}
use Rattle.std.specs.List.{flat_map, range_with_len}
use Rattle.std.specs.Option.{option_map_or}
use Rattle.nav_base.specs.declared.point.Point.{Point}
use Rattle.nav_base.specs.Convex.{corner_at}
use Rattle.nav_ground.specs.Cells.{opposite}
use Rattle.mesh_types.specs.declared.polygon.Polygon.{Polygon}
use Rattle.mesh_types.specs.declared.links.Portal.{Portal}
use Rattle.mesh_types.specs.declared.links.Link.{Link}
use Rattle.mesh_types.specs.declared.mesh.LevelPair.{LevelPair}
use Rattle.mesh_types.specs.declared.mesh.RimEdge.{RimEdge}
use Rattle.mesh_types.specs.declared.mesh.TileMesh.{TileMesh}
use Rattle.mesh_types.specs.declared.region.LabelRun.{LabelRun}
use Rattle.mesh_types.specs.Runs.{runs_of, label_if}
use Rattle.mesh_types.specs.LinkOrder.{ordered_links}

-- the levels that a rim entry has at a position, if it has some there
abbrev pub pair_at : RimEdge → ℕ → Option LevelPair
pair_at entry position = if nat_le entry.first position then slice_get entry.pairs (position - entry.first) else None

-- what an entry names is this, by its polygon, edge, side and position
abbrev pub Names : (ℕ → ℕ → ℕ → ℕ → LevelPair) → RimEdge → Type 0
Names pair entry = (position : ℕ) (found : LevelPair) → pair_at entry position ≡ Some found → found ≡ pair entry.poly entry.edge entry.side position

-- the levels that a tile's rim names at a position of an edge are determined: all entries that have some there have the same
abbrev pub HasOnePair : TileMesh → Type 0
HasOnePair tile = (pair : ℕ → ℕ → ℕ → ℕ → LevelPair) × All (Names pair) tile.rim

-- two pairs name each other: the own level of each is the other level of the other
abbrev pub are_meeting : Option LevelPair → Option LevelPair → Bool
are_meeting (Some a) (Some b) = a.own == b.other && a.other == b.own
are_meeting _ _ = false

-- for each position of an entry a label where it meets another entry there
abbrev pub meetings : RimEdge → RimEdge → List (Option ℕ)
meetings a b = map (λ k. label_if (are_meeting (pair_at a (a.first + k)) (pair_at b (a.first + k)))) (range_with_len 0 (length a.pairs))

-- where an edge along a side lies: x for the sides 0 and 2, z for the sides 1 and 3
abbrev pub line_of : ℕ → List Polygon → RimEdge → ℤ
line_of side polys entry = option_map_or (λ (polygon : Polygon).
    if side == 0 then (corner_at polygon.corners entry.edge).x
    else (if side == 1 then (corner_at polygon.corners entry.edge).z
    else (if side == 2 then (corner_at polygon.corners entry.edge).x
    else (corner_at polygon.corners entry.edge).z))) (slice_get polys entry.poly) (pos 0)

-- a point in sixteenths, from whole cells
abbrev pub scaled : ℤ → ℤ → Point
scaled x z = record { x = pos 16 *ℤ x; z = pos 16 *ℤ z }

-- the portal through a side of a tile that lies at a line, from one position up to another: seen from inside, side 0 runs downward,
-- side 1 to the left, side 2 upward and side 3 to the right
abbrev pub side_portal : ℕ → ℤ → ℕ → ℕ → Portal
side_portal side line first last =
    if side == 0 then record { left = scaled line (pos first); right = scaled line (pos (last + 1)) }
    else (if side == 1 then record { left = scaled (pos first) line; right = scaled (pos (last + 1)) line }
    else (if side == 2 then record { left = scaled line (pos (last + 1)); right = scaled line (pos first) }
    else record { left = scaled (pos (last + 1)) line; right = scaled (pos first) line }))

-- the link from an entry of a tile to an entry of the tile across, along a run of positions of the first
abbrev pub border_link : TileMesh → TileMesh → ℕ → RimEdge → RimEdge → LabelRun → Link
border_link a b side entry other run = record {
  from = record { tile = a.tile; index = entry.poly };
  edge = entry.edge;
  to = record { tile = b.tile; index = other.poly };
  portal = side_portal side (line_of side a.polys entry) (entry.first + run.first) (entry.first + run.last);
}

-- the entries of a rim along a side
abbrev pub along_side : ℕ → List RimEdge → List RimEdge
along_side side rim = filter (λ (entry : RimEdge). entry.side == side) rim

-- the links from a tile to the tile across a side: for each entry of the one along that side and each of the other along the opposite
-- side, one for each maximal run of positions where they meet, in order
unfoldable pub border_links : TileMesh → TileMesh → ℕ → List Link
border_links a b side = ordered_links
    (flat_map (λ (entry : RimEdge). flat_map (λ (other : RimEdge). map (border_link a b side entry other) (runs_of (meetings entry other)))
    (along_side (opposite side) b.rim)) (along_side side a.rim))
