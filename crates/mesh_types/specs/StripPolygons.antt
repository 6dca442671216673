-- StripPolygons: the polygon of a strip, its rectangle.
use Rattle.std.specs.Prelude.{ℕ, ◌+◌, ◌-◌, ◌*◌, min, max, List, [], ◌∷◌, length, map, get_or, pos}
use Rattle.std.specs.List.{fold}
use Rattle.nav_base.specs.declared.point.Point.{Point}
use Rattle.nav_ground.specs.declared.cell.Cell.{Cell}
use Rattle.mesh_types.specs.declared.polygon.Polygon.{Polygon}
use Rattle.mesh_types.specs.Strips.{strip_cells, strip_firsts}

-- the strips of a tile as their cells, in order
abbrev pub strip_runs : List Cell → List (List Cell)
strip_runs cells = map (strip_cells cells) (strip_firsts cells)

-- a corner in whole cells, and the same point in sixteenths
abbrev pub corner : ℕ → ℕ → Point
corner x z = record { x = pos x; z = pos z }

-- a corner in whole cells as a point in sixteenths
abbrev pub sixteenths : ℕ → ℕ → Point
sixteenths x z = corner (16 * x) (16 * z)

-- a cell that stands for none
abbrev pub some_cell : Cell
some_cell = record { at = record { x = 0; z = 0; level = 0 }; floor = 0; ceiling = 0; area = 0; next = [] }

-- the first cell of a strip, and the least and the greatest floor of its cells
abbrev pub first_of : List Cell → Cell
first_of run = get_or run 0 some_cell

-- the least floor of a strip
abbrev pub low_of : List Cell → ℕ
low_of run = fold (λ low (cell : Cell). min low cell.floor) (first_of run).floor run

-- the greatest floor of a strip
abbrev pub high_of : List Cell → ℕ
high_of run = fold (λ high (cell : Cell). max high cell.floor) (first_of run).floor run

-- the rectangle of a strip: counterclockwise from its least corner
abbrev pub rectangle : ℕ → ℕ → ℕ → List Point
rectangle x0 x1 z = corner x0 z ∷ corner (x1 + 1) z ∷ corner (x1 + 1) (z + 1) ∷ corner x0 (z + 1) ∷ []

-- the polygon of a strip: its rectangle, its area and its floors
abbrev pub strip_polygon : List Cell → Polygon
strip_polygon run = record {
  corners = rectangle (first_of run).at.x ((first_of run).at.x + length run - 1) (first_of run).at.z;
  area = (first_of run).area;
  low = low_of run;
  high = high_of run;
}
