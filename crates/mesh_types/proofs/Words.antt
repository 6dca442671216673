-- Words: short names for parts of definitions, for proofs alone. Each is the same as the text that the definitions say in full.
use Rattle.std.specs.Prelude.{ℕ, ◌+◌, pos, Bool, false, ◌==◌, ◌&&◌, nat_lt, List, [], ◌⊎◌}
use Rattle.std.specs.List.{list_any}
use Rattle.std.specs.Option.{option_map_or}
use Rattle.nav_base.specs.declared.point.Point.{Point}
use Rattle.nav_ground.specs.declared.cell.Cell.{Cell}
use Rattle.nav_ground.specs.declared.cell.Window.{Window}
use Rattle.mesh_types.specs.declared.region.Regions.{Regions}
use Rattle.mesh_types.specs.declared.region.UnitEdge.{UnitEdge}
use Rattle.mesh_types.specs.declared.region.Piece.{Piece}
use Rattle.mesh_types.specs.declared.links.Portal.{Portal}
use Rattle.mesh_types.specs.declared.answers.Corner.{Corner}
use Rattle.mesh_types.specs.declared.answers.Side.{Side}
use Rattle.mesh_types.specs.LinkOrder.{is_point_before}
use Rattle.mesh_types.specs.Crossings.{is_crossing, position_of}
use Rattle.mesh_types.specs.Contours.{region_at}
use Rattle.mesh_types.specs.Ears.{is_same_point}
use Rattle.mesh_types.specs.Merging.{Merge, shared_length}
use Rattle.mesh_types.specs.Facets.{Facet}
use Rattle.mesh_types.specs.Segments.{TautCorner}
use Rattle.mesh_types.specs.Bends.{IsHeldOn, IsFoldedOn}

-- a strip has a cell in a column
abbrev pub has_column : ℕ → List Cell → Bool
has_column x run = list_any (λ (cell : Cell). cell.at.x == x) run

-- the one merge is over a longer edge than the other
abbrev pub is_longer : List Point → List Piece → Merge → Merge → Bool
is_longer corners pieces m other = nat_lt (shared_length corners pieces other) (shared_length corners pieces m)

-- an edge begins at a corner
abbrev pub begins_at : Point → UnitEdge → Bool
begins_at corner edge = is_same_point edge.from corner

-- the one edge begins before the other
abbrev pub begins_before : UnitEdge → UnitEdge → Bool
begins_before a b = is_point_before a.from b.from

-- the facet read past the end of a list
abbrev pub no_facet : Facet
no_facet = record { region = 0; outline = record { corners = []; codes = [] }; places = [] }

-- a cell is one of a region
abbrev pub is_of : Regions → ℕ → Cell → Bool
is_of regions id cell = option_map_or (λ r. r == id) (region_at regions cell.at) false

-- a cell at a position of a side has a kept neighbour across
abbrev pub crosses_at : Window → ℕ → ℕ → Cell → Bool
crosses_at window side position cell = is_crossing window side cell && position_of side cell.at == position

-- a portal that stands for none
abbrev pub some_portal : Portal
some_portal = record { left = record { x = pos 0; z = pos 0 }; right = record { x = pos 0; z = pos 0 } }

-- the stop at a corner
abbrev pub corner_stop : Corner → TautCorner
corner_stop corner = record { at = corner.at; number = corner.portal + 1 }

-- a stop that stands for none
abbrev pub some_stop : TautCorner
some_stop = record { at = record { x = pos 0; z = pos 0 }; number = 0 }

-- a bend is held on a side, or at a portal on which the next one folds back
abbrev pub IsHeld : List Portal → List TautCorner → List Corner → ℕ → ℕ → Type 0
IsHeld portals taut corners first last =
    ((side : Side) × IsHeldOn portals taut corners first last side) ⊎ IsFoldedOn portals corners first last
