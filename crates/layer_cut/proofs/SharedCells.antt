-- The cells of a field depend on the height and the climb of an agent alone.
use Rattle.std.proofs.Common.{◌≡◌, ℕ, List, refl, ap, sym, ◌∙◌}
use Rattle.nav_ground.specs.declared.cell.Cell.{Cell}
use Rattle.nav_ground.specs.declared.field.Field.{Field}
use Rattle.nav_ground.specs.declared.setting.Agent.{Agent}
use Rattle.nav_ground.specs.declared.setting.Setting.{Setting}
use Rattle.nav_ground.specs.Connection.{compact_cells}
use Rattle.nav_ground.specs.Filters.{filtered_areas, is_ledge}
use Rattle.nav_ground.specs.Cells.{IsCompact}
use Rattle.nav_ground.specs.declared.history.Ground.{Ground}
use Rattle.nav_ground.specs.Layers.{cells_of, layers_of}
use Rattle.layer_cut.specs.SharedCells.{AreCellsOf}

-- the cells for an agent; for one of a height and a climb, that has no radius
abbrev cells_by : Field → Agent → List Cell
cells_by field agent = compact_cells field (filtered_areas field agent) agent

abbrev cells_at : Field → ℕ → ℕ → List Cell
cells_at field height climb = cells_by field (record { height = height; climb = climb; radius = 0 })

of_height_and_climb : (field : Field) (agent : Agent) → cells_by field agent ≡ cells_at field agent.height agent.climb
unfolding compact_cells is_ledge
of_height_and_climb field agent = refl

pub cells_alike : (s t : Setting) (field : Field) → s.agent.height ≡ t.agent.height → s.agent.climb ≡ t.agent.climb → cells_of s field ≡ cells_of t field
unfolding cells_of
cells_alike s t field height climb =
    of_height_and_climb field s.agent
    ∙ ap (λ (h : ℕ). cells_at field h s.agent.climb) height
    ∙ ap (cells_at field t.agent.height) climb
    ∙ sym (of_height_and_climb field t.agent)

-- the cells that are made for a setting are those for each agent of its height and climb
pub cells_of_alike : (setting : Setting) (field : Field) (cells : List Cell) → cells ≡ cells_of setting field → IsCompact cells
    → AreCellsOf field (record { height = setting.agent.height; climb = setting.agent.climb; cells = cells })
cells_of_alike setting field cells made rules' = record {
  each = λ other height climb. made ∙ cells_alike setting other field (sym height) (sym climb);
  rules = rules';
}

-- the ground of a setting over a field
abbrev pub ground_by : Field → Setting → Ground
ground_by field setting = record { setting = setting; field = field; layers = layers_of setting field }
