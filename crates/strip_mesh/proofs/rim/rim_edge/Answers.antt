use Rattle.std.proofs.Common.{◌-◌, ◌∙◌, ℕ, List, map, ap, get_or}
use Rattle.nav_ground.specs.declared.cell.Cell.{Cell}
use Rattle.mesh_types.specs.declared.mesh.LevelPair.{LevelPair}
use Rattle.mesh_types.specs.declared.mesh.RimEdge.{RimEdge}
use Rattle.mesh_types.specs.Crossings.{position_of}
use Rattle.strip_mesh.specs.Indexed.{run_in}
use Rattle.strip_mesh.specs.Strips.{pair_at}
use Rattle.strip_mesh.proofs.Counts.{entry_is}
use Rattle.strip_mesh.proofs.rim.rim_edge.Goals as goal

-- an entry on a side
abbrev entry : ℕ → ℕ → ℕ → List LevelPair → ℕ → RimEdge
entry poly edge first pairs side = record { poly = poly; edge = edge; side = side; first = first; pairs = pairs }

pub returns : goal.returns
returns c =
    let cells = c.args.strips.now.free.cells in
    let run = c.part_of-run.result.now in
    ap (entry c.args.strip c.args.edge c.position_of.result c.in_ok-pairs.field-0) (c.index.ensures.value ∙ c.outside_of-side.ensures)
    ∙ entry_is c.args.strip c.args.edge cells run (run_in c.args.strips.now c.args.strip) c.args.part _ c.position_of.result c.in_ok-pairs.field-0
    c.part_of-run.ensures.indices.some c.part_of-run.ensures.indices.each
    (c.position_of.ensures
    ∙ ap (λ side. position_of side c.at.result) c.outside_of-side.ensures
    ∙ ap (position_of (3 - c.args.edge)) (c.at.ensures ∙ ap (λ (cell : Cell). cell.at) c.index-cells-run.is)
    ∙ ap (λ (cs : List Cell). position_of (3 - c.args.edge) (get_or cs (get_or run 0 0) c.index-cells-run.result).at) c.as_slice-cells.ensures)
    c.part_of-run.ensures.first
    (c.in_ok-pairs.ensures
    ∙ ap (λ side. map (pair_at c.as_slice-cells.result.now side) run) c.outside_of-side.ensures
    ∙ ap (λ (cs : List Cell). map (pair_at cs (3 - c.args.edge)) run) c.as_slice-cells.ensures)
    c.part_of-run.ensures.cells
