use Rattle.std.proofs.Common.{refl, subst, sym, ℤ, pos, ◌*ℤ◌}
use Rattle.world_grid.proofs.StretchLaws.{narrow_reads}
use Rattle.mesh_input.specs.Axes.{IsAxisOf}
use Rattle.mesh_input.proofs.AxisLaws.{few_cells}
use Rattle.mesh_input.proofs.axis.mesh_grid.Goals as goal

pub returns-in_err-z-clause-none : goal.returns-in_err-z-clause-none
returns-in_err-z-clause-none c _ grid h =
    let z = c.args.frame.z in
    c.in_err-z.ensures.none refl grid.z
    (subst (λ (n : ℤ). IsAxisOf c.args.frame.cell_size 4 (pos 16 *ℤ n) 16384 grid.z) (sym (narrow_reads z (few_cells z h.z.near))) h.z)
