use Rattle.std.proofs.Common.{refl}
use Rattle.mesh_handle.proofs.input.asked.Goals as goal

pub returns-in_err-slope-clause-none : goal.returns-in_err-slope-clause-none
returns-in_err-slope-clause-none c _ ask h = c.in_err-slope.ensures.none refl ask.slope h.slope
