use Rattle.outline_laws.proofs.ContourSteps.{contour_is_unit_ring}
use Rattle.outline_laws.proofs.laws.contours_are_unit_rings.Goals as goal

pub returns : goal.returns
returns c = contour_is_unit_ring
