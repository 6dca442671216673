-- The portals so far are passed over.
use Rattle.funnel_path.specs.PassedOver.{ArePassed}
use Rattle.funnel_path.proofs.corners.pass_over.Given as goal

abbrev pub invariant-loop-place : goal.invariant-loop-place
invariant-loop-place l = ArePassed l.apex l.portals l.first l.place
