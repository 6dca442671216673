-- The wedge goes through the portals so far.
use Rattle.funnel_path.specs.Looks.{IsLook}
use Rattle.funnel_path.proofs.funnel.corner_through.Given as goal

abbrev pub invariant-loop-place : goal.invariant-loop-place
invariant-loop-place l = IsLook l.apex l.portals l.ahead l.place l.wedge
