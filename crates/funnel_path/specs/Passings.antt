-- The portals that are passed over: where the passing ends.
use Rattle.std.specs.Prelude.{ℕ, ◌⊎◌, List, length}
use Rattle.nav_base.specs.declared.point.Point.{Point}
use Rattle.mesh_types.specs.declared.links.Portal.{Portal}
use Rattle.funnel_path.specs.declared.corners.Passing.{Passing}
use Rattle.funnel_path.specs.declared.corners.Passing.TheVariants.{Done, Behind, SteppedNumber}
use Rattle.funnel_path.specs.PassedOver.{ArePassed}
use Rattle.funnel_path.specs.NextCorners.{IsAheadOf, IsNear, IsTurnedBack}

-- the apex lies inside all portals that are left, or behind the portal at a place, or there is a corner at once
abbrev pub IsPassing : Point → List Portal → ℕ → Passing → Type 0
IsPassing apex portals first Done = ArePassed apex portals first (length portals)
IsPassing apex portals first (Behind place) = IsAheadOf apex portals first place
IsPassing apex portals first (SteppedNumber corner) = IsNear apex portals first corner ⊎ IsTurnedBack apex portals first corner
