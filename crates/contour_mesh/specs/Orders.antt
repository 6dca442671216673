-- Orders: lists put in order, and the doors by the corners at which they begin.
use Rattle.std.specs.Prelude.{◌≡◌, true, List, All, Bool}
use Rattle.std.specs.List.Sorted.{IsPermutation, IsSortedBy, IsStableBy}
use Rattle.nav_base.specs.Point.{IsCellCorner}
use Rattle.mesh_types.specs.declared.region.PortalEdge.{PortalEdge}
use Rattle.mesh_types.specs.LinkOrder.{is_point_before}
use Rattle.mesh_types.specs.Ears.{is_same_point}
use Rattle.mesh_types.specs.Doors.{are_facing}

-- a list put in order by a test: elements of which neither comes before the other stand as they stood
pub record IsSortOf {X : Type 0} (before : X → X → Bool) (xs sorted : List X) : Type 0 where
  pub rising : IsSortedBy before sorted
  pub stable : IsStableBy before xs sorted
  pub all : IsPermutation xs sorted

-- a door begins before another
abbrev pub door_begins_before : PortalEdge → PortalEdge → Bool
door_begins_before a b = is_point_before a.begin b.begin

-- the doors that a door faces begin where it ends
abbrev pub MeetsFacing : List PortalEdge → PortalEdge → Type 0
MeetsFacing doors door = All (λ (other : PortalEdge). are_facing door other ≡ true → is_same_point other.begin door.end ≡ true) doors

-- a door joins two corners of cells
pub record JoinsCorners (door : PortalEdge) : Type 0 where
  pub begin : IsCellCorner door.begin
  pub end : IsCellCorner door.end
