-- Marches: where a march ends that follows a corridor and a taut line through it for a length.
use Rattle.std.specs.Prelude.{◌≡◌, ℕ, ◌+◌, ◌-◌, max, nat_le, if◌then◌else◌, List, [], ◌∷◌, length, map, drop, slice_range, Option, Some, MatchBool}
use Rattle.std.specs.Option.{option_map_or}
use Rattle.nav_base.specs.declared.point.Point.{Point}
use Rattle.mesh_types.specs.declared.answers.Corner.{Corner}
use Rattle.mesh_types.specs.declared.answers.Corridor.{Corridor}
use Rattle.mesh_types.specs.declared.links.Link.{Link}
use Rattle.mesh_types.specs.declared.links.PolyRef.{PolyRef}
use Rattle.mesh_types.specs.declared.mesh.Mesh.{Mesh}
use Rattle.mesh_types.specs.declared.polygon.Polygon.{Polygon}
use Rattle.mesh_types.specs.Corridors.{cost_of, IsCheapest}
use Rattle.mesh_types.specs.Located.{IsLocated}
use Rattle.mesh_types.specs.Right.{portals_of, IsNowhere, HasNoGoal, HasNoPath}
use Rattle.mesh_types.specs.Taut.{IsTaut}
use Rattle.mesh_types.specs.WholeMesh.{poly_at}
use Rattle.surface_move.specs.declared.parts.PartEnd.{PartEnd}
use Rattle.surface_move.specs.Moves.{leg_of, nth_polygon, IsPart}
use Rattle.mesh_types.specs.declared.answers.WalkAnswer.{WalkAnswer}
use Rattle.mesh_types.specs.declared.answers.WalkAnswer.TheVariants.{Walking, NoStart, NoGoal, NoPath}

-- where a walker stands on its way: its point, the place of its polygon among the corridor's, how far it may still go, and the corners that are
-- left
pub record Stand : Type 0 where
  pub point : Point
  pub place : ℕ
  pub budget : ℕ
  pub left : List Corner

-- it goes from corner to corner as long as the budget reaches; a corner that names portal p is held by the polygon at place p + 1
abbrev pub over_corners : Point → ℕ → ℕ → List Corner → Stand
over_corners point place budget [] = record { point = point; place = place; budget = budget; left = [] }
over_corners point place budget (corner ∷ more) =
    if nat_le (leg_of point corner.at) budget
    then over_corners corner.at (max place (corner.portal + 1)) (budget - leg_of point corner.at) more
    else record { point = point; place = place; budget = budget; left = corner ∷ more }

-- the polygons of a corridor: the first, and those that its links enter
abbrev pub polygons_of : PolyRef → List Link → List PolyRef
polygons_of first links = first ∷ map (λ (link : Link). link.to) links

-- it takes a part toward a point, over the polygons from its place up to another, and stays where there is none
pub record TakesPart (mesh : Mesh) (polys : List PolyRef) (from : Point) (place budget : ℕ) (toward : Point) (upto to : ℕ) (end : Point) : Type 0 where
  pub part : Option PartEnd
  pub is : IsPart mesh (slice_range polys place (upto + 1)) from toward budget part
  pub comes_to : to ≡ place + option_map_or (λ (p : PartEnd). p.place) part 0
  pub ends_at : end ≡ option_map_or (λ (p : PartEnd). p.at) part from

-- it ends at the goal where the budget reaches it, else with a part toward the next corner or toward the goal
abbrev pub EndsFrom : Mesh → List PolyRef → Point → Stand → List Corner → ℕ → Point → Type 0
EndsFrom mesh polys goal stand [] place end =
    MatchBool (nat_le (leg_of stand.point goal) stand.budget) ((place ≡ length polys - 1) × (end ≡ goal))
    (TakesPart mesh polys stand.point stand.place stand.budget goal (length polys - 1) place end)
EndsFrom mesh polys goal stand (corner ∷ more) place end =
    TakesPart mesh polys stand.point stand.place stand.budget corner.at (max stand.place corner.portal) place end

-- a march from a point toward a goal, for a length: along some corridor of least cost, and some taut line through it. The answer has the polygon at
-- which it ends, the point, the polygon's least floor, and the links that are left, with their cost
pub record IsMarch (mesh : Mesh) (point : Point) (y : ℕ) (goal : Point) (goal_y far : ℕ) (at : PolyRef) (end : Point) (low cost : ℕ) (links : List Link)
    : Type 0 where
  pub first : PolyRef
  pub start : IsLocated mesh point y first
  pub last : PolyRef
  pub reaches : IsLocated mesh goal goal_y last
  pub corridor : Corridor
  pub cheapest : IsCheapest mesh first last corridor
  pub corners : List Corner
  pub taut : IsTaut point (portals_of corridor.links) goal corners
  pub place : ℕ
  pub ends : EndsFrom mesh (polygons_of first corridor.links) goal (over_corners point 0 far corners) (over_corners point 0 far corners).left place end
  pub comes_to : at ≡ nth_polygon (polygons_of first corridor.links) place
  pub polygon : Polygon
  pub there : poly_at mesh at ≡ Some polygon
  pub floor : low ≡ polygon.low
  pub rest : links ≡ drop place corridor.links
  pub adds_up : cost ≡ cost_of mesh links

-- the answer to a march: exactly as to the question for a path that there is no start, no goal or no way, else where a march ends
abbrev pub IsMarched : Mesh → Point → ℕ → Point → ℕ → ℕ → WalkAnswer → Type 0
IsMarched mesh point y goal goal_y far NoStart = IsNowhere mesh point y
IsMarched mesh point y goal goal_y far NoGoal = HasNoGoal mesh point y goal goal_y
IsMarched mesh point y goal goal_y far NoPath = HasNoPath mesh point y goal goal_y
IsMarched mesh point y goal goal_y far (Walking at end low cost links) = IsMarch mesh point y goal goal_y far at end low cost links

-- a walker is placed where it is sent from: in the polygon that locates the place, at the point, on the polygon's least floor, with a corridor
-- from there to the polygon that locates the goal, of the cost that it says
pub record IsPlaced (mesh : Mesh) (from : Point) (from_y : ℕ) (to : Point) (to_y : ℕ) (at : PolyRef) (point : Point) (low cost : ℕ) (links : List Link)
    : Type 0 where
  pub start : IsLocated mesh from from_y at
  pub last : PolyRef
  pub goal : IsLocated mesh to to_y last
  pub cheapest : IsCheapest mesh at last (record { cost = cost; links = links })
  pub stands : point ≡ from
  pub polygon : Polygon
  pub there : poly_at mesh at ≡ Some polygon
  pub floor : low ≡ polygon.low

-- the answer to a send
abbrev pub IsSent : Mesh → Point → ℕ → Point → ℕ → WalkAnswer → Type 0
IsSent mesh from from_y to to_y NoStart = IsNowhere mesh from from_y
IsSent mesh from from_y to to_y NoGoal = HasNoGoal mesh from from_y to to_y
IsSent mesh from from_y to to_y NoPath = HasNoPath mesh from from_y to to_y
IsSent mesh from from_y to to_y (Walking at point low cost links) = IsPlaced mesh from from_y to to_y at point low cost links
