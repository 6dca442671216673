-- Following: where a walker on a kept path is, by how far it has gone along its line, and which answers to that question are right.
use Rattle.std.specs.Prelude.{◌≡◌, ℕ, ◌+◌, ◌<◌, ◌≤◌, ◌⊎◌, max, min, List, [], ◌∷◌, length, slice_get, slice_range, All, Some, None}
use Rattle.nav_base.specs.declared.point.Point.{Point}
use Rattle.nav_base.specs.Point.{HasCoordinates}
use Rattle.mesh_types.specs.declared.answers.Corner.{Corner}
use Rattle.mesh_types.specs.declared.links.Link.{Link}
use Rattle.mesh_types.specs.declared.links.PolyRef.{PolyRef}
use Rattle.mesh_types.specs.declared.mesh.Mesh.{Mesh}
use Rattle.mesh_types.specs.Corridors.{IsLinkOf}
use Rattle.mesh_types.specs.Rays.{IsHeldAt}
use Rattle.surface_move.specs.Moves.{IsPart, leg_of, nth_polygon}
use Rattle.agent_walks.specs.Marches.{EndsFrom, Stand, over_corners, polygons_of}
use Rattle.path_follow.specs.declared.following.Following.{Following}
use Rattle.path_follow.specs.declared.following.FollowAnswer.{FollowAnswer}
use Rattle.path_follow.specs.declared.following.FollowAnswer.TheVariants.{Walking, Cut, NoStart}

-- a turn of a line lies at coordinates and names one of so many portals
pub record IsTurnOf (count : ℕ) (turn : Corner) : Type 0 where
  pub at : HasCoordinates turn.at
  pub names : turn.portal < count

-- the line's points have coordinates, its turns name portals of its links, the links can be numbered, and no more of them are behind the
-- walker than there are
pub record CanFollow (f : Following) : Type 0 where
  pub from : HasCoordinates f.from
  pub goal : HasCoordinates f.goal
  pub turns : All (IsTurnOf (length f.links)) f.turns
  pub few : length f.links < 4294967295
  pub behind : f.link ≤ length f.links

-- ---- where a walker stands

-- the polygons of the path: the first, and those that its links enter
abbrev pub path_polygons : Following → List PolyRef
path_polygons f = polygons_of f.first f.links

-- where it stands that has gone so far: at the last turn that it passed, or where the line begins; by place no earlier than behind the links that
-- are known to be behind it
abbrev pub standing_on : Following → Stand
standing_on f =
    let stand = over_corners f.from 0 f.far f.turns in
    record stand { place = max stand.place f.link }

-- what it makes for: the next turn, or the goal where none is left
abbrev pub next_on : Point → List Corner → Point
next_on goal [] = goal
next_on goal (turn ∷ more) = turn.at

-- the place of the last polygon on the way there, of a path with so many links
abbrev pub upto_on : ℕ → ℕ → List Corner → ℕ
upto_on count place [] = count
upto_on count place (turn ∷ more) = max place turn.portal

abbrev pub next_point : Following → Point
next_point f = next_on f.goal (standing_on f).left

abbrev pub next_place : Following → ℕ
next_place f = upto_on (length f.links) (standing_on f).place (standing_on f).left

-- ---- which links are looked at

-- the links before this one: those on the way to what it makes for, and as many from where it is as it asks for
abbrev pub looks_to : Following → ℕ
looks_to f = max (next_place f) (min (f.link + f.ahead) (length f.links))

-- the link at a place leads on: it is a link of the mesh that leaves the polygon which the one before it entered
pub record LeadsAt (mesh : Mesh) (f : Following) (place : ℕ) : Type 0 where
  pub link : Link
  pub there : slice_get f.links place ≡ Some link
  pub listed : IsLinkOf mesh link
  pub leaves : link.from ≡ nth_polygon (path_polygons f) place

abbrev pub LeadBefore : Mesh → Following → ℕ → Type 0
LeadBefore mesh f end = (place : ℕ) → f.link ≤ place → place < end → LeadsAt mesh f place

-- the last polygon holds the goal
abbrev pub HoldsGoal : Mesh → Following → Type 0
HoldsGoal mesh f = IsHeldAt mesh f.goal (nth_polygon (path_polygons f) (length f.links))

-- all links that are looked at lead on, and where these are all that are left, the last polygon holds the goal
pub record IsIntact (mesh : Mesh) (f : Following) : Type 0 where
  pub links : LeadBefore mesh f (looks_to f)
  pub goal : looks_to f ≡ length f.links → HoldsGoal mesh f

-- ---- answers

-- it is on its way: at the goal where the length reaches it, else at the end of the part toward what it makes for, over the polygons from its place
-- to there, of as many steps as are left; where there is no such part, at the turn. It is in the polygon that it entered by so many links, which
-- holds the point, on that polygon's least floor
pub record IsOnLine (mesh : Mesh) (f : Following) (at : PolyRef) (point : Point) (y link : ℕ) : Type 0 where
  pub intact : IsIntact mesh f
  pub ends : EndsFrom mesh (path_polygons f) f.goal (standing_on f) (standing_on f).left link point
  pub comes_to : at ≡ nth_polygon (path_polygons f) link
  pub held : IsHeldAt mesh point at
  pub floor : y ≡ held.polygon.low
  pub onward : f.link ≤ link

-- the link at a place is the first of those looked at that leads on no more; or all are looked at and lead on, and the last polygon does not hold
-- the goal
abbrev pub IsCutAt : Mesh → Following → ℕ → Type 0
IsCutAt mesh f place =
    LeadBefore mesh f place
    × (((f.link ≤ place) × (place < looks_to f) × (LeadsAt mesh f place → ⊥))
    ⊎ ((place ≡ length f.links) × (place ≡ looks_to f) × (HoldsGoal mesh f → ⊥)))

-- the polygon at its place does not hold the turn at which it stands, and there is no part toward what it makes for, which the length does not
-- reach
pub record IsLost (mesh : Mesh) (f : Following) : Type 0 where
  pub intact : IsIntact mesh f
  pub beyond : (standing_on f).budget < leg_of (standing_on f).point (next_point f)
  pub no_part : IsPart mesh (slice_range (path_polygons f) (standing_on f).place (next_place f + 1)) (standing_on f).point (next_point f)
      (standing_on f).budget None
  pub not_held : IsHeldAt mesh (standing_on f).point (nth_polygon (path_polygons f) (standing_on f).place) → ⊥

-- an answer to the question where a walker is is right in a mesh
abbrev pub IsFollowed : Following → Mesh → FollowAnswer → Type 0
IsFollowed f mesh (Walking at point y link) = IsOnLine mesh f at point y link
IsFollowed f mesh (Cut link) = IsCutAt mesh f link
IsFollowed f mesh NoStart = IsLost mesh f
