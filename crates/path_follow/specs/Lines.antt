-- Lines: what the walk along a line keeps.
use Rattle.std.specs.Prelude.{◌≡◌, ℕ, ◌<◌, ◌≤◌, List, length, drop, slice_index_or, Some}
use Rattle.nav_base.specs.declared.point.Point.{Point}
use Rattle.nav_base.specs.Point.{HasCoordinates}
use Rattle.mesh_types.specs.declared.answers.Corner.{Corner}
use Rattle.mesh_types.specs.declared.links.PolyRef.{PolyRef}
use Rattle.mesh_types.specs.declared.mesh.Mesh.{Mesh}
use Rattle.mesh_types.specs.declared.polygon.Polygon.{Polygon}
use Rattle.mesh_types.specs.Bends.{some_corner}
use Rattle.mesh_types.specs.WholeMesh.{poly_at}
use Rattle.surface_move.specs.Moves.{IsThere, leg_of, nth_polygon}
use Rattle.agent_walks.specs.Marches.{Stand}
use Rattle.path_follow.specs.declared.following.Following.{Following}
use Rattle.path_follow.specs.declared.following.FollowAnswer.{FollowAnswer}
use Rattle.path_follow.specs.declared.following.FollowAnswer.TheVariants.{Walking}
use Rattle.path_follow.specs.declared.lines.NextPoint.{NextPoint}
use Rattle.path_follow.specs.declared.lines.Standing.{Standing}
use Rattle.path_follow.specs.Following.{next_place, next_point, path_polygons, standing_on}

-- where the code says that a walker stands before turns, as the definition sees it
abbrev pub stand_of : List Corner → Standing → Stand
stand_of turns standing = record { point = standing.point; place = standing.place; budget = standing.budget; left = drop standing.passed turns }

-- the length does not reach the next turn, where one is left
abbrev pub IsShort : List Corner → Standing → Type 0
IsShort turns standing =
    standing.passed < length turns → standing.budget < leg_of standing.point (slice_index_or turns standing.passed some_corner).at

-- where a walker stands, by the definition; within the path, at coordinates
pub record IsStanding (f : Following) (standing : Standing) : Type 0 where
  pub is : stand_of f.turns standing ≡ standing_on f
  pub short : IsShort f.turns standing
  pub at : HasCoordinates standing.point
  pub within : standing.place ≤ length f.links

-- what it makes for, and up to which polygon
pub record IsNext (f : Following) (standing : Standing) (next : NextPoint) : Type 0 where
  pub point : next.point ≡ next_point f
  pub upto : next.upto ≡ next_place f
  pub at : HasCoordinates next.point
  pub onward : standing.place ≤ next.upto
  pub within : next.upto ≤ length f.links

-- an answer tells a point of the polygon at a place of the path
abbrev pub IsToldAt : Mesh → Following → Point → ℕ → FollowAnswer → Type 0
IsToldAt mesh f point place answer =
    (polygon : Polygon) → poly_at mesh (nth_polygon (path_polygons f) place) ≡ Some polygon
    → answer ≡ Walking (nth_polygon (path_polygons f) place) point polygon.low place

-- the polygons but the first are there, and so is the first where it is not alone
pub record AreAhead (mesh : Mesh) (polys : List PolyRef) : Type 0 where
  pub some : 0 < length polys
  pub few : length polys ≤ 4294967295
  pub later : (k : ℕ) → 0 < k → k < length polys → IsThere mesh (nth_polygon polys k)
  pub first : 1 < length polys → IsThere mesh (nth_polygon polys 0)
