-- AllWalls: the walls around a place.
use Rattle.std.specs.Prelude.{◌*◌, ◌<◌, ◌↔◌, List, Contains}
use Rattle.nav_base.specs.Point.{HasCoordinates}
use Rattle.mesh_types.specs.declared.mesh.Mesh.{Mesh}
use Rattle.mesh_types.specs.Places.{IsPlace}
use Rattle.wall_slide.specs.Slides.{whole}
use Rattle.wall_query.specs.declared.questions.Wall.{Wall}
use Rattle.wall_query.specs.declared.questions.WallsAnswer.{WallsAnswer}
use Rattle.wall_query.specs.declared.questions.WallsAnswer.TheVariants.{Walls, NoStart}
use Rattle.wall_query.specs.declared.questions.WallsQuery.{WallsQuery}
use Rattle.wall_query.specs.Around.{IsAround}
use Rattle.wall_query.specs.Lists.{IsInOrder}
use Rattle.wall_query.specs.Walls.{ComesBefore, IsWallWithin}

-- what may be asked of all walls
pub record CanAskWalls (asked : WallsQuery) : Type 0 where
  pub from : HasCoordinates asked.from.point
  pub reach : asked.reach < 262144

-- the walls around a place: exactly those, within the reach, of the polygons around within it, in order
pub record AreWallsAround (mesh : Mesh) (asked : WallsQuery) (walls : List Wall) : Type 0 where
  pub each : (wall : Wall) → Contains walls wall
      ↔ (IsWallWithin mesh asked.areas asked.from.point (whole (asked.reach * asked.reach)) wall
      × IsAround mesh asked.areas asked.from (whole (asked.reach * asked.reach)) wall.polygon)
  pub order : IsInOrder (ComesBefore mesh) walls

-- right answers: those walls, and no start where the start is no place
abbrev pub IsRightWalls : Mesh → WallsQuery → WallsAnswer → Type 0
IsRightWalls mesh asked (Walls walls) = IsPlace mesh asked.from × AreWallsAround mesh asked walls
IsRightWalls mesh asked NoStart = IsPlace mesh asked.from → ⊥
