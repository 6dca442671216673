-- The limits of what a ground says: agents, settings and obstacles.
use Rattle.std.specs.Prelude.{◌≡◌, ℕ, ℤ, ◌*◌, ◌<◌, ◌≤◌, Bool, true, IsTrue, nat_le, ◌&&◌, length}
use Rattle.std.specs.List.{list_all}
use Rattle.nav_ground.specs.declared.setting.Agent.{Agent}
use Rattle.nav_ground.specs.declared.setting.Setting.{Setting}
use Rattle.nav_ground.specs.declared.shape.Shape.{Shape}
use Rattle.nav_ground.specs.declared.shape.Shape.TheVariants.{Block, Cylinder, AreaBlock, AreaCylinder, Prism, Disc}
use Rattle.nav_ground.specs.declared.prism.PrismBase.{PrismBase}
use Rattle.nav_ground.specs.Prisms.{IsPrismBase, IsNearPoint}

-- an agent stands 1 to 255 high, steps less than it stands high, and keeps 0 to 15 cells from walls
pub record IsAgent (agent : Agent) : Type 0 where
  pub stands : 1 ≤ agent.height
  pub low_enough : agent.height ≤ 255
  pub climb : agent.climb < agent.height
  pub radius : agent.radius ≤ 15

-- what a unit of way may cost
abbrev pub is_cost : ℕ → Bool
is_cost n = nat_le 1 n && nat_le n 1000

-- a ground has 1 to 1024 columns a side, tiles of 4 to 128 columns a side, an error of 0 to 10000, 1 to 1024 obstacles at once,
-- and 64 areas that cost 1 to 1000 each; where agents keep their radius from obstacles, a tile is at least twice as wide as that
pub record IsSetting (setting : Setting) : Type 0 where
  pub wide : 1 ≤ setting.width
  pub width : setting.width ≤ 1024
  pub deep : 1 ≤ setting.depth
  pub depth : setting.depth ≤ 1024
  pub tile_least : 4 ≤ setting.tile
  pub tile_most : setting.tile ≤ 128
  pub agent : IsAgent setting.agent
  pub error : setting.error ≤ 10000
  pub limit_least : 1 ≤ setting.limit
  pub limit_most : setting.limit ≤ 1024
  pub areas : length setting.costs ≡ 64
  pub costs : IsTrue (list_all is_cost setting.costs)
  pub clear : setting.clear ≡ true → 2 * setting.agent.radius ≤ setting.tile

-- a block's ranges are closed, do not run backwards, and lie in the largest field
pub record IsBox (x0 x1 y0 y1 z0 z1 : ℕ) : Type 0 where
  pub x : x0 ≤ x1
  pub x_most : x1 ≤ 1023
  pub y : y0 ≤ y1
  pub y_most : y1 ≤ 8191
  pub z : z0 ≤ z1
  pub z_most : z1 ≤ 1023

-- a cylinder's centre lies in the largest field, in half cells, its radius is at most 1023 cells, and its heights do not run backwards
pub record IsRound (cx cz r y0 y1 : ℕ) : Type 0 where
  pub cx_most : cx ≤ 2048
  pub cz_most : cz ≤ 2048
  pub r_most : r ≤ 1023
  pub y : y0 ≤ y1
  pub y_most : y1 ≤ 8191

-- a prism's base is one, its heights do not run backwards, and its area is 0, where it stops agents, or one that can be walked on
pub record IsPrism (base : PrismBase) (area y0 y1 : ℕ) : Type 0 where
  pub base_rules : IsPrismBase base
  pub area_most : area ≤ 63
  pub y : y0 ≤ y1
  pub y_most : y1 ≤ 8191

-- a disc's centre lies where a prism's corners may, its radius is 1 to 16384 sixteenths, and the rest is as in a prism
pub record IsDisc (cx cz : ℤ) (r area y0 y1 : ℕ) : Type 0 where
  pub centre : IsNearPoint (record { x = cx; z = cz })
  pub r_least : 1 ≤ r
  pub r_most : r ≤ 16384
  pub area_most : area ≤ 63
  pub y : y0 ≤ y1
  pub y_most : y1 ≤ 8191

-- an area that can be walked on
pub record IsArea (area : ℕ) : Type 0 where
  pub least : 1 ≤ area
  pub most : area ≤ 63

-- an obstacle's numbers are in their limits
abbrev pub IsShape : Shape → Type 0
IsShape (Block x0 x1 y0 y1 z0 z1) = IsBox x0 x1 y0 y1 z0 z1
IsShape (Cylinder cx cz r y0 y1) = IsRound cx cz r y0 y1
IsShape (AreaBlock area x0 x1 y0 y1 z0 z1) = IsArea area × IsBox x0 x1 y0 y1 z0 z1
IsShape (AreaCylinder area cx cz r y0 y1) = IsArea area × IsRound cx cz r y0 y1
IsShape (Prism base area y0 y1) = IsPrism base area y0 y1
IsShape (Disc cx cz r area y0 y1) = IsDisc cx cz r area y0 y1
