-- Right: which answers to a question are right in a mesh. The kind of a right answer is determined by the question, and so are its floors,
-- its first polygon and its cost; of several corridors of least cost, and of several taut lines through one, any is right. To a question for a
-- ray one answer alone is right.
use Rattle.std.specs.Prelude.{◌≡◌, ℕ, List, map, ⊤}
use Rattle.nav_base.specs.declared.point.Point.{Point}
use Rattle.nav_base.specs.declared.point.Question.{Question}
use Rattle.nav_base.specs.declared.point.Question.TheVariants as questions
use Rattle.mesh_types.specs.declared.answers.Answer.{Answer}
use Rattle.mesh_types.specs.declared.answers.Answer.TheVariants.{Floors, Path, NoStart, NoGoal, NoPath, Reached, Wall}
use Rattle.mesh_types.specs.declared.answers.PathFound.{PathFound}
use Rattle.mesh_types.specs.declared.answers.RayAnswer.{RayAnswer}
use Rattle.mesh_types.specs.declared.answers.RayAnswer.TheVariants as rays
use Rattle.mesh_types.specs.declared.links.Link.{Link}
use Rattle.mesh_types.specs.declared.links.PolyRef.{PolyRef}
use Rattle.mesh_types.specs.declared.links.Portal.{Portal}
use Rattle.mesh_types.specs.declared.mesh.Mesh.{Mesh}
use Rattle.mesh_types.specs.declared.mesh.TileMesh.{TileMesh}
use Rattle.mesh_types.specs.Corridors.{WalksTo, IsCheapest}
use Rattle.mesh_types.specs.Floors.{floors_at}
use Rattle.mesh_types.specs.Located.{HoldsAt, IsLocated}
use Rattle.mesh_types.specs.Rays.{IsRayWalk}
use Rattle.mesh_types.specs.Taut.{IsTaut}

-- the portals of a walk, one for each link
abbrev pub portals_of : List Link → List Portal
portals_of links = map (λ (link : Link). link.portal) links

-- no polygon holds a point at a height
abbrev pub IsNowhere : Mesh → Point → ℕ → Type 0
IsNowhere mesh p y = (at : PolyRef) → HoldsAt mesh p y at → ⊥

-- the start is held, and the goal is not
pub record HasNoGoal (mesh : Mesh) (from : Point) (from_y : ℕ) (to : Point) (to_y : ℕ) : Type 0 where
  pub first : PolyRef
  pub start : IsLocated mesh from from_y first
  pub no_goal : IsNowhere mesh to to_y

-- both are held, and no walk leads from the polygon that locates the one to the polygon that locates the other
pub record HasNoPath (mesh : Mesh) (from : Point) (from_y : ℕ) (to : Point) (to_y : ℕ) : Type 0 where
  pub first : PolyRef
  pub start : IsLocated mesh from from_y first
  pub last : PolyRef
  pub goal : IsLocated mesh to to_y last
  pub no_walk : (links : List Link) → WalksTo mesh first links last → ⊥

-- a path begins in the polygon that locates the start; its links are a corridor from there to the polygon that locates the goal, of the cost
-- that it says, and its line is taut in the portals of those links
pub record IsPath (mesh : Mesh) (from : Point) (from_y : ℕ) (to : Point) (to_y : ℕ) (found : PathFound) : Type 0 where
  pub start : IsLocated mesh from from_y found.first
  pub last : PolyRef
  pub goal : IsLocated mesh to to_y last
  pub cheapest : IsCheapest mesh found.first last (record { cost = found.cost; links = found.links })
  pub taut : IsTaut from (portals_of found.links) to found.turns

-- right answers to the question for a path
abbrev pub IsRightPath : Mesh → Point → ℕ → Point → ℕ → Answer → Type 0
IsRightPath mesh from from_y to to_y NoStart = IsNowhere mesh from from_y
IsRightPath mesh from from_y to to_y NoGoal = HasNoGoal mesh from from_y to to_y
IsRightPath mesh from from_y to to_y NoPath = HasNoPath mesh from from_y to to_y
IsRightPath mesh from from_y to to_y (Path found) = IsPath mesh from from_y to to_y found
IsRightPath mesh from from_y to to_y _ = ⊥

-- right answers to the question for the floors of a column: those of its free cells
abbrev pub IsRightFloors : Mesh → ℕ → ℕ → Answer → Type 0
IsRightFloors mesh x z (Floors floors) = floors ≡ floors_at x z (map (λ (tile : TileMesh). tile.free) mesh.tiles)
IsRightFloors mesh x z _ = ⊥

-- the start is held, and the ray walk begun in the polygon that locates it ends with this answer
pub record IsRay (mesh : Mesh) (from : Point) (from_y : ℕ) (to : Point) (answer : RayAnswer) : Type 0 where
  pub first : PolyRef
  pub start : IsLocated mesh from from_y first
  pub walk : IsRayWalk mesh first from to answer

-- right answers to the question for a ray
abbrev pub IsRightRay : Mesh → Point → ℕ → Point → Answer → Type 0
IsRightRay mesh from from_y to NoStart = IsNowhere mesh from from_y
IsRightRay mesh from from_y to (Reached at) = IsRay mesh from from_y to (rays.Reached at)
IsRightRay mesh from from_y to (Wall a b num den) = IsRay mesh from from_y to (rays.Wall a b num den)
IsRightRay mesh from from_y to _ = ⊥

-- an answer to a question is right in a mesh
abbrev pub IsRight : Mesh → Question → Answer → Type 0
IsRight mesh (questions.Floor x z) answer = IsRightFloors mesh x z answer
IsRight mesh (questions.Path from from_y to to_y) answer = IsRightPath mesh from from_y to to_y answer
IsRight mesh (questions.Ray from from_y to) answer = IsRightRay mesh from from_y to answer

-- two answers are alike: of one kind, with the same floors, or the same first polygon and the same cost, or in all parts
abbrev pub AreAlike : Answer → Answer → Type 0
AreAlike (Floors a) (Floors b) = a ≡ b
AreAlike (Path a) (Path b) = (a.first ≡ b.first) × (a.cost ≡ b.cost)
AreAlike NoStart NoStart = ⊤
AreAlike NoGoal NoGoal = ⊤
AreAlike NoPath NoPath = ⊤
AreAlike (Reached a) (Reached b) = a ≡ b
AreAlike (Wall a b m n) (Wall a' b' m' n') = (a ≡ a') × (b ≡ b') × (m ≡ m') × (n ≡ n')
AreAlike _ _ = ⊥
