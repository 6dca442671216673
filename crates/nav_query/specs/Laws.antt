-- Laws of right answers, whoever gives them.
use Rattle.std.specs.Prelude.{ℕ, List, [], All, ⊤}
use Rattle.nav_base.specs.declared.point.Point.{Point}
use Rattle.nav_base.specs.declared.point.Question.{Question}
use Rattle.nav_ground.specs.declared.history.Entry.{Entry}
use Rattle.nav_ground.specs.declared.history.Ground.{Ground}
use Rattle.nav_ground.specs.Grounds.{IsGround}
use Rattle.nav_ground.specs.History.{IsRequest}
use Rattle.mesh_types.specs.declared.answers.Answer.{Answer}
use Rattle.mesh_types.specs.declared.answers.HopAnswer.{HopAnswer}
use Rattle.mesh_types.specs.declared.answers.HopAnswer.TheVariants.{Found, NoStart, NoGoal, NoPath}
use Rattle.mesh_types.specs.declared.answers.Jump.{Jump}
use Rattle.mesh_types.specs.declared.mesh.Mesh.{Mesh}
use Rattle.mesh_types.specs.Builds.{build_of}
use Rattle.mesh_types.specs.Folds.{IsUnfolded}
use Rattle.mesh_types.specs.Hops.{IsHopRight}
use Rattle.mesh_types.specs.Right.{IsRight, portals_of}
use Rattle.mesh_types.specs.Stretches.{Stretch, stretches_from}
use Rattle.nav_query.specs.Questions.{HasUnfoldedWay}

-- something holds of the mesh of every history and length, where the ground keeps the rules of grounds and each request of the history may be
-- asked: a shape that is added is within its limits
abbrev pub HoldsOfBuilds : (Mesh → Type 0) → Type 0
HoldsOfBuilds P =
    (ground : Ground) (history : List Entry) (k : ℕ) → IsGround ground → All (λ (entry : Entry). IsRequest entry.request) history → P (build_of ground history k)

-- the way of each right answer is unfolded
abbrev pub HasUnfoldedPaths : Mesh → Type 0
HasUnfoldedPaths mesh = (question : Question) (answer : Answer) → IsRight mesh question answer → HasUnfoldedWay answer

-- in no stretch of a hop walk that was found does a portal fold back on the one before it. Over a jump there is no fold, since it has no portal
abbrev pub HasUnfoldedStretches : List Jump → Point → Point → HopAnswer → Type 0
HasUnfoldedStretches jumps from to (Found found) =
    All (λ (stretch : Stretch). IsUnfolded (portals_of stretch.links)) (stretches_from jumps to from 0 [] found.steps)
HasUnfoldedStretches jumps from to NoStart = ⊤
HasUnfoldedStretches jumps from to NoGoal = ⊤
HasUnfoldedStretches jumps from to NoPath = ⊤

-- the stretches of each right hop answer are unfolded
abbrev pub HasUnfoldedHops : Mesh → Type 0
HasUnfoldedHops mesh =
    (jumps : List Jump) (from : Point) (from_y : ℕ) (to : Point) (to_y : ℕ) (answer : HopAnswer) → IsHopRight mesh jumps from from_y to to_y answer
    → HasUnfoldedStretches jumps from to answer
