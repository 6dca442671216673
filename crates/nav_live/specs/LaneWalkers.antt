-- The walker of a lane: where its lines place it, and what those that send it or let it march may be told.
use Rattle.std.specs.Prelude.{◌≡◌, ℕ, ⊤, List, [], ◌∷◌, fold, Option, Some, None, option_and_then}
use Rattle.nav_base.specs.declared.point.Point.{Point}
use Rattle.nav_ground.specs.declared.history.Entry.{Entry}
use Rattle.nav_ground.specs.declared.history.Ground.{Ground}
use Rattle.mesh_types.specs.declared.links.PolyRef.{PolyRef}
use Rattle.mesh_types.specs.declared.polygon.Polygon.{Polygon}
use Rattle.mesh_types.specs.declared.answers.WalkAnswer.{WalkAnswer}
use Rattle.mesh_types.specs.declared.answers.WalkAnswer.TheVariants.{Walking}
use Rattle.mesh_types.specs.Builds.{build_of}
use Rattle.mesh_types.specs.WholeMesh.{poly_at}
use Rattle.agent_walks.specs.Marches.{IsMarched, IsSent}
use Rattle.nav_script.specs.declared.script.Line.{Line}
use Rattle.nav_script.specs.declared.script.Line.TheVariants.{Send, March}
use Rattle.nav_live.specs.declared.lane.LineAnswer.{LineAnswer}
use Rattle.nav_live.specs.declared.lane.LineAnswer.TheVariants.{Walked, NoWalker}
use Rattle.nav_live.specs.LaneEntries.{Spoken}

-- a lane's walker between two of its lines: the length that its last lines name, the polygon and the point where they place it, and its goal
pub record Standing : Type 0 where
  pub k : ℕ
  pub at : PolyRef
  pub point : Point
  pub goal : Point
  pub goal_y : ℕ

-- the walker after an answer: there is one exactly where the answer is that it walks
abbrev pub standing_of : ℕ → Point → ℕ → WalkAnswer → Option Standing
standing_of k goal goal_y (Walking at point y cost links) = Some (record { k = k; at = at; point = point; goal = goal; goal_y = goal_y })
standing_of k goal goal_y _ = None

-- the walker after a line: a `send` places one or takes it away, a `march` moves it on to the same goal or takes it away, and every other line
-- leaves it
abbrev pub standing_after : Option Standing → Line → LineAnswer → Option Standing
standing_after standing (Send from from_y to to_y) (Walked k answer) = standing_of k to to_y answer
standing_after standing (March far) (Walked k answer) = option_and_then (λ (s : Standing). standing_of k s.goal s.goal_y answer) standing
standing_after standing _ _ = standing

-- the walker after a line with what it was told, and after all lines of a lane, the first of which finds none
abbrev pub standing_with : Option Standing → Spoken → Option Standing
standing_with standing one = standing_after standing one.0 one.1

abbrev pub last_standing : List Spoken → Option Standing
last_standing spoken = fold standing_with None spoken

module _ (ground : Ground) (history : List Entry) where
  -- a `send` is answered as it is right in the ground with the obstacles that the first k entries leave
  abbrev pub IsSentTo : Point → ℕ → Point → ℕ → LineAnswer → Type 0
  IsSentTo from from_y to to_y (Walked k answer) = IsSent (build_of ground history k) from from_y to to_y answer
  IsSentTo from from_y to to_y _ = ⊥

  -- a march of a walker is answered as it is right there, from the point that the walker's last lines print. The height is the least floor of the
  -- polygon that they name, in the mesh of the length that they name
  pub record IsMarchOf (standing : Standing) (far k : ℕ) (answer : WalkAnswer) : Type 0 where
    pub polygon : Polygon
    pub there : poly_at (build_of ground history standing.k) standing.at ≡ Some polygon
    pub marched : IsMarched (build_of ground history k) standing.point polygon.low standing.goal standing.goal_y far answer

  -- a march without a walker is told that there is none, and no other is
  abbrev pub IsMarchTold : ℕ → Option Standing → LineAnswer → Type 0
  IsMarchTold far (Some standing) (Walked k answer) = IsMarchOf standing far k answer
  IsMarchTold far None NoWalker = ⊤
  IsMarchTold far _ _ = ⊥

  -- what a line of a walker may be told, given the walker before it
  abbrev pub IsMoved : Option Standing → Line → LineAnswer → Type 0
  IsMoved standing (Send from from_y to to_y) said = IsSentTo from from_y to to_y said
  IsMoved standing (March far) said = IsMarchTold far standing said
  IsMoved standing _ said = ⊤

  -- the lines of a lane, one after another, where the first finds this walker
  abbrev pub AreMoved : Option Standing → List Spoken → Type 0
  AreMoved standing [] = ⊤
  AreMoved standing (one ∷ more) = IsMoved standing one.0 one.1 × AreMoved (standing_with standing one) more
