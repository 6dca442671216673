-- The made script: 64 rounds on one lane with one worker. Each adds an obstacle, has its tiles built, publishes them, and asks for a path.
use Rattle.std.specs.Prelude.{ℕ, ◌+◌, ◌-◌, ◌*◌, ◌%◌, nat_lt, if◌then◌else◌, List, [], ◌∷◌, ◌++◌, flat_map, pos}
use Rattle.std.specs.List.{range_with_len}
use Rattle.nav_base.specs.declared.point.Point.{Point}
use Rattle.nav_base.specs.declared.point.Question.{Question}
use Rattle.nav_base.specs.declared.point.Question.TheVariants.{Path}
use Rattle.nav_ground.specs.declared.shape.Shape.{Shape}
use Rattle.nav_ground.specs.declared.shape.Shape.TheVariants.{Cylinder}
use Rattle.nav_script.specs.declared.script.Line.{Line}
use Rattle.nav_script.specs.declared.script.Line.TheVariants.{Ask, Add, Undo, Aim, Claim, Submit, Publish}
use Rattle.nav_script.specs.declared.script.Script.{Script}
use Rattle.nav_gen.specs.Draws.{state_after, draw}

-- an obstacle from three draws: a cylinder whose centre lies in the field, in half cells, of a radius of at most 7 cells
abbrev pub made_shape : (state size : ℕ) → Shape
made_shape state size = Cylinder (draw state 0 % (2 * size + 1)) (draw state 1 % (2 * size + 1)) (draw state 2 % 8) 0 100

-- a point of the field from two draws, in sixteenths of a cell
abbrev pub made_point : (state size : ℕ) → Point
made_point state size = record { x = pos (draw state 0 % (16 * size)); z = pos (draw state 1 % (16 * size)) }

-- a question from four draws: the path from one point at height 10 to another
abbrev pub made_question : (state size : ℕ) → Question
made_question state size = Path (made_point state size) 10 (made_point (state_after state 2) size) 10

-- from the ninth round on, the obstacle goes that was added eight rounds before
abbrev pub made_drop : ℕ → List Line
made_drop before = if nat_lt 7 before then Undo (before - 7) ∷ [] else []

-- the one worker builds up to eight tiles, and what it built is published
unfoldable pub made_builds : List Line
made_builds = Aim ∷ flat_map (λ (turn : ℕ). Claim 0 ∷ Submit 0 ∷ []) (range_with_len 0 8) ++ (Publish ∷ [])

-- the round with so many rounds before it, from the state before its seven draws on
unfoldable pub made_round : (state size before : ℕ) → List Line
made_round state size before = Add (made_shape state size) ∷ made_drop before ++ (made_builds ++ (Ask (made_question (state_after state 3) size) ∷ []))

-- the 64 rounds, from the state before their draws on
unfoldable pub made_rounds : (state size : ℕ) → List Line
made_rounds state size = flat_map (λ before. made_round (state_after state (7 * before)) size before) (range_with_len 0 64)

-- the script that a number and a size determine; its draws follow those of the level
abbrev pub made_script : (number size : ℕ) → Script
made_script number size = record { lanes = 1; workers = 1; lines = made_rounds (state_after number (size * size)) size }
