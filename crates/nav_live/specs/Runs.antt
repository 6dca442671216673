-- What a run of a live script begins with.
use Rattle.std.specs.Prelude.{◌≡◌, [], replicate, All}
use Rattle.nav_ground.specs.declared.history.Ground.{Ground}
use Rattle.nav_ground.specs.Grounds.{IsGround}
use Rattle.nav_script.specs.declared.script.Script.{Script}
use Rattle.nav_script.specs.declared.script.Way.TheVariants.{Live}
use Rattle.nav_script.specs.Limits.{IsScript}
use Rattle.nav_version.specs.Pairs.{eye_of}
use Rattle.build_queue.specs.BookState.{first_state}
use Rattle.nav_live.specs.LaneSteps.{IsRunnable}
use Rattle.nav_live.specs.declared.run.OpenedRun.{OpenedRun}
use Rattle.nav_live.specs.LaneLines.{lines_by_lane}

-- a run can be made of a ground and a script: the ground keeps the rules, and the script is one for lanes
pub record IsRun (level : Ground) (script : Script) : Type 0 where
  pub rules : IsGround level
  pub live : IsScript Live script

-- a level was opened for the lanes of a script: its book has no history, each lane has an eye that has seen nothing, and the lines that the
-- script deals to it, which it can run
pub record IsOpened (level : Ground) (script : Script) (opened : OpenedRun) : Type 0 where
  pub state : opened.book.state ≡ first_state level
  pub eyes : opened.eyes.items ≡ replicate script.lanes (eye_of opened.book.pair level [])
  pub lists : opened.lists.items ≡ lines_by_lane script
  pub runnable : All (λ list. All IsRunnable list) opened.lists.items
