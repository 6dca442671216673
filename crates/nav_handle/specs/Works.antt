-- Works: a tile that is built for a level beside whoever changes it.
use Rattle.std.specs.Prelude.{◌≡◌, ℕ, Bool, false, true, Option, option_map, IfSome}
use Rattle.std.specs.Option.{option_map_or}
use Rattle.std.specs.Arc.{arc_value}
use Rattle.nav_ground.specs.declared.history.Ground.{Ground}
use Rattle.nav_ground.specs.Grounds.{IsGround}
use Rattle.nav_ground.specs.Layers.{layer_of}
use Rattle.mesh_types.specs.declared.mesh.TileMesh.{TileMesh}
use Rattle.build_queue.specs.declared.live.Job.{Job}
use Rattle.build_queue.specs.BookState.{BookState}
use Rattle.build_queue.specs.Steps.{IsJob, next_job}
use Rattle.nav_book.specs.LevelResults.{tile_under}
use Rattle.nav_handle.specs.declared.work.BuildJob.TheInside.{Inside}

-- a job of a ground, and whether its tile is built
pub record Working : Type 0 where
  pub ground : Ground
  pub job : Job
  pub built : Bool

-- a job of a ground before and after its build
abbrev pub begun : Ground → Job → Working
begun ground job = record { ground = ground; job = job; built = false }

abbrev pub built : Working → Working
built work = record work { built = true }

-- the work that a level gives next
abbrev pub next_work : BookState → Option Working
next_work state = option_map (begun state.ground) (next_job state)

-- two grounds are the same as far as a tile goes
pub record AreSameAt (tile : ℕ) (one other : Ground) : Type 0 where
  pub setting : one.setting ≡ other.setting
  pub layer : layer_of one.setting one.field tile ≡ layer_of other.setting other.field tile

-- so is a work's ground to another: a mesh that was built of the one is that of the other
abbrev pub IsOf : Working → Ground → Type 0
IsOf work ground = AreSameAt work.job.tile work.ground ground

-- what a work is seen as, and what it keeps: its mesh is that of its tile under its shapes
abbrev pub working_of : Inside → Working
working_of inside = record {
  ground = arc_value inside.ground;
  job = inside.job;
  built = option_map_or (λ (mesh : TileMesh). true) inside.mesh false;
}

pub record IsWork (inside : Inside) : Type 0 where
  pub ground : IsGround (arc_value inside.ground)
  pub job : IsJob (arc_value inside.ground).setting inside.job
  pub mesh : IfSome inside.mesh (λ (mesh : TileMesh). mesh ≡ tile_under (arc_value inside.ground) inside.job.tile inside.job.shapes)
