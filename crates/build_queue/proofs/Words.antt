-- Words: short names for parts of definitions, for proofs alone. Each is the same as the text that the definitions say in full.
use Rattle.std.specs.Prelude.{ℕ, List, [], slice_index_or}
use Rattle.nav_ground.specs.declared.shape.Shape.{Shape}
use Rattle.build_queue.specs.declared.live.Job.{Job}
use Rattle.build_queue.specs.BookState.{BookState, wanted_at}

-- the stored list of a tile
abbrev pub stored_at : BookState → ℕ → List Shape
stored_at state tile = slice_index_or state.stored tile []

-- the job of a tile
abbrev pub job_of : BookState → ℕ → Job
job_of state tile = record { tile = tile; shapes = wanted_at state tile }
