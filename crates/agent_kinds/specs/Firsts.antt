-- The first kind in which something is found, and steps of one kind.
use Rattle.std.specs.Prelude.{ℕ, zero, suc, ◌+◌, List, [], ◌∷◌, Option, Some, None}
use Rattle.std.specs.Option.{option_map_or}
use Rattle.build_queue.specs.BookState.{BookState, least_awaited, least_claimable}
use Rattle.build_queue.specs.Steps.{next_job}
use Rattle.build_queue.specs.declared.live.Job.{Job}

-- the least kind in which something is found, and what is found there; kinds are counted from a number on
unfoldable pub first_in : {X : Type 0} → (BookState → Option X) → ℕ → List BookState → Option (ℕ × X)
first_in find kind [] = None
first_in find kind (state ∷ more) = option_map_or (λ found. Some (kind, found)) (find state) (first_in find (kind + 1) more)

-- the least kind in which a tile is awaited, and the least such tile
abbrev pub first_awaited : List BookState → Option (ℕ × ℕ)
first_awaited states = first_in least_awaited 0 states

-- the least kind in which a tile can be claimed, and the least such tile
abbrev pub first_claimable : List BookState → Option (ℕ × ℕ)
first_claimable states = first_in least_claimable 0 states

-- the same with the job of that tile
abbrev pub first_job : List BookState → Option (ℕ × Job)
first_job states = first_in next_job 0 states

-- one kind takes a step, and the others stay
unfoldable pub at_kind : ℕ → (BookState → BookState) → List BookState → List BookState
at_kind kind step [] = []
at_kind zero step (state ∷ more) = step state ∷ more
at_kind (suc kind) step (state ∷ more) = state ∷ at_kind kind step more

-- the kind that was found takes a step; nothing changes where none was
abbrev pub at_found : {X : Type 0} → (BookState → BookState) → Option (ℕ × X) → List BookState → List BookState
at_found step found states = option_map_or (λ first. at_kind first.0 step states) found states
