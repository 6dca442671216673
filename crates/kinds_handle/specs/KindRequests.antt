-- Requests of kinds over the border: one entry of all of them, with one number and one answer.
use Rattle.std.specs.Prelude.{◌≡◌, ℕ, List, map, Option, Some, None, Result, Ok, Err, All}
use Rattle.nav_ground.specs.declared.history.Reply.{Reply}
use Rattle.nav_ground.specs.declared.history.Reply.TheVariants.{Added, Removed, Full, Dead}
use Rattle.nav_ground.specs.declared.history.Request.{Request}
use Rattle.nav_ground.specs.declared.history.Request.TheVariants.{Add}
use Rattle.nav_ground.specs.declared.shape.Shape.{Shape}
use Rattle.nav_ground.specs.Limits.{IsShape}
use Rattle.build_queue.specs.declared.live.HistoryFull.{HistoryFull}
use Rattle.build_queue.specs.BookState.{BookState}
use Rattle.build_queue.specs.Steps.{request_answer, requested}
use Rattle.nav_handle.specs.Statuses as status

-- how an entry with a reply ends
abbrev pub reply_status : Reply → ℕ
reply_status (Added number) = status.ok
reply_status Removed = status.ok
reply_status (Full live) = status.too_many
reply_status (Dead number) = status.dead

-- how a request that has an answer ends, and the number of the entry that it made, from 1; 0 where it made none
abbrev pub answer_status : Result (ℕ × Reply) HistoryFull → ℕ
answer_status (Ok told) = reply_status told.1
answer_status (Err full) = status.history_full

abbrev pub entry_told : Result (ℕ × Reply) HistoryFull → ℕ
entry_told (Ok told) = told.0
entry_told (Err full) = 0

-- what the request leaves: requests over the border are of lane 0
abbrev pub states_requested : List BookState → Request → List BookState
states_requested states request = map (λ (state : BookState). requested state 0 request) states

-- a request of kinds ends as in each kind, with the number of the entry that it makes in each
pub record IsAnswered (states : List BookState) (request : Request) (ended made : ℕ) : Type 0 where
  pub status : All (λ (state : BookState). ended ≡ answer_status (request_answer state request)) states
  pub entry : All (λ (state : BookState). made ≡ entry_told (request_answer state request)) states

-- a request of what a handle holds
abbrev pub IsKindsRequested : Option (List BookState) → Option (List BookState) → Request → ℕ → ℕ → Type 0
IsKindsRequested None after request ended made = (ended ≡ status.empty) × (made ≡ 0) × (after ≡ None)
IsKindsRequested (Some states) after request ended made = IsAnswered states request ended made × (after ≡ Some (states_requested states request))

-- an obstacle was to be added: where its numbers are in their limits it was asked for; else nothing was done
pub record IsKindsAddAsked (before after : Option (List BookState)) (shape : Shape) (ended made : ℕ) : Type 0 where
  pub asked : IsShape shape → IsKindsRequested before after (Add shape) ended made
  pub refused : (IsShape shape → ⊥) → (ended ≡ status.out_of_range) × (made ≡ 0) × (after ≡ before)
