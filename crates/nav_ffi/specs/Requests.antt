-- Requests over the border: how they end, which entry they make, and what the handle holds then.
use Rattle.std.specs.Prelude.{◌≡◌, ℕ, ◌+◌, if◌then◌else◌, length, Option, Some, None, option_map}
use Rattle.nav_ground.specs.declared.history.Request.{Request}
use Rattle.nav_ground.specs.declared.history.Request.TheVariants.{Add}
use Rattle.nav_ground.specs.declared.shape.Shape.{Shape}
use Rattle.nav_ground.specs.Limits.{IsShape}
use Rattle.build_queue.specs.BookState.{BookState}
use Rattle.build_queue.specs.Steps.{is_full, next_reply, requested}
use Rattle.nav_handle.specs.Statuses as status
use Rattle.kinds_handle.specs.KindRequests.{reply_status}

-- how a request of what a handle holds ends
abbrev pub request_status : Option BookState → Request → ℕ
request_status None request = status.empty
request_status (Some state) request = if is_full state then status.history_full else reply_status (next_reply state request)

-- the number of the entry that it makes, from 1; 0 where it makes none
abbrev pub entry_made : Option BookState → ℕ
entry_made None = 0
entry_made (Some state) = if is_full state then 0 else length state.history + 1

-- what the handle holds then: requests over the border are of lane 0
abbrev pub held_requested : Option BookState → Request → Option BookState
held_requested held request = option_map (λ (state : BookState). requested state 0 request) held

-- a request of what a handle held came to an end, and made an entry or none
pub record IsRequested (before after : Option BookState) (request : Request) (ended made : ℕ) : Type 0 where
  pub status : ended ≡ request_status before request
  pub entry : made ≡ entry_made before
  pub held : after ≡ held_requested before request

-- an obstacle was to be added: where its numbers are in their limits it was asked for; else nothing was done
pub record IsAddAsked (before after : Option BookState) (shape : Shape) (ended made : ℕ) : Type 0 where
  pub asked : IsShape shape → IsRequested before after (Add shape) ended made
  pub refused : (IsShape shape → ⊥) → (ended ≡ status.out_of_range) × (made ≡ 0) × (after ≡ before)
