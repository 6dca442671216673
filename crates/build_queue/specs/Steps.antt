-- The steps of a book: what each is answered, and the state after it. What a step does not name stays.
use Rattle.std.specs.Prelude.{ℕ, ◌+◌, ◌<◌, Bool, true, false, ◌&&◌, ◌==◌, if◌then◌else◌, List, [], ◌∷◌, ◌++◌, length, replicate, slice_set, Option, Some, None, option_map, Result, Ok, Err, All}
use Rattle.std.specs.Option.{option_map_or}
use Rattle.nav_ground.specs.declared.history.Reply.{Reply}
use Rattle.nav_ground.specs.declared.history.Request.{Request}
use Rattle.nav_ground.specs.declared.setting.Setting.{Setting}
use Rattle.nav_ground.specs.declared.shape.Shape.{Shape}
use Rattle.nav_ground.specs.History.{reply_to, history_limit}
use Rattle.nav_ground.specs.Limits.{IsShape}
use Rattle.nav_ground.specs.Tiling.{tile_count}
use Rattle.build_queue.specs.declared.live.HistoryFull.{HistoryFull}
use Rattle.build_queue.specs.declared.live.Job.{Job}
use Rattle.build_queue.specs.declared.live.Published.{Published}
use Rattle.build_queue.specs.declared.live.Published.TheVariants.{New, Same, NotYet}
use Rattle.build_queue.specs.declared.live.Submitted.{Submitted}
use Rattle.build_queue.specs.declared.live.Submitted.TheVariants.{Taken, Stale}
use Rattle.build_queue.specs.BookState.{BookState, is_awaited, least_awaited, least_claimable, wanted_at}
use Rattle.build_queue.specs.SameShapes.{are_same}

-- a request is answered by the history before it, and is one entry more
abbrev pub next_reply : BookState → Request → Reply
next_reply state request = reply_to state.ground.setting.limit state.history request

-- the state with the entry of a request behind its history
abbrev pub after_request : BookState → ℕ → Request → BookState
after_request state lane request = record state {
  history = state.history ++ record { lane = lane; request = request; reply = next_reply state request } ∷ [];
}

-- but where the history is full it is refused with the length of the history, and nothing changes; else it gets the number of its entry, from
-- 1, and its reply
abbrev pub is_full : BookState → Bool
is_full state = length state.history == history_limit

-- what a request is answered: the number of its entry and its reply, or the length of the full history
abbrev pub request_answer : BookState → Request → Result (ℕ × Reply) HistoryFull
request_answer state request = if is_full state then Err (record { len = length state.history }) else Ok (length state.history + 1, next_reply state request)

-- the state after a request: nothing changes where the history is full
abbrev pub requested : BookState → ℕ → Request → BookState
requested state lane request = if is_full state then state else after_request state lane request

-- an aim makes the length of the history the target
abbrev pub after_aim : BookState → BookState
after_aim state = record state { target = length state.history }

-- a claim gives the least tile that is awaited and not claimed, with its touching list at the target, and claims it
abbrev pub next_job : BookState → Option Job
next_job state = option_map (λ tile. record { tile = tile; shapes = wanted_at state tile }) (least_claimable state)

-- the state after a claim: the tile of the job is claimed
abbrev pub after_claim : BookState → BookState
after_claim state = record state { claimed = option_map_or (λ tile. slice_set state.claimed tile true) (least_claimable state) state.claimed }

-- a tile that is put back is claimed no more
abbrev pub after_put_back : BookState → ℕ → BookState
after_put_back state tile = record state { claimed = slice_set state.claimed tile false }

-- no tile is claimed any more
abbrev pub after_put_back_all : BookState → BookState
after_put_back_all state = record state { claimed = replicate (length state.claimed) false }

-- a submitted list is taken where its tile is awaited and it is the touching list at the target; else it is stale
abbrev pub is_taken : BookState → ℕ → List Shape → Bool
is_taken state tile shapes = is_awaited state tile && are_same shapes (wanted_at state tile)

-- what a submitted list is answered
abbrev pub submission : BookState → ℕ → List Shape → Submitted
submission state tile shapes = if is_taken state tile shapes then Taken else Stale

-- the claim on the tile ends, and a list that is taken is stored
abbrev pub after_submit : BookState → ℕ → List Shape → BookState
after_submit state tile shapes = record state {
  claimed = slice_set state.claimed tile false;
  stored = if is_taken state tile shapes then slice_set state.stored tile shapes else state.stored;
}

-- a publish is not yet possible while a tile is awaited, and names the least; else it shows the target, which is the same as before where
-- that was published already
abbrev pub publication_by : Option ℕ → ℕ → ℕ → Published
publication_by (Some tile) target published = NotYet tile
publication_by None target published = if target == published then Same published else New target

-- what a publish is answered
abbrev pub publication : BookState → Published
publication state = publication_by (least_awaited state) state.target state.published

-- only a new version changes what is published
abbrev pub published_by : Published → ℕ → ℕ
published_by (New k) published = k
published_by _ published = published

-- the state after a publish
abbrev pub after_publish : BookState → BookState
after_publish state = record state { published = published_by (publication state) state.published }

-- a job for a ground of a setting: its tile is there, and its shapes are within their limits
pub record IsJob (setting : Setting) (job : Job) : Type 0 where
  pub there : job.tile < tile_count setting
  pub limits : All IsShape job.shapes
