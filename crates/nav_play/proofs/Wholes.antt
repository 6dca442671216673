-- That no line changes the ground, the number of lanes or the number of workers, and that a `jump` line adds one jump.
use Rattle.std.proofs.Common.{◌≡◌, Bool, true, false, cond, ℕ, ◌+◌, [], ◌∷◌, Option, Some, None, refl, length-append}
use Rattle.std.specs.Prelude.{if◌then◌else◌, length}
use Rattle.std.proofs.lemmas.List.{length-replicate, length-set}
use Rattle.nav_ground.specs.declared.history.Request.{Request}
use Rattle.build_queue.specs.declared.live.Job.{Job}
use Rattle.build_queue.specs.BookState.{BookState}
use Rattle.build_queue.specs.Steps.{after_request, is_full, requested}
use Rattle.nav_script.specs.declared.script.Line.{Line}
use Rattle.nav_script.specs.declared.script.Line.TheVariants.{Add, Remove, Undo, Settle, Claim, Back, Submit, Jump}
use Rattle.nav_script.specs.Lanes.{is_jump}
use Rattle.nav_play.specs.Jobs.{book_after_back, book_after_claim, book_after_submit}
use Rattle.nav_play.specs.PlayStates.{PlayState, held_by, state_after}
use Rattle.nav_book.proofs.Settled.{settled_whole}
use Rattle.nav_play.proofs.Lists.{none_more}

requested_whole : (book : BookState) (lane : ℕ) (request : Request) → (requested book lane request).ground ≡ book.ground
requested_whole book lane request = by_case (is_full book)
  where
    by_case : (full : Bool) → (if full then book else after_request book lane request).ground ≡ book.ground
    by_case true = refl
    by_case false = refl

pub claim_whole : (book : BookState) (held : Option Job) → (book_after_claim book held).ground ≡ book.ground
claim_whole book None = refl
claim_whole book (Some job) = refl

pub back_whole : (book : BookState) (held : Option Job) → (book_after_back book held).ground ≡ book.ground
back_whole book None = refl
back_whole book (Some job) = refl

pub submit_whole : (book : BookState) (held : Option Job) → (book_after_submit book held).ground ≡ book.ground
submit_whole book None = refl
submit_whole book (Some job) = refl

pub whole_stays : (state : PlayState) (line : Line) → (state_after state line).book.ground ≡ state.book.ground
whole_stays state (Add shape) = requested_whole state.book state.lane _
whole_stays state (Remove number) = requested_whole state.book state.lane _
whole_stays state (Undo back) = requested_whole state.book state.lane _
whole_stays state Settle = settled_whole state.book
whole_stays state (Claim worker) = claim_whole state.book (held_by state worker)
whole_stays state (Back worker) = back_whole state.book (held_by state worker)
whole_stays state (Submit worker) = submit_whole state.book (held_by state worker)
whole_stays state _ = refl

pub lanes_stay : (state : PlayState) (line : Line) → length (state_after state line).adds ≡ length state.adds
lanes_stay state (Add shape) = length-set state.adds state.lane _
lanes_stay state _ = refl

pub workers_stay : (state : PlayState) (line : Line) → length (state_after state line).held ≡ length state.held
workers_stay state Settle = length-replicate (length state.held) None
workers_stay state (Claim worker) = length-set state.held worker _
workers_stay state (Back worker) = length-set state.held worker None
workers_stay state (Submit worker) = length-set state.held worker None
workers_stay state _ = refl

pub jumps_grow : (state : PlayState) (line : Line) → length (state_after state line).jumps ≡ length state.jumps + cond (is_jump line) 1 0
jumps_grow state (Jump jump) = length-append state.jumps (jump ∷ [])
jumps_grow state _ = none_more _
