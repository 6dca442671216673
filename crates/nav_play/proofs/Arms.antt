-- What the arms of a step come to.
use Rattle.std.proofs.Common.{◌≡◌, ℕ, zero, suc, ◌+◌, ◌<◌, List, [], ◌∷◌, ◌++◌, length, All, set, replicate, ap, ◌∙◌, sym, subst, refl, arith, append-nil, length-append, None}
use Rattle.std.specs.Prelude.{IfOk, IsOkAnd, OnOk, Result, Ok, Err}
use Rattle.std.proofs.lemmas.List.{length-set}
use Rattle.std.proofs.lemmas.List.Elements.{All-append, All-nil}
use Rattle.std.proofs.lemmas.Result.{on_ok_weaker}
use Rattle.nav_base.specs.declared.point.Question.{Question}
use Rattle.nav_base.specs.declared.point.Point.{Point}
use Rattle.mesh_types.specs.declared.answers.Answer.{Answer}
use Rattle.mesh_types.specs.declared.answers.HopAnswer.{HopAnswer}
use Rattle.mesh_types.specs.declared.answers.Jump as hops
use Rattle.mesh_types.specs.Hops.{IsHopRight}
use Rattle.mesh_types.specs.Right.{IsRight}
use Rattle.nav_ground.specs.declared.history.Ground.{Ground}
use Rattle.nav_ground.specs.declared.history.Reply.{Reply}
use Rattle.nav_ground.specs.declared.history.Request.{Request}
use Rattle.nav_ground.specs.declared.history.Request.TheVariants as requests
use Rattle.nav_ground.specs.declared.shape.Shape.{Shape}
use Rattle.build_queue.specs.declared.live.HistoryFull.{HistoryFull}
use Rattle.build_queue.specs.BookState.{BookState}
use Rattle.build_queue.specs.Steps.{after_aim, after_publish, publication, request_answer, requested}
use Rattle.nav_query.specs.Questions.{HasLowCost}
use Rattle.nav_book.specs.Results.{published_mesh}
use Rattle.nav_record.specs.declared.step.StepAnswer.{StepAnswer}
use Rattle.nav_record.specs.declared.step.StepAnswer.TheVariants as answers
use Rattle.nav_record.specs.HopTexts.{hop_text}
use Rattle.nav_record.specs.AnswerTexts.{answer_text}
use Rattle.nav_record.specs.StepTexts.{step_text}
use Rattle.off_links.specs.OffMeshLinks.{AreJumps, HasJumpCoordinates}
use Rattle.nav_script.specs.declared.script.Line.{Line}
use Rattle.nav_script.specs.declared.script.Line.TheVariants.{Lane, Ask, Add, Remove, Undo, Settle, Aim, Claim, Back, Submit, Publish, Jump, Hop}
use Rattle.nav_play.specs.declared.player.Player.{Player}
use Rattle.nav_play.specs.Claims.{HasClaimed}
use Rattle.nav_play.specs.Jobs.{back_said, book_after_back, book_after_submit, publication_said, submit_said}
use Rattle.nav_play.specs.PlayStates.{PlayState, adds_and, number_answered, number_got, number_in, state_after}
use Rattle.nav_play.specs.PlayRecord.{IsSaid, answered_text, request_text}
use Rattle.nav_play.specs.Players.{AreHeld, HasPlayed, HasRequested, HasState, IsPlayable, IsSteady, held_job, jobs_of_held, player_state}
use Rattle.nav_book.specs.Settling.{after_settle, awaited_tiles, settling}
use Rattle.nav_play.specs.Tallies.{HasCounted, totals_after}
use Rattle.nav_play.specs.Work.{jobs_of}
use Rattle.nav_play.proofs.Lists.{none_more}
use Rattle.nav_play.proofs.Wholes.{whole_stays}

-- a lane that stays among lanes that stay
pub lane_kept : (lane next : ℕ) (adds after : List (List ℕ)) → lane < length adds → next ≡ lane → after ≡ adds → next < length after
lane_kept lane next adds after there same kept = let count = ap length kept in omega (arith, there, same, count)

-- and among lanes of which one has a number more
lane_pushed : (lane next : ℕ) (adds more after : List (List ℕ)) (numbers : List ℕ) → lane < length adds → next ≡ lane → more ≡ adds → after ≡ set more next numbers
    → next < length after
lane_pushed lane next adds more after numbers there same kept pushed =
    let count = ap length kept in
    let all = ap length pushed ∙ length-set more next numbers in
    omega (arith, there, same, count, all)

-- jumps that stay
jumps_kept : (before after : Player) → IsSteady before → after.hop.jumps ≡ before.hop.jumps → AreJumps after.hop.jumps
jumps_kept before after steady same = subst AreJumps (sym same) steady.jumps

-- a line whose text was written
played : {A E : Type 0} (r : Result A E) (line : Line) (before after : Player) (said : List ℕ) (m n : ℕ)
    → OnOk r (after.text.items ≡ before.text.items ++ said)
    → IsSaid (player_state before) line said
    → HasState after (state_after (player_state before) line)
    → HasCounted (player_state before) line before.totals after.totals
    → AreHeld before.book.state.ground after.workers
    → after.lane < length after.adds
    → AreJumps after.hop.jumps
    → n ≡ m + jobs_of (player_state before) line
    → OnOk r (HasPlayed line before after m n)
played r line before after said m n written fits state totals held lane jumps count =
    on_ok_weaker r (λ text. record {
      text = record { said = said; written = text; fits = fits };
      state = state;
      totals = totals;
      held = held;
      lane = lane;
      jumps = jumps;
      count = count;
    }) written

-- the line that is played is this one
pub at_line : {A E : Type 0} (r : Result A E) (line this : Line) (before after : Player) (m n : ℕ) → line ≡ this → OnOk r (HasPlayed this before after m n)
    → OnOk r (HasPlayed line before after m n)
at_line r line this before after m n is has = subst (λ (l : Line). OnOk r (HasPlayed l before after m n)) (sym is) has

-- a line that names the lane of those that follow
pub lane_played : (line : Line) (before : Player) (lane s : ℕ) → line ≡ Lane lane → IsSteady before → IsPlayable (length before.adds) (length before.workers) (length before.hop.jumps) line
    → HasPlayed line before (record before { lane = lane }) s s
lane_played line before lane s is steady playable =
    let after : Player = record before { lane = lane } in
    subst (λ (l : Line). HasPlayed l before after s s) (sym is) (record {
      text = record { said = []; written = sym (append-nil before.text.items); fits = refl };
      state = record { book = refl; lane = refl; adds = refl; held = refl; jumps = refl };
      totals = refl;
      held = steady.held;
      lane = subst (IsPlayable (length before.adds) (length before.workers) (length before.hop.jumps)) is playable;
      jumps = steady.jumps;
      count = none_more s;
    })

-- a question
pub ask_played : {A E : Type 0} (r : Result A E) (before after : Player) (question : Question) (answer : Answer) (k s : ℕ) → IsSteady before
    → IsRight (published_mesh before.book.state) question answer
    → HasLowCost answer
    → k ≡ before.book.state.published
    → OnOk r (after.text.items ≡ before.text.items ++ answer_text k answer)
    → after.totals ≡ totals_after before.totals question answer
    → after.book ≡ before.book → after.lane ≡ before.lane → after.adds ≡ before.adds → after.workers ≡ before.workers → after.hop.jumps ≡ before.hop.jumps
    → OnOk r (HasPlayed (Ask question) before after s s)
ask_played r before after question answer k s steady right low k_is written counted book_is lane_is adds_is workers_is jumps_is =
    played r (Ask question) before after (answer_text k answer) s s written
    (record { answer = answer; right = right; written = ap (λ n. answer_text n answer) k_is })
    (record { book = ap (λ b. b.state) book_is; lane = lane_is; adds = adds_is; held = ap jobs_of_held workers_is; jumps = jumps_is })
    (record { answer = answer; right = right; low = low; counted = counted })
    (subst (AreHeld before.book.state.ground) (sym workers_is) steady.held)
    (lane_kept before.lane after.lane before.adds after.adds steady.lane lane_is adds_is)
    (jumps_kept before after steady jumps_is)
    (none_more s)

-- a jump is one more
jumps_more : (jumps : List hops.Jump) (jump : hops.Jump) → AreJumps jumps → length jumps < 256 → HasJumpCoordinates jump → AreJumps (jumps ++ jump ∷ [])
jumps_more jumps jump are room fits = record {
  few = omega (arith, room, length-append jumps (jump ∷ []));
  coordinates = All-append HasJumpCoordinates jumps (jump ∷ []) are.coordinates (one_fits fits);
}
  where
    one_fits : HasJumpCoordinates jump → All HasJumpCoordinates (jump ∷ [])
    one_fits fits zero d there = fits
    one_fits fits (suc k) d there = absurd (omega (arith, there))

-- none may be asked with
pub no_jumps : (jumps : List hops.Jump) → jumps ≡ [] → AreJumps jumps
no_jumps jumps none = subst AreJumps (sym none) (record { few = omega arith; coordinates = All-nil HasJumpCoordinates })

pub jump_played : (before after : Player) (jump : hops.Jump) (s : ℕ) → IsSteady before → length before.hop.jumps < 256 → HasJumpCoordinates jump
    → after.hop.jumps ≡ before.hop.jumps ++ jump ∷ []
    → after.book ≡ before.book → after.lane ≡ before.lane → after.adds ≡ before.adds → after.workers ≡ before.workers → after.totals ≡ before.totals
    → after.text ≡ before.text
    → HasPlayed (Jump jump) before after s s
jump_played before after jump s steady room fits jumps_is book_is lane_is adds_is workers_is totals_is text_is = record {
  text = record { said = []; written = ap (λ t. t.items) text_is ∙ sym (append-nil before.text.items); fits = refl };
  state = record { book = ap (λ b. b.state) book_is; lane = lane_is; adds = adds_is; held = ap jobs_of_held workers_is; jumps = jumps_is };
  totals = totals_is;
  held = subst (AreHeld before.book.state.ground) (sym workers_is) steady.held;
  lane = lane_kept before.lane after.lane before.adds after.adds steady.lane lane_is adds_is;
  jumps = subst AreJumps (sym jumps_is) (jumps_more before.hop.jumps jump steady.jumps room fits);
  count = none_more s;
}

-- the question for a hop walk
pub hop_played : {A E : Type 0} (r : Result A E) (before after : Player) (from : Point) (from_y : ℕ) (to : Point) (to_y : ℕ) (answer : HopAnswer) (k s : ℕ) → IsSteady before
    → IsHopRight (published_mesh before.book.state) before.hop.jumps from from_y to to_y answer
    → k ≡ before.book.state.published
    → OnOk r (after.text.items ≡ before.text.items ++ hop_text k answer)
    → after.book ≡ before.book → after.lane ≡ before.lane → after.adds ≡ before.adds → after.workers ≡ before.workers → after.totals ≡ before.totals
    → after.hop.jumps ≡ before.hop.jumps
    → OnOk r (HasPlayed (Hop from from_y to to_y) before after s s)
hop_played r before after from from_y to to_y answer k s steady right k_is written book_is lane_is adds_is workers_is totals_is jumps_is =
    played r (Hop from from_y to to_y) before after (hop_text k answer) s s written
    (record { answer = answer; right = right; written = ap (λ n. hop_text n answer) k_is })
    (record { book = ap (λ b. b.state) book_is; lane = lane_is; adds = adds_is; held = ap jobs_of_held workers_is; jumps = jumps_is })
    totals_is
    (subst (AreHeld before.book.state.ground) (sym workers_is) steady.held)
    (lane_kept before.lane after.lane before.adds after.adds steady.lane lane_is adds_is)
    (jumps_kept before after steady jumps_is)
    (none_more s)

-- a request
pub request_made : (before after : Player) (request : Request) (answer : Result (ℕ × Reply) HistoryFull) → answer ≡ request_answer before.book.state request
    → after.text.items ≡ before.text.items ++ answered_text answer
    → after.book.state ≡ requested before.book.state before.lane request
    → after.lane ≡ before.lane → after.adds ≡ before.adds → after.workers ≡ before.workers → after.totals ≡ before.totals → after.hop.jumps ≡ before.hop.jumps
    → HasRequested request before after
request_made before after request answer is written book_is lane_is adds_is workers_is totals_is jumps_is = record {
  text = written ∙ ap (λ a. before.text.items ++ answered_text a) is;
  book = book_is;
  lane = lane_is;
  adds = adds_is;
  workers = workers_is;
  totals = totals_is;
  jumps = jumps_is;
}

pub number_made : (book : BookState) (request : Request) (answer : Result (ℕ × Reply) HistoryFull) (number : ℕ) → answer ≡ request_answer book request
    → number ≡ number_answered answer → number ≡ number_got book request
number_made book request answer number is given = given ∙ ap number_answered is

-- an obstacle is asked for, and the lane gets its number
pub add_played : {A E : Type 0} (r : Result A E) (before asked after : Player) (shape : Shape) (number s : ℕ) → IsSteady before
    → HasRequested (requests.Add shape) before asked
    → number ≡ number_got before.book.state (requests.Add shape)
    → OnOk r (after.adds ≡ adds_and asked.adds asked.lane number)
    → after.book ≡ asked.book → after.lane ≡ asked.lane → after.workers ≡ asked.workers → after.totals ≡ asked.totals → after.text ≡ asked.text
    → after.hop.jumps ≡ asked.hop.jumps
    → OnOk r (HasPlayed (Add shape) before after s s)
add_played r before asked after shape number s steady has number_is pushed book_is lane_is workers_is totals_is text_is jumps_is =
    on_ok_weaker r (λ adds_is. record {
      text = record { said = request_text before.book.state (requests.Add shape); written = ap (λ t. t.items) text_is ∙ has.text; fits = refl };
      state = record {
        book = ap (λ b. b.state) book_is ∙ has.book;
        lane = lane_is ∙ has.lane;
        adds = adds_is ∙ (λ i. adds_and (has.adds i) (has.lane i) (number_is i));
        held = ap jobs_of_held (workers_is ∙ has.workers);
        jumps = jumps_is ∙ has.jumps;
      };
      totals = totals_is ∙ has.totals;
      held = subst (AreHeld before.book.state.ground) (sym (workers_is ∙ has.workers)) steady.held;
      lane = lane_pushed before.lane after.lane before.adds asked.adds after.adds _ steady.lane (lane_is ∙ has.lane) has.adds
          (adds_is ∙ ap (λ lane. adds_and asked.adds lane number) (sym lane_is));
      jumps = jumps_kept before after steady (jumps_is ∙ has.jumps);
      count = none_more s;
    }) pushed

-- that an obstacle goes is asked for
pub remove_played : (before after : Player) (number s : ℕ) → IsSteady before → HasRequested (requests.Remove number) before after
    → HasPlayed (Remove number) before after s s
remove_played before after number s steady has = record {
  text = record { said = request_text before.book.state (requests.Remove number); written = has.text; fits = refl };
  state = record { book = has.book; lane = has.lane; adds = has.adds; held = ap jobs_of_held has.workers; jumps = has.jumps };
  totals = has.totals;
  held = subst (AreHeld before.book.state.ground) (sym has.workers) steady.held;
  lane = lane_kept before.lane after.lane before.adds after.adds steady.lane has.lane has.adds;
  jumps = jumps_kept before after steady has.jumps;
  count = none_more s;
}

pub undo_played : {A E : Type 0} (r : Result A E) (before after : Player) (j number s : ℕ) → number ≡ number_in before.adds before.lane j
    → OnOk r (HasPlayed (Remove number) before after s s)
    → OnOk r (HasPlayed (Undo j) before after s s)
undo_played r before after j number s is removed =
    on_ok_weaker r (λ removed. let has = subst (λ n. HasPlayed (Remove n) before after s s) is removed in record {
      text = record { said = has.text.said; written = has.text.written; fits = has.text.fits };
      state = has.state;
      totals = has.totals;
      held = has.held;
      lane = has.lane;
      jumps = has.jumps;
      count = has.count;
    }) removed

-- the whole history is aimed at
pub aim_played : {A E : Type 0} (r : Result A E) (before after : Player) (k s : ℕ) → IsSteady before
    → OnOk r (after.text.items ≡ before.text.items ++ step_text (answers.Aim k))
    → k ≡ length before.book.state.history
    → after.book.state ≡ after_aim before.book.state
    → after.lane ≡ before.lane → after.adds ≡ before.adds → after.workers ≡ before.workers → after.totals ≡ before.totals
    → after.hop.jumps ≡ before.hop.jumps
    → OnOk r (HasPlayed Aim before after s s)
aim_played r before after k s steady written k_is book_is lane_is adds_is workers_is totals_is jumps_is =
    played r Aim before after (step_text (answers.Aim k)) s s written
    (ap (λ n. step_text (answers.Aim n)) k_is)
    (record { book = book_is; lane = lane_is; adds = adds_is; held = ap jobs_of_held workers_is; jumps = jumps_is })
    totals_is
    (subst (AreHeld before.book.state.ground) (sym workers_is) steady.held)
    (lane_kept before.lane after.lane before.adds after.adds steady.lane lane_is adds_is)
    (jumps_kept before after steady jumps_is)
    (none_more s)

-- what was aimed at is published, or it is not yet to be
pub publish_played : {A E F : Type 0} (r : Result A E) (q : Result StepAnswer F) (before after : Player) (s : ℕ) → IsSteady before
    → OnOk r (IsOkAnd q (λ said. after.text.items ≡ before.text.items ++ step_text said))
    → IfOk q (λ said. said ≡ publication_said (publication before.book.state))
    → OnOk q (after.book.state ≡ after_publish before.book.state)
    → after.lane ≡ before.lane → after.adds ≡ before.adds → after.workers ≡ before.workers → after.totals ≡ before.totals
    → after.hop.jumps ≡ before.hop.jumps
    → OnOk r (HasPlayed Publish before after s s)
publish_played r (Ok said) before after s steady written said_is book_is lane_is adds_is workers_is totals_is jumps_is =
    played r Publish before after (step_text said) s s written
    (ap step_text said_is)
    (record { book = book_is; lane = lane_is; adds = adds_is; held = ap jobs_of_held workers_is; jumps = jumps_is })
    totals_is
    (subst (AreHeld before.book.state.ground) (sym workers_is) steady.held)
    (lane_kept before.lane after.lane before.adds after.adds steady.lane lane_is adds_is)
    (jumps_kept before after steady jumps_is)
    (none_more s)
publish_played r (Err refused) before after s steady written said_is book_is lane_is adds_is workers_is totals_is jumps_is =
    on_ok_weaker r (λ none. absurd none) written

-- a worker claims
pub claim_played : {A E F : Type 0} (r : Result A E) (q : Result StepAnswer F) (before after : Player) (worker m n : ℕ) → IsSteady before
    → OnOk r (IsOkAnd q (λ said. after.text.items ≡ before.text.items ++ step_text said))
    → IfOk q (HasClaimed worker before.book.state after.book.state before.workers after.workers m n)
    → after.lane ≡ before.lane → after.adds ≡ before.adds → after.totals ≡ before.totals → after.hop.jumps ≡ before.hop.jumps
    → OnOk r (HasPlayed (Claim worker) before after m n)
claim_played r (Ok said) before after worker m n steady written has lane_is adds_is totals_is jumps_is =
    played r (Claim worker) before after (step_text said) m n written
    (ap step_text has.said)
    (record { book = has.state; lane = lane_is; adds = adds_is; held = has.jobs; jumps = jumps_is })
    totals_is
    has.builds
    (lane_kept before.lane after.lane before.adds after.adds steady.lane lane_is adds_is)
    (jumps_kept before after steady jumps_is)
    has.count
claim_played r (Err refused) before after worker m n steady written has lane_is adds_is totals_is jumps_is = on_ok_weaker r (λ none. absurd none) written

-- a worker puts its job back
pub back_played : {A E : Type 0} (r : Result A E) (before after : Player) (said : StepAnswer) (worker s : ℕ) → IsSteady before
    → OnOk r (after.text.items ≡ before.text.items ++ step_text said)
    → said ≡ back_said worker (held_job before.workers worker)
    → after.book.state ≡ book_after_back before.book.state (held_job before.workers worker)
    → jobs_of_held after.workers ≡ set (jobs_of_held before.workers) worker None
    → AreHeld before.book.state.ground after.workers
    → after.lane ≡ before.lane → after.adds ≡ before.adds → after.totals ≡ before.totals → after.hop.jumps ≡ before.hop.jumps
    → OnOk r (HasPlayed (Back worker) before after s s)
back_played r before after said worker s steady written said_is book_is jobs builds lane_is adds_is totals_is jumps_is =
    played r (Back worker) before after (step_text said) s s written
    (ap step_text said_is)
    (record { book = book_is; lane = lane_is; adds = adds_is; held = jobs; jumps = jumps_is })
    totals_is
    builds
    (lane_kept before.lane after.lane before.adds after.adds steady.lane lane_is adds_is)
    (jumps_kept before after steady jumps_is)
    (none_more s)

-- or submits what it holds
pub submit_played : {A E : Type 0} (r : Result A E) (before after : Player) (said : StepAnswer) (worker s : ℕ) → IsSteady before
    → OnOk r (after.text.items ≡ before.text.items ++ step_text said)
    → said ≡ submit_said before.book.state worker (held_job before.workers worker)
    → after.book.state ≡ book_after_submit before.book.state (held_job before.workers worker)
    → jobs_of_held after.workers ≡ set (jobs_of_held before.workers) worker None
    → AreHeld before.book.state.ground after.workers
    → after.lane ≡ before.lane → after.adds ≡ before.adds → after.totals ≡ before.totals → after.hop.jumps ≡ before.hop.jumps
    → OnOk r (HasPlayed (Submit worker) before after s s)
submit_played r before after said worker s steady written said_is book_is jobs builds lane_is adds_is totals_is jumps_is =
    played r (Submit worker) before after (step_text said) s s written
    (ap step_text said_is)
    (record { book = book_is; lane = lane_is; adds = adds_is; held = jobs; jumps = jumps_is })
    totals_is
    builds
    (lane_kept before.lane after.lane before.adds after.adds steady.lane lane_is adds_is)
    (jumps_kept before after steady jumps_is)
    (none_more s)

-- everything is built and published
pub settle_played : {A E F : Type 0} (r : Result A E) (q : Result StepAnswer F) (before after : Player) (m n : ℕ) → IsSteady before
    → OnOk r (IsOkAnd q (λ said. after.text.items ≡ before.text.items ++ step_text said))
    → IfOk q (λ said. said ≡ answers.Settled (length before.book.state.history))
    → OnOk q (after.book.state ≡ after_settle before.book.state)
    → OnOk q (jobs_of_held after.workers ≡ replicate (length (jobs_of_held before.workers)) None)
    → OnOk q (AreHeld before.book.state.ground after.workers)
    → OnOk q (n ≡ m + length (awaited_tiles (settling before.book.state)))
    → after.lane ≡ before.lane → after.adds ≡ before.adds → after.totals ≡ before.totals → after.hop.jumps ≡ before.hop.jumps
    → OnOk r (HasPlayed Settle before after m n)
settle_played r (Ok said) before after m n steady written said_is book_is jobs builds count lane_is adds_is totals_is jumps_is =
    played r Settle before after (step_text said) m n written
    (ap step_text said_is)
    (record { book = book_is; lane = lane_is; adds = adds_is; held = jobs; jumps = jumps_is })
    totals_is
    builds
    (lane_kept before.lane after.lane before.adds after.adds steady.lane lane_is adds_is)
    (jumps_kept before after steady jumps_is)
    count
settle_played r (Err refused) before after m n steady written said_is book_is jobs builds count lane_is adds_is totals_is jumps_is =
    on_ok_weaker r (λ none. absurd none) written

-- the state that a player has come to, and that it can go on
pub state_is : (player : Player) (state : PlayState) → HasState player state → player_state player ≡ state
state_is player state has = λ i. record { book = has.book i; lane = has.lane i; adds = has.adds i; held = has.held i; jumps = has.jumps i }

pub still_steady : (line : Line) (before after : Player) (m n : ℕ) → HasPlayed line before after m n → IsSteady after
still_steady line before after m n has = record {
  lane = has.lane;
  jumps = has.jumps;
  held = subst (λ (ground : Ground). AreHeld ground after.workers)
      (sym (ap (λ (book : BookState). book.ground) has.state.book ∙ whole_stays (player_state before) line)) has.held;
}
