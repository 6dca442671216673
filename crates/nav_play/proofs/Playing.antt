-- A play under way on its ground, with the steps that it took.
use Rattle.std.proofs.Common.{◌≡◌, ℕ, ◌+◌, ◌<◌, ◌≤◌, Option, None, List, [], ◌++◌, length, replicate, get_or, drop, cond, count_by, ap, ◌∙◌, sym, subst, refl, arith}
use Rattle.std.proofs.lemmas.List.Sums.{sum_by-cons}
use Rattle.mesh_types.specs.declared.answers.Jump.{Jump}
use Rattle.nav_ground.specs.declared.history.Ground.{Ground}
use Rattle.build_queue.specs.BookState.{BookState}
use Rattle.build_queue.specs.BookState as books
use Rattle.mesh_types.specs.Soundness.{link_count, polygon_count}
use Rattle.nav_book.specs.Results.{published_mesh}
use Rattle.nav_book.specs.declared.book.TileResult.{TileResult}
use Rattle.nav_record.specs.declared.step.Totals.{Totals}
use Rattle.nav_record.specs.FrameTexts.{done_text}
use Rattle.nav_script.specs.declared.script.Line.{Line}
use Rattle.nav_script.specs.Lanes.{is_jump}
use Rattle.nav_script.specs.declared.script.Script.{Script}
use Rattle.nav_base.specs.Counts.{HasRisenAtMost}
use Rattle.nav_play.specs.PlayStates.{PlayState, opening_state, state_after, state_after_all}
use Rattle.nav_play.specs.PlayRecord.{AddsSome, IsSaid, IsTextFrom}
use Rattle.nav_play.specs.PlayTotals.{AreTotalsFrom, IsCounted}
use Rattle.nav_play.specs.Tallies.{HasCounted, no_answers, totals_at}
use Rattle.nav_play.specs.Work.{jobs_from, jobs_of}
use Rattle.nav_play.specs.Players.{jobs_of_held}
use Rattle.nav_play.proofs.Held.{jobs_begun}
use Rattle.nav_play.proofs.Runs.{IsUnderWay, begun, ended, goes_on, next_line, no_jobs, no_line, same_end, same_jobs}
use Rattle.nav_play.proofs.Tallying.{IsTallied, counts, tally_begun, tally_goes_on}
use Rattle.nav_play.proofs.Wholes.{jumps_grow, lanes_stay, whole_stays, workers_stay}

-- the play is under way with its text and its totals, leads to the end, is still on its ground, and the steps of the lines that are left
-- make up those that are due, as do their jumps
pub record IsPlaying (first : PlayState) (lines : List Line) (done : ℕ) (state : PlayState) (text : List ℕ) (totals : Totals) (before after : ℕ) : Type 0 where
  pub way : IsUnderWay IsSaid first lines done state text
  pub tallied : IsTallied first lines done state totals
  pub ends : state_after_all state (drop done lines) ≡ state_after_all first lines
  pub ground : state.book.ground ≡ first.book.ground
  pub lanes : length state.adds ≡ length first.adds
  pub workers : length state.held ≡ length first.held
  pub jumps : length state.jumps + count_by is_jump (drop done lines) ≡ length first.jumps + count_by is_jump lines
  pub steps : after + jobs_from state (drop done lines) ≡ before + jobs_from first lines
  pub least : before ≤ after

-- no line was played
pub no_line_played : (first : PlayState) (lines : List Line) (state : PlayState) (text : List ℕ) (totals : Totals) (before after : ℕ) → state ≡ first → text ≡ []
    → totals ≡ no_answers → after ≡ before → IsPlaying first lines 0 state text totals before after
no_line_played first lines state text totals before after same empty none steps = record {
  way = begun IsSaid first lines state text same empty;
  tallied = tally_begun first lines state totals same none;
  ends = ap (λ (s : PlayState). state_after_all s lines) same;
  ground = ap (λ (s : PlayState). s.book.ground) same;
  lanes = ap (λ (s : PlayState). length s.adds) same;
  workers = ap (λ (s : PlayState). length s.held) same;
  jumps = ap (λ (s : PlayState). length s.jumps + count_by is_jump lines) same;
  steps = let jobs = ap (λ (s : PlayState). jobs_from s lines) same in omega (arith, steps, jobs);
  least = omega (arith, steps);
}

-- one more line
pub one_line_played : (first : PlayState) (lines items : List Line) (done : ℕ) (state next : PlayState) (text more : List ℕ) (totals counted : Totals) (before after later : ℕ) (d : Line)
    → IsPlaying first lines done state text totals before after
    → items ≡ lines
    → done < length items
    → AddsSome (IsSaid state (get_or items done d)) text more
    → next ≡ state_after state (get_or items done d)
    → HasCounted state (get_or items done d) totals counted
    → later ≡ after + jobs_of state (get_or items done d)
    → IsPlaying first lines (done + 1) next more counted before later
one_line_played first lines items done state next text more totals counted before after later d playing same there adds next_is has steps =
    let this = get_or items done d in
    let left = next_line lines items done d same there in
    record {
      way = goes_on IsSaid first lines done state next text more this playing.way left adds next_is;
      tallied = tally_goes_on first lines done state next totals counted this playing.tallied left has next_is;
      ends = same_end lines done state next this left next_is ∙ playing.ends;
      ground = ap (λ (s : PlayState). s.book.ground) next_is ∙ whole_stays state this ∙ playing.ground;
      lanes = ap (λ (s : PlayState). length s.adds) next_is ∙ lanes_stay state this ∙ playing.lanes;
      workers = ap (λ (s : PlayState). length s.held) next_is ∙ workers_stay state this ∙ playing.workers;
      jumps =
          let more = ap (λ (s : PlayState). length s.jumps) next_is ∙ jumps_grow state this in
          let parts = ap (count_by is_jump) left ∙ sum_by-cons (λ l. cond (is_jump l) 1 0) this (drop (done + 1) lines) in
          omega (arith, more, parts, playing.jumps);
      steps = omega (arith, steps, playing.steps, same_jobs lines done state next this left next_is);
      least = omega (arith, steps, playing.least);
    }

-- the steps up to a line that was not played to its end are among those that are due
pub line_broken : (first : PlayState) (lines items : List Line) (done : ℕ) (state : PlayState) (text : List ℕ) (totals : Totals) (before after later : ℕ) (d : Line)
    → IsPlaying first lines done state text totals before after
    → items ≡ lines
    → done < length items
    → HasRisenAtMost (jobs_of state (get_or items done d)) after later
    → HasRisenAtMost (jobs_from first lines) before later
line_broken first lines items done state text totals before after later d playing same there risen =
    let this = get_or items done d in
    let jobs = same_jobs lines done state (state_after state this) this (next_line lines items done d same there) refl in
    record {
      least = omega (arith, playing.least, risen.least);
      most_risen = omega (arith, playing.steps, jobs, risen.most_risen);
    }

-- all lines were played
pub all_steps : (first : PlayState) (lines items : List Line) (done : ℕ) (state : PlayState) (text : List ℕ) (totals : Totals) (before after : ℕ)
    → IsPlaying first lines done state text totals before after
    → items ≡ lines
    → length items ≤ done
    → after ≡ before + jobs_from first lines
all_steps first lines items done state text totals before after playing same end =
    let none = no_jobs lines done state (no_line lines items done same end) in
    omega (arith, playing.steps, none)

pub last_state : (first : PlayState) (lines items : List Line) (done : ℕ) (state : PlayState) (text : List ℕ) (totals : Totals) (before after : ℕ)
    → IsPlaying first lines done state text totals before after
    → items ≡ lines
    → length items ≤ done
    → state_after_all first lines ≡ state
last_state first lines items done state text totals before after playing same end =
    sym playing.ends ∙ ap (state_after_all state) (no_line lines items done same end)

pub whole_text : (first : PlayState) (lines items : List Line) (done : ℕ) (state : PlayState) (text more : List ℕ) (totals : Totals) (before after k n : ℕ)
    → IsPlaying first lines done state text totals before after
    → items ≡ lines
    → length items ≤ done
    → k ≡ state.book.published
    → n ≡ length state.book.history
    → more ≡ text ++ done_text k n
    → IsTextFrom first lines more
whole_text first lines items done state text more totals before after k n playing same end k_is n_is done_is =
    let last = last_state first lines items done state text totals before after playing same end in
    record {
      said = text;
      fits = ended IsSaid first lines done state text playing.way (no_line lines items done same end);
      written = done_is ∙ (λ i. text ++ done_text ((k_is ∙ ap (λ (s : PlayState). s.book.published) (sym last)) i) ((n_is ∙ ap (λ (s : PlayState). length s.book.history) (sym last)) i));
    }

-- the totals at the end
pub are_totals : (first : PlayState) (lines items : List Line) (done : ℕ) (state : PlayState) (text : List ℕ) (totals told : Totals) (before after : ℕ)
    → IsPlaying first lines done state text totals before after
    → items ≡ lines
    → length items ≤ done
    → told ≡ totals_at state.book totals
    → AreTotalsFrom first lines told
are_totals first lines items done state text totals told before after playing same end told_is =
    let last = last_state first lines items done state text totals before after playing same end in
    let counted = counts playing.tallied.given totals playing.tallied.is in
    subst (AreTotalsFrom first lines) (sym told_is) (record {
      given = playing.tallied.given;
      right = ended IsCounted first lines done state playing.tallied.given playing.tallied.way (no_line lines items done same end);
      counted = record { paths = counted.paths; no_path = counted.no_path; no_start = counted.no_start; no_goal = counted.no_goal; cost = counted.cost };
      ends = record {
        entries = ap (λ (s : PlayState). length s.book.history) (sym last);
        published = ap (λ (s : PlayState). s.book.published) (sym last);
        polys = ap (λ (s : PlayState). polygon_count (published_mesh s.book).tiles) (sym last);
        links = ap (λ (s : PlayState). link_count (published_mesh s.book)) (sym last);
      };
    })

-- the state at the beginning
pub begun_state : (script : Script) (book : BookState) (ground : Ground) (adds : List (List ℕ)) (workers : List (Option TileResult)) (jumps : List Jump)
    → book ≡ books.first_state ground → adds ≡ replicate script.lanes [] → workers ≡ replicate script.workers None → jumps ≡ []
    → ◌≡◌ {A = PlayState} (record { book = book; lane = 0; adds = adds; held = jobs_of_held workers; jumps = jumps }) (opening_state ground script.lanes script.workers)
begun_state script book ground adds workers jumps begins lanes none bare = λ i. record {
  book = begins i;
  lane = 0;
  adds = lanes i;
  held = jobs_begun workers script.workers none i;
  jumps = bare i;
}
