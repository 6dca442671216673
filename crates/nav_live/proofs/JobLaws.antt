-- The job that a claim gives is one that the history asks for.
use Rattle.std.proofs.Common.{◌≡◌, ◌∙◌, sym, ap, subst, ℕ, ◌≤◌, length, List}
use Rattle.std.specs.Prelude.{Option, Some, None, option_map}
use Rattle.std.proofs.lemmas.Option.{none-some, same_Some}
use Rattle.nav_ground.specs.declared.history.Entry.{Entry}
use Rattle.nav_ground.specs.History.{shapes_alive}
use Rattle.nav_ground.specs.Touching.{touching_shapes}
use Rattle.build_queue.specs.declared.live.Job.{Job}
use Rattle.build_queue.specs.BookState.{BookState, IsBook, least_claimable, wanted_at}
use Rattle.build_queue.specs.Steps.{IsJob, after_claim, next_job}
use Rattle.nav_book.specs.Views.{BookView}
use Rattle.nav_live.specs.ActRules.{IsJobOf, IsTouched}
use Rattle.nav_live.specs.Roots.{root_of}
use Rattle.nav_live.specs.Touched.{AreTouched}
use Rattle.nav_live.proofs.TouchedLaws.{job_touched}

-- its shapes are those that touch its tile at the target
wanted_shapes : (state : BookState) (job : Job) → Some job ≡ next_job state → job.shapes ≡ wanted_at state job.tile
wanted_shapes state job is = by_least (least_claimable state) is
  where
    by_least : (least : Option ℕ) → Some job ≡ option_map (λ (tile : ℕ). record { tile = tile; shapes = wanted_at state tile }) least → job.shapes ≡ wanted_at state job.tile
    by_least None none = absurd (none-some job (sym none))
    by_least (Some tile) some =
        let same = same_Some job (record { tile = tile; shapes = wanted_at state tile }) some in
        ap (λ (j : Job). j.shapes) same ∙ ap (wanted_at state) (sym (ap (λ (j : Job). j.tile) same))

pub is_job_of : (book : BookView) (after : BookState) (job : Job) → Some job ≡ next_job book.state → IsJob book.state.ground.setting job
    → after ≡ after_claim book.state → IsBook after → AreTouched book → IsJobOf (root_of book) after.history job
is_job_of book after job is fits claimed rules touched = record {
  fit = fits;
  touched =
      subst (λ (history : List Entry). IsTouched book.state.ground history job.tile) (sym (ap (λ (s : BookState). s.history) claimed))
      (job_touched book job (subst (λ (s : BookState). s.target ≤ length s.history) claimed rules.aimed) touched is);
  target = book.state.target;
  aimed = subst (λ (target : ℕ). target ≤ length after.history) (ap (λ (s : BookState). s.target) claimed) rules.aimed;
  shapes =
      wanted_shapes book.state job is
      ∙ ap (λ (history : List Entry). touching_shapes book.state.ground.setting job.tile (shapes_alive history book.state.target))
      (sym (ap (λ (s : BookState). s.history) claimed));
}
