use Rattle.std.proofs.Common.{◌≡◌, ◌∙◌, ap, refl, Result, Ok, Err}
use Rattle.std.specs.Prelude.{OnOk, OnErr}
use Rattle.build_queue.specs.BookState.{BookState}
use Rattle.nav_book.specs.Views.{BookView}
use Rattle.tests_paths.proofs.books.ask_all.Goals as goal

-- a request leaves the ground, also where it is refused
same_ground : {A E : Type 0} (result : Result A E) (old new : BookView) (next : BookState) → OnOk result (new.state ≡ next) → OnErr result (new ≡ old)
    → next.ground ≡ old.state.ground → new.state.ground ≡ old.state.ground
same_ground (Ok answer) old new next taken refused same = ap (λ (s : BookState). s.ground) taken ∙ same
same_ground (Err error) old new next taken refused same = ap (λ (b : BookView). b.state.ground) refused

pub loop-asked-preserved : goal.loop-asked-preserved
loop-asked-preserved c =
    same_ground c.request-answer.result c.loop-asked.book _ _ c.request-answer.ensures.did.appended c.request-answer.ensures.refused refl ∙ c.loop-asked.invariant
