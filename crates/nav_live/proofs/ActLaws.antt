-- What single acts leave as it was, and what they add.
use Rattle.std.proofs.Common.{◌≡◌, ℕ, ◌+◌, Bool, true, false, List, [], ◌∷◌, length, take, drop, take-append-drop, ap, ◌∙◌, sym, subst, refl, arith, inl, inr, length-append, Some}
use Rattle.std.specs.Prelude.{Ok, Err, if◌then◌else◌}
use mathlib.Core.List.{IsPrefix}
use Rattle.std.proofs.lemmas.Bool.{eqb-true}
use Rattle.nav_ground.specs.declared.history.Entry.{Entry}
use Rattle.nav_ground.specs.declared.history.Request.{Request}
use Rattle.build_queue.specs.BookState.{BookState}
use Rattle.build_queue.specs.Steps.{after_request, is_full, next_reply, request_answer, requested}
use Rattle.nav_book.specs.Views.{BookView}
use Rattle.turn_lock.specs.Growth.{Grows}
use Rattle.nav_live.specs.declared.book.LiveAct.TheVariants as acts
use Rattle.nav_live.specs.declared.book.LiveDone.{LiveDone}
use Rattle.nav_live.specs.ActRules.{DoesAsk}
use Rattle.nav_live.specs.LiveBooks.{Steps, asked, having}
use Rattle.nav_live.specs.Roots.{root_of}

-- a request keeps the root
requested_root : (book : BookView) (lane : ℕ) (request : Request) → root_of (having book (requested book.state lane request)) ≡ root_of book
requested_root book lane request = by_case (is_full book.state)
  where
    by_case : (full : Bool) → root_of (having book (if full then book.state else after_request book.state lane request)) ≡ root_of book
    by_case true = refl
    by_case false = refl

pub asked_root : (book after : BookView) (lane : ℕ) (request : Request) (done : LiveDone) → Steps book (acts.Ask lane request) done after → root_of after ≡ root_of book
asked_root book after lane request done steps = ap root_of steps.1 ∙ requested_root book lane request

-- and adds at most one entry, which is its lane's
pub asked_grows : (book after : BookView) (lane : ℕ) (request : Request) (done : LiveDone) → Steps book (acts.Ask lane request) done after
    → Grows (λ (entry : Entry). entry.lane) (Some lane) book.state.history after.state.history
asked_grows book after lane request done steps =
    subst (λ (b : BookView). Grows (λ (entry : Entry). entry.lane) (Some lane) book.state.history b.state.history) (sym steps.1) (by_case (is_full book.state))
  where
    by_case : (full : Bool) → Grows (λ (entry : Entry). entry.lane) (Some lane) book.state.history (if full then book.state else after_request book.state lane request).history
    by_case true = inl refl
    by_case false = inr (_, refl, refl)

-- what it adds is what it is told of
told_entry : (book : BookState) (lane : ℕ) (request : Request)
    → DoesAsk lane request book.history (asked (if is_full book then Err (record { len = length book.history }) else Ok (length book.history + 1, next_reply book request)))
    (if is_full book then book else after_request book lane request).history
told_entry book lane request = by_case (is_full book) refl
  where
    by_case : (full : Bool) → is_full book ≡ full
        → DoesAsk lane request book.history (asked (if full then Err (record { len = length book.history }) else Ok (length book.history + 1, next_reply book request)))
        (if full then book else after_request book lane request).history
    by_case true is = (refl, refl, eqb-true _ _ is)
    by_case false is = (refl, omega (arith, length-append book.history (record { lane = lane; request = request; reply = next_reply book request } ∷ [])))

pub asked_did : (book after : BookView) (lane : ℕ) (request : Request) (done : LiveDone) → Steps book (acts.Ask lane request) done after
    → DoesAsk lane request book.state.history done after.state.history
asked_did book after lane request done steps =
    subst (λ (d : LiveDone). DoesAsk lane request book.state.history d after.state.history) (sym steps.0)
    (subst (λ (b : BookView). DoesAsk lane request book.state.history (asked (request_answer book.state request)) b.state.history) (sym steps.1)
    (told_entry book.state lane request))

-- a claim and a publish keep the root and the history, also where memory is refused
pub claim_keeps : (book after : BookView) (done : LiveDone) → Steps book acts.Claim done after → (root_of after ≡ root_of book) × (after.state.history ≡ book.state.history)
claim_keeps book after done steps =
    elim steps [
      | inl taken ↦ (ap root_of taken.1, ap (λ (b : BookView). b.state.history) taken.1)
      | inr refused ↦ (ap root_of refused.1, ap (λ (b : BookView). b.state.history) refused.1)
    ]

pub publish_keeps : (book after : BookView) (done : LiveDone) → Steps book acts.Publish done after → (root_of after ≡ root_of book) × (after.state.history ≡ book.state.history)
publish_keeps book after done steps =
    elim steps [
      | inl taken ↦ (ap root_of taken.1, ap (λ (b : BookView). b.state.history) taken.1)
      | inr refused ↦ (ap root_of refused.1, ap (λ (b : BookView). b.state.history) refused.1)
    ]

-- a list begins with its first entries
pub front_of : (n : ℕ) (list : List Entry) → IsPrefix (take n list) list
front_of n list = (drop n list, take-append-drop n list)
