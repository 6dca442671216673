-- What a call that builds leaves, once its answer is handed on.
use Rattle.std.proofs.Common.{◌≡◌, ℕ, length, Result, Ok, Err, None, true≢false, ap, subst, sym, ◌∙◌}
use Rattle.std.specs.Prelude.{IsErr}
use Rattle.nav_base.specs.Counts.{HasRisenAtMost}
use Rattle.build_queue.specs.BookState.{BookState, IsBook, IsUnclaimed, least_awaited}
use Rattle.build_queue.specs.Steps.{after_publish}
use Rattle.nav_book.specs.CallContracts.{IsBuildAllStep, IsSettleStep}
use Rattle.nav_book.specs.Settling.{awaited_tiles, settling}
use Rattle.nav_book.proofs.JobLaws.{settled_shows}

-- the builds that were all made from a book, with another answer
pub all_made : {A B E F : Type 0} (at old new : BookState) (m n : ℕ) (made : A) (other : B) → at ≡ old
    → IsBuildAllStep {E = E} at new m n (Ok made) → IsBuildAllStep {E = F} old new m n (Ok other)
all_made {A} {B} {E} {F} at old new m n made other is from =
    let did = subst (λ (book : BookState). IsBuildAllStep {E = E} book new m n (Ok made)) is from in
    record {
      built = did.built;
      none = did.none;
      steps = did.steps;
      most = did.most;
      free = did.free;
      ground = did.ground;
      history = did.history;
      published = did.published;
      rules = did.rules;
    }

-- what holds where memory is refused amid the builds
pub refused_builds : {A E : Type 0} (old new : BookState) (m n : ℕ) (result : Result A E) → IsErr result
    → HasRisenAtMost (length (awaited_tiles old)) m n → IsUnclaimed new → new.ground ≡ old.ground → new.history ≡ old.history
    → new.published ≡ old.published → IsBook new → IsBuildAllStep old new m n result
refused_builds old new m n (Ok answer) refused most free ground history published rules = absurd (true≢false (sym refused))
refused_builds old new m n (Err error) refused most free ground history published rules = record {
  built = tt;
  none = tt;
  steps = tt;
  most = most;
  free = free;
  ground = ground;
  history = history;
  published = published;
  rules = rules;
}

-- those that were made until memory was refused, with another refusal
pub some_made : {A B E F : Type 0} (at old new : BookState) (m n : ℕ) (made : Result A E) (other : Result B F) → at ≡ old → IsErr other
    → IsBuildAllStep at new m n made → IsBuildAllStep old new m n other
some_made at old new m n made other is refused from =
    let did = subst (λ (book : BookState). IsBuildAllStep book new m n made) is from in
    refused_builds old new m n other refused did.most did.free did.ground did.history did.published did.rules

-- where memory is refused on the way, nothing is published
refused_settle : {A E F : Type 0} (old new : BookState) (m n : ℕ) (made : Result A E) (other : Result ℕ F) → IsErr other
    → IsBuildAllStep (settling old) new m n made → IsSettleStep old new m n other
refused_settle old new m n made (Ok answer) refused did = absurd (true≢false (sym refused))
refused_settle old new m n made (Err error) refused did = record {
  book = tt;
  shown = tt;
  steps = tt;
  most = did.most;
  free = did.free;
  ground = did.ground;
  history = did.history;
  refused = did.published;
  length = tt;
}

pub not_settled : {A E F : Type 0} (at old built new : BookState) (m n : ℕ) (made : Result A E) (other : Result ℕ F) → at ≡ old → new ≡ built
    → IsErr other → IsBuildAllStep (settling at) built m n made → IsSettleStep old new m n other
not_settled at old built new m n made other is same refused did =
    subst (λ (book : BookState). IsSettleStep book new m n other) is
    (subst (λ (book : BookState). IsSettleStep at book m n other) (sym same) (refused_settle at built m n made other refused did))

-- once all is built, a publish settles the book
pub settled : {E F : Type 0} (at old built new : BookState) (m n k : ℕ) → at ≡ old → IsBuildAllStep {E = E} (settling at) built m n (Ok k)
    → k ≡ length at.history → new ≡ after_publish built → IsSettleStep {E = F} old new m n (Ok k)
settled {E} {F} at old built new m n k is did len published =
    let book = published ∙ ap after_publish did.built in
    let here : IsSettleStep {E = F} at new m n (Ok k) = record {
      book = book;
      shown = ap (λ (b : BookState). b.published) book
          ∙ settled_shows at (subst (λ (b : BookState). least_awaited b ≡ None) did.built did.none);
      steps = did.steps;
      most = did.most;
      free = subst IsUnclaimed (sym published) (record { at = did.free.at });
      ground = ap (λ (b : BookState). b.ground) published ∙ did.ground;
      history = ap (λ (b : BookState). b.history) published ∙ did.history;
      refused = tt;
      length = len;
    } in
    subst (λ (b : BookState). IsSettleStep {E = F} b new m n (Ok k)) is here
