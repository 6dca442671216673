-- Steps of an update, and what they keep.
use Rattle.std.proofs.Common.{◌≡◌, ℕ, zero, suc, ◌+◌, ◌-◌, ◌≤◌, Bool, true, false, List, [], length, Option, Some, None, refl, sym, ap, ◌∙◌, arith}
use Rattle.std.specs.Prelude.{if◌then◌else◌, ◌==◌}
use Rattle.std.specs.List.{count_by}
use Rattle.std.specs.Option.{option_map_or}
use Rattle.std.proofs.lemmas.List.Elements.{All-weaker}
use Rattle.nav_ground.specs.declared.history.Entry.{Entry}
use Rattle.nav_ground.specs.History.{alive_after, shape_of}
use Rattle.build_queue.specs.BookState.{BookState, IsBook, least_claimable}
use Rattle.build_queue.specs.Steps.{after_aim}
use Rattle.nav_book.specs.Settling.{after_job, after_step, steps_due}
use Rattle.obstacle_registry.specs.Registry.{IsRegistry, IsRowOf, RegistryState, alive_now, first_registry}
use Rattle.obstacle_registry.specs.Updates.{IsPartOfUpdate, IsSomeSteps, aimed_if_shown, built_up_to, stepped_up_to, tiles_built}

-- a step keeps the history and the ground
same_step : (book : BookState) → ((after_step book).history ≡ book.history) × ((after_step book).ground ≡ book.ground)
same_step book = by_case (least_claimable book)
  where
    by_case : (o : Option ℕ) → ((option_map_or (after_job book) o book).history ≡ book.history) × ((option_map_or (after_job book) o book).ground ≡ book.ground)
    by_case None = (refl, refl)
    by_case (Some tile) = (refl, refl)

-- one step more
pub one_more : (n : ℕ) (book : BookState) → stepped_up_to (n + 1) book ≡ after_step (stepped_up_to n book)
unfolding stepped_up_to
one_more n book = let more : n + 1 ≡ suc n = omega arith in ap (λ k. stepped_up_to k book) more

pub built_more : (n : ℕ) (book : BookState) → tiles_built (n + 1) book ≡ tiles_built n book + steps_due (stepped_up_to n book)
unfolding tiles_built
built_more n book = let more : n + 1 ≡ suc n = omega arith in ap (λ k. tiles_built k book) more

pub none_yet : (book : BookState) → (stepped_up_to 0 book ≡ book) × (tiles_built 0 book ≡ 0)
unfolding stepped_up_to tiles_built
none_yet book = (refl, refl)

pub same_history : (n : ℕ) (book : BookState) → ((stepped_up_to n book).history ≡ book.history) × ((stepped_up_to n book).ground ≡ book.ground)
unfolding stepped_up_to
same_history zero book = (refl, refl)
same_history (suc n) book =
    let before = same_history n book in
    let step = same_step (stepped_up_to n book) in
    (step.0 ∙ before.0, step.1 ∙ before.1)

-- where no tile can be claimed, no step does anything
pub idle_step : (book : BookState) → least_claimable book ≡ None → (after_step book ≡ book) × (steps_due book ≡ 0)
idle_step book none = (ap (λ o. option_map_or (after_job book) o book) none, ap (λ (o : Option ℕ). option_map_or (λ (tile : ℕ). 1) o 0) none)

pub due_step : (book : BookState) (tile : ℕ) → least_claimable book ≡ Some tile → steps_due book ≡ 1
due_step book tile is = ap (λ (o : Option ℕ). option_map_or (λ (t : ℕ). 1) o 0) is

pub idle : (more n : ℕ) (book : BookState) → least_claimable (stepped_up_to n book) ≡ None
    → (stepped_up_to (n + more) book ≡ stepped_up_to n book) × (tiles_built (n + more) book ≡ tiles_built n book)
idle zero n book none =
    let same : n + 0 ≡ n = omega arith in
    (ap (λ k. stepped_up_to k book) same, ap (λ k. tiles_built k book) same)
idle (suc more) n book none =
    let before = idle more n book none in
    let next : n + suc more ≡ (n + more) + 1 = omega arith in
    let step = idle_step (stepped_up_to n book) none in (
      ap (λ k. stepped_up_to k book) next ∙ one_more (n + more) book ∙ ap after_step before.0 ∙ step.0,
      ap (λ k. tiles_built k book) next ∙ built_more (n + more) book ∙ ap (λ (b : BookState). tiles_built (n + more) book + steps_due b) before.0
          ∙ omega (arith, before.1, step.1),
    )

-- the same up to a number that is no less
pub idle_upto : (most n : ℕ) (book : BookState) → n ≤ most → least_claimable (stepped_up_to n book) ≡ None
    → (stepped_up_to most book ≡ stepped_up_to n book) × (tiles_built most book ≡ tiles_built n book)
idle_upto most n book few none =
    let rest : n + (most - n) ≡ most = omega (arith, few) in
    let is = idle (most - n) n book none in
    (ap (λ k. stepped_up_to k book) (sym rest) ∙ is.0, ap (λ k. tiles_built k book) (sym rest) ∙ is.1)

-- an aim keeps the history and the ground
pub same_aim : (book : BookState) → ((aimed_if_shown book).history ≡ book.history) × ((aimed_if_shown book).ground ≡ book.ground)
same_aim book = by_case (book.target == book.published)
  where
    by_case : (b : Bool) → ((if b then after_aim book else book).history ≡ book.history) × ((if b then after_aim book else book).ground ≡ book.ground)
    by_case true = (refl, refl)
    by_case false = (refl, refl)

-- and so does an update, also where only some of it was done
pub same_built : (n : ℕ) (book : BookState) → ((built_up_to n book).history ≡ book.history) × ((built_up_to n book).ground ≡ book.ground)
same_built n book =
    let steps = same_history n (aimed_if_shown book) in
    let aim = same_aim book in
    (steps.0 ∙ aim.0, steps.1 ∙ aim.1)

pub part_of : (most : ℕ) (book aimed new : BookState) → aimed ≡ aimed_if_shown book → IsSomeSteps most aimed new → IsPartOfUpdate most book new
part_of most book aimed new is some = record { steps = some.steps; few = some.few; done = some.done ∙ ap (stepped_up_to some.steps) is }

-- a registry stays one where its level has the same history
pub kept_update : (state : RegistryState) (book' : BookState) (version' : ℕ) → IsRegistry state → IsBook book' → book'.history ≡ state.book.history
    → IsRegistry (record state { book = book'; version = version' })
kept_update state book' version' rules' new same = record {
  book = new;
  ids = rules'.ids;
  holds = record {
    numbers = λ n some. rules'.holds.numbers n some
        ∙ ap (λ (h : List Entry). count_by (λ alive. alive == n) (alive_after h (length h))) (sym same);
    each = All-weaker (IsRowOf state.book) (IsRowOf book')
        (λ row own. record { limits = own.limits; added = λ some. ap (λ (h : List Entry). shape_of h row.number) same ∙ own.added some })
        state.rows rules'.holds.each;
  };
  few = rules'.few;
}

-- what was done of an update keeps the history and the ground
pub steps_keep : (n : ℕ) (book aimed new : BookState) → aimed ≡ aimed_if_shown book → new ≡ stepped_up_to n aimed
    → (new.history ≡ book.history) × (new.ground ≡ book.ground)
steps_keep n book aimed new aim is =
    let all : new ≡ built_up_to n book = is ∙ ap (stepped_up_to n) aim in
    let same = same_built n book in
    (ap (λ (b : BookState). b.history) all ∙ same.0, ap (λ (b : BookState). b.ground) all ∙ same.1)

-- the first registry is one
pub first_kept : (book : BookState) → IsBook book → alive_now book ≡ [] → IsRegistry (first_registry book)
first_kept book rules' none = record {
  book = rules';
  ids = record {
    rising = λ i j d apart within. absurd (omega (arith, within));
    given = λ k d within. absurd (omega (arith, within));
  };
  holds = record {
    numbers = λ n some. sym (ap (count_by (λ alive. alive == n)) none);
    each = λ k d within. absurd (omega (arith, within));
  };
  few = omega arith;
}
