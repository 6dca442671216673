-- A tile that is claimed and built: its build is taken in, or it is put back.
use Rattle.std.proofs.Common.{◌≡◌, ℕ, Bool, true, false, set, ap, ◌∙◌, sym, refl, Option, Some, None}
use Rattle.std.specs.Prelude.{not, ◌&&◌}
use Rattle.std.specs.Option.{option_map, option_map_or}
use Rattle.std.proofs.lemmas.List.{set-get_or, set-set}
use Rattle.std.proofs.lemmas.Option.{same_Some}
use Rattle.nav_ground.specs.Tiling.{tile_count}
use Rattle.build_queue.specs.declared.live.Job.{Job}
use Rattle.build_queue.specs.BookState.{BookState, is_awaited, is_claimable, is_claimed, least_claimable}
use Rattle.build_queue.specs.Steps.{after_claim, after_put_back, after_submit, next_job}
use Rattle.build_queue.proofs.Words.{job_of}
use Rattle.build_queue.proofs.Leasts.{least_passes}
use Rattle.nav_book.specs.Settling.{after_job, after_step, steps_due}

not_second : (a b : Bool) → (a && not b) ≡ true → b ≡ false
not_second true true is = absurd cc
not_second true false is = refl
not_second false b is = absurd cc

abbrev count_of : Option ℕ → ℕ
count_of o = option_map_or (λ (tile : ℕ). 1) o 0

-- the count takes a step with a tile that can be claimed, and none where there is none
pub one_due : (book : BookState) (tile : ℕ) → least_claimable book ≡ Some tile → steps_due book ≡ 1
one_due book tile is = ap count_of is

pub none_due : (book : BookState) → least_claimable book ≡ None → steps_due book ≡ 0
none_due book none = ap count_of none

-- a job that is given: its tile is the least that can be claimed; once its build is taken in that was the step, and once it is put back
-- nothing has changed
pub record IsGiven (book : BookState) (job : Job) : Type 0 where
  pub tile : Some job.tile ≡ least_claimable book
  pub due : steps_due book ≡ 1
  pub taken : after_submit (after_claim book) job.tile job.shapes ≡ after_step book
  pub back : after_put_back (after_claim book) job.tile ≡ book

pub is_given : (book : BookState) (given : Option Job) (job : Job) → given ≡ next_job book → given ≡ Some job → IsGiven book job
is_given book given job next_is some = by_case (least_claimable book) refl
  where
    by_case : (o : Option ℕ) → least_claimable book ≡ o → IsGiven book job
    by_case None nothing =
        let e : Some job ≡ None = sym some ∙ next_is ∙ ap (option_map (job_of book)) nothing in
        absurd cc
    by_case (Some tile) is =
        let same : job ≡ job_of book tile =
        same_Some job (job_of book tile) (sym some ∙ next_is ∙ ap (option_map (job_of book)) is) in
        let free : is_claimed book tile ≡ false =
        not_second (is_awaited book tile) (is_claimed book tile) (least_passes (tile_count book.ground.setting) tile (is_claimable book) is).1 in
        let flags : set (option_map_or (λ (t : ℕ). set book.claimed t true) (least_claimable book) book.claimed) job.tile false ≡ book.claimed =
        (λ i. set (option_map_or (λ (t : ℕ). set book.claimed t true) (is i) book.claimed) (same i).tile false)
        ∙ set-set book.claimed tile true false ∙ ap (set book.claimed tile) (sym free) ∙ set-get_or book.claimed tile false in
        record {
          tile = ap (λ (j : Job). Some j.tile) same ∙ sym is;
          due = one_due book tile is;
          taken = ap (λ (j : Job). after_submit (after_claim book) j.tile j.shapes) same
              ∙ ap (λ (o : Option ℕ). option_map_or (after_job book) o book) (sym is);
          back = λ i. record book { claimed = flags i };
        }

-- no job is given where no tile can be claimed, and then nothing is done
pub record IsIdle (book : BookState) : Type 0 where
  pub none : None ≡ least_claimable book
  pub due : steps_due book ≡ 0
  pub same : after_claim book ≡ after_step book

pub is_idle : (book : BookState) (given : Option Job) → given ≡ next_job book → given ≡ None → IsIdle book
is_idle book given next_is none = by_case (least_claimable book) refl
  where
    by_case : (o : Option ℕ) → least_claimable book ≡ o → IsIdle book
    by_case None nothing = record {
      none = sym nothing;
      due = none_due book nothing;
      same = (λ i. record book { claimed = option_map_or (λ (t : ℕ). set book.claimed t true) (nothing i) book.claimed })
          ∙ ap (λ (o : Option ℕ). option_map_or (after_job book) o book) (sym nothing);
    }
    by_case (Some tile) is =
        let e : Some (job_of book tile) ≡ None = sym (ap (option_map (job_of book)) is) ∙ sym next_is ∙ none in
        absurd cc
