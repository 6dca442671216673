-- A claim and a submission for each awaited tile, one after another.
use Rattle.std.proofs.Common.{◌≡◌, ℕ, ◌+◌, ◌<◌, ◌≤◌, Bool, true, false, List, [], ◌∷◌, length, set, ap, ◌∙◌, sym, subst, refl, arith, inl, inr, Option, Some, None}
use Rattle.std.specs.Prelude.{not, ◌&&◌}
use Rattle.std.specs.List.{find, fold, range_with_len}
use Rattle.std.specs.Option.{option_map_or}
use Rattle.std.proofs.Math.ListN.{get_or-eq_default}
use Rattle.std.proofs.lemmas.Bool.{cases_eq, cases_lt, cond-true}
use Rattle.std.proofs.lemmas.List.{get_or-set_same, get_or-set_other, length-set}
use Rattle.nav_ground.specs.declared.shape.Shape.{Shape}
use Rattle.nav_ground.specs.Tiling.{tile_count}
use Rattle.build_queue.specs.BookState.{BookState, IsBook, is_awaited, is_claimed, least_awaited, least_claimable, wanted_at}
use Rattle.build_queue.specs.Flags.{flag_of}
use Rattle.build_queue.specs.SameShapes.{are_same}
use Rattle.build_queue.specs.Steps.{after_claim, is_taken}
use Rattle.build_queue.proofs.BookLaws.{shown_after_publish}
use Rattle.build_queue.proofs.SameShapes.{same_lists_decide}
use Rattle.nav_book.specs.Settling.{IsUnclaimed, after_job, after_settle, after_step, all_built, awaited_tiles, settling, steps_due}
use Rattle.nav_book.proofs.StepLaws.{none_due, one_due}
use Rattle.nav_book.proofs.Passing.{first_passing, others_passing, none_found, none_passes}

-- where no tile is claimed, the least tile that can be claimed is the least awaited one
and_not : (a b : Bool) → b ≡ false → (a && not b) ≡ a
and_not true b is = ap not is
and_not false b is = refl

least_same : (book : BookState) → IsUnclaimed book → least_claimable book ≡ least_awaited book
least_same book free = λ i. find (λ (tile : ℕ). and_not (is_awaited book tile) (is_claimed book tile) (free.at tile) i) (range_with_len 0 (tile_count book.ground.setting))

-- the tile that is claimed next
claimed_next : (book : BookState) (tile : ℕ) (more : List ℕ) → IsUnclaimed book → awaited_tiles book ≡ tile ∷ more → least_claimable book ≡ Some tile
claimed_next book tile more free are = least_same book free ∙ (first_passing (is_awaited book) 0 (tile_count book.ground.setting) tile more are).found

-- the book after its claim and its submission: its touching list is stored
with_job : BookState → ℕ → BookState
with_job book tile = record book {
  claimed = set (set book.claimed tile true) tile false;
  stored = set book.stored tile (wanted_at book tile);
}

job_done : (book : BookState) (tile : ℕ) (more : List ℕ) → IsUnclaimed book → awaited_tiles book ≡ tile ∷ more → after_job book tile ≡ with_job book tile
unfolding with_job
job_done book tile more free are =
    let first = first_passing (is_awaited book) 0 (tile_count book.ground.setting) tile more are in
    let claim : (after_claim book).claimed ≡ set book.claimed tile true =
    ap (λ (o : Option ℕ). option_map_or (λ (t : ℕ). set book.claimed t true) o book.claimed) (claimed_next book tile more free are) in
    let taken : is_taken book tile (wanted_at book tile) ≡ true =
    (λ i. first.passes i && (same_lists_decide (wanted_at book tile) (wanted_at book tile)).1 refl i) in
    λ i. record book {
      claimed = set (claim i) tile false;
      stored = cond-true (is_taken book tile (wanted_at book tile)) (set book.stored tile (wanted_at book tile)) book.stored taken i;
    }

-- a flag that was down is down where another was raised and lowered, or that one
flag_ended : (flags : List Bool) (tile other : ℕ) → flag_of flags other ≡ false → flag_of (set (set flags tile true) tile false) other ≡ false
flag_ended flags tile other down =
    elim (cases_eq other tile) [
      | inl same ↦
          elim (cases_lt tile (length flags)) [
            | inl there ↦
                ap (λ (n : ℕ). flag_of (set (set flags tile true) tile false) n) same
                ∙ get_or-set_same (set flags tile true) tile false false (omega (arith, there, length-set flags tile true))
            | inr past ↦
                get_or-eq_default (set (set flags tile true) tile false) false
                (omega (arith, past, same, length-set flags tile true, length-set (set flags tile true) tile false))
          ]
      | inr apart ↦
          get_or-set_other (set flags tile true) tile other false false apart ∙ get_or-set_other flags tile other true false apart ∙ down
    ]

-- a job leaves the other awaited tiles, and no claim
pub record IsDone (book after : BookState) (more : List ℕ) : Type 0 where
  pub free : IsUnclaimed after
  pub left : awaited_tiles after ≡ more
  pub ground : after.ground ≡ book.ground

pub job_step : (book : BookState) (tile : ℕ) (more : List ℕ) → length book.stored ≡ tile_count book.ground.setting → IsUnclaimed book → awaited_tiles book ≡ tile ∷ more → IsDone book (after_job book tile) more
unfolding with_job
job_step book tile more lists free are =
    subst (λ (after : BookState). IsDone book after more) (sym (job_done book tile more free are)) (record {
      free = record { at = λ other. flag_ended book.claimed tile other (free.at other) };
      left = others_passing (is_awaited book) (is_awaited (with_job book tile)) 0 (tile_count book.ground.setting) tile more are done_now others;
      ground = refl;
    })
  where
    there : tile < length book.stored
    there = omega (arith, (first_passing (is_awaited book) 0 (tile_count book.ground.setting) tile more are).below, lists)

    done_now : is_awaited (with_job book tile) tile ≡ false
    done_now =
        ap (λ (list : List Shape). not (are_same list (wanted_at book tile))) (get_or-set_same book.stored tile (wanted_at book tile) [] there)
        ∙ ap not ((same_lists_decide (wanted_at book tile) (wanted_at book tile)).1 refl)

    others : (other : ℕ) → (other ≡ tile → ⊥) → is_awaited (with_job book tile) other ≡ is_awaited book other
    others other apart =
        ap (λ (list : List Shape). not (are_same list (wanted_at book other))) (get_or-set_other book.stored tile other (wanted_at book tile) [] apart)

-- a tile is built
built_more : (book : BookState) (tile : ℕ) (more : List ℕ) → awaited_tiles book ≡ tile ∷ more → awaited_tiles (after_job book tile) ≡ more
    → all_built (after_job book tile) ≡ all_built book
unfolding all_built
built_more book tile more are left = ap (fold after_job (after_job book tile)) left ∙ ap (fold after_job book) (sym are)

built_none : (book : BookState) → awaited_tiles book ≡ [] → all_built book ≡ book
unfolding all_built
built_none book none = ap (fold after_job book) none

-- a turn of the loop over tiles: one is claimed, built and submitted, and what is left to build leads to the same book
pub record IsTurn (book next : BookState) : Type 0 where
  pub free : IsUnclaimed next
  pub left : all_built next ≡ all_built book
  pub fewer : length (awaited_tiles book) ≡ length (awaited_tiles next) + 1
  pub due : steps_due book ≡ 1
  pub ground : next.ground ≡ book.ground
  pub history : next.history ≡ book.history
  pub published : next.published ≡ book.published

-- where no tile is awaited, none can be claimed
none_claimable : (book : BookState) → IsUnclaimed book → awaited_tiles book ≡ [] → least_claimable book ≡ None
none_claimable book free none = least_same book free ∙ none_found (is_awaited book) (range_with_len 0 (tile_count book.ground.setting)) none

pub turn : (book next : BookState) (given : Option ℕ) (tile : ℕ) → IsUnclaimed book → IsBook book → given ≡ least_claimable book → given ≡ Some tile
    → next ≡ after_step book → IsTurn book next
turn book next given tile free rules given_is some step = by_case (awaited_tiles book) refl
  where
    by_case : (tiles : List ℕ) → awaited_tiles book ≡ tiles → IsTurn book next
    by_case [] none =
        let e : Some tile ≡ None = sym some ∙ given_is ∙ none_claimable book free none in
        absurd cc
    by_case (first ∷ more) are =
        let done = job_step book first more rules.lists free are in
        let next_is : next ≡ after_job book first = step ∙ ap (λ (o : Option ℕ). option_map_or (after_job book) o book) (claimed_next book first more free are) in
        subst (λ (b : BookState). IsTurn book b) (sym next_is) (record {
          free = done.free;
          left = built_more book first more are done.left;
          fewer = let all = ap length are in let rest = ap length done.left in omega (arith, all, rest);
          due = one_due book first (claimed_next book first more free are);
          ground = done.ground;
          history = refl;
          published = refl;
        })

-- a step of the count for a tile that can be claimed is one for a tile that is awaited
pub step_fits : (book : BookState) → IsUnclaimed book → steps_due book ≤ length (awaited_tiles book)
step_fits book free = by_case (awaited_tiles book) refl
  where
    by_case : (tiles : List ℕ) → awaited_tiles book ≡ tiles → steps_due book ≤ length (awaited_tiles book)
    by_case [] none =
        let no = none_due book (none_claimable book free none) in
        omega (arith, no)
    by_case (first ∷ more) are =
        let one = one_due book first (claimed_next book first more free are) in
        let all = ap length are in
        omega (arith, one, all)

-- no tile is left: all is built, no tile is awaited, and the last step changed nothing
pub record IsEnd (book : BookState) : Type 0 where
  pub built : all_built book ≡ book
  pub left : awaited_tiles book ≡ []
  pub none : least_awaited book ≡ None
  pub due : steps_due book ≡ 0
  pub same : after_step book ≡ book

pub turns_end : (book : BookState) (given : Option ℕ) → IsUnclaimed book → given ≡ least_claimable book → given ≡ None → IsEnd book
turns_end book given free given_is none =
    let nothing : least_claimable book ≡ None = sym given_is ∙ none in
    let left : awaited_tiles book ≡ [] =
    none_passes (is_awaited book) (range_with_len 0 (tile_count book.ground.setting)) (sym (least_same book free) ∙ nothing) in
    record {
      built = built_none book left;
      left = left;
      none = sym (least_same book free) ∙ nothing;
      due = none_due book nothing;
      same = ap (λ (o : Option ℕ). option_map_or (after_job book) o book) nothing;
    }

-- what is built keeps the target, and once no tile is awaited a publish shows it
jobs_target : (book : BookState) (tiles : List ℕ) → (fold after_job book tiles).target ≡ book.target
jobs_target book [] = refl
jobs_target book (tile ∷ tiles) = jobs_target (after_job book tile) tiles

built_target : (book : BookState) → (all_built book).target ≡ book.target
unfolding all_built
built_target book = jobs_target book (awaited_tiles book)

-- a settled book shows its whole history
pub settled_shows : (book : BookState) → least_awaited (all_built (settling book)) ≡ None → (after_settle book).published ≡ length book.history
settled_shows book none = shown_after_publish (all_built (settling book)) none ∙ built_target (settling book)
