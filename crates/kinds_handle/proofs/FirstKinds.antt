-- The kind in which something is found is one of the kinds.
use Rattle.std.proofs.Common.{◌≡◌, ℕ, zero, suc, ◌+◌, ◌≤◌, ◌<◌, List, [], ◌∷◌, length, Option, Some, None, Bool, true, false, ap, refl, sym, ◌∙◌, arith}
use Rattle.std.specs.Prelude.{◌==◌, if◌then◌else◌, All}
use Rattle.std.specs.Option.{option_map_or}
use Rattle.std.proofs.lemmas.Option.{none-some}
use Rattle.std.proofs.lemmas.List.{length-map}
use Rattle.build_queue.specs.BookState.{BookState, least_awaited, least_claimable}
use Rattle.build_queue.specs.Steps.{after_publish}
use Rattle.nav_book.specs.Settling.{after_step}
use Rattle.agent_kinds.specs.declared.publish.KindsPublished.{KindsPublished}
use Rattle.agent_kinds.specs.declared.publish.KindsPublished.TheVariants.{New, Same, NotYet}
use Rattle.agent_kinds.specs.Firsts.{at_found, at_kind, first_awaited, first_claimable, first_in}
use Rattle.agent_kinds.specs.Kinds.{AreKinds}
use Rattle.agent_kinds.specs.KindSteps.{after_publish_all, publication_by, published_unless}

pub found_below : {X : Type 0} (find : BookState → Option X) (kind : ℕ) (states : List BookState) (first : ℕ × X) → first_in find kind states ≡ Some first
    → first.0 < kind + length states
unfolding first_in
found_below find kind [] first found = absurd (none-some first found)
found_below {X} find kind (state ∷ more) first found = by_case (λ rest. found_below find (kind + 1) more first rest) (find state) found
  where
    by_case : (first_in find (kind + 1) more ≡ Some first → first.0 < kind + 1 + length more) → (o : Option X) → option_map_or (λ (x : X). Some (kind, x)) o (first_in find (kind + 1) more) ≡ Some first → first.0 < kind + length (state ∷ more)
    by_case later (Some x) is = let same : (kind, x) ≡ first = cc in omega (arith, ap (λ (p : ℕ × X). p.0) same)
    by_case later None rest = let below = later rest in omega (arith, below)

-- so it is one of sixteen
pub few_found : {X : Type 0} (find : BookState → Option X) (states : List BookState) (first : ℕ × X) → length states ≤ 16 → first_in find 0 states ≡ Some first → first.0 ≤ 16
few_found find states first few found = omega (arith, few, found_below find 0 states first found)

-- as many kinds are there after a step of one
pub length-at_kind : (kind : ℕ) (step : BookState → BookState) (states : List BookState) → length (at_kind kind step states) ≡ length states
unfolding at_kind
length-at_kind kind step [] = refl
length-at_kind zero step (state ∷ more) = refl
length-at_kind (suc kind) step (state ∷ more) = ap suc (length-at_kind kind step more)

pub length-at_found : {X : Type 0} (step : BookState → BookState) (found : Option (ℕ × X)) (states : List BookState)
    → length (at_found step found states) ≡ length states
length-at_found step None states = refl
length-at_found step (Some first) states = length-at_kind first.0 step states

-- so it is one of sixteen where a step told it
pub step_few : (old new : List BookState) (answer : Option (ℕ × ℕ)) (kind tile : ℕ) → answer ≡ first_claimable old → answer ≡ Some (kind, tile)
    → new ≡ at_found after_step (first_claimable old) old → AreKinds new → kind ≤ 16
step_few old new answer kind tile found told state kinds =
    let many : length new ≡ length old = ap length state ∙ length-at_found after_step (first_claimable old) old in
    few_found least_claimable old (kind, tile) (omega (arith, many, kinds.few)) (sym found ∙ told)

-- the kind that a publish tells is the one that was found
told_found : (found : Option (ℕ × ℕ)) (state : BookState) (kind tile : ℕ) → NotYet kind tile ≡ publication_by found state
    → ◌≡◌ {A = Option (ℕ × ℕ)} found (Some (kind, tile))
told_found (Some (k, t)) state kind tile told =
    let same : kind ≡ k = cc in
    let other : tile ≡ t = cc in
    λ i. Some (sym same i, sym other i)
told_found None state kind tile told = by_test (state.target == state.published) told
  where
    by_test : (b : Bool) → NotYet kind tile ≡ (if b then Same state.published else New state.target) → ◌≡◌ {A = Option (ℕ × ℕ)} None (Some (kind, tile))
    by_test true is = absurd cc
    by_test false is = absurd cc

awaited_found : (states : List BookState) (found : Option (ℕ × ℕ)) (kind tile : ℕ) (told : KindsPublished) → 1 ≤ length states → told ≡ NotYet kind tile
    → All (λ (state : BookState). told ≡ publication_by found state) states → ◌≡◌ {A = Option (ℕ × ℕ)} found (Some (kind, tile))
awaited_found [] found kind tile told some is all = absurd (omega (arith, some))
awaited_found (state ∷ more) found kind tile told some is all = told_found found state kind tile (sym is ∙ all 0 state (omega arith))

length-published : (found : Option (ℕ × ℕ)) (states : List BookState) → length (published_unless found states) ≡ length states
length-published (Some awaited) states = refl
length-published None states = length-map states after_publish

pub publish_few : (old new : List BookState) (told : KindsPublished) (kind tile : ℕ) → told ≡ NotYet kind tile
    → All (λ (state : BookState). told ≡ publication_by (first_awaited old) state) old → new ≡ after_publish_all old → AreKinds new → kind ≤ 16
publish_few old new told kind tile is all state kinds =
    let many : length new ≡ length old = ap length state ∙ length-published (first_awaited old) old in
    few_found least_awaited old (kind, tile) (omega (arith, many, kinds.few))
    (awaited_found old (first_awaited old) kind tile told (omega (arith, many, kinds.some)) is all)
