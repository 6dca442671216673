-- One kind that takes two steps, and the kind in which something is found.
use Rattle.std.proofs.Common.{◌≡◌, ℕ, zero, suc, ◌+◌, ◌≤◌, List, [], ◌∷◌, Option, Some, None, ap, refl, sym, ◌∙◌, arith}
use Rattle.std.specs.Prelude.{slice_get, option_map}
use Rattle.std.specs.Option.{option_map_or}
use Rattle.std.proofs.lemmas.Option.{none-some}
use Rattle.build_queue.specs.BookState.{BookState}
use Rattle.agent_kinds.specs.Firsts.{at_kind, first_in}

-- two steps of one kind
pub at_twice : (kind : ℕ) (f g : BookState → BookState) (states : List BookState)
    → at_kind kind f (at_kind kind g states) ≡ at_kind kind (λ (state : BookState). f (g state)) states
unfolding at_kind
at_twice kind f g [] = refl
at_twice zero f g (state ∷ more) = refl
at_twice (suc kind) f g (state ∷ more) = ap (λ (rest : List BookState). state ∷ rest) (at_twice kind f g more)

-- a step that changes nothing of it
pub at_rest : (kind : ℕ) (step : BookState → BookState) (states : List BookState) (state : BookState) → slice_get states kind ≡ Some state → step state ≡ state
    → at_kind kind step states ≡ states
unfolding at_kind
at_rest kind step [] state there still = refl
at_rest zero step (first ∷ more) state there still =
    let same : first ≡ state = cc in
    ap (λ (it : BookState). it ∷ more) (ap step same ∙ still ∙ sym same)
at_rest (suc kind) step (first ∷ more) state there still = ap (λ (rest : List BookState). first ∷ rest) (at_rest kind step more state there still)

-- the kind after a step of it
pub after_at : (kind : ℕ) (step : BookState → BookState) (states : List BookState) → slice_get (at_kind kind step states) kind ≡ option_map step (slice_get states kind)
unfolding at_kind
after_at kind step [] = refl
after_at zero step (first ∷ more) = refl
after_at (suc kind) step (first ∷ more) = after_at kind step more

-- what is found is found from the first kind on
found_from : {X : Type 0} (find : BookState → Option X) (base : ℕ) (states : List BookState) (first : ℕ × X) → first_in find base states ≡ Some first
    → base ≤ first.0
unfolding first_in
found_from find base [] first found = absurd (none-some first found)
found_from {X} find base (state ∷ more) first found = by_case (λ rest. found_from find (base + 1) more first rest) (find state) found
  where
    by_case : (first_in find (base + 1) more ≡ Some first → base + 1 ≤ first.0) → (o : Option X) → option_map_or (λ (x : X). Some (base, x)) o (first_in find (base + 1) more) ≡ Some first → base ≤ first.0
    by_case later (Some x) is = let same : (base, x) ≡ first = cc in omega (arith, ap (λ (p : ℕ × X). p.0) same)
    by_case later None rest = let past = later rest in omega (arith, past)

-- what is found is the kind that is told, and what is found there
same_found : {X : Type 0} (a b : ℕ) (x y : X) → ◌≡◌ {A = Option (ℕ × X)} (Some (a, x)) (Some (b, y)) → (a ≡ b) × (x ≡ y)
same_found {X} a b x y e =
    let both : ◌≡◌ {A = ℕ × X} (a, x) (b, y) = cc in
    (ap (λ (p : ℕ × X). p.0) both, ap (λ (p : ℕ × X). p.1) both)

-- it is found in the kind that is told
pub found_at : {X : Type 0} (find : BookState → Option X) (base k : ℕ) (x : X) (states : List BookState) (state : BookState)
    → first_in find base states ≡ Some (base + k, x) → slice_get states k ≡ Some state → find state ≡ Some x
unfolding first_in
found_at find base k x [] state found there = absurd (none-some (base + k, x) found)
found_at {X} find base zero x (first ∷ more) state found there = by_case (find first) refl found
  where
    by_case : (o : Option X) → find first ≡ o → option_map_or (λ (y : X). Some (base, y)) o (first_in find (base + 1) more) ≡ Some (base + zero, x) → find state ≡ Some x
    by_case (Some y) here is =
        let same : first ≡ state = cc in
        ap find (sym same) ∙ here ∙ ap Some (same_found base (base + zero) y x is).1
    by_case None here rest = let later = found_from find (base + 1) more (base + zero, x) rest in absurd (omega (arith, later))
found_at {X} find base (suc k) x (first ∷ more) state found there = by_case (λ rest. found_at find (base + 1) k x more state rest there) (find first) found
  where
    by_case : (first_in find (base + 1) more ≡ Some (base + 1 + k, x) → find state ≡ Some x) → (o : Option X) → option_map_or (λ (y : X). Some (base, y)) o (first_in find (base + 1) more) ≡ Some (base + suc k, x) → find state ≡ Some x
    by_case later (Some y) is =
        absurd (omega (arith, (same_found base (base + suc k) y x is).0))
    by_case later None rest =
        let same : base + suc k ≡ base + 1 + k = omega arith in
        later (rest ∙ ap (λ (n : ℕ). Some (n, x)) same)

pub found_there : {X : Type 0} (find : BookState → Option X) (kind : ℕ) (x : X) (states : List BookState) (state : BookState)
    → first_in find 0 states ≡ Some (kind, x) → slice_get states kind ≡ Some state → find state ≡ Some x
found_there find kind x states state found there =
    let same : kind ≡ 0 + kind = omega arith in
    found_at find 0 kind x states state (found ∙ ap (λ (n : ℕ). Some (n, x)) same) there
