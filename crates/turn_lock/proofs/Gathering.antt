-- What is known of all passes once their seats are joined.
use Rattle.std.proofs.Common.{◌≡◌, ℕ, ◌<◌, ◌≤◌, false, List, [], ◌∷◌, ◌++◌, length, map, Some, get_or, sym, ◌∙◌, ap, subst, append_assoc, append-nil, arith}
use Rattle.std.specs.Prelude.{All, Any}
use Rattle.std.proofs.lemmas.List.{map-append, length-map}
use Rattle.std.proofs.Math.ListN.{get_or-map}
use mathlib.Core.Option as maybe
use lib.ListN.{get_elem?}
use Rattle.atomic_table.specs.Table.{Final, Seen}
use Rattle.turn_lock.specs.declared.view.Claim.{Claim}
use Rattle.turn_lock.specs.declared.view.SeatView.{SeatView}
use Rattle.turn_lock.specs.Growth.{Extends}
use Rattle.turn_lock.specs.Locks.{PassView, claim_of}
use Rattle.turn_lock.specs.Turns.{Stands, Turns}
use Rattle.turn_lock.specs.SeatViews.{claims_of}
use Rattle.turn_lock.proofs.Seats.{Ended, ends}

module _ {G E : Type 0} where
  -- one more pass's claim is with the others
  pub gathered : (rest items : List (PassView G E)) (pass : PassView G E) (own : Claim E) (taken claims : List (Claim E)) → items ≡ rest ++ pass ∷ [] → own ≡ claim_of pass → taken ≡ []
      → map claim_of rest ++ (own ∷ (taken ++ claims)) ≡ map claim_of items ++ claims
  gathered rest items pass own taken claims split is none =
      ap (λ l. map claim_of rest ++ (own ∷ (l ++ claims))) none ∙ ap (λ c. map claim_of rest ++ (c ∷ claims)) is
      ∙ sym (append_assoc (map claim_of rest) (claim_of pass ∷ []) claims)
      ∙ ap (λ l. l ++ claims) (sym (map-append claim_of rest (pass ∷ [])) ∙ ap (map claim_of) (sym split))

  pub gathered_first : (rest items : List (PassView G E)) (pass : PassView G E) (own : Claim E) (taken : List (Claim E)) → items ≡ rest ++ pass ∷ [] → own ≡ claim_of pass → taken ≡ []
      → map claim_of rest ++ (own ∷ taken) ≡ map claim_of items
  gathered_first rest items pass own taken split is none =
      ap (λ l. map claim_of rest ++ (own ∷ l)) (sym (append-nil taken)) ∙ gathered rest items pass own taken [] split is none ∙ append-nil (map claim_of items)

  -- what holds of each claim holds of each pass
  of_passes : (P : Claim E → Type 0) (items : List (PassView G E)) → All P (map claim_of items) → All (λ p. P (claim_of p)) items
  of_passes P items all k d below = subst P (get_or-map claim_of items k d) (all k (claim_of d) (let long = length-map items (claim_of {G = G} {E = E}) in omega arith))

  to_claims : (number : ℕ) (items : List (PassView G E)) → Any (λ p. p.number ≡ number) items → Any (λ c. c.number ≡ number) (map claim_of items)
  to_claims number items (k, pass, below, here, is) =
      (k, claim_of pass, (let long = length-map items (claim_of {G = G} {E = E}) in omega arith), get_or-map claim_of items k pass ∙ ap claim_of here, is)

module _ {B G E : Type 0} (root_of : B → G) (entries : B → List E) (maker : E → ℕ) (r : G) (passes : ℕ) where
  -- what the passes know of the value's list
  pub record Closes (items : List (PassView G E)) (value : B) : Type 0 where
    pub root : root_of value ≡ r
    pub extends : All (λ p. Extends maker p.number p.seen (entries value)) items
    pub met : All (λ p. p.met ≤ length (entries value)) items
    pub made : All (λ e. Any (λ p. p.number ≡ maker e) items) (entries value)

  pub closes : (items : List (PassView G E)) (id : ℕ) (v : SeatView G E) (words : List ℕ) (slots : List B) (value : B) → v.root ≡ Some r → v.holds ≡ false → claims_of v ≡ map claim_of items
      → ((k : ℕ) → k < passes → Any (λ p. p.number ≡ k) items)
      → Final (Seen (Turns root_of entries maker r passes) id v) words slots → get_elem? slots 0 ≡ maybe.some value → Closes items value
  closes items id v words slots value rooted idle claims all final taken =
      let ended : Ended root_of entries maker r passes v value = ends root_of entries maker r passes id v words slots rooted idle
      (λ k below. subst (Any (λ c. c.number ≡ k)) (sym claims) (to_claims k items (all k below))) final value taken in
      let stand : All (λ p. Stands maker ended.count ended.seat_of ended.seat (entries value) (claim_of p)) items =
      of_passes (Stands maker ended.count ended.seat_of ended.seat (entries value)) items (subst (All (Stands maker ended.count ended.seat_of ended.seat (entries value))) claims ended.claims) in
      record {
        root = ended.root;
        extends = λ k d below. (stand k d below).extends;
        met = λ k d below. (stand k d below).met;
        made = λ k d below. all (maker (get_or (entries value) k d)) (ended.makers k d below);
      }
