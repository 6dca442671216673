-- Orders: each place has an entry, in whatever order the entries stand.
use Rattle.std.proofs.Common.{◌≡◌, ℕ, ◌+◌, List, [], ◌∷◌, ◌++◌, length, sym, subst, ◌∙◌, inl, inr, arith, length-append}
use Rattle.std.specs.Prelude.{Contains, map, IfOk, Result, Ok, Err}
use Rattle.std.specs.List.Sorted.{IsPermutation}
use Rattle.std.proofs.lemmas.Bool.{cases_lt}
use Rattle.std.proofs.lemmas.List.{get_or_append_left, get_or-append-add}
use Rattle.std.proofs.lemmas.List.Sorted.{Contains-permutation}
use Rattle.mesh_types.proofs.Gathered.{Contains-map}
use Rattle.crowd_moves.specs.declared.keyed.KeyedPlace.{KeyedPlace}
use Rattle.crowd_step.specs.Orders.{AreEntered, AreNamed}

-- the places so far have entries
pub record AreEnteredSo (entries : List KeyedPlace) (count : ℕ) : Type 0 where
  pub many : length entries ≡ count
  pub each : AreEntered count entries

pub entered_more : (entries longer : List KeyedPlace) (count : ℕ) (entry : KeyedPlace) → AreEnteredSo entries count → entry.place ≡ count
    → longer ≡ entries ++ entry ∷ [] → AreEnteredSo longer (count + 1)
entered_more entries longer count entry so place is = subst (λ (xs : List KeyedPlace). AreEnteredSo xs (count + 1)) (sym is) (record {
  many = more so.many;
  each = λ i within. elim (cases_lt i count) [
    | inl less ↦
        let had = so.each i less in
        record {
          entry = had.entry;
          listed = (
            had.listed.0,
            omega (arith, had.listed.1, length-append entries (entry ∷ [])),
            get_or_append_left entries (entry ∷ []) had.entry had.listed.0 had.listed.1 ∙ had.listed.2,
          );
          place = had.place;
        }
    | inr most ↦
        let here : count ≡ i = omega (arith, within, most) in
        record {
          entry = entry;
          listed = (length entries + 0, omega (arith, length-append entries (entry ∷ [])), get_or-append-add entries (entry ∷ []) 0 entry);
          place = place ∙ here;
        }
  ];
})
  where
    more : length entries ≡ count → length (entries ++ entry ∷ []) ≡ count + 1
    more many = omega (arith, many, length-append entries (entry ∷ []))

pub named_sorted : (count : ℕ) (made sorted : List KeyedPlace) (order : List ℕ) → AreEntered count made → IsPermutation made sorted
    → order ≡ map (λ (entry : KeyedPlace). entry.place) sorted → AreNamed count order
named_sorted count made sorted order entered moved is = λ i within.
    let had = entered i within in
    let listed = Contains-permutation made sorted had.entry moved had.listed in
    subst (λ (xs : List ℕ). Contains xs i) (sym is)
    (subst (λ (n : ℕ). Contains (map (λ (entry : KeyedPlace). entry.place) sorted) n) had.place
    (Contains-map (λ (entry : KeyedPlace). entry.place) sorted had.entry listed))

-- what follows from a value follows where there is one
pub if_ok_on : {T E : Type 0} {P Q : T → Type 0} (r : Result T E) → ((x : T) → P x → Q x) → IfOk r P → IfOk r Q
if_ok_on (Ok x) on p = on x p
if_ok_on (Err e) on p = tt
