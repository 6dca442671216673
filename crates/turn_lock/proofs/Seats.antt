-- The rule holds of a new table, and splitting a seat and joining one keep it; and what it says once all seats are
-- joined.
use Rattle.std.proofs.Common.{◌≡◌, ◌≢◌, ℕ, zero, suc, ◌+◌, ◌<◌, ◌≤◌, false, cond, eqb, List, [], ◌∷◌, length, slice_index, slice_set, Option, Some, None, refl, sym, ◌∙◌, ap, subst, ⊎_elim, length-set, eq-eqb, ne_eqb, arith}
use Rattle.std.specs.Prelude.{All, Any}
use Rattle.std.proofs.lemmas.List.Elements.{All-cons, All-head, All-weaker, All-nil, All-append, All-contains}
use mathlib.Core.Option as maybe
use lib.ListN.{get_elem?}
use Rattle.atomic_table.specs.Table.{State, Splits, Joins, opening, Final, Seen}
use Rattle.atomic_table.proofs.Lists.{at_set, at_longer, set_else}
use Rattle.turn_lock.specs.declared.view.Claim.{Claim}
use Rattle.turn_lock.specs.declared.view.SeatView.{SeatView}
use Rattle.turn_lock.specs.Turns.{Stands, Knows, Turns}
use Rattle.turn_lock.specs.SeatViews.{claims_of, first_view, left_view, right_view, joined_view, spent_view, new_claim}
use Rattle.turn_lock.proofs.Steps.{resting, holds_on}
use Rattle.turn_lock.proofs.GrowthLemmas.{Extends-itself, Extends-nothing}
use Rattle.turn_lock.proofs.TableLemmas.{at_end, same_at}

-- the seats of the numbers, where the number k goes to the seat j
abbrev placed : (ℕ → ℕ) → ℕ → ℕ → ℕ → ℕ
placed seat_of k j number = cond (eqb number k) j (seat_of number)

placed_here : (seat_of : ℕ → ℕ) (k j number : ℕ) → number ≡ k → placed seat_of k j number ≡ j
placed_here seat_of k j number is = ap (λ b. cond b j (seat_of number)) (eq-eqb number k is)

placed_else : (seat_of : ℕ → ℕ) (k j number : ℕ) → number ≢ k → placed seat_of k j number ≡ seat_of number
placed_else seat_of k j number apart = ap (λ b. cond b j (seat_of number)) (ne_eqb number k apart)

-- the seats of the numbers, where all numbers of the seat i go to the seat j
abbrev moved : (ℕ → ℕ) → ℕ → ℕ → ℕ → ℕ
moved seat_of i j number = cond (eqb (seat_of number) i) j (seat_of number)

moved_here : (seat_of : ℕ → ℕ) (i j number : ℕ) → seat_of number ≡ i → moved seat_of i j number ≡ j
moved_here seat_of i j number is = ap (λ b. cond b j (seat_of number)) (eq-eqb (seat_of number) i is)

moved_else : (seat_of : ℕ → ℕ) (i j number seat : ℕ) → seat_of number ≡ seat → seat ≢ i → moved seat_of i j number ≡ seat
moved_else seat_of i j number seat is apart = ap (λ b. cond b j (seat_of number)) (ne_eqb (seat_of number) i (λ e. apart (sym is ∙ e))) ∙ is

module _ {B G E : Type 0} (root_of : B → G) (entries : B → List E) (maker : E → ℕ) (r : G) (passes : ℕ) where
  abbrev Rule : State B (SeatView G E) → Type 0
  Rule = Turns root_of entries maker r passes

  -- a new table
  pub starts : (value : B) → root_of value ≡ r → entries value ≡ [] → 1 ≤ passes → Rule (opening (0 ∷ []) (value ∷ []) (first_view r))
  starts value root empty some =
      let none_else : (seat : ℕ) (v : SeatView G E) → get_elem? (first_view r ∷ []) seat ≡ maybe.some v → (seat ≡ 0) × (v ≡ first_view r) = λ seat v e. only seat v e in
      record {
        current = [];
        count = 1;
        chief = 0;
        seat_of = λ _. 0;
        holder = None;
        one_word = refl;
        one_slot = refl;
        within = some;
        room = omega arith;
        phase = (refl, value, refl, empty, root);
        makers = All-nil (λ e. maker e < 1);
        turn = λ seat told. absurd (let e = told in cc);
        knows = λ seat v g e rooted.
            let at = (only seat v e).0 in
            let P : ℕ → SeatView G E → Type 0 = λ i u. Knows maker r [] 1 0 (λ _. 0) None i u in
            subst (λ u. P seat u) (sym (only seat v e).1) (subst (λ i. P i (first_view r)) (sym at) (record {
              root = refl;
              claims = All-cons (Stands maker 1 (λ _. 0) 0 []) (new_claim 0) [] (record { given = omega arith; place = refl; extends = Extends-itself maker 0 []; met = omega arith; met_all = omega arith }) (All-nil (Stands maker 1 (λ _. 0) 0 []));
              holds = λ h. absurd (let e = h in cc);
              given = λ _. (refl, refl);
            }));
      }
    where
      only : (seat : ℕ) (v : SeatView G E) → get_elem? (first_view r ∷ []) seat ≡ maybe.some v → (seat ≡ 0) × (v ≡ first_view r)
      only zero v e = (refl, sym (maybe.some-injective (first_view r) v e))
      only (suc k) v e = absurd (maybe.some-ne-none v (sym e))

  -- cut off a seat for the next number
  pub splits : (id : ℕ) (v : SeatView G E) → v.root ≡ Some r → 0 < v.given → v.given < passes → Splits Rule id v (left_view v) (right_view v)
  splits id v rooted gives below s t at =
      let knows = t.knows id v r at rooted in
      let count : ℕ = t.count in
      let new : ℕ = length s.views in
      let place : ℕ → ℕ = placed t.seat_of count new in
      let chief = (knows.given gives).0 in
      let given = (knows.given gives).1 in
      let long = length-set s.views id (left_view v) in
      let moves : (seat : ℕ) (claim : Claim E) → Stands maker count t.seat_of seat t.current claim → Stands maker (count + 1) place seat t.current claim =
      λ seat claim stands. record {
        given = let b = stands.given in omega arith;
        place = placed_else t.seat_of count new claim.number (λ is. let b = stands.given in absurd (omega arith)) ∙ stands.place;
        extends = stands.extends;
        met = stands.met;
        met_all = stands.met_all;
      } in
      let keep : (seat : ℕ) (u : SeatView G E) → Knows maker r t.current count t.chief t.seat_of t.holder seat u → All (Stands maker (count + 1) place seat t.current) (claims_of u) =
      λ seat u k. All-weaker (Stands maker count t.seat_of seat t.current) (Stands maker (count + 1) place seat t.current) (moves seat) (claims_of u) k.claims in
      record {
        current = t.current;
        count = count + 1;
        chief = new;
        seat_of = place;
        holder = t.holder;
        one_word = t.one_word;
        one_slot = t.one_slot;
        within = omega arith;
        room = t.room;
        phase = t.phase;
        makers = All-weaker (λ e. maker e < count) (λ e. maker e < count + 1) (λ e b. omega arith) t.current t.makers;
        turn = λ seat told.
            let has = holds_on root_of entries maker r passes s t id v (left_view v) at rooted (λ h. h) seat told in
            record { view = has.view; there = at_longer (slice_set s.views id (left_view v)) (right_view v ∷ []) seat has.view has.there; root = has.root; holds = has.holds };
        knows = λ seat u g e rooted_u. ⊎_elim
            (λ old. ⊎_elim
            (λ (here, is). let P : SeatView G E → Type 0 = λ x. Knows maker r t.current (count + 1) new place t.holder seat x in
            subst P is (let Q : ℕ → Type 0 = λ i. Knows maker r t.current (count + 1) new place t.holder i (left_view v) in
            subst Q (sym here) (record { root = rooted; claims = keep id v knows; holds = knows.holds; given = λ some. absurd (let none = some in omega arith) })))
            (λ (else, there). let k = t.knows seat u g there rooted_u in
            record { root = k.root; claims = keep seat u k; holds = k.holds; given = λ some. absurd (else ((k.given some).0 ∙ sym chief)) })
            (at_set s.views id seat (left_view v) u old))
            (λ (last, is). let there : seat ≡ new = last ∙ long in
            let P : SeatView G E → Type 0 = λ x. Knows maker r t.current (count + 1) new place t.holder seat x in
            subst P is (let Q : ℕ → Type 0 = λ i. Knows maker r t.current (count + 1) new place t.holder i (right_view v) in
            subst Q (sym there) (record {
              root = rooted;
              claims = All-cons (Stands maker (count + 1) place new t.current) (new_claim v.given) [] (record {
                given = omega arith;
                place = placed_here t.seat_of count new v.given given;
                extends = Extends-nothing maker v.given t.current (All-weaker (λ e. maker e < count) (λ e. maker e ≢ v.given) (λ e b is. absurd (omega arith)) t.current t.makers);
                met = omega arith;
                met_all = omega arith;
              }) (All-nil (Stands maker (count + 1) place new t.current));
              holds = λ h. absurd (let f = h in cc);
              given = λ _. (refl, ap (λ k. k + 1) given);
            })))
            (at_end (slice_set s.views id (left_view v)) (right_view v) u seat e);
      }

  -- take a seat in
  pub joins : (id : ℕ) (v : SeatView G E) (other : ℕ) (w : SeatView G E) → v.root ≡ Some r → w.root ≡ Some r → v.holds ≡ false → w.holds ≡ false → Joins Rule id v other w (joined_view v w) spent_view
  joins id v other w rooted rooted_w idle idle_w s t at apart at_w =
      let both : SeatView G E = joined_view v w in
      let there_w : get_elem? s.views other ≡ maybe.some w = sym (set_else s.views id other both apart) ∙ at_w in
      let knows = t.knows id v r at rooted in
      let knows_w = t.knows other w r there_w rooted_w in
      let place : ℕ → ℕ = moved t.seat_of other id in
      let from_w : (claim : Claim E) → Stands maker t.count t.seat_of other t.current claim → Stands maker t.count place id t.current claim =
      λ claim stands. record { given = stands.given; place = moved_here t.seat_of other id claim.number stands.place; extends = stands.extends; met = stands.met; met_all = stands.met_all } in
      let from : (seat : ℕ) → seat ≢ other → (claim : Claim E) → Stands maker t.count t.seat_of seat t.current claim → Stands maker t.count place seat t.current claim =
      λ seat else claim stands. record { given = stands.given; place = moved_else t.seat_of other id claim.number seat stands.place else; extends = stands.extends; met = stands.met; met_all = stands.met_all } in
      let here : id ≢ other = λ is. apart (sym is) in
      record {
        current = t.current;
        count = t.count;
        chief = t.chief;
        seat_of = place;
        holder = t.holder;
        one_word = t.one_word;
        one_slot = t.one_slot;
        within = t.within;
        room = t.room;
        phase = t.phase;
        makers = t.makers;
        turn = λ seat told.
            let has = t.turn seat told in
            let not_other : seat ≢ other = λ is. let e : has.view ≡ w = same_at s.views other has.view w (subst (λ i. get_elem? s.views i ≡ maybe.some has.view) is has.there) there_w in let h = ap (λ u. u.holds) e in let y = has.holds in absurd (cc) in
            let not_id : seat ≢ id = λ is. let e : has.view ≡ v = same_at s.views id has.view v (subst (λ i. get_elem? s.views i ≡ maybe.some has.view) is has.there) at in let h = ap (λ u. u.holds) e in let y = has.holds in absurd (cc) in
            record { view = has.view; there = set_else (slice_set s.views id both) other seat spent_view not_other ∙ set_else s.views id seat both not_id ∙ has.there; root = has.root; holds = has.holds };
        knows = λ seat u g e rooted_u. ⊎_elim
            (λ (gone, is). absurd (let none = ap (λ x. x.root) is in cc))
            (λ (not_other, e'). ⊎_elim
            (λ (mine, is). let P : SeatView G E → Type 0 = λ x. Knows maker r t.current t.count t.chief place t.holder seat x in
            subst P is (let Q : ℕ → Type 0 = λ i. Knows maker r t.current t.count t.chief place t.holder i both in
            subst Q (sym mine) (record {
              root = rooted;
              claims = All-append (Stands maker t.count place id t.current) (claims_of w) (claims_of v)
                  (All-weaker (Stands maker t.count t.seat_of other t.current) (Stands maker t.count place id t.current) from_w (claims_of w) knows_w.claims)
                  (All-weaker (Stands maker t.count t.seat_of id t.current) (Stands maker t.count place id t.current) (from id here) (claims_of v) knows.claims);
              holds = λ h. absurd (let f = h in cc);
              given = knows.given;
            })))
            (λ (else, there). let k = t.knows seat u g there rooted_u in
            record { root = k.root; claims = All-weaker (Stands maker t.count t.seat_of seat t.current) (Stands maker t.count place seat t.current) (from seat not_other) (claims_of u) k.claims; holds = k.holds; given = k.given })
            (at_set s.views id seat both u e'))
            (at_set (slice_set s.views id both) other seat spent_view u e);
      }

  -- What holds once one seat speaks for all numbers and has not the turn: nobody has it. So the value is at home, and
  -- its list goes on from all that was seen
  pub record Ended (v : SeatView G E) (value : B) : Type 0 where
    pub root : root_of value ≡ r
    pub count : ℕ
    pub seat_of : ℕ → ℕ
    pub seat : ℕ
    pub claims : All (Stands maker count seat_of seat (entries value)) (claims_of v)
    pub makers : All (λ e. maker e < passes) (entries value)

  pub ends : (id : ℕ) (v : SeatView G E) (words : List ℕ) (slots : List B) → v.root ≡ Some r → v.holds ≡ false
      → ((k : ℕ) → k < passes → Any (λ c. c.number ≡ k) (claims_of v))
      → Final (Seen Rule id v) words slots → (value : B) → get_elem? slots 0 ≡ maybe.some value → Ended v value
  ends id v words slots rooted idle all (s, (t, at), same, long, values) value taken =
      let knows = t.knows id v r at rooted in
      let free : t.holder ≡ None = nobody t.holder (λ seat told.
      let has = t.turn seat told in
      let k = t.knows seat has.view r has.there has.root in
      let own : Stands maker t.count t.seat_of seat t.current has.view.own = All-head (Stands maker t.count t.seat_of seat t.current) has.view.own has.view.taken k.claims in
      let below = t.within in
      let bound = own.given in
      let found = all has.view.own.number (omega arith) in
      let mine : Stands maker t.count t.seat_of id t.current found.1 = All-contains (Stands maker t.count t.seat_of id t.current) (claims_of v) found.1 knows.claims (found.0, found.2, found.3) in
      let here : seat ≡ id = sym own.place ∙ ap t.seat_of (sym found.4) ∙ mine.place in
      let e : has.view ≡ v = same_at s.views id has.view v (subst (λ i. get_elem? s.views i ≡ maybe.some has.view) here has.there) at in
      let h = ap (λ u. u.holds) e in let y = has.holds in cc) in
      let home = resting root_of entries r t.current t.holder (slice_index s.words 0) (get_elem? s.homes 0) free t.phase in
      let is : home.value ≡ value = maybe.some-injective home.value value (sym (values 0 home.value home.there) ∙ taken) in
      subst (Ended v) is (record {
        root = home.root;
        count = t.count;
        seat_of = t.seat_of;
        seat = id;
        claims = subst (λ l. All (Stands maker t.count t.seat_of id l) (claims_of v)) (sym home.list) knows.claims;
        makers = subst (All (λ e. maker e < passes)) (sym home.list) (All-weaker (λ e. maker e < t.count) (λ e. maker e < passes) (λ e b. let w = t.within in omega arith) t.current t.makers);
      })
    where
      nobody : (holder : Option ℕ) → ((seat : ℕ) → holder ≡ Some seat → ⊥) → holder ≡ None
      nobody None not_some = refl
      nobody (Some seat) not_some = absurd (not_some seat refl)
