-- Finding: what several steps of looking for those near add, together.
use Rattle.std.proofs.Common.{◌≡◌, ℕ, ◌+◌, ◌-◌, ◌*◌, ◌<◌, ◌≤◌, List, [], ◌∷◌, ◌++◌, length, get_or, refl, sym, subst, ap, ◌∙◌, inl, inr, arith, length-append}
use Rattle.std.specs.Prelude.{All, slice_get, Some}
use Rattle.std.specs.List.Sorted.{IsNonDecreasingBy, IsPermutation}
use Rattle.std.proofs.lemmas.Bool.{cases_lt}
use Rattle.std.proofs.lemmas.List.{get_or_append_left, get_or-append-add}
use Rattle.std.proofs.lemmas.List.Sorted.{Contains-permutation}
use Rattle.std.proofs.lemmas.Option.{slice_get_within, slice_get-get_or, get_or_from_slice_get, same_Some}
use Rattle.nav_base.specs.Point.{IsWithin, from_to}
use Rattle.crowd_moves.specs.declared.agents.CrowdAgent.{CrowdAgent}
use Rattle.crowd_moves.specs.declared.keyed.KeyedPlace.{KeyedPlace}
use Rattle.crowd_moves.specs.Contacts.{begin_at, cell_of, entry_of, AreEntries, HasContacts, IsContact, IsWideEnough}
use Rattle.crowd_moves.specs.Finding.{AddsAll, AddsNear, AddsOfCells, AddsOfEntries, AddsOne, IsAdded, IsNearOther}
use Rattle.crowd_moves.specs.Pairs.{HasSizes, IsNear}
use Rattle.crowd_moves.proofs.GridLaws.{IsInRows, cells_near}
use Rattle.crowd_moves.proofs.PairLaws.{within_more}

module _ (agents : List CrowdAgent) (i : ℕ) where
  -- ---- steps one after the other

  pub adds_none : (old : List ℕ) → AddsNear agents i old old
  adds_none old = record {
    longer = omega arith;
    kept = λ k within. refl;
    right = λ k j past is. absurd (omega (arith, past, slice_get_within old k j is));
  }

  pub adds_both : (old mid new : List ℕ) → AddsNear agents i old mid → AddsNear agents i mid new → AddsNear agents i old new
  adds_both old mid new first second = record {
    longer = omega (arith, first.longer, second.longer);
    kept = λ k within. second.kept k (omega (arith, within, first.longer)) ∙ first.kept k within;
    right = λ k j past is. elim (cases_lt k (length mid)) [
      | inl before ↦ first.right k j past (sym (second.kept k before) ∙ is)
      | inr after ↦ second.right k j after is
    ];
  }

  pub added_before : (old mid new : List ℕ) (j : ℕ) → AddsNear agents i mid new → IsAdded old mid j → IsAdded old new j
  added_before old mid new j second added = record {
    place = added.place;
    from = added.from;
    is = second.kept added.place (slice_get_within mid added.place j added.is) ∙ added.is;
  }

  pub added_after : (old mid new : List ℕ) (j : ℕ) → AddsNear agents i old mid → IsAdded mid new j → IsAdded old new j
  added_after old mid new j first added = record { place = added.place; from = omega (arith, first.longer, added.from); is = added.is }

  -- ---- entries of the grid

  pub entries_none : (entries : List KeyedPlace) (begin : ℕ) (old : List ℕ) → AddsOfEntries agents entries i begin begin old old
  entries_none entries begin old = record { adds = adds_none old; each = λ k e from below is near. absurd (omega (arith, from, below)) }

  pub entries_more : (entries : List KeyedPlace) (begin end : ℕ) (old mid new : List ℕ) (d : KeyedPlace) → AddsOfEntries agents entries i begin end old mid
      → AddsOne agents i (get_or entries end d).place mid new → AddsOfEntries agents entries i begin (end + 1) old new
  entries_more entries begin end old mid new d before one = record {
    adds = adds_both old mid new before.adds one.adds;
    each = λ k e from below is near. elim (cases_lt k end) [
      | inl less ↦ added_before old mid new e.place one.adds (before.each k e from less is near)
      | inr most ↦
          let last : k ≡ end = omega (arith, below, most) in
          let own : get_or entries end d ≡ e = get_or_from_slice_get entries end e d (subst (λ (n : ℕ). slice_get entries n ≡ Some e) last is) in
          added_after old mid new e.place before.adds
          (subst (λ (x : KeyedPlace). IsAdded mid new x.place) own (one.each (subst (λ (x : KeyedPlace). IsNearOther agents i x.place) (sym own) near)))
    ];
  }

  -- ---- three cells, and three rows of them

  pub all_of_rows : (side : ℕ) (entries : List KeyedPlace) (own : ℕ) (a : CrowdAgent) (old one two new : List ℕ) → AreEntries side agents entries
      → IsWideEnough side agents → All HasSizes agents → slice_get agents i ≡ Some a → own ≡ cell_of side a.at
      → AddsOfCells agents entries i (own - 16777216 - 1) old one → AddsOfCells agents entries i (own - 1) one two
      → AddsOfCells agents entries i (own + 16777216 - 1) two new → AddsAll agents i old new
  all_of_rows side entries own a old one two new grid wide sizes is_a is_own first second third = record {
    adds = adds_both old two new (adds_both old one two first.adds second.adds) third.adds;
    each = λ j near.
        let b = get_or agents j a in
        let is_b : slice_get agents j ≡ Some b = slice_get-get_or agents j a near.there in
        let e = entry_of side j b in
        let held = grid.each j b is_b in
        let is_e : slice_get entries held.0 ≡ Some e = slice_get-get_or entries held.0 e held.1 ∙ ap Some held.2 in
        elim (apart j b is_b near) [
          | inl up ↦ added_before old two new j third.adds (added_before old one two j second.adds (first.each held.0 e is_e up.0 up.1 near))
          | inr rest ↦ elim rest [
            | inl level ↦ added_before old two new j third.adds (added_after old one two j first.adds (second.each held.0 e is_e level.0 level.1 near))
            | inr down ↦ added_after old two new j (adds_both old one two first.adds second.adds) (third.each held.0 e is_e down.0 down.1 near)
          ]
        ];
  }
    where
      sized : (k : ℕ) (x : CrowdAgent) → slice_get agents k ≡ Some x → HasSizes x
      sized k x is = subst HasSizes (get_or_from_slice_get agents k x x is) (sizes k x (slice_get_within agents k x is))

      close : (b : CrowdAgent) (j : ℕ) → slice_get agents j ≡ Some b → IsNear a b → IsWithin (2 * wide.0) (from_to a.at b.at)
      close b j is_b near =
          within_more (from_to a.at b.at) (a.radius + b.radius + a.speed + b.speed) (2 * wide.0) (omega (arith, wide.2 i a is_a, wide.2 j b is_b)) near

      apart : (j : ℕ) (b : CrowdAgent) → slice_get agents j ≡ Some b → IsNearOther agents i j → IsInRows own (cell_of side b.at)
      apart j b is_b near =
          subst (λ (n : ℕ). IsInRows n (cell_of side b.at)) (sym is_own)
          (subst (λ (n : ℕ). IsInRows (cell_of n a.at) (cell_of n b.at)) (sym wide.1)
          (cells_near wide.0 a.at b.at (sized i a is_a).at (sized j b is_b).at (close b j is_b (near.near a b is_a is_b))))

-- the entries of the grid, put in order
pub entries_ordered : (side : ℕ) (agents : List CrowdAgent) (made sorted : List KeyedPlace)
    → ((i : ℕ) (a : CrowdAgent) → slice_get agents i ≡ Some a → slice_get made i ≡ Some (entry_of side i a)) → IsPermutation made sorted
    → IsNonDecreasingBy (λ (entry : KeyedPlace). entry.key) sorted → AreEntries side agents sorted
entries_ordered side agents made sorted each moved order = record {
  order = order;
  each = λ i a is.
      let e = entry_of side i a in
      let there = each i a is in
      Contains-permutation made sorted e moved (i, slice_get_within made i e there, get_or_from_slice_get made i e e there);
}

-- ---- the lists of all

-- the lists of the agents so far
pub record AreListed (agents : List CrowdAgent) (first others : List ℕ) (count : ℕ) : Type 0 where
  pub one_more : length first ≡ count + 1
  pub begins : (i : ℕ) → i ≤ count → begin_at first i ≤ length others
  pub last : begin_at first count ≡ length others
  pub each : (i : ℕ) → i < count → HasContacts agents first others i

pub listed_none : (agents : List CrowdAgent) (first others : List ℕ) → first ≡ 0 ∷ [] → others ≡ [] → AreListed agents first others 0
listed_none agents first others is_first is_others =
    subst (λ (xs : List ℕ). AreListed agents xs others 0) (sym is_first) (subst (λ (ys : List ℕ). AreListed agents (0 ∷ []) ys 0) (sym is_others) (record {
      one_more = refl;
      begins = λ i none. subst (λ (n : ℕ). begin_at (0 ∷ []) n ≤ 0) (sym (zero i none)) (omega arith);
      last = refl;
      each = λ i none. absurd (omega (arith, none));
    }))
  where
    zero : (i : ℕ) → i ≤ 0 → i ≡ 0
    zero i none = omega (arith, none)

module _ (agents : List CrowdAgent) (first others : List ℕ) (count : ℕ) (new : List ℕ) (before : AreListed agents first others count) (adds : AddsAll agents count others new) where
  abbrev after : List ℕ
  after = first ++ length new ∷ []

  begin_same : (i : ℕ) → i ≤ count → begin_at after i ≡ begin_at first i
  begin_same i within = get_or_append_left first (length new ∷ []) 0 i (omega (arith, within, before.one_more))

  begin_last : begin_at after (count + 1) ≡ length new
  begin_last = subst (λ (n : ℕ). begin_at (first ++ length new ∷ []) n ≡ length new) (place before.one_more) (get_or-append-add first (length new ∷ []) 0 0)
    where
      place : length first ≡ count + 1 → length first + 0 ≡ count + 1
      place is = omega (arith, is)

  -- the lists before are as they were
  contact_on : (i j : ℕ) → i < count → IsContact first others i j → IsContact after new i j
  contact_on i j within contact = record {
    place = contact.place;
    listed = record {
      from = omega (arith, begin_same i (omega (arith, within)), contact.listed.from);
      below = omega (arith, begin_same (i + 1) (omega (arith, within)), contact.listed.below, adds.adds.longer);
      is = adds.adds.kept contact.place (slice_get_within others contact.place j contact.listed.is) ∙ contact.listed.is;
    };
  }

  contact_back : (i j : ℕ) → i < count → IsContact after new i j → IsContact first others i j
  contact_back i j within contact =
      let below : contact.place < begin_at first (i + 1) = omega (arith, begin_same (i + 1) (omega (arith, within)), contact.listed.below) in
      let inside : contact.place < length others = omega (arith, below, before.begins (i + 1) (omega (arith, within))) in
      record {
        place = contact.place;
        listed = record {
          from = omega (arith, begin_same i (omega (arith, within)), contact.listed.from);
          below = omega (arith, below, inside);
          is = sym (adds.adds.kept contact.place inside) ∙ contact.listed.is;
        };
      }

  contact_new : (j : ℕ) → IsAdded others new j → IsContact after new count j
  contact_new j added = record {
    place = added.place;
    listed = record {
      from = omega (arith, begin_same count (omega arith), before.last, added.from);
      below = omega (arith, begin_last, slice_get_within new added.place j added.is);
      is = added.is;
    };
  }

  near_new : (j : ℕ) → IsContact after new count j → IsNearOther agents count j
  near_new j contact = adds.adds.right contact.place j (omega (arith, begin_same count (omega arith), before.last, contact.listed.from)) contact.listed.is

  pub listed_more : AreListed agents after new (count + 1)
  listed_more = record {
    one_more = more before.one_more;
    begins = λ i within. elim (cases_lt count i) [
      | inl last ↦ subst (λ (n : ℕ). begin_at after n ≤ length new) (end i within last) (omega (arith, begin_last))
      | inr inside ↦ omega (arith, begin_same i inside, before.begins i inside, adds.adds.longer)
    ];
    last = begin_last;
    each = λ i within. elim (cases_lt i count) [
      | inl inside ↦
          let has = before.each i inside in
          record {
            each = λ j a b other is_a is_b near. contact_on i j inside (has.each j a b other is_a is_b near);
            no_other = λ j a b contact is_a is_b. has.no_other j a b (contact_back i j inside contact) is_a is_b;
            not_own = λ contact. has.not_own (contact_back i i inside contact);
          }
      | inr most ↦
          let last : count ≡ i = omega (arith, within, most) in
          subst (HasContacts agents after new) last (record {
            each = λ j a b other is_a is_b near. contact_new j (adds.each j (record {
              there = slice_get_within agents j b is_b;
              other = other;
              near = λ x y is_x is_y.
                  subst (λ (z : CrowdAgent). IsNear z y) (same_Some a x (sym is_a ∙ is_x)) (subst (λ (z : CrowdAgent). IsNear a z) (same_Some b y (sym is_b ∙ is_y)) near);
            }));
            no_other = λ j a b contact is_a is_b. (near_new j contact).near a b is_a is_b;
            not_own = λ contact. (near_new count contact).other refl;
          })
    ];
  }
    where
      more : length first ≡ count + 1 → length after ≡ count + 1 + 1
      more is = omega (arith, is, length-append first (length new ∷ []))

      end : (i : ℕ) → i ≤ count + 1 → count < i → count + 1 ≡ i
      end i h k = omega (arith, h, k)

-- the same of a list to which the number was added
pub listed_on : (agents : List CrowdAgent) (first others : List ℕ) (count : ℕ) (new longer : List ℕ) (many : ℕ) → AreListed agents first others count
    → AddsAll agents count others new → many ≡ length new → longer ≡ first ++ many ∷ [] → AreListed agents longer new (count + 1)
listed_on agents first others count new longer many before adds is_many is_longer =
    subst (λ (xs : List ℕ). AreListed agents xs new (count + 1)) (sym (is_longer ∙ ap (λ (n : ℕ). first ++ n ∷ []) is_many))
    (listed_more agents first others count new before adds)
