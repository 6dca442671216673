-- What a queue holds when an entry comes or is taken: each stands in its slot, and the one taken has the least key.
use Rattle.std.proofs.Common.{◌≡◌, ◌≢◌, ℕ, ◌+◌, ◌<◌, ◌≤◌, List, [], ◌∷◌, ◌++◌, length, take, get_or, sym, subst, ap, ◌∙◌, inl, inr, arith}
use Rattle.std.specs.Prelude.{All, Some}
use Rattle.std.specs.List as holes
use Rattle.std.specs.List.Sorted.{IsPermutation}
use Rattle.std.specs.declared.alloc.Global.{Global}
use Rattle.std.specs.declared.vec.Vec.{Vec}
use Rattle.std.proofs.lemmas.Bool.{cases_eq, cases_lt, cases_order}
use Rattle.std.proofs.lemmas.List.Elements.{All-nil, All-get_or, All-push, All-pop, All-weaker, All-tail}
use Rattle.std.proofs.lemmas.List.Sorted.{IsPermutation-swap_remove, IsPermutation-sym, IsPermutation-trans, IsPermutation-append_left, IsPermutation-cons, IsPermutation-to_front, All-permutation}
use Rattle.std.proofs.lemmas.List.{take_more}
use Rattle.graph_search.specs.declared.radix_heap.HeapEntry.{HeapEntry}
use Rattle.graph_search.specs.Entries.{slot_of, list_at, entries_in, StandsIn, AreSlotted, AreAlike, IsAdded, IsEmptied, IsFilled}
use Rattle.graph_search.proofs.Slots.{slots-order, slots-kept, slot-one_key, slot-itself}
use Rattle.graph_search.proofs.Lists.{all_in, none_in}

abbrev Slot : Type 0
Slot = Vec HeapEntry Global

-- a list without entries has none that break a rule
of_none : (P : HeapEntry → Type 0) (entries : List HeapEntry) → entries ≡ [] → All P entries
of_none P entries none = subst (All P) (sym none) (All-nil P)

-- no lists have no entries
pub slotted-none : (last : ℕ) (lists : List Slot) → lists ≡ [] → AreSlotted last 0 lists
slotted-none last lists none =
    subst (AreSlotted last 0) (sym none) (record { stand = λ slot. All-nil (StandsIn last slot); none = λ slot below. absurd (omega (arith, below)) })

-- the first slot may be named lower
pub slotted-lower : (last first first' : ℕ) (lists : List Slot) → AreSlotted last first lists → first' ≤ first → AreSlotted last first' lists
slotted-lower last first first' lists slotted lower = record { stand = slotted.stand; none = λ slot below. slotted.none slot (omega (arith, below, lower)) }

pub slotted-alike : (last first : ℕ) (lists lists' : List Slot) → AreSlotted last first lists → AreAlike lists lists' → AreSlotted last first lists'
slotted-alike last first lists lists' slotted alike = record {
  stand = λ slot. subst (All (StandsIn last slot)) (sym (alike.same slot)) (slotted.stand slot);
  none = λ slot below. alike.same slot ∙ slotted.none slot below;
}

-- an entry comes into its slot
pub slotted-added : (last first slot : ℕ) (lists lists' : List Slot) (e : HeapEntry) → AreSlotted last first lists → last ≤ e.key → slot ≡ slot_of 11 last e.key
    → first ≤ slot → IsAdded lists slot e lists' → AreSlotted last first lists'
slotted-added last first slot lists lists' e slotted no_less own from added = record { stand = stand'; none = none' }
  where
    stand' : (k : ℕ) → All (StandsIn last k) (list_at lists' k)
    stand' k =
        elim (cases_eq k slot) [
          | inl is ↦
              subst (λ (n : ℕ). All (StandsIn last n) (list_at lists' n)) (sym is)
              (subst (All (StandsIn last slot)) (sym added.here)
              (All-push (StandsIn last slot) (list_at lists slot) e (slotted.stand slot) (record { no_less = no_less; own = sym own })))
          | inr differ ↦ subst (All (StandsIn last k)) (sym (added.others k differ)) (slotted.stand k)
        ]

    none' : (k : ℕ) → k < first → list_at lists' k ≡ []
    none' k below = added.others k (λ is. omega (arith, is, below, from)) ∙ slotted.none k below

module _ (last first slot : ℕ) (lists lists' : List Slot) (slotted : AreSlotted last first lists) (filled : IsFilled lists first slot) where
  -- the lists before the first with entries have none
  pub none-before : (k : ℕ) → k < slot → list_at lists k ≡ []
  none-before k below = elim (cases_lt k first) [ inl early ↦ slotted.none k early | inr late ↦ filled.none k late below ]

  module _ (e : HeapEntry) (own : StandsIn last slot e) where
    -- what stands in a later slot has a greater key, and stands there once that key was taken
    later : (k : ℕ) (other : HeapEntry) → slot < k → StandsIn last k other → StandsIn e.key k other
    later k other after held =
        let below : slot_of 11 last e.key < slot_of 11 last other.key = omega (arith, own.own, held.own, after) in
        let less = slots-order 11 last e.key other.key own.no_less held.no_less below in
        record {
          no_less = omega (arith, less);
          own = slots-kept 11 last e.key other.key own.no_less held.no_less below ∙ held.own;
        }

    -- so all others stand in their slots once it was taken, where those of its list do
    pub slotted-taken : ((k : ℕ) → k ≢ slot → list_at lists' k ≡ list_at lists k) → All (StandsIn e.key slot) (list_at lists' slot) → AreSlotted e.key slot lists'
    slotted-taken others here = record { stand = stand'; none = λ k below. others k (λ is. omega (arith, is, below)) ∙ none-before k below }
      where
        stand' : (k : ℕ) → All (StandsIn e.key k) (list_at lists' k)
        stand' k =
            elim (cases_order k slot) [
              | inl is ↦ subst (λ (n : ℕ). All (StandsIn e.key n) (list_at lists' n)) (sym is) here
              | inr (inl before) ↦ of_none (StandsIn e.key k) (list_at lists' k) (others k (λ is. omega (arith, is, before)) ∙ none-before k before)
              | inr (inr after) ↦
                  subst (All (StandsIn e.key k)) (sym (others k (λ is. omega (arith, is, after))))
                  (All-weaker (StandsIn last k) (StandsIn e.key k) (λ other held. later k other after held) (list_at lists k) (slotted.stand k))
            ]

    -- and none has a lesser key, where none of its list has
    pub least-taken : All (λ (other : HeapEntry). e.key ≤ other.key) (list_at lists slot) → All (λ (other : HeapEntry). e.key ≤ other.key) (entries_in lists)
    least-taken here = all_in (λ other. e.key ≤ other.key) lists each
      where
        each : (k : ℕ) → All (λ (other : HeapEntry). e.key ≤ other.key) (list_at lists k)
        each k =
            elim (cases_order k slot) [
              | inl is ↦ subst (λ (n : ℕ). All (λ (other : HeapEntry). e.key ≤ other.key) (list_at lists n)) (sym is) here
              | inr (inl before) ↦ of_none (λ other. e.key ≤ other.key) (list_at lists k) (none-before k before)
              | inr (inr after) ↦
                  All-weaker (StandsIn last k) (λ other. e.key ≤ other.key) (λ other held. (later k other after held).no_less) (list_at lists k) (slotted.stand k)
            ]

  -- an entry of the lowest digit was taken
  module _ (e : HeapEntry) (low : slot < 64) (taken : IsAdded lists' slot e lists) where
    parts : All (StandsIn last slot) (list_at lists' slot) × StandsIn last slot e
    parts = All-pop (StandsIn last slot) (list_at lists slot) (list_at lists' slot) (Some e) taken.here (slotted.stand slot)

    one_key : (other : HeapEntry) → StandsIn last slot other → e.key ≡ other.key
    one_key other held = slot-one_key 10 last e.key other.key (omega (arith, parts.1.own, low)) (parts.1.own ∙ sym held.own)

    stays : (other : HeapEntry) → StandsIn last slot other → StandsIn e.key slot other
    stays other held = record {
      no_less = omega (arith, one_key other held);
      own =
          ap (slot_of 11 e.key) (sym (one_key other held)) ∙ slot-itself 10 last e.key (omega (arith, parts.1.own, low)) ∙ parts.1.own;
    }

    pub slotted-low : AreSlotted e.key slot lists'
    slotted-low =
        slotted-taken e parts.1 (λ k differ. sym (taken.others k differ))
        (All-weaker (StandsIn last slot) (StandsIn e.key slot) stays (list_at lists' slot) parts.0)

    pub least-low : All (λ (other : HeapEntry). e.key ≤ other.key) (entries_in lists)
    least-low =
        least-taken e parts.1
        (All-weaker (StandsIn last slot) (λ other. e.key ≤ other.key) (λ other held. omega (arith, one_key other held)) (list_at lists slot) (slotted.stand slot))

    pub taken-low : IsPermutation (entries_in lists) (e ∷ entries_in lists')
    taken-low = IsPermutation-sym (e ∷ entries_in lists') (entries_in lists) taken.all

  -- a list was taken out, and from it the entry with the least key
  module _ (list rest : List HeapEntry) (e : HeapEntry) (place : ℕ) (emptied : IsEmptied lists slot list lists') (there : place < length list)
      (is : e ≡ get_or list place e) (removed : rest ≡ holes.swap_remove list place e)
      (least : All (λ (other : HeapEntry). (get_or list place e).key ≤ other.key) list) where
    own_slot : StandsIn last slot e
    own_slot =
        subst (StandsIn last slot) (sym is)
        (All-get_or (StandsIn last slot) list place e there (subst (All (StandsIn last slot)) emptied.was (slotted.stand slot)))

    least' : All (λ (other : HeapEntry). e.key ≤ other.key) list
    least' = subst (λ (x : HeapEntry). All (λ (other : HeapEntry). x.key ≤ other.key) list) (sym is) least

    moved : IsPermutation list (e ∷ rest)
    moved = subst (λ (xs : List HeapEntry). IsPermutation list (e ∷ xs)) (sym removed) (IsPermutation-swap_remove list place e there is)

    pub slotted-dealt : AreSlotted e.key slot lists'
    slotted-dealt = slotted-taken e own_slot emptied.others (of_none (StandsIn e.key slot) (list_at lists' slot) emptied.here)

    pub least-dealt : All (λ (other : HeapEntry). e.key ≤ other.key) (entries_in lists)
    least-dealt = least-taken e own_slot (subst (All (λ (other : HeapEntry). e.key ≤ other.key)) (sym emptied.was) least')

    pub rest-no_less : All (λ (other : HeapEntry). e.key ≤ other.key) rest
    rest-no_less =
        All-tail (λ other. e.key ≤ other.key) e rest (All-permutation (λ other. e.key ≤ other.key) list (e ∷ rest) moved least')

    pub taken-dealt : (now : List HeapEntry) → IsPermutation (rest ++ entries_in lists') now → IsPermutation (entries_in lists) (e ∷ now)
    taken-dealt now more =
        IsPermutation-trans (entries_in lists) (list ++ entries_in lists') (e ∷ now) emptied.all
        (IsPermutation-trans (list ++ entries_in lists') (e ∷ (rest ++ entries_in lists')) (e ∷ now)
        (IsPermutation-append_left (entries_in lists') list (e ∷ rest) moved)
        (IsPermutation-cons e (rest ++ entries_in lists') now more))

-- where no list has entries, there are none
pub none-left : (last first : ℕ) (lists : List Slot) → AreSlotted last first lists → ((k : ℕ) → first ≤ k → list_at lists k ≡ []) → entries_in lists ≡ []
none-left last first lists slotted none =
    none_in lists (λ k. elim (cases_lt k first) [ inl early ↦ slotted.none k early | inr late ↦ none k late ])

-- one entry more came
pub came : (entries old now now' : List HeapEntry) (count : ℕ) (e : HeapEntry) → count < length entries → IsPermutation (take count entries ++ old) now
    → IsPermutation (get_or entries count e ∷ now) now' → IsPermutation (take (count + 1) entries ++ old) now'
came entries old now now' count e below so_far next =
    let x = get_or entries count e in
    subst (λ (first : List HeapEntry). IsPermutation (first ++ old) now') (sym (take_more entries count e below))
    (IsPermutation-trans (take count entries ++ x ∷ [] ++ old) (x ∷ (take count entries ++ old)) now'
    (IsPermutation-append_left old (take count entries ++ x ∷ []) (x ∷ take count entries) (IsPermutation-to_front (take count entries) x))
    (IsPermutation-trans (x ∷ (take count entries ++ old)) (x ∷ now) now' (IsPermutation-cons x (take count entries ++ old) now so_far) next))
