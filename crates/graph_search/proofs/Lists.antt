-- Lists of entries by slots.
use Rattle.std.proofs.Common.{◌≡◌, ◌≢◌, ℕ, zero, suc, ◌+◌, ◌<◌, ◌≤◌, List, [], ◌∷◌, ◌++◌, length, get_or, refl, sym, subst, ap, ◌∙◌, inl, inr, arith}
use Rattle.std.specs.Prelude.{All, slice_set, Result, Ok, Err, OnErr}
use Rattle.std.specs.List.Sorted.{IsPermutation}
use Rattle.std.specs.declared.alloc.Global.{Global}
use Rattle.std.specs.declared.vec.Vec.{Vec}
use Rattle.std.proofs.lemmas.Bool.{cases_lt}
use Rattle.std.proofs.lemmas.List.{append-nil, append_assoc}
use Rattle.std.proofs.lemmas.List.Concat.{flat_map-append}
use Rattle.std.proofs.lemmas.List.Elements.{All-nil, All-append}
use Rattle.std.proofs.lemmas.List.Sorted.{IsPermutation-refl, IsPermutation-sym, IsPermutation-trans, IsPermutation-to_front, IsPermutation-middle, IsPermutation-append_left, IsPermutation-append_right, IsPermutation-append_comm}
use Rattle.graph_search.specs.declared.radix_heap.HeapEntry.{HeapEntry}
use Rattle.graph_search.specs.Entries.{list_at, entries_in, AreAlike, IsAdded, IsEmptied}

abbrev Slot : Type 0
Slot = Vec HeapEntry Global

-- what holds holds after a refusal
pub on_err : {T E : Type 0} (P : Type 0) (r : Result T E) → P → OnErr r P
on_err P (Ok x) held = tt
on_err P (Err e) held = held

-- what holds of the entries of each list holds of all, and where each list is empty there are none
pub all_in : (P : HeapEntry → Type 0) (lists : List Slot) → ((slot : ℕ) → All P (list_at lists slot)) → All P (entries_in lists)
all_in P [] each = All-nil P
all_in P (list ∷ lists) each = All-append P list.items (entries_in lists) (each 0) (all_in P lists (λ slot. each (suc slot)))

pub none_in : (lists : List Slot) → ((slot : ℕ) → list_at lists slot ≡ []) → entries_in lists ≡ []
none_in [] each = refl
none_in (list ∷ lists) each = ap (λ (entries : List HeapEntry). entries ++ entries_in lists) (each 0) ∙ none_in lists (λ slot. each (suc slot))

-- a list beyond the last has no entries, so one with entries is within them, and has those that are read there
pub beyond : (lists : List Slot) (slot : ℕ) → length lists ≤ slot → list_at lists slot ≡ []
beyond [] slot after = refl
beyond (list ∷ lists) zero after = absurd (omega (arith, after))
beyond (list ∷ lists) (suc slot) after = beyond lists slot (omega (arith, after))

pub within : (lists : List Slot) (slot : ℕ) → 0 < length (list_at lists slot) → slot < length lists
within [] slot some = absurd (omega (arith, some))
within (list ∷ lists) zero some = omega arith
within (list ∷ lists) (suc slot) some = omega (arith, within lists slot some)

pub read : (lists : List Slot) (slot : ℕ) (list : Slot) → slot < length lists → list ≡ get_or lists slot list → list_at lists slot ≡ list.items
read [] slot list there is = absurd (omega (arith, there))
read (x ∷ lists) zero list there is = ap (λ (l : Slot). l.items) (sym is)
read (x ∷ lists) (suc slot) list there is = read lists slot list (omega (arith, there)) is

-- one list more has no entries
pub none_further : (lists : List Slot) (first slot : ℕ) (list : Slot) → ((k : ℕ) → first ≤ k → k < slot → list_at lists k ≡ []) → slot < length lists
    → list ≡ get_or lists slot list → list.items ≡ [] → (k : ℕ) → first ≤ k → k < slot + 1 → list_at lists k ≡ []
none_further lists first slot list before there is none k from below =
    elim (cases_lt k slot) [
      | inl less ↦ before k from less
      | inr more ↦
          let last : k ≡ slot = omega (arith, below, more) in
          ap (list_at lists) last ∙ read lists slot list there is ∙ none
    ]

pub none_at_all : (lists : List Slot) (first slot : ℕ) → ((k : ℕ) → first ≤ k → k < slot → list_at lists k ≡ []) → length lists ≤ slot
    → (k : ℕ) → first ≤ k → list_at lists k ≡ []
none_at_all lists first slot before all k from =
    elim (cases_lt k slot) [ inl less ↦ before k from less | inr more ↦ beyond lists k (omega (arith, all, more)) ]

-- a list that is written
written-here : (lists : List Slot) (slot : ℕ) (list : Slot) → slot < length lists → list_at (slice_set lists slot list) slot ≡ list.items
written-here [] slot list there = absurd (omega (arith, there))
written-here (x ∷ lists) zero list there = refl
written-here (x ∷ lists) (suc slot) list there = written-here lists slot list (omega (arith, there))

written-others : (lists : List Slot) (slot : ℕ) (list : Slot) (k : ℕ) → k ≢ slot → list_at (slice_set lists slot list) k ≡ list_at lists k
written-others [] slot list k differ = refl
written-others (x ∷ lists) zero list zero differ = absurd (differ refl)
written-others (x ∷ lists) zero list (suc k) differ = refl
written-others (x ∷ lists) (suc slot) list zero differ = refl
written-others (x ∷ lists) (suc slot) list (suc k) differ = written-others lists slot list k (λ same. differ (ap suc same))

-- an empty list more, and steps in turn
pub alike-none : (lists : List Slot) → AreAlike lists lists
alike-none lists = record { same = λ slot. refl; all = refl }

pub alike-then : (xs ys zs : List Slot) → AreAlike xs ys → AreAlike ys zs → AreAlike xs zs
alike-then xs ys zs first next = record { same = λ slot. next.same slot ∙ first.same slot; all = next.all ∙ first.all }

pub alike-push : (lists : List Slot) (list : Slot) → list.items ≡ [] → AreAlike lists (lists ++ list ∷ [])
alike-push lists list empty = record {
  same = same' lists;
  all =
      flat_map-append (λ (l : Slot). l.items) lists (list ∷ []) ∙ ap (λ (entries : List HeapEntry). entries_in lists ++ (entries ++ [])) empty ∙ append-nil (entries_in lists);
}
  where
    same' : (xs : List Slot) (slot : ℕ) → list_at (xs ++ list ∷ []) slot ≡ list_at xs slot
    same' [] zero = empty
    same' [] (suc slot) = refl
    same' (x ∷ xs) zero = refl
    same' (x ∷ xs) (suc slot) = same' xs slot

-- a list with the same entries is written
pub alike-write : (lists : List Slot) (slot : ℕ) (list list' : Slot) → slot < length lists → list ≡ get_or lists slot list → list'.items ≡ list.items
    → AreAlike lists (slice_set lists slot list')
alike-write lists slot list list' there is same = record { same = λ k. same' lists slot there is k; all = all' lists slot there is }
  where
    same' : (xs : List Slot) (slot : ℕ) → slot < length xs → list ≡ get_or xs slot list → (k : ℕ) → list_at (slice_set xs slot list') k ≡ list_at xs k
    same' [] slot there is k = absurd (omega (arith, there))
    same' (x ∷ xs) zero there is zero = same ∙ ap (λ (l : Slot). l.items) is
    same' (x ∷ xs) zero there is (suc k) = refl
    same' (x ∷ xs) (suc slot) there is zero = refl
    same' (x ∷ xs) (suc slot) there is (suc k) = same' xs slot (omega (arith, there)) is k

    all' : (xs : List Slot) (slot : ℕ) → slot < length xs → list ≡ get_or xs slot list → entries_in (slice_set xs slot list') ≡ entries_in xs
    all' [] slot there is = absurd (omega (arith, there))
    all' (x ∷ xs) zero there is = ap (λ (entries : List HeapEntry). entries ++ entries_in xs) (same ∙ ap (λ (l : Slot). l.items) is)
    all' (x ∷ xs) (suc slot) there is = ap (λ (entries : List HeapEntry). x.items ++ entries) (all' xs slot (omega (arith, there)) is)

-- an entry comes to the end of a list
pub added-write : (lists : List Slot) (slot : ℕ) (list list' : Slot) (e : HeapEntry) → slot < length lists → list ≡ get_or lists slot list
    → list'.items ≡ list.items ++ e ∷ [] → IsAdded lists slot e (slice_set lists slot list')
added-write lists slot list list' e there is more = record {
  here = written-here lists slot list' there ∙ more ∙ ap (λ (entries : List HeapEntry). entries ++ e ∷ []) (sym (read lists slot list there is));
  others = written-others lists slot list';
  all = all' lists slot there is;
}
  where
    all' : (xs : List Slot) (slot : ℕ) → slot < length xs → list ≡ get_or xs slot list → IsPermutation (e ∷ entries_in xs) (entries_in (slice_set xs slot list'))
    all' [] slot there is = absurd (omega (arith, there))
    all' (x ∷ xs) zero there is =
        let items : list'.items ≡ x.items ++ e ∷ [] = more ∙ ap (λ (l : Slot). l.items ++ e ∷ []) is in
        subst (λ (entries : List HeapEntry). IsPermutation (e ∷ (x.items ++ entries_in xs)) (entries ++ entries_in xs)) (sym items)
        (IsPermutation-append_left (entries_in xs) (e ∷ x.items) (x.items ++ e ∷ [])
        (IsPermutation-sym (x.items ++ e ∷ []) (e ∷ x.items) (IsPermutation-to_front x.items e)))
    all' (x ∷ xs) (suc slot) there is =
        IsPermutation-trans (e ∷ (x.items ++ entries_in xs)) (x.items ++ e ∷ entries_in xs) (x.items ++ entries_in (slice_set xs slot list'))
        (IsPermutation-sym (x.items ++ e ∷ entries_in xs) (e ∷ (x.items ++ entries_in xs)) (IsPermutation-middle x.items e (entries_in xs)))
        (IsPermutation-append_right x.items (e ∷ entries_in xs) (entries_in (slice_set xs slot list')) (all' xs slot (omega (arith, there)) is))

pub added-then : (xs ys zs : List Slot) (slot : ℕ) (e : HeapEntry) → AreAlike xs ys → IsAdded ys slot e zs → IsAdded xs slot e zs
added-then xs ys zs slot e first next = record {
  here = next.here ∙ ap (λ (entries : List HeapEntry). entries ++ e ∷ []) (first.same slot);
  others = λ k differ. next.others k differ ∙ first.same k;
  all = subst (λ (entries : List HeapEntry). IsPermutation (e ∷ entries) (entries_in zs)) first.all next.all;
}

-- a list was given up for an empty one
pub emptied-write : (lists : List Slot) (slot : ℕ) (list empty : Slot) → slot < length lists → list ≡ get_or lists slot list → empty.items ≡ []
    → IsEmptied lists slot list.items (slice_set lists slot empty)
emptied-write lists slot list empty there is none = record {
  was = read lists slot list there is;
  here = written-here lists slot empty there ∙ none;
  others = written-others lists slot empty;
  all = all' lists slot there is;
}
  where
    all' : (xs : List Slot) (slot : ℕ) → slot < length xs → list ≡ get_or xs slot list → IsPermutation (entries_in xs) (list.items ++ entries_in (slice_set xs slot empty))
    all' [] slot there is = absurd (omega (arith, there))
    all' (x ∷ xs) zero there is =
        let same : x.items ++ entries_in xs ≡ list.items ++ (empty.items ++ entries_in xs) =
        ap (λ (l : Slot). l.items ++ entries_in xs) (sym is) ∙ ap (λ (entries : List HeapEntry). list.items ++ (entries ++ entries_in xs)) (sym none) in
        subst (IsPermutation (x.items ++ entries_in xs)) same (IsPermutation-refl (x.items ++ entries_in xs))
    all' (x ∷ xs) (suc slot) there is =
        let rest = entries_in (slice_set xs slot empty) in
        IsPermutation-trans (x.items ++ entries_in xs) (x.items ++ (list.items ++ rest)) (list.items ++ (x.items ++ rest))
        (IsPermutation-append_right x.items (entries_in xs) (list.items ++ rest) (all' xs slot (omega (arith, there)) is))
        (subst (IsPermutation (x.items ++ (list.items ++ rest))) (append_assoc list.items x.items rest)
        (subst (λ (entries : List HeapEntry). IsPermutation entries (list.items ++ x.items ++ rest)) (append_assoc x.items list.items rest)
        (IsPermutation-append_left rest (x.items ++ list.items) (list.items ++ x.items) (IsPermutation-append_comm x.items list.items))))

-- the last entry of a list was taken
pub taken-write : (lists : List Slot) (slot : ℕ) (list list' : Slot) (e : HeapEntry) → slot < length lists → list ≡ get_or lists slot list
    → list.items ≡ list'.items ++ e ∷ [] → IsAdded (slice_set lists slot list') slot e lists
taken-write lists slot list list' e there is less = record {
  here =
      read lists slot list there is ∙ less ∙ ap (λ (entries : List HeapEntry). entries ++ e ∷ []) (sym (written-here lists slot list' there));
  others = λ k differ. sym (written-others lists slot list' k differ);
  all = all' lists slot there is;
}
  where
    all' : (xs : List Slot) (slot : ℕ) → slot < length xs → list ≡ get_or xs slot list → IsPermutation (e ∷ entries_in (slice_set xs slot list')) (entries_in xs)
    all' [] slot there is = absurd (omega (arith, there))
    all' (x ∷ xs) zero there is =
        let items : x.items ≡ list'.items ++ e ∷ [] = sym (ap (λ (l : Slot). l.items) is) ∙ less in
        subst (λ (entries : List HeapEntry). IsPermutation (e ∷ (list'.items ++ entries_in xs)) (entries ++ entries_in xs)) (sym items)
        (IsPermutation-append_left (entries_in xs) (e ∷ list'.items) (list'.items ++ e ∷ [])
        (IsPermutation-sym (list'.items ++ e ∷ []) (e ∷ list'.items) (IsPermutation-to_front list'.items e)))
    all' (x ∷ xs) (suc slot) there is =
        let rest = entries_in (slice_set xs slot list') in
        IsPermutation-trans (e ∷ (x.items ++ rest)) (x.items ++ e ∷ rest) (x.items ++ entries_in xs)
        (IsPermutation-sym (x.items ++ e ∷ rest) (e ∷ (x.items ++ rest)) (IsPermutation-middle x.items e rest))
        (IsPermutation-append_right x.items (e ∷ rest) (entries_in xs) (all' xs slot (omega (arith, there)) is))
