-- Entries in order: their numbers do not decrease.
use Rattle.std.proofs.Common.{◌≡◌, ◌<◌, ◌≤◌, Bool, true, false, List, get_or, ap, sym, arith, inl, inr}
use Rattle.std.specs.List.Sorted.{IsNonDecreasingBy}
use Rattle.std.specs.Ordering.{is_lt, nat_cmp, ordering_then, on}
use Rattle.std.specs.declared.cmp.Ordering.{Ordering}
use Rattle.std.specs.declared.cmp.Ordering.TheVariants.{Less}
use Rattle.std.specs.Cmp.{IsStrictWeakOrder, IsTotalOrder, nat_cmp_is}
use Rattle.std.proofs.lemmas.Bool.{both_ways, cases_order}
use Rattle.std.proofs.lemmas.Cmp.{then_total, on_total, nat_cmp_total}
use Rattle.std.proofs.lemmas.List.MinMax.{ranks_by}
use Rattle.std.proofs.lemmas.List.Sorted.{sorted_far}
use Rattle.crowd_moves.specs.declared.keyed.KeyedPlace.{KeyedPlace}
use Rattle.crowd_moves.specs.Keyed.{entry_cmp, AreInOrder}

entry_total : IsTotalOrder entry_cmp
entry_total =
    then_total {R = on (λ (e : KeyedPlace). e.key) nat_cmp} {S = on (λ (e : KeyedPlace). e.place) nat_cmp}
    (on_total (λ (e : KeyedPlace). e.key) nat_cmp_total) (on_total (λ (e : KeyedPlace). e.place) nat_cmp_total)

abbrev pub comes_before : KeyedPlace → KeyedPlace → Bool
comes_before a b = is_lt (entry_cmp a b)

pub entries_order : IsStrictWeakOrder comes_before
entries_order = ranks_by entry_total (λ (entry : KeyedPlace). entry)

lesser_key : (a b : KeyedPlace) → b.key < a.key → comes_before b a ≡ true
lesser_key a b less = ap (λ (o : Ordering). is_lt (ordering_then o (nat_cmp b.place a.place))) (sym (nat_cmp_is b.key a.key Less less))

key_not_above : (a b : KeyedPlace) → comes_before b a ≡ false → a.key ≤ b.key
key_not_above a b after = elim (cases_order a.key b.key) [
  | inr (inl less) ↦ omega (arith, less)
  | inr (inr more) ↦ absurd (both_ways (comes_before b a) after (lesser_key a b more))
  | inl same ↦ omega (arith, same)
]

pub keys_rise : (entries : List KeyedPlace) → AreInOrder entries → IsNonDecreasingBy (λ (entry : KeyedPlace). entry.key) entries
keys_rise entries sorted i j d low high = key_not_above (get_or entries i d) (get_or entries j d) (sorted_far comes_before entries_order entries sorted i j d low high)
