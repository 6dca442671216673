use Rattle.std.proofs.Common.{◌≡◌, ℕ, ◌≤◌, ◌<◌, ◌∷◌, ◌++◌, ◌∙◌, List, length, get_or, sym, subst, ap}
use Rattle.std.specs.Prelude.{All}
use Rattle.std.specs.List.Sorted.{IsPermutation}
use Rattle.std.specs.declared.alloc.Global.{Global}
use Rattle.std.specs.declared.vec.Vec.{Vec}
use Rattle.graph_search.specs.declared.radix_heap.HeapEntry.{HeapEntry}
use Rattle.graph_search.specs.Entries.{Queue, list_at, entries_in, IsFilled}
use Rattle.graph_search.proofs.Queues.{none-left, slotted-low, least-low, taken-low, slotted-dealt, least-dealt, taken-dealt}
use Rattle.graph_search.proofs.radix_heap.RadixHeap.pop.Goals as goal

-- the first list with entries, by the fields
filled-in : (seen lists : List (Vec HeapEntry Global)) (first slot : ℕ) → seen ≡ lists → IsFilled seen first slot → IsFilled lists first slot
filled-in seen lists first slot same filled = subst (λ (xs : List (Vec HeapEntry Global)). IsFilled xs first slot) same filled

-- a place in a list, and the least key there, by the slice that was read
there : (seen list : List HeapEntry) (place : ℕ) → seen ≡ list → place < length seen → place < length list
there seen list place same below = subst (λ (xs : List HeapEntry). place < length xs) same below

least-in : (seen list : List HeapEntry) (place : ℕ) (e : HeapEntry) → seen ≡ list
    → ((d : HeapEntry) → All (λ (other : HeapEntry). (get_or seen place d).key ≤ other.key) seen) → All (λ (other : HeapEntry). (get_or list place e).key ≤ other.key) list
least-in seen list place e same least = subst (λ (xs : List HeapEntry). All (λ (other : HeapEntry). (get_or xs place e).key ≤ other.key) xs) same (least e)

pub returns-in_default-clause-none : goal.returns-in_default-clause-none
returns-in_default-clause-none c =
    sym (ap (λ (queue : Queue). queue.entries) c.self.view_is)
    ∙ none-left _ _ _ c.self.invariant (λ k after. ap (λ (lists : List (Vec HeapEntry Global)). list_at lists k) (sym c.as_slice.ensures.value) ∙ c.in_default.ensures.none k after)

pub invariant_of-self : goal.invariant_of-self
invariant_of-self c =
    slotted-low _ _ _ _ _ c.self.invariant (filled-in _ _ _ _ c.as_slice.ensures.value c.in-Some.ensures.some) _ c.if-slot-lt-LISTS.true c.take_last-entry.ensures

pub returns-then-slot-lt-LISTS-clause-taken : goal.returns-then-slot-lt-LISTS-clause-taken
returns-then-slot-lt-LISTS-clause-taken c =
    subst (λ (queue : Queue). IsPermutation queue.entries (c.take_last-entry.result ∷ entries_in c.take_last-entry.new.lists.items)) c.self.view_is
    (taken-low _ _ _ _ _ c.self.invariant (filled-in _ _ _ _ c.as_slice.ensures.value c.in-Some.ensures.some) _ c.if-slot-lt-LISTS.true c.take_last-entry.ensures)

pub returns-then-slot-lt-LISTS-clause-least : goal.returns-then-slot-lt-LISTS-clause-least
returns-then-slot-lt-LISTS-clause-least c =
    subst (λ (queue : Queue). All (λ (other : HeapEntry). c.take_last-entry.result.key ≤ other.key) queue.entries) c.self.view_is
    (least-low _ _ _ _ _ c.self.invariant (filled-in _ _ _ _ c.as_slice.ensures.value c.in-Some.ensures.some) _ c.if-slot-lt-LISTS.true c.take_last-entry.ensures)

pub invariant_of-self-2 : goal.invariant_of-self-2
invariant_of-self-2 c =
    slotted-dealt _ _ _ _ _ c.self.invariant (filled-in _ _ _ _ c.as_slice.ensures.value c.in-Some.ensures.some) _ _ _ c.least.result c.take_list-list.ensures (there _ _ _ c.as_slice-2.ensures.value c.least.ensures.there) c.swap_remove-entry.ensures.value c.swap_remove-entry.ensures.items
    (least-in _ _ _ _ c.as_slice-2.ensures.value c.least.ensures.least)

pub returns-clause-taken : goal.returns-clause-taken
returns-clause-taken c =
    let before : IsPermutation c.args.self.now.entries (c.swap_remove-entry.result ∷ c.push_all.new.self.entries) =
    subst (λ (queue : Queue). IsPermutation queue.entries (c.swap_remove-entry.result ∷ c.push_all.new.self.entries)) c.self.view_is
    (taken-dealt _ _ _ _ _ c.self.invariant (filled-in _ _ _ _ c.as_slice.ensures.value c.in-Some.ensures.some) _ _ _ c.least.result c.take_list-list.ensures (there _ _ _ c.as_slice-2.ensures.value c.least.ensures.there) c.swap_remove-entry.ensures.value c.swap_remove-entry.ensures.items
    (least-in _ _ _ _ c.as_slice-2.ensures.value c.least.ensures.least) _
    (subst (λ (rest : List HeapEntry). IsPermutation (rest ++ entries_in c.take_list-list.new.lists.items) c.push_all.new.self.entries) c.as_slice-3.ensures.value
    c.in_ok-push_all.ensures.added)) in
    subst (λ (queue : Queue). IsPermutation c.args.self.now.entries (c.swap_remove-entry.result ∷ queue.entries)) (sym c.self-2.view_is) before

pub returns-clause-least : goal.returns-clause-least
returns-clause-least c =
    subst (λ (queue : Queue). All (λ (other : HeapEntry). c.swap_remove-entry.result.key ≤ other.key) queue.entries) c.self.view_is
    (least-dealt _ _ _ _ _ c.self.invariant (filled-in _ _ _ _ c.as_slice.ensures.value c.in-Some.ensures.some) _ _ _ c.least.result c.take_list-list.ensures (there _ _ _ c.as_slice-2.ensures.value c.least.ensures.there) c.swap_remove-entry.ensures.value c.swap_remove-entry.ensures.items
    (least-in _ _ _ _ c.as_slice-2.ensures.value c.least.ensures.least))
