-- The vertices that a search has still to close, with their keys, and the lists in which a radix heap keeps them.
use Rattle.std.specs.Prelude.{◌≡◌, ◌≢◌, ℕ, zero, suc, ◌+◌, ◌/◌, ◌%◌, ◌<◌, ◌≤◌, ◌==◌, if◌then◌else◌, List, [], ◌∷◌, ◌++◌, length, All, slice_get}
use Rattle.std.specs.Option.{option_map_or}
use Rattle.std.specs.List.{flat_map}
use Rattle.std.specs.List.Sorted.{IsPermutation}
use Rattle.std.specs.declared.alloc.Global.{Global}
use Rattle.std.specs.declared.vec.Vec.{Vec}
use Rattle.graph_search.specs.declared.graph.Vertex.{Vertex}
use Rattle.graph_search.specs.declared.radix_heap.HeapEntry.{HeapEntry}

-- a vertex with its key
abbrev pub entry : ℕ → Vertex → HeapEntry
entry key vertex = record { key = key; vertex = vertex }

-- what waits, in any order, and the key that was taken last, which no later key falls below
pub record Queue : Type 0 where
  pub last : ℕ
  pub entries : List HeapEntry

-- the slot of a key, seen by its digits to the base 64: 64 slots for each digit, of which the last differs from the last key taken at the
-- highest place, counted from the lowest digit, and among those by that digit
unfoldable pub slot_of : ℕ → ℕ → ℕ → ℕ
slot_of zero last key = 0
slot_of (suc digits) last key = if last / 64 == key / 64 then key % 64 else 64 + slot_of digits (last / 64) (key / 64)

-- the entries of the list at a slot
abbrev pub list_at : List (Vec HeapEntry Global) → ℕ → List HeapEntry
list_at lists slot = option_map_or (λ (list : Vec HeapEntry Global). list.items) (slice_get lists slot) []

-- the entries of all lists
abbrev pub entries_in : List (Vec HeapEntry Global) → List HeapEntry
entries_in lists = flat_map (λ (list : Vec HeapEntry Global). list.items) lists

-- an entry stands in the slot of its key, which is not less than the key taken last
pub record StandsIn (last slot : ℕ) (e : HeapEntry) : Type 0 where
  pub no_less : last ≤ e.key
  pub own : slot_of 11 last e.key ≡ slot

-- each entry stands in its slot, and none before the first
pub record AreSlotted (last first : ℕ) (lists : List (Vec HeapEntry Global)) : Type 0 where
  pub stand : (slot : ℕ) → All (StandsIn last slot) (list_at lists slot)
  pub none : (slot : ℕ) → slot < first → list_at lists slot ≡ []

-- the lists have the same entries
pub record AreAlike (old new : List (Vec HeapEntry Global)) : Type 0 where
  pub same : (slot : ℕ) → list_at new slot ≡ list_at old slot
  pub all : entries_in new ≡ entries_in old

-- an entry was added at the end of a list
pub record IsAdded (old : List (Vec HeapEntry Global)) (slot : ℕ) (e : HeapEntry) (new : List (Vec HeapEntry Global)) : Type 0 where
  pub here : list_at new slot ≡ list_at old slot ++ e ∷ []
  pub others : (k : ℕ) → k ≢ slot → list_at new k ≡ list_at old k
  pub all : IsPermutation (e ∷ entries_in old) (entries_in new)

-- a list was taken out
pub record IsEmptied (old : List (Vec HeapEntry Global)) (slot : ℕ) (list : List HeapEntry) (new : List (Vec HeapEntry Global)) : Type 0 where
  pub was : list_at old slot ≡ list
  pub here : list_at new slot ≡ []
  pub others : (k : ℕ) → k ≢ slot → list_at new k ≡ list_at old k
  pub all : IsPermutation (entries_in old) (list ++ entries_in new)

-- a list is the first with entries, from a slot on
pub record IsFilled (lists : List (Vec HeapEntry Global)) (from slot : ℕ) : Type 0 where
  pub none : (k : ℕ) → from ≤ k → k < slot → list_at lists k ≡ []
  pub some : 0 < length (list_at lists slot)
