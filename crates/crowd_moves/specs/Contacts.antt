-- Contacts: lists of lists, kept as one list, and who is near whom. The grid in which those near are looked for.
use Rattle.std.specs.Prelude.{◌≡◌, ◌≢◌, ℕ, ◌+◌, ◌*◌, ◌/◌, ◌<◌, ◌≤◌, min, ℤ, pos, ◌+ℤ◌, unsigned_abs, List, length, slice_get, slice_index_or, Some, Contains}
use Rattle.std.specs.List.Sorted.{IsNonDecreasingBy}
use Rattle.nav_base.specs.declared.point.Point.{Point}
use Rattle.crowd_moves.specs.declared.agents.CrowdAgent.{CrowdAgent}
use Rattle.crowd_moves.specs.declared.keyed.KeyedPlace.{KeyedPlace}
use Rattle.crowd_moves.specs.Pairs.{IsNear}

-- Lists one after the other in one list: `first` tells for each where its own begin, and those of one end where those of the next begin, or where
-- there are no more.
abbrev pub begin_at : List ℕ → ℕ → ℕ
begin_at first i = slice_index_or first i 0

abbrev pub end_at : List ℕ → ℕ → ℕ → ℕ
end_at first i count = min (slice_index_or first (i + 1) 0) count

-- what is in the list of one, at a place of the one list
pub record IsIn {X : Type 0} (first : List ℕ) (all : List X) (i k : ℕ) (x : X) : Type 0 where
  pub from : begin_at first i ≤ k
  pub below : k < end_at first i (length all)
  pub is : slice_get all k ≡ Some x

-- another agent is among the contacts of one
pub record IsContact (first others : List ℕ) (i j : ℕ) : Type 0 where
  pub place : ℕ
  pub listed : IsIn first others i place j

-- the contacts of an agent: each other one that it could come to touch in one step, and no others
pub record HasContacts (agents : List CrowdAgent) (first others : List ℕ) (i : ℕ) : Type 0 where
  pub each : (j : ℕ) (a b : CrowdAgent) → j ≢ i → slice_get agents i ≡ Some a → slice_get agents j ≡ Some b → IsNear a b → IsContact first others i j
  pub no_other : (j : ℕ) (a b : CrowdAgent) → IsContact first others i j → slice_get agents i ≡ Some a → slice_get agents j ≡ Some b → IsNear a b
  pub not_own : IsContact first others i i → ⊥

-- those of all agents
abbrev pub AreContacts : List CrowdAgent → List ℕ → List ℕ → Type 0
AreContacts agents first others = (i : ℕ) → i < length agents → HasContacts agents first others i

-- ---- the grid

-- no agent's radius and speed together are more
abbrev pub AreWithin : ℕ → List CrowdAgent → Type 0
AreWithin most agents = (i : ℕ) (a : CrowdAgent) → slice_get agents i ≡ Some a → a.radius + a.speed ≤ most

-- cells of a side are wide enough: two that could come to touch lie in the same row or in neighbouring ones, and so with columns
abbrev pub IsWideEnough : ℕ → List CrowdAgent → Type 0
IsWideEnough side agents = (most : ℕ) × (side ≡ 2 * most + 1) × AreWithin most agents

-- the row or the column of a coordinate, from 1 on, in cells of a side
abbrev pub line_of : ℕ → ℤ → ℕ
line_of side n = unsigned_abs (n +ℤ pos 1048576) / side + 1

-- the number of the cell of a point: cells of a row follow each other, and from row to row it grows by 2 ^ 24
abbrev pub cell_of : ℕ → Point → ℕ
cell_of side p = line_of side p.z * 16777216 + line_of side p.x

-- an entry of the grid, and the entries of all agents in the order of their cells
abbrev pub entry_of : ℕ → ℕ → CrowdAgent → KeyedPlace
entry_of side i a = record { key = cell_of side a.at; place = i }

pub record AreEntries (side : ℕ) (agents : List CrowdAgent) (entries : List KeyedPlace) : Type 0 where
  pub order : IsNonDecreasingBy (λ (entry : KeyedPlace). entry.key) entries
  pub each : (i : ℕ) (a : CrowdAgent) → slice_get agents i ≡ Some a → Contains entries (entry_of side i a)
