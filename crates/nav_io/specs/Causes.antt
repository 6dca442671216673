-- What reads and writes say of the bytes that they move, where those are known, and of a count of faults.
use Rattle.std.specs.Prelude.{◌≡◌, ℕ, ◌+◌, ◌-◌, ◌^◌, ◌<◌, ◌≤◌, min, List, length, take, Option, None, Some, Result, IfOk, OnErr, MatchResult}
use Rattle.std.specs.Io.KnownBytes.{Consumes, Appends, IsAtEnd}

-- the count of faults rose; at its last value, 2 ^ 64 - 1, where it stays, it counts as risen
abbrev pub Rose : ℕ → ℕ → Type 0
Rose before now = min (before + 1) (2 ^ 64 - 1) ≤ now

-- a call that failed has its cause: the count of faults never falls, and it rose where the call failed
pub record HasCause {T E : Type 0} (before now : ℕ) (result : Result T E) : Type 0 where
  pub later : before ≤ now
  pub failed : OnErr result (Rose before now)

-- a count of faults after one more fault: it stays at its last value, 2 ^ 64 - 1, once it is there
abbrev pub next_count : ℕ → ℕ
next_count count = min (count + 1) (2 ^ 64 - 1)

-- the count counts the failed calls: it is one more after a failed call, and the same after any other
abbrev pub CountsFailures : {T E : Type 0} → ℕ → ℕ → Result T E → Type 0
CountsFailures before now result = MatchResult result (λ _. now ≡ before) (λ _. now ≡ next_count before)

-- a write that succeeds takes a byte, where it was given one
abbrev pub MakesProgress : {E : Type 0} → Result ℕ E → ℕ → Type 0
MakesProgress result given = IfOk result (λ count. 0 < given → 0 < count)

-- the source gave all the bytes that it had left, and is at its end
abbrev pub GivesAll : Option (List ℕ) → Option (List ℕ) → List ℕ → Type 0
GivesAll old new bytes = Consumes old new bytes × IsAtEnd new

-- the source lost this many bytes: what is left is the rest of what was left
abbrev pub TookMany : Option (List ℕ) → Option (List ℕ) → ℕ → Type 0
TookMany old new count = (bytes : List ℕ) × (length bytes ≡ count) × Consumes old new bytes

-- the source lost at most this many bytes: what is left is the rest of what was left
abbrev pub TookAtMost : Option (List ℕ) → Option (List ℕ) → ℕ → Type 0
TookAtMost old new most = (bytes : List ℕ) × (length bytes ≤ most) × Consumes old new bytes

-- the source tells its bytes, and has at most this many left
abbrev pub HasAtMost : Option (List ℕ) → ℕ → Type 0
HasAtMost None most = ⊥
HasAtMost (Some bytes) most = length bytes ≤ most

-- the source tells its bytes, and has more than this many left
abbrev pub HasMore : Option (List ℕ) → ℕ → Type 0
HasMore None most = ⊥
HasMore (Some bytes) most = most < length bytes

-- the sink holds what it held and a front part of the bytes, and not all of them
abbrev pub AppendsPrefix : Option (List ℕ) → Option (List ℕ) → List ℕ → Type 0
AppendsPrefix old new bytes = (count : ℕ) × (count < length bytes) × Appends old new (take count bytes)
