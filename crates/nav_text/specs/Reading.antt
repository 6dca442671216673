-- Reading a text line by line: what each line is depends on what the lines before it have said.
use Rattle.std.specs.Prelude.{◌≡◌, ℕ, ◌+◌, List, [], ◌∷◌, ◌++◌, length, Option, Some, None, Result, Ok, Err}
use Rattle.nav_text.specs.declared.fault.TextFault.{TextFault}
use Rattle.nav_text.specs.declared.fault.FaultKind.{FaultKind}
use Rattle.nav_text.specs.declared.fault.FaultKind.TheVariants.{Unfinished}
use Rattle.nav_text.specs.Faults.{kind_number, fault_at}

-- what a line is at a place: it is right and leads to a further place, or it is right and ends the text with a value, or it fails
pub data Verdict (P V : Type 0) : Type 0 where
  Goes : P → Verdict P V
  HopEnds : V → Verdict P V
  Refuses : FaultKind → Verdict P V

-- what is read of a line leads to the place that it makes, and what is wrong with it refuses it
abbrev pub lead : {A P V : Type 0} → Result A FaultKind → (A → P) → Verdict P V
lead (Ok said) next = Goes (next said)
lead (Err kind) next = Refuses kind

-- a format of texts: what each line is at each place, and the value of a text that ends at a place; none where it may not end there
pub record Format (P V : Type 0) : Type 0 where
  pub verdict : P → List ℕ → Verdict P V
  pub value : P → Option V

abbrev pub read_end : {V : Type 0} → Option V → ℕ → Result (V × ℕ) TextFault
read_end (Some value) count = Ok (value, count)
read_end None count = Err (fault_at (count + 1) Unfinished)

abbrev pub read_on : {P V : Type 0} → Verdict P V → ℕ → (P → Result (V × ℕ) TextFault) → Result (V × ℕ) TextFault
read_on (Goes place) count rest = rest place
read_on (HopEnds value) count rest = Ok (value, count + 1)
read_on (Refuses kind) count rest = Err (fault_at (count + 1) kind)

-- what is read of the lines that are left at a place, `count` lines being read before: the value and how many lines spell it,
-- or the fault of the first line that fails
unfoldable pub read : {P V : Type 0} → Format P V → P → ℕ → List (List ℕ) → Result (V × ℕ) TextFault
read format place count [] = read_end (format.value place) count
read format place count (line ∷ more) = read_on (format.verdict place line) count (λ next. read format next (count + 1) more)

-- every one of these lines is right, and they lead from one place to another
abbrev pub Leads : {P V : Type 0} → Format P V → P → List (List ℕ) → P → Type 0
Leads format from [] to = from ≡ to
Leads {P} format from (line ∷ more) to = (next : P) × (format.verdict from line ≡ Goes next) × Leads format next more to

-- at a place the next line fails with a kind, or the text ends where it may not
abbrev pub FailsAt : {P V : Type 0} → Format P V → P → List (List ℕ) → FaultKind → Type 0
FailsAt format place [] kind = (format.value place ≡ None) × (kind ≡ Unfinished)
FailsAt format place (line ∷ more) kind = format.verdict place line ≡ Refuses kind

-- the fault is that of the first line that fails: all lines before it are right, and lead to a place where it fails with this kind
pub record IsFirstFault {P V : Type 0} (format : Format P V) (place : P) (count : ℕ) (those : List (List ℕ)) (fault : TextFault) : Type 0 where
  pub good : List (List ℕ)
  pub rest : List (List ℕ)
  pub at : P
  pub kind : FaultKind
  pub parts : those ≡ good ++ rest
  pub leads : Leads format place good at
  pub fails : FailsAt format at rest kind
  pub line : fault.line ≡ count + length good + 1
  pub number : fault.kind ≡ kind_number kind
