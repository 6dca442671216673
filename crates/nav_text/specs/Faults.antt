-- Faults of texts.
use Rattle.std.specs.Prelude.{ℕ}
use Rattle.nav_text.specs.declared.fault.TextFault.{TextFault}
use Rattle.nav_text.specs.declared.fault.FaultKind.{FaultKind}
use Rattle.nav_text.specs.declared.fault.FaultKind.TheVariants.{Form, Range, Order, Overlap, Climb, TooMany, Unfinished, Line, Lane, BeforeAdd, TooManyLines, TooManyJumps, TooManyTriangles}

-- the number of a kind
abbrev pub kind_number : FaultKind → ℕ
kind_number Form = 1
kind_number Range = 2
kind_number Order = 3
kind_number Overlap = 4
kind_number Climb = 5
kind_number TooMany = 6
kind_number Unfinished = 7
kind_number Line = 8
kind_number Lane = 9
kind_number BeforeAdd = 10
kind_number TooManyLines = 11
kind_number TooManyJumps = 12
kind_number TooManyTriangles = 13

-- the fault of a kind at a line
abbrev pub fault_at : ℕ → FaultKind → TextFault
fault_at line kind = record { line = line; kind = kind_number kind }
