-- The next line behind the header, as the lines and the bytes of what is left of a text say it.
use Rattle.std.specs.Prelude.{◌≡◌, ℕ, ◌==◌, if◌then◌else◌, List, [], ◌∷◌, ◌++◌, length, slice_get, ◌-◌}
use Rattle.nav_ground.specs.declared.field.Span.{Span}
use Rattle.nav_text.specs.declared.fault.FaultKind.TheVariants.{TooMany}
use Rattle.nav_text.specs.Forms.{AreNumbers}
use Rattle.nav_text.specs.Lines.{lines}
use Rattle.span_text.specs.declared.body.BodyLine.{BodyLine}
use Rattle.span_text.specs.declared.body.BodyLine.TheVariants.{Fails}
use Rattle.span_text.specs.Body.{body_line, span_in}

-- the first line of a text says this, after the area of the last cost and some spans, and the rest follows its line feed
pub record SaysFirst (width depth before : ℕ) (spans : List Span) (text : List ℕ) (said : BodyLine) (rest : List ℕ) : Type 0 where
  pub line : List ℕ
  pub first : lines text ≡ line ∷ lines rest
  pub spelled : text ≡ line ++ 10 ∷ rest
  pub says : body_line width depth before spans line ≡ said

-- the line of a span, after some spans: one too many, or what its numbers say
abbrev pub span_or_many : ℕ → ℕ → List Span → Span → BodyLine
span_or_many width depth spans span = if length spans == 2000000 then Fails TooMany else span_in width depth (slice_get spans (length spans - 1)) span

-- the numbers of a span are those that a line can hold
abbrev pub IsHeld : Span → Type 0
IsHeld span = AreNumbers (span.x ∷ span.z ∷ span.bottom ∷ span.top ∷ span.area ∷ [])
