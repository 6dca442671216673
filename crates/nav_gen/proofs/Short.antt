-- How long texts of short lines are.
use Rattle.std.proofs.Common.{ℕ, ◌*◌, ◌^◌, ◌<◌, ◌≤◌, List, [], ◌∷◌, ◌++◌, length, map, flat_map, decimal, codes, arith, length-append, All}
use Rattle.std.specs.Prelude.{⊤}
use Rattle.std.proofs.lemmas.Fmt.{length-decimal-le}
use Rattle.std.proofs.lemmas.List.Elements.{All-head, All-tail}
use Rattle.nav_ground.specs.declared.field.Span.{Span}
use Rattle.nav_ground.specs.Fields.{IsSpan}
use Rattle.nav_text.specs.Lines.{ended, text_of}
use Rattle.nav_text.specs.Forms.{line_text, AreNumbers}
use Rattle.span_text.specs.FieldText.{span_text}

-- lines of at most 99 bytes
abbrev pub AreShort : List (List ℕ) → Type 0
AreShort [] = ⊤
AreShort (line ∷ more) = (length line ≤ 99) × AreShort more

pub short-append : (some more : List (List ℕ)) → AreShort some → AreShort more → AreShort (some ++ more)
short-append [] more first rest = rest
short-append (line ∷ some) more first rest = (first.0, short-append some more first.1 rest)

pub text_short : (those : List (List ℕ)) → AreShort those → length (text_of those) ≤ 100 * length those
text_short [] short = omega arith
text_short (line ∷ more) short =
    let here : length line ≤ 99 = short.0 in
    let rest = text_short more short.1 in
    omega (arith, length-append (ended line) (text_of more), length-append line (10 ∷ []))

numbers_short : (numbers : List ℕ) → AreNumbers numbers → length (flat_map (λ n. 32 ∷ decimal n) numbers) ≤ 11 * length numbers
numbers_short [] are = omega arith
numbers_short (n ∷ more) are =
    let below : n < 2 ^ 32 = are.0 in
    let here = length-decimal-le 10 n (omega arith) (omega arith) (omega arith) in
    let rest = numbers_short more are.1 in
    omega (arith, length-append (32 ∷ decimal n) (flat_map (λ n. 32 ∷ decimal n) more))

-- the line of a word and few numbers
pub line_short : (word numbers : List ℕ) → length word ≤ 16 → length numbers ≤ 6 → AreNumbers numbers → length (line_text word numbers) ≤ 99
line_short word numbers few some are =
    omega (arith, numbers_short numbers are, length-append word (flat_map (λ n. 32 ∷ decimal n) numbers))

pub spans_short : (width depth : ℕ) (spans : List Span) → width ≤ 1024 → depth ≤ 1024 → All (IsSpan width depth) spans → AreShort (map span_text spans)
spans_short width depth [] wide deep each = tt
spans_short width depth (span ∷ more) wide deep each =
    let fits : IsSpan width depth span = All-head (IsSpan width depth) span more each in
    let x : span.x < width = fits.x in
    let z : span.z < depth = fits.z in
    let solid : span.bottom < span.top = fits.solid in
    let top : span.top ≤ 8191 = fits.top in
    let area : span.area ≤ 63 = fits.area in (
      line_short (codes "span") (span.x ∷ span.z ∷ span.bottom ∷ span.top ∷ span.area ∷ []) (omega arith) (omega arith)
          (omega arith, (omega arith, (omega arith, (omega arith, (omega arith, tt))))),
      spans_short width depth more wide deep (All-tail (IsSpan width depth) span more each),
    )
