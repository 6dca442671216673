-- The laws of reading a script text line by line.
use Rattle.std.proofs.Common.{◌≡◌, ℕ, ◌+◌, ◌<◌, ◌≤◌, Bool, true, false, leb, List, [], ◌∷◌, ◌++◌, length, Some, Result, Ok, Err, sym, subst, ap, ◌∙◌, arith, length-append}
use Rattle.std.proofs.lemmas.Bool.{cond-true, cond-false}
use Rattle.nav_text.specs.declared.fault.FaultKind.{FaultKind}
use Rattle.nav_text.specs.declared.fault.FaultKind.TheVariants as kinds
use Rattle.nav_text.specs.Faults.{fault_at}
use Rattle.nav_text.specs.Lines.{lines, is_ended}
use Rattle.nav_text.specs.Reading.{Verdict, Goes, Refuses, lead, read_on, read_end, read}
use Rattle.nav_script.specs.declared.script.Header.{Header}
use Rattle.nav_script.specs.declared.script.Line.{Line}
use Rattle.nav_script.specs.declared.script.Way.{Way}
use Rattle.nav_script.specs.declared.script.Script.{Script}
use Rattle.nav_script.specs.declared.script.ScriptRefusal.{ScriptRefusal}
use Rattle.nav_script.specs.declared.script.ScriptRefusal.TheVariants as refusals
use Rattle.nav_script.specs.Lanes.{adds_before}
use Rattle.nav_script.specs.Forms.{LineRead}
use Rattle.nav_script.specs.WayForms.{read_in_groups}
use Rattle.nav_script.specs.Reading.{Place, AtScript, AtLines, header_read, lacks_room, lacks_jumps, verdict_of, line_verdict, value_at, script_format, value_of, IsReading}
use Rattle.nav_script.proofs.LineLaws.{groups}

-- where the `script` line leads
abbrev pub header_verdict : Result Header FaultKind → Verdict Place Script
header_verdict told = lead told (λ (header : Header). AtLines header.lanes header.workers [])

-- after these lines, reading the rest gives what reading the whole text gives
pub record Keeps (way : Way) (lanes workers first : ℕ) (text rest : List ℕ) (before : List Line) : Type 0 where
  pub few : length before ≤ 300000
  pub ended : is_ended text ≡ is_ended rest
  pub reads : read (script_format way (is_ended text)) (AtLines lanes workers []) first (lines text)
      ≡ read (script_format way (is_ended text)) (AtLines lanes workers before) (first + length before) (lines rest)

-- one line is read by its verdict
at_line : (way : Way) (ended : Bool) (place : Place) (count : ℕ) (those : List (List ℕ)) (line : List ℕ) (more : List (List ℕ)) (verdict : Verdict Place Script)
    → those ≡ line ∷ more → line_verdict way place line ≡ verdict
    → read (script_format way ended) place count those ≡ read_on verdict count (λ next. read (script_format way ended) next (count + 1) more)
unfolding read
at_line way ended place count those line more verdict parts is =
    ap (read (script_format way ended) place count) parts ∙ ap (λ v. read_on v count (λ next. read (script_format way ended) next (count + 1) more)) is

at_end : (way : Way) (ended : Bool) (place : Place) (count : ℕ) (those : List (List ℕ)) → those ≡ []
    → read (script_format way ended) place count those ≡ read_end (value_at ended place) count
unfolding read
at_end way ended place count those none = ap (read (script_format way ended) place count) none

pub verdict_full : (way : Way) (lanes workers : ℕ) (before : List Line) (line : List ℕ) → leb 300000 (length before) ≡ true
    → line_verdict way (AtLines lanes workers before) line ≡ Refuses kinds.TooManyLines
verdict_full way lanes workers before line full = cond-true _ _ _ full

pub verdict_room : (way : Way) (lanes workers : ℕ) (before : List Line) (line : List ℕ) → leb 300000 (length before) ≡ false → lacks_room way before line ≡ true
    → line_verdict way (AtLines lanes workers before) line ≡ Refuses kinds.TooManyLines
verdict_room way lanes workers before line full room = cond-false _ _ _ full ∙ cond-true _ _ _ room

pub verdict_jumps : (way : Way) (lanes workers : ℕ) (before : List Line) (line : List ℕ) → leb 300000 (length before) ≡ false → lacks_room way before line ≡ false
    → lacks_jumps before line ≡ true → line_verdict way (AtLines lanes workers before) line ≡ Refuses kinds.TooManyJumps
verdict_jumps way lanes workers before line full room jumps = cond-false _ _ _ full ∙ (cond-false _ _ _ room ∙ cond-true _ _ _ jumps)

pub verdict_read : (way : Way) (lanes workers : ℕ) (before : List Line) (line : List ℕ) (told : LineRead) → leb 300000 (length before) ≡ false → lacks_room way before line ≡ false
    → lacks_jumps before line ≡ false → told ≡ read_in_groups way lanes workers (adds_before before) line
    → line_verdict way (AtLines lanes workers before) line ≡ verdict_of lanes workers before told
verdict_read way lanes workers before line told full room jumps e =
    cond-false _ _ _ full ∙ (cond-false _ _ _ room ∙ (cond-false _ _ _ jumps ∙ ap (verdict_of lanes workers before) (sym (groups way lanes workers (adds_before before) line) ∙ sym e)))

-- a line that fails gives its fault
pub fails_next : (way : Way) (lanes workers first : ℕ) (text rest : List ℕ) (before : List Line) (line : List ℕ) (more : List (List ℕ)) (kind : FaultKind) (count : ℕ) (refusal : ScriptRefusal)
    → Keeps way lanes workers first text rest before → lines rest ≡ line ∷ more → Refuses kind ≡ line_verdict way (AtLines lanes workers before) line
    → count ≡ length before → refusal ≡ refusals.Fault (fault_at (first + count) kind)
    → IsReading (read (script_format way (is_ended text)) (AtLines lanes workers []) first (lines text)) (Err refusal)
fails_next way lanes workers first text rest before line more kind count refusal keeps parts is counted refused =
    rw (refused, counted) (keeps.reads ∙ at_line way (is_ended text) _ _ _ line more (Refuses kind) parts (sym is))

-- a line that is right is one more
pub keeps_next : (way : Way) (lanes workers first : ℕ) (text rest : List ℕ) (before : List Line) (line after : List ℕ) (told : Line) (longer : List Line)
    → Keeps way lanes workers first text rest before → lines rest ≡ line ∷ lines after → is_ended rest ≡ is_ended after
    → Goes (AtLines lanes workers (before ++ told ∷ [])) ≡ line_verdict way (AtLines lanes workers before) line → length before < 300000
    → longer ≡ before ++ told ∷ [] → Keeps way lanes workers first text after longer
keeps_next way lanes workers first text rest before line after told longer keeps parts ended is room more =
    let one : length (before ++ told ∷ []) ≡ length before + 1 = length-append before (told ∷ []) in
    rw more (record {
      few = omega (arith, one, room);
      ended = keeps.ended ∙ ended;
      reads = keeps.reads
          ∙ (at_line way (is_ended text) _ _ _ line (lines after) _ parts (sym is)
          ∙ ap (λ n. read (script_format way (is_ended text)) (AtLines lanes workers (before ++ told ∷ [])) n (lines after)) (let n : first + length before + 1 ≡ first + length (before ++ told ∷ []) = omega (arith, one) in n));
    })

-- a text whose last line is not ended has no script
pub fails_open : (way : Way) (lanes workers first : ℕ) (text rest : List ℕ) (before : List Line) (count : ℕ) (refusal : ScriptRefusal)
    → Keeps way lanes workers first text rest before → lines rest ≡ [] → is_ended rest ≡ false
    → count ≡ length before → refusal ≡ refusals.Fault (fault_at (first + count) kinds.Unfinished)
    → IsReading (read (script_format way (is_ended text)) (AtLines lanes workers []) first (lines text)) (Err refusal)
fails_open way lanes workers first text rest before count refusal keeps none unended counted refused =
    rw (refused, counted) (keeps.reads ∙ (at_end way (is_ended text) _ _ _ none
    ∙ ap (λ b. read_end (value_at b (AtLines lanes workers before)) (first + length before)) (keeps.ended ∙ unended)))

-- a text that ends after its last line has the script of these lines
pub ends_well : (way : Way) (lanes workers first : ℕ) (text rest : List ℕ) (before : List Line)
    → Keeps way lanes workers first text rest before → lines rest ≡ [] → is_ended rest ≡ true
    → value_of (read (script_format way (is_ended text)) (AtLines lanes workers []) first (lines text)) ≡ Some (record { lanes = lanes; workers = workers; lines = before })
ends_well way lanes workers first text rest before keeps none ended =
    ap value_of (keeps.reads ∙ (at_end way (is_ended text) _ _ _ none
    ∙ ap (λ b. read_end (value_at b (AtLines lanes workers before)) (first + length before)) (keeps.ended ∙ ended)))

-- a text without a line has no script
pub fails_empty : (way : Way) (first : ℕ) (text : List ℕ) (refusal : ScriptRefusal) → lines text ≡ [] → refusal ≡ refusals.Fault (fault_at first kinds.Unfinished)
    → IsReading (read (script_format way (is_ended text)) AtScript first (lines text)) (Err refusal)
fails_empty way first text refusal none refused = rw refused (at_end way (is_ended text) _ _ _ none)

pub fails_header : (way : Way) (first : ℕ) (text line rest : List ℕ) (kind : FaultKind) (refusal : ScriptRefusal)
    → lines text ≡ line ∷ lines rest → Err kind ≡ header_read line → refusal ≡ refusals.Fault (fault_at first kind)
    → IsReading (read (script_format way (is_ended text)) AtScript first (lines text)) (Err refusal)
fails_header way first text line rest kind refusal parts e refused =
    rw refused (at_line way (is_ended text) _ _ _ line (lines rest) (Refuses kind) parts (ap header_verdict (sym e)))

-- after its `script` line, a text is read as its lines
pub reads_header : (way : Way) (first : ℕ) (text line rest : List ℕ) (header : Header) (result : Result Script ScriptRefusal)
    → lines text ≡ line ∷ lines rest → is_ended text ≡ is_ended rest → Ok header ≡ header_read line
    → IsReading (read (script_format way (is_ended rest)) (AtLines header.lanes header.workers []) (first + 1) (lines rest)) result
    → IsReading (read (script_format way (is_ended text)) AtScript first (lines text)) result
reads_header way first text line rest header result parts ended e reading =
    subst (λ told. IsReading told result)
    (sym (at_line way (is_ended text) _ _ _ line (lines rest) _ parts (ap header_verdict (sym e))
    ∙ ap (λ b. read (script_format way b) (AtLines header.lanes header.workers []) (first + 1) (lines rest)) ended)) reading
