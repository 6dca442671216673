-- The laws of scripts: what is read is a script, spelled so, and every script that is spelled so is read.
use Rattle.std.proofs.Common.{◌≡◌, ℕ, zero, suc, ◌+◌, ◌^◌, ◌<◌, ◌≤◌, Bool, true, false, cond, ◌&&◌, leb, List, [], ◌∷◌, ◌++◌, length, take, map, sum_by, count_by, Option, Some, None, Result, Ok, Err, IfOk, codes, inl, inr, sym, subst, refl, ap, ap₂, ◌∙◌, arith, length-append, append-nil, append_assoc}
use Rattle.std.specs.Prelude.{nat_le, slice_index, if◌then◌else◌}
use Rattle.std.specs.Option.{option_map_or}
use Rattle.std.specs.List.{slice_get, list_all}
use Rattle.std.proofs.Math.Seq.{take-append_seam}
use Rattle.std.proofs.lemmas.Bool.{cases_lt, and_from, and_right, cond-true, cond-false}
use Rattle.std.proofs.lemmas.Bool.Decides.{nat_tests}
use Rattle.std.proofs.lemmas.List.{take-append-le, length_push}
use Rattle.std.proofs.lemmas.List.Sums.{sum_by_push, sum_by-append}
use Rattle.std.proofs.lemmas.Option.{slice_get_within}
use Rattle.nav_ground.specs.History.{history_limit}
use Rattle.nav_text.specs.declared.fault.TextFault.{TextFault}
use Rattle.nav_text.specs.declared.fault.FaultKind.{FaultKind}
use Rattle.nav_text.specs.declared.fault.FaultKind.TheVariants as kinds
use Rattle.nav_text.specs.Lines.{lines, text_of, is_ended, is_line}
use Rattle.nav_text.specs.Forms.{numbers_of, has_word, line_text}
use Rattle.nav_text.specs.Reading.{Verdict, Goes, HopEnds, Refuses, read, Leads}
use Rattle.nav_text.proofs.FormLaws.{numbers_take, numbers_again, is_line-line_text}
use Rattle.nav_text.proofs.LineLaws.{lines_again}
use Rattle.nav_text.proofs.Inversions.{some_is, ok_is, when}
use Rattle.nav_text.proofs.ReadingLaws.{EndsAt, first_fault, read_takes, leads_read, leads_keep}
use Rattle.nav_script.specs.declared.script.Header.{Header}
use Rattle.nav_script.specs.declared.script.Line.{Line}
use Rattle.nav_script.specs.declared.script.Way.{Way}
use Rattle.nav_script.specs.declared.script.Way.TheVariants.{Play, Live}
use Rattle.nav_script.specs.declared.script.Script.{Script}
use Rattle.nav_script.specs.declared.script.ScriptRefusal.{ScriptRefusal}
use Rattle.nav_script.specs.declared.script.ScriptRefusal.TheVariants as refusals
use Rattle.nav_script.specs.Spelling.{line_of, script_lines, script_text}
use Rattle.nav_script.specs.Lanes.{lane_after, adds_before, is_jump, is_request}
use Rattle.nav_script.specs.Limits.{IsLine, IsScript, IsScriptText}
use Rattle.nav_script.specs.Forms.{LineRead}
use Rattle.nav_script.specs.WayForms.{line_read}
use Rattle.nav_script.specs.Reading.{Place, AtScript, AtLines, header_read, begins_request, lacks_room, lacks_jumps, verdict_of, line_verdict, value_at, script_format, one_later, IsFirstFaultFrom, value_of, IsReading, Gives}
use Rattle.nav_script.proofs.LineLaws.{line_right, two}
use Rattle.nav_script.proofs.SpellingLaws.{begins_spelled, jump_spelled, line_again, line_plain}
use Rattle.nav_script.proofs.LaneLaws.{adds_at_most}
use Rattle.nav_script.proofs.ReaderLaws.{header_verdict}
use Rattle.nav_text.proofs.TextLaws.{text_ended, whole_text}

abbrev script_at : ℕ → ℕ → List Line → Script
script_at lanes workers those = record { lanes = lanes; workers = workers; lines = those }

goes_to : {x y : Place} → ◌≡◌ {A = Verdict Place Script} (Goes x) (Goes y) → x ≡ y
goes_to e = cc

-- what the numbers of a `script` line say
abbrev in_counts : Option (List ℕ) → Result Header FaultKind
in_counts o = option_map_or (λ (n : List ℕ).
    if nat_le 1 (slice_index n 0) && nat_le (slice_index n 0) 16 && nat_le 1 (slice_index n 1) && nat_le (slice_index n 1) 8
    then Ok (record { lanes = slice_index n 0; workers = slice_index n 1 })
    else Err kinds.Range) o (Err kinds.Form)

-- what a `script` line says that is right
record HeaderTold (text : List ℕ) (next : Place) : Type 0 where
  lanes : ℕ
  workers : ℕ
  spelled : text ≡ line_text (codes "script") (lanes ∷ workers ∷ [])
  lanes_least : 1 ≤ lanes
  lanes_most : lanes ≤ 16
  workers_least : 1 ≤ workers
  workers_most : workers ≤ 8
  place : next ≡ AtLines lanes workers []

counts_test : ℕ → ℕ → Bool
counts_test lanes workers = leb 1 lanes && leb lanes 16 && leb 1 workers && leb workers 8

counts_told : (text : List ℕ) (next : Place) (lanes workers : ℕ) → text ≡ line_text (codes "script") (lanes ∷ workers ∷ [])
    → header_verdict (in_counts (Some (lanes ∷ workers ∷ []))) ≡ Goes next → HeaderTold text next
counts_told text next lanes workers spelled e = split (leb 1 lanes && leb lanes 16 && leb 1 workers && leb workers 8) refl e
  where
    split : (b : Bool) → leb 1 lanes && leb lanes 16 && leb 1 workers && leb workers 8 ≡ b
        → header_verdict (cond b (Ok (record { lanes = lanes; workers = workers })) (Err kinds.Range)) ≡ Goes next → HeaderTold text next
    split true h e = record {
      lanes = lanes;
      workers = workers;
      spelled = spelled;
      lanes_least = grind (arith, nat_tests);
      lanes_most = grind (arith, nat_tests);
      workers_least = grind (arith, nat_tests);
      workers_most = grind (arith, nat_tests);
      place = sym (goes_to e);
    }
    split false h e = absurd cc

header_told : (text : List ℕ) (next : Place) → header_verdict (header_read text) ≡ Goes next → HeaderTold text next
header_told text next e = split (numbers_of (codes "script") 2 text) refl e
  where
    split : (o : Option (List ℕ)) → numbers_of (codes "script") 2 text ≡ o → header_verdict (in_counts o) ≡ Goes next → HeaderTold text next
    split None is e = absurd cc
    split (Some n) is e =
        let spelled = numbers_take (codes "script") 2 text n is in
        two (λ l. text ≡ line_text (codes "script") l → header_verdict (in_counts (Some l)) ≡ Goes next → HeaderTold text next)
        (λ lanes workers same goes. counts_told text next lanes workers same goes) n spelled.1 spelled.0 e

-- what a line after it says that is right
record LineTold (way : Way) (lanes workers : ℕ) (before : List Line) (text : List ℕ) (next : Place) : Type 0 where
  line : Line
  few : length before < 300000
  room : lacks_room way before text ≡ false
  jumps : lacks_jumps before text ≡ false
  told : line_read way lanes workers (adds_before before) text ≡ Ok line
  place : next ≡ AtLines lanes workers (before ++ line ∷ [])

line_told : (way : Way) (lanes workers : ℕ) (before : List Line) (text : List ℕ) (next : Place)
    → line_verdict way (AtLines lanes workers before) text ≡ Goes next → LineTold way lanes workers before text next
line_told way lanes workers before text next e =
    split (leb 300000 (length before)) refl (lacks_room way before text) refl (lacks_jumps before text) refl
    (line_read way lanes workers (adds_before before) text) refl e
  where
    split : (full : Bool) → leb 300000 (length before) ≡ full → (out : Bool) → lacks_room way before text ≡ out
        → (last : Bool) → lacks_jumps before text ≡ last
        → (told : LineRead) → line_read way lanes workers (adds_before before) text ≡ told
        → cond full (Refuses kinds.TooManyLines) (cond out (Refuses kinds.TooManyLines)
        (cond last (Refuses kinds.TooManyJumps) (verdict_of lanes workers before told))) ≡ Goes next
        → LineTold way lanes workers before text next
    split true full out room last jumps told is e = absurd cc
    split false full true room last jumps told is e = absurd cc
    split false full false room true jumps told is e = absurd cc
    split false full false room false jumps (Err kind) is e = absurd cc
    split false full false room false jumps (Ok line) is e = record {
      line = line;
      few = grind (arith, nat_tests);
      room = room;
      jumps = jumps;
      told = is;
      place = sym (goes_to e);
    }

get_front : (front back : List Line) (k : ℕ) → k < length front → slice_get (front ++ back) k ≡ slice_get front k
get_front [] back k lt = absurd (omega arith)
get_front (x ∷ front) back zero lt = refl
get_front (x ∷ front) back (suc k) lt = get_front front back k (omega arith)

get_seam : (front : List Line) (line : Line) (back : List Line) → slice_get (front ++ line ∷ back) (length front) ≡ Some line
get_seam [] line back = refl
get_seam (x ∷ front) line back = get_seam front line back

-- where lines of a kind are at most so many, and one more that is of the kind was not refused, there is room for it
one_more_fits : (most count : ℕ) (is : Bool) → leb most count && is ≡ false → count ≤ most → count + cond is 1 0 ≤ most
one_more_fits most count true free few = grind (arith, nat_tests)
one_more_fits most count false free few = omega arith

-- and where there is room for it and for more behind it, it is not refused
is_not_last : (most count behind : ℕ) (is : Bool) → count + cond is 1 0 + behind ≤ most → leb most count && is ≡ false
is_not_last most count behind true few = grind (arith, nat_tests)
is_not_last most count behind false few = and_right (leb most count) false refl

-- a script that runs live has room for a request that is not refused
room_left : (way : Way) (before : List Line) (text : List ℕ) (line : Line) → lacks_room way before text ≡ false → text ≡ line_of line
    → way ≡ Live → count_by is_request before ≤ history_limit → count_by is_request before + cond (is_request line) 1 0 ≤ history_limit
room_left Play before text line room spelled live most = absurd cc
room_left Live before text line room spelled live most =
    let begins : begins_request text ≡ is_request line = ap begins_request spelled ∙ begins_spelled line in
    one_more_fits history_limit (count_by is_request before) (is_request line)
    (subst (λ b. leb history_limit (count_by is_request before) && b ≡ false) begins room) most

-- and any script has room for a jump that is not refused
jumps_left : (before : List Line) (text : List ℕ) (line : Line) → lacks_jumps before text ≡ false → text ≡ line_of line → count_by is_jump before ≤ 256
    → count_by is_jump before + cond (is_jump line) 1 0 ≤ 256
jumps_left before text line room spelled most =
    let begins : has_word (codes "jump") text ≡ is_jump line = ap (has_word (codes "jump")) spelled ∙ jump_spelled line in
    one_more_fits 256 (count_by is_jump before) (is_jump line) (subst (λ b. leb 256 (count_by is_jump before) && b ≡ false) begins room) most

-- a script with one more line that may stand there is a script
script_more : (way : Way) (lanes workers : ℕ) (before : List Line) (text : List ℕ) (line : Line) → IsScript way (script_at lanes workers before)
    → length before < 300000 → lacks_room way before text ≡ false → lacks_jumps before text ≡ false → text ≡ line_of line
    → IsLine way lanes workers (adds_before before) line → IsScript way (script_at lanes workers (before ++ line ∷ []))
script_more way lanes workers before text line is few room jumps spelled fits = record {
  lanes_least = is.lanes_least;
  lanes_most = is.lanes_most;
  workers_least = is.workers_least;
  workers_most = is.workers_most;
  few = omega (arith, length_push before line);
  requests = λ live. rw (sum_by_push (λ l. cond (is_request l) 1 0) before line) (room_left way before text line room spelled live (is.requests live));
  jumps = rw (sum_by_push (λ l. cond (is_jump l) 1 0) before line) (jumps_left before text line jumps spelled is.jumps);
  each = each;
}
  where
    each : (k : ℕ) (at : Line) → slice_get (before ++ line ∷ []) k ≡ Some at → IsLine way lanes workers (adds_before (take k (before ++ line ∷ []))) at
    each k at e =
        elim (cases_lt k (length before)) [
          | inl within ↦
              let there : slice_get before k ≡ Some at = sym (get_front before (line ∷ []) k within) ∙ e in
              rw (take-append-le k before (line ∷ []) (omega arith)) (is.each k at there)
          | inr past ↦
              let last : k < length before + 1 = subst (λ n. k < n) (length_push before line) (slice_get_within (before ++ line ∷ []) k at e) in
              let seam : k ≡ length before = omega arith in
              let same : line ≡ at = some_is (sym (get_seam before line []) ∙ (ap (slice_get (before ++ line ∷ [])) (sym seam) ∙ e)) in
              rw (seam, take-append_seam before (line ∷ [])) (subst (IsLine way lanes workers (adds_before before)) same fits)
        ]

-- the lines so far are those of a script, and the place has it
abbrev Kept : Way → Place → List (List ℕ) → Type 0
Kept way AtScript before = before ≡ []
Kept way (AtLines lanes workers those) before = (before ≡ script_lines (script_at lanes workers those)) × IsScript way (script_at lanes workers those)

kept_more : (way : Way) (ended : Bool) (place next : Place) (before : List (List ℕ)) (line : List ℕ)
    → Kept way place before → line_verdict way place line ≡ Goes next → Kept way next (before ++ line ∷ [])
kept_more way ended AtScript next before line none e =
    let told = header_told line next e in
    let empty : IsScript way (script_at told.lanes told.workers []) = record {
      lanes_least = told.lanes_least;
      lanes_most = told.lanes_most;
      workers_least = told.workers_least;
      workers_most = told.workers_most;
      few = omega arith;
      requests = λ live. omega arith;
      jumps = omega arith;
      each = λ k at e. absurd cc;
    } in
    subst (λ p. Kept way p (before ++ line ∷ [])) (sym told.place) (ap₂ (λ ls l. ls ++ l ∷ []) none told.spelled, empty)
kept_more way ended (AtLines lanes workers those) next before line kept e =
    let told = line_told way lanes workers those line next e in
    let right = line_right way lanes workers (adds_before those) line told.line told.told in
    subst (λ p. Kept way p (before ++ line ∷ [])) (sym told.place) (
      ap₂ (λ ls l. ls ++ l ∷ []) kept.0 right.0 ∙ onto_spelled lanes workers those told.line,
      script_more way lanes workers those line told.line kept.1 told.few told.room told.jumps right.0 right.1,
    )
  where
    map_push : (those : List Line) (line : Line) → map line_of those ++ line_of line ∷ [] ≡ map line_of (those ++ line ∷ [])
    map_push [] line = refl
    map_push (x ∷ those) line = ap (λ ls. line_of x ∷ ls) (map_push those line)

    onto_spelled : (lanes workers : ℕ) (those : List Line) (line : Line)
        → script_lines (script_at lanes workers those) ++ line_of line ∷ [] ≡ script_lines (script_at lanes workers (those ++ line ∷ []))
    onto_spelled lanes workers those line = ap (λ ls. line_text (codes "script") (lanes ∷ workers ∷ []) ∷ ls) (map_push those line)

-- no line ends a script
never_ends : (way : Way) (place : Place) (line : List ℕ) (script : Script) → line_verdict way place line ≡ HopEnds script → ⊥
never_ends way AtScript line script e = split (header_read line) e
  where
    split : (told : Result Header FaultKind) → header_verdict told ≡ HopEnds script → ⊥
    split (Ok header) e = cc
    split (Err kind) e = cc
never_ends way (AtLines lanes workers before) line script e =
    split (leb 300000 (length before)) (lacks_room way before line) (lacks_jumps before line) (line_read way lanes workers (adds_before before) line) e
  where
    split : (full out last : Bool) (told : LineRead)
        → cond full (Refuses kinds.TooManyLines) (cond out (Refuses kinds.TooManyLines)
        (cond last (Refuses kinds.TooManyJumps) (verdict_of lanes workers before told))) ≡ HopEnds script → ⊥
    split true out last told e = cc
    split false true last told e = cc
    split false false true told e = cc
    split false false false (Ok line) e = cc
    split false false false (Err kind) e = cc

ends_last : (way : Way) (ended : Bool) (place : Place) (rest : List (List ℕ)) (script : Script) (more : ℕ) → EndsAt (script_format way ended) place rest script more
    → (rest ≡ []) × (value_at ended place ≡ Some script)
ends_last way ended place [] script more ends = (refl, ends.0)
ends_last way ended place (line ∷ rest) script more ends = absurd (never_ends way place line script ends.0)

kept_found : (way : Way) (bytes : List ℕ) (script : Script) (place : Place) → Kept way place (lines bytes) → value_at (is_ended bytes) place ≡ Some script
    → IsScriptText way bytes script
kept_found way bytes script AtScript kept e = absurd cc
kept_found way bytes script (AtLines lanes workers those) kept e =
    let told = when (is_ended bytes) (Some (script_at lanes workers those)) script e in
    subst (IsScriptText way bytes) (some_is told.1) (sym (whole_text bytes told.0) ∙ ap text_of kept.0, kept.1)

-- What is read is a script, and the bytes are its text.
pub script_found : (way : Way) (bytes : List ℕ) (first total : ℕ) (script : Script)
    → read (script_format way (is_ended bytes)) AtScript first (lines bytes) ≡ Ok (script, total) → IsScriptText way bytes script
script_found way bytes first total script e =
    let got = read_takes (script_format way (is_ended bytes)) AtScript first (lines bytes) script total e in
    let last = ends_last way (is_ended bytes) got.at got.rest script got.more got.ends in
    let all : lines bytes ≡ got.good = got.parts ∙ (ap (λ r. got.good ++ r) last.0 ∙ append-nil got.good) in
    let kept : Kept way got.at got.good = leads_keep (script_format way (is_ended bytes)) (Kept way) (kept_more way (is_ended bytes)) AtScript [] got.good got.at refl got.leads in
    kept_found way bytes script got.at (subst (Kept way got.at) (sym all) kept) last.1

header_again : (lanes workers : ℕ) → 1 ≤ lanes → lanes ≤ 16 → 1 ≤ workers → workers ≤ 8
    → header_verdict (header_read (line_text (codes "script") (lanes ∷ workers ∷ []))) ≡ Goes (AtLines lanes workers [])
header_again lanes workers lanes_least lanes_most workers_least workers_most =
    let fits : leb 1 lanes && leb lanes 16 && leb 1 workers && leb workers 8 ≡ true = grind (arith, nat_tests) in
    ap (λ o. header_verdict (in_counts o)) (numbers_again (codes "script") (lanes ∷ workers ∷ []) (omega arith, (omega arith, tt)))
    ∙ ap header_verdict (cond-true _ _ _ fits)

-- how many lines of a kind there are, counted before a line, at it and behind it
count_at : (is : Line → Bool) (before : List Line) (line : Line) (more : List Line)
    → count_by is (before ++ line ∷ more) ≡ count_by is before + cond (is line) 1 0 + count_by is more
count_at is before line more =
    let count : Line → ℕ = λ l. cond (is l) 1 0 in
    ap (sum_by count) (sym (append_assoc before (line ∷ []) more))
    ∙ (sum_by-append count (before ++ line ∷ []) more ∙ ap (λ n. n + sum_by count more) (sum_by_push count before line))

-- a request of a script that runs live is not one too many
room_again : (way : Way) (before : List Line) (line : Line) (more : List Line) → (way ≡ Live → count_by is_request (before ++ line ∷ more) ≤ history_limit)
    → lacks_room way before (line_of line) ≡ false
room_again Play before line more most = refl
room_again Live before line more most =
    let enough : count_by is_request before + cond (is_request line) 1 0 + count_by is_request more ≤ history_limit =
    subst (λ n. n ≤ history_limit) (count_at is_request before line more) (most refl) in
    ap (λ b. leb history_limit (count_by is_request before) && b) (begins_spelled line)
    ∙ is_not_last history_limit (count_by is_request before) (count_by is_request more) (is_request line) enough

-- a jump of a script is not one too many
jumps_again : (before : List Line) (line : Line) (more : List Line) → count_by is_jump (before ++ line ∷ more) ≤ 256 → lacks_jumps before (line_of line) ≡ false
jumps_again before line more most =
    let enough : count_by is_jump before + cond (is_jump line) 1 0 + count_by is_jump more ≤ 256 =
    subst (λ n. n ≤ 256) (count_at is_jump before line more) most in
    ap (λ b. leb 256 (count_by is_jump before) && b) (jump_spelled line)
    ∙ is_not_last 256 (count_by is_jump before) (count_by is_jump more) (is_jump line) enough

verdict_again : (way : Way) (lanes workers : ℕ) (before : List Line) (line : Line) (more : List Line) → IsScript way (script_at lanes workers (before ++ line ∷ more))
    → (line_verdict way (AtLines lanes workers before) (line_of line) ≡ Goes (AtLines lanes workers (before ++ line ∷ []))) × (is_line (line_of line) ≡ true)
verdict_again way lanes workers before line more is =
    let long = length-append before (line ∷ more) in
    let full : leb 300000 (length before) ≡ false = let most = is.few in grind (arith, nat_tests) in
    let fits : IsLine way lanes workers (adds_before before) line =
    subst (λ ls. IsLine way lanes workers (adds_before ls) line) (take-append_seam before (line ∷ more)) (is.each (length before) line (get_seam before line more)) in
    let counted : adds_before before < 2 ^ 32 = let most = is.few in omega (arith, adds_at_most (lane_after before) 0 before) in (
      cond-false _ _ _ full
          ∙ (cond-false _ _ _ (room_again way before line more is.requests)
          ∙ (cond-false _ _ _ (jumps_again before line more is.jumps)
          ∙ ap (verdict_of lanes workers before) (line_again way lanes workers (adds_before before) line is.lanes_most is.workers_most counted fits))),
      line_plain way lanes workers (adds_before before) line is.lanes_most is.workers_most counted fits,
    )

-- the lines of a script are right, one after another
lines_again_from : (way : Way) (ended : Bool) (lanes workers : ℕ) (before more : List Line) → IsScript way (script_at lanes workers (before ++ more))
    → Leads (script_format way ended) (AtLines lanes workers before) (map line_of more) (AtLines lanes workers (before ++ more)) × (list_all is_line (map line_of more) ≡ true)
lines_again_from way ended lanes workers before [] is = (ap (AtLines lanes workers) (sym (append-nil before)), refl)
lines_again_from way ended lanes workers before (line ∷ more) is =
    let regroup : (before ++ line ∷ []) ++ more ≡ before ++ line ∷ more = append_assoc before (line ∷ []) more in
    let one = verdict_again way lanes workers before line more is in
    let rest = lines_again_from way ended lanes workers (before ++ line ∷ []) more (subst (λ ls. IsScript way (script_at lanes workers ls)) (sym regroup) is) in (
      (
        AtLines lanes workers (before ++ line ∷ []),
        one.0,
        subst (λ ls. Leads (script_format way ended) (AtLines lanes workers (before ++ line ∷ [])) (map line_of more) (AtLines lanes workers ls)) regroup rest.0,
      ),
      and_from _ _ one.1 rest.1,
    )

pub script_lines_again : (way : Way) (ended : Bool) (script : Script) → IsScript way script
    → Leads (script_format way ended) AtScript (script_lines script) (AtLines script.lanes script.workers script.lines) × (list_all is_line (script_lines script) ≡ true)
script_lines_again way ended script is =
    let lanes : script.lanes ≤ 16 = is.lanes_most in
    let workers : script.workers ≤ 8 = is.workers_most in
    let rest = lines_again_from way ended script.lanes script.workers [] script.lines is in (
      (
        AtLines script.lanes script.workers [],
        header_again script.lanes script.workers is.lanes_least is.lanes_most is.workers_least is.workers_most,
        rest.0,
      ),
      and_from _ _ (is_line-line_text (codes "script") (script.lanes ∷ script.workers ∷ []) refl (omega arith, (omega arith, tt))) rest.1,
    )

read_ended : (way : Way) (first : ℕ) (script : Script) → IsScript way script
    → read (script_format way true) AtScript first (lines (script_text script)) ≡ Ok (script, first + length (script_lines script))
unfolding read
read_ended way first script is =
    let again = script_lines_again way true script is in
    let those : lines (script_text script) ≡ script_lines script ++ [] =
    ap lines (sym (append-nil (script_text script))) ∙ lines_again (script_lines script) [] again.1 in
    ap (read (script_format way true) AtScript first) those
    ∙ leads_read (script_format way true) AtScript first (script_lines script) [] (AtLines script.lanes script.workers script.lines) again.0

-- The text of a script is read as that script.
pub script_only : (way : Way) (bytes : List ℕ) (first : ℕ) (script : Script) → IsScriptText way bytes script
    → read (script_format way (is_ended bytes)) AtScript first (lines bytes) ≡ Ok (script, first + length (script_lines script))
script_only way bytes first script is =
    let all : is_ended bytes ≡ true = ap is_ended is.0 ∙ text_ended (script_lines script) in
    ap₂ (λ b text. read (script_format way b) AtScript first (lines text)) all is.0 ∙ read_ended way first script is.1

script_at_most_one : {a b : Script} {n m : ℕ} → ◌≡◌ {A = Result (Script × ℕ) TextFault} (Ok (a, n)) (Ok (b, m)) → a ≡ b
script_at_most_one e = ap (λ x. x.0) (ok_is e)

-- A text is that of one script only.
pub script_unique : (way : Way) (bytes : List ℕ) (one other : Script) → IsScriptText way bytes one → IsScriptText way bytes other → one ≡ other
script_unique way bytes one other is too = script_at_most_one (sym (script_only way bytes 0 one is) ∙ script_only way bytes 0 other too)

told_value : (told : Result (Script × ℕ) TextFault) (script : Script) → value_of told ≡ Some script → (total : ℕ) × (told ≡ Ok (script, total))
told_value (Ok x) script e = (x.1, ap (λ s. let r : Result (Script × ℕ) TextFault = Ok (s, x.1) in r) (some_is e))
told_value (Err fault) script e = absurd cc

pub reading_found : (way : Way) (bytes : List ℕ) (first : ℕ) (result : Result Script ScriptRefusal)
    → IsReading (read (script_format way (is_ended bytes)) AtScript first (lines bytes)) result → IfOk result (IsScriptText way bytes)
reading_found way bytes first (Ok script) reading =
    let told = told_value (read (script_format way (is_ended bytes)) AtScript first (lines bytes)) script reading in
    script_found way bytes first told.0 script told.1
reading_found way bytes first (Err refusal) reading = tt

same_value : (told : Result (Script × ℕ) TextFault) (script : Script) (total : ℕ) → told ≡ Ok (script, total)
    → (result : Result Script ScriptRefusal) → IsReading told result → Gives script result
same_value told script total e (Ok other) reading = some_is (sym reading ∙ ap value_of e)
same_value told script total e (Err (refusals.Fault fault)) reading = cc
same_value told script total e (Err refusals.OutOfMemory) reading = tt

pub reading_only : (way : Way) (bytes : List ℕ) (first : ℕ) (result : Result Script ScriptRefusal)
    → IsReading (read (script_format way (is_ended bytes)) AtScript first (lines bytes)) result
    → (script : Script) → IsScriptText way bytes script → Gives script result
reading_only way bytes first result reading script is =
    same_value (read (script_format way (is_ended bytes)) AtScript first (lines bytes)) script (first + length (script_lines script))
    (script_only way bytes first script is) result reading

pub reading_first : (way : Way) (bytes : List ℕ) (first : ℕ) (result : Result Script ScriptRefusal)
    → IsReading (read (script_format way (is_ended bytes)) AtScript first (lines bytes)) result
    → (fault : TextFault) → result ≡ Err (refusals.Fault fault) → IsFirstFaultFrom way first bytes fault
reading_first way bytes first result reading fault e =
    first_fault (script_format way (is_ended bytes)) AtScript first (lines bytes) (one_later fault)
    (subst (IsReading (read (script_format way (is_ended bytes)) AtScript first (lines bytes))) e reading)
