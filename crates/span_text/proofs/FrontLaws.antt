-- The laws of headers: what is read of one, line by line, and what a call of `read_header` promises.
use Rattle.std.proofs.Common.{◌≡◌, ℕ, ◌+◌, ◌-◌, ◌<◌, ◌≤◌, ◌⊎◌, inl, inr, true, false, List, [], ◌∷◌, ◌++◌, length, take, drop, map, codes, Result, Ok, Err, IfOk, sym, refl, ap, ap₂, ◌∙◌, subst, arith, append_assoc, append-nil, length-append}
use Rattle.std.specs.List.{list_all}
use Rattle.std.proofs.lemmas.Bool.{and_from}
use Rattle.std.proofs.lemmas.List.{length-take-le, take_at, drop_at}
use Rattle.std.proofs.lemmas.List.Folds.{list_all-append}
use Rattle.nav_ground.specs.declared.setting.Setting.{Setting}
use Rattle.nav_ground.specs.declared.field.Span.{Span}
use Rattle.nav_ground.specs.Limits.{IsSetting}
use Rattle.nav_text.specs.declared.fault.FaultKind.{FaultKind}
use Rattle.nav_text.specs.declared.fault.FaultKind.TheVariants.{Unfinished}
use Rattle.nav_text.specs.declared.fault.TextFault.{TextFault}
use Rattle.nav_text.specs.Faults.{fault_at}
use Rattle.nav_text.specs.Lines.{lines, text_of, is_line, IsPast}
use Rattle.nav_text.specs.Forms.{has_word}
use Rattle.nav_text.specs.Reading.{Verdict, Goes, HopEnds, Leads, read, read_on, IsFirstFault, lead}
use Rattle.nav_text.proofs.LineLaws.{lines_again, lines_of_first, IsPast_next, IsPast-used}
use Rattle.nav_text.proofs.ReadingLaws.{EndsAt, read_takes, read_count, leads_keep, leads_read, first_fault}
use Rattle.nav_text.proofs.Inversions.{ok_is}
use Rattle.span_text.specs.declared.body.BodyLine.{BodyLine}
use Rattle.span_text.specs.declared.body.BodyLine.TheVariants.{Cost, Spans, End, Fails}
use Rattle.span_text.specs.declared.front.HeaderText.{HeaderText}
use Rattle.span_text.specs.declared.field.FieldRefusal.{FieldRefusal}
use Rattle.span_text.specs.declared.field.FieldRefusal.TheVariants as refusals
use Rattle.span_text.specs.declared.front.TextForm.{TextForm}
use Rattle.span_text.specs.declared.front.TextForm.TheVariants.{First, Second}
use Rattle.span_text.specs.FieldText as said
use Rattle.span_text.specs.FieldText.{RiseAbove, header_lines, cost_text, span_text, all_header_lines, IsHeaderText, GoesOn}
use Rattle.span_text.specs.Header.{nav_line, size_line, limited, agent_line, mesh_line, clear_line}
use Rattle.span_text.specs.Body.{header_line}
use Rattle.span_text.specs.FieldFormat.{Place, AtNav, AtSize, AtTile, AtAgent, AtError, AtMesh, AtLimit, AtClear, AtBody, plain_setting, after_limit, set_cost, headed, costs_verdict, header_body, header_format, header_of}
use Rattle.span_text.specs.Outcome.{IsHeaderRead, GivesHeader}
use Rattle.span_text.proofs.BodyLineLaws.{HeaderSays, header_says, header_cost_again, header_end_again}
use Rattle.span_text.proofs.FoundLaws.{HasSaid, Said, said_cost, last_area, spans_at, BodyGoes, header_goes, ends_behind}
use Rattle.span_text.proofs.OnlyLaws.{said_by, after_costs, header_leads, header_plain, costs_plain, same_setting}

-- a line behind those of the setting leads on to what it says
costs_go : (setting : Setting) (before : ℕ) (spans : List Span) (next : Place) (those : List (List ℕ)) (line : List ℕ) → spans ≡ [] → HasSaid setting before spans those
    → (told : BodyLine) → HeaderSays before line told → costs_verdict setting before spans told ≡ Goes next → Said next (those ++ line ∷ [])
costs_go setting before spans next those line none has (Cost area cost) says e =
    let to : AtBody (set_cost setting area cost) area spans ≡ next = cc in
    let empty : length spans ≡ 0 = ap length none in
    subst (λ p. Said p (those ++ line ∷ [])) to (omega (arith, empty), said_cost setting before spans those line area cost has (empty, says.0, says.1, says.2, says.3, says.4))
costs_go setting before spans next those line none has (Spans span) says e = absurd cc
costs_go setting before spans next those line none has End says e = absurd cc
costs_go setting before spans next those line none has (Fails kind) says e = absurd cc

header_body_goes : BodyGoes (λ spans. spans ≡ []) header_body
header_body_goes setting before spans next those line none few has e = costs_go setting before spans next those line none has (header_line before line) (header_says before line) e

-- no place of a header has a span
costs_spans : (setting : Setting) (before : ℕ) (spans : List Span) (next : Place) (told : BodyLine) → costs_verdict setting before spans told ≡ Goes next → spans_at next ≡ spans
costs_spans setting before spans next (Cost area cost) e = let to : AtBody (set_cost setting area cost) area spans ≡ next = cc in subst (λ p. spans_at p ≡ spans) to refl
costs_spans setting before spans next (Spans span) e = absurd cc
costs_spans setting before spans next End e = absurd cc
costs_spans setting before spans next (Fails kind) e = absurd cc

lead_spans : {A : Type 0} (told : Result A FaultKind) (on : A → Place) (next : Place) → ((x : A) → spans_at (on x) ≡ []) → ◌≡◌ {A = Verdict Place Setting} (lead told on) (Goes next)
    → spans_at next ≡ []
lead_spans (Ok x) on next none e = let to : on x ≡ next = cc in subst (λ p. spans_at p ≡ []) to (none x)
lead_spans (Err kind) on next none e = absurd cc

none_behind : (form : TextForm) (setting : Setting) → spans_at (after_limit form setting) ≡ []
none_behind First setting = refl
none_behind Second setting = refl

no_spans : (place next : Place) (line : List ℕ) → spans_at place ≡ [] → headed header_body place line ≡ Goes next → spans_at next ≡ []
no_spans AtNav next line none e = lead_spans (nav_line line) (λ form. AtSize form) next (λ x. refl) e
no_spans (AtSize form) next line none e = lead_spans (size_line line) (λ size. AtTile form size.0 size.1) next (λ x. refl) e
no_spans (AtTile form width depth) next line none e = lead_spans (limited (codes "tile") 4 128 line) (λ tile. AtAgent form width depth tile) next (λ x. refl) e
no_spans (AtAgent form width depth tile) next line none e = lead_spans (agent_line line) (λ agent. AtError form width depth tile agent) next (λ x. refl) e
no_spans (AtError form width depth tile agent) next line none e =
    lead_spans (limited (codes "error") 0 10000 line) (λ error. AtMesh form width depth tile agent error) next (λ x. refl) e
no_spans (AtMesh form width depth tile agent error) next line none e = lead_spans (mesh_line line) (λ mesh. AtLimit form width depth tile agent error mesh) next (λ x. refl) e
no_spans (AtLimit form width depth tile agent error mesh) next line none e =
    lead_spans (limited (codes "limit") 1 1024 line) (λ limit. after_limit form (plain_setting width depth tile agent error mesh limit)) next (λ x. none_behind form (plain_setting width depth tile agent error mesh x)) e
no_spans (AtClear setting) next line none e =
    lead_spans (clear_line setting.tile setting.agent.radius line) (λ clear. AtBody (record setting { clear = clear }) 0 []) next (λ x. refl) e
no_spans (AtBody setting before spans) next line none e = costs_spans setting before spans next (header_line before line) e ∙ none

abbrev Kept : Place → List (List ℕ) → Type 0
Kept place those = Said place those × (spans_at place ≡ [])

kept_goes : (place next : Place) (those : List (List ℕ)) (line : List ℕ) → Kept place those → headed header_body place line ≡ Goes next → Kept next (those ++ line ∷ [])
kept_goes place next those line kept e =
    (header_goes (λ spans. spans ≡ []) header_body header_body_goes place next those line kept.1 kept.0 e, no_spans place next line kept.1 e)

-- the line that ends a header has another first word than `cost`
costs_end : (setting value : Setting) (before : ℕ) (spans : List Span) (told : BodyLine) → costs_verdict setting before spans told ≡ HopEnds value → setting ≡ value
costs_end setting value before spans (Cost area cost) e = absurd cc
costs_end setting value before spans (Spans span) e = cc
costs_end setting value before spans End e = cc
costs_end setting value before spans (Fails kind) e = absurd cc

-- a text that was said is that of a header
said_header : (setting : Setting) (before : ℕ) (spans : List Span) (those : List (List ℕ)) → spans ≡ [] → HasSaid setting before spans those → IsHeaderText (text_of those) setting
said_header setting before spans those none has = record {
  form = has.form;
  costs = has.costs;
  rise = has.rise;
  table = has.table;
  clear = has.clear;
  spelled = ap text_of (has.spelled ∙ (ap (λ s. header_lines has.form setting ++ map cost_text has.costs ++ map span_text s) none ∙ append-nil (header_lines has.form setting ++ map cost_text has.costs)));
}

-- What is read as a header is within its limits, and the lines before the one that ended it spell it.
pub header_takes : (bytes : List ℕ) (setting : Setting) (count : ℕ) → header_of bytes ≡ Ok (setting, count + 1)
    → IsSetting setting × IsHeaderText (text_of (take count (lines bytes))) setting
header_takes bytes setting count e =
    let told = read_takes header_format AtNav 0 (lines bytes) setting (count + 1) e in
    let kept = leads_keep header_format Kept kept_goes AtNav [] told.good told.at (refl, refl) told.leads in
    at_end told.at told.good told.rest told.more kept told.ends told.parts told.counted
  where
    at_end : (at : Place) (good rest : List (List ℕ)) (more : ℕ) → Kept at good → EndsAt header_format at rest setting more → lines bytes ≡ good ++ rest
        → count + 1 ≡ 0 + length good + more → IsSetting setting × IsHeaderText (text_of (take count (lines bytes))) setting
    at_end at good [] more kept ends parts counted = absurd (let none = ends.0 in cc)
    at_end at good (line ∷ rest) more kept ends parts counted =
        let told = ends_behind header_body at setting line ends.0 in
        let here = subst (λ p. Kept p good) told.at kept in
        let same : told.setting ≡ setting = costs_end told.setting setting told.before told.spans (header_line told.before line) told.ends in
        let has = here.0.1 in
        let one : more ≡ 1 = ends.1 in
        let long : length good ≡ count = omega (arith, one, counted) in
        let front : good ≡ take count (lines bytes) = sym (ap (take count) parts ∙ take_at good (line ∷ rest) count long) in
        let limits : IsSetting setting = subst IsSetting same has.limits in (
          limits,
          subst (λ ls. IsHeaderText (text_of ls) setting) front (subst (λ s. IsHeaderText (text_of good) s) same (said_header told.setting told.before told.spans good here.1 has)),
        )

-- cost lines lead on
costs_lead : (setting : Setting) (before : ℕ) (costs : List said.Cost) → RiseAbove before costs
    → Leads header_format (AtBody setting before []) (map cost_text costs) (AtBody (after_costs setting costs) (last_area before costs) [])
costs_lead setting before [] rise = refl
costs_lead setting before (line ∷ more) rise = (
  AtBody (set_cost setting line.area line.cost) line.area [],
  ap (costs_verdict setting before []) (header_cost_again before line.area line.cost rise.0 rise.1 rise.2 rise.3),
  costs_lead (set_cost setting line.area line.cost) line.area more rise.4,
)

-- The lines of a header are those of its text.
lines_head : (bytes text rest : List ℕ) (setting : Setting) → IsSetting setting → (spelling : IsHeaderText text setting) → bytes ≡ text ++ rest
    → lines bytes ≡ all_header_lines spelling.form setting spelling.costs ++ lines rest
lines_head bytes text rest setting limits spelling parts =
    let all = all_header_lines spelling.form setting spelling.costs in
    let plain : list_all is_line all ≡ true = list_all-append is_line (header_lines spelling.form setting) (map cost_text spelling.costs)
    ∙ and_from _ _ (header_plain spelling.form setting limits) (costs_plain 0 spelling.costs spelling.rise) in
    ap lines (parts ∙ ap (λ t. t ++ rest) spelling.spelled) ∙ lines_again all rest plain

-- The text of a header, behind which another line follows, is read as this.
header_again : (bytes text rest : List ℕ) (setting : Setting) → IsSetting setting → (spelling : IsHeaderText text setting) → GoesOn rest → bytes ≡ text ++ rest
    → header_of bytes ≡ Ok (setting, length (all_header_lines spelling.form setting spelling.costs) + 1)
unfolding read
header_again bytes text rest setting limits spelling on parts =
    let header = header_lines spelling.form setting in
    let costs = map cost_text spelling.costs in
    let said = after_costs (said_by setting) spelling.costs in
    let before = last_area 0 spelling.costs in
    let all : lines bytes ≡ header ++ (costs ++ lines rest) = lines_head bytes text rest setting limits spelling parts ∙ append_assoc header costs (lines rest) in
    let long : 0 + length header + length costs ≡ length (header ++ costs) = let sum = length-append header costs in omega (arith, sum) in
    ap (read header_format AtNav 0) all
    ∙ (leads_read header_format AtNav 0 header (costs ++ lines rest) (AtBody (said_by setting) 0 []) (header_leads header_body spelling.form setting limits spelling.clear)
    ∙ (leads_read header_format (AtBody (said_by setting) 0 []) (0 + length header) costs (lines rest) (AtBody said before []) (costs_lead (said_by setting) 0 spelling.costs spelling.rise)
    ∙ (ap (read header_format (AtBody said before []) (0 + length header + length costs)) on.those
    ∙ (ap (λ b. read_on (costs_verdict said before [] b) (0 + length header + length costs) (λ next. read header_format next (0 + length header + length costs + 1) on.more))
    (header_end_again before on.line on.other)
    ∙ ap₂ (λ s k. Ok (s, k + 1)) (same_setting setting spelling.costs spelling.table) long))))

-- reading has come to a line behind those of the setting: `count` lines are read, and reading goes on with the rest
pub record HasCosts (bytes rest : List ℕ) (setting : Setting) (before : ℕ) (count : ℕ) : Type 0 where
  pub past : IsPast bytes rest count
  pub reads : header_of bytes ≡ read header_format (AtBody setting before []) count (lines rest)
  pub area : before ≤ 63
  pub counted : count ≤ 8 + before

next_line : (bytes rest : List ℕ) (setting : Setting) (before count : ℕ) (line after : List ℕ) (told : BodyLine) → HasCosts bytes rest setting before count
    → lines rest ≡ line ∷ lines after → header_line before line ≡ told
    → header_of bytes ≡ read_on (costs_verdict setting before [] told) count (λ next. read header_format next (count + 1) (lines after))
unfolding read
next_line bytes rest setting before count line after told has those is =
    has.reads ∙ (ap (read header_format (AtBody setting before []) count) those
    ∙ ap (λ s. read_on (costs_verdict setting before [] s) count (λ next. read header_format next (count + 1) (lines after))) is)

pub HasCosts_more : (bytes rest : List ℕ) (setting : Setting) (before count : ℕ) (line after : List ℕ) (area cost : ℕ) → HasCosts bytes rest setting before count
    → lines rest ≡ line ∷ lines after → rest ≡ line ++ 10 ∷ after → header_line before line ≡ Cost area cost → before < area → area ≤ 63
    → HasCosts bytes after (set_cost setting area cost) area (count + 1)
HasCosts_more bytes rest setting before count line after area cost has those spelled is further most =
    let counted : count ≤ 8 + before = has.counted in record {
      past = IsPast_next bytes rest count line after has.past those spelled;
      reads = next_line bytes rest setting before count line after (Cost area cost) has those is;
      area = most;
      counted = omega arith;
    }

-- a line that fails, and lines that end too early
pub costs_fail : (bytes rest : List ℕ) (setting : Setting) (before count : ℕ) (line after : List ℕ) (kind : FaultKind) → HasCosts bytes rest setting before count
    → lines rest ≡ line ∷ lines after → header_line before line ≡ Fails kind → header_of bytes ≡ Err (fault_at (count + 1) kind)
costs_fail bytes rest setting before count line after kind has those is = next_line bytes rest setting before count line after (Fails kind) has those is

pub costs_cut : (bytes rest : List ℕ) (setting : Setting) (before count : ℕ) → HasCosts bytes rest setting before count → lines rest ≡ []
    → header_of bytes ≡ Err (fault_at (count + 1) Unfinished)
unfolding read
costs_cut bytes rest setting before count has none = has.reads ∙ ap (read header_format (AtBody setting before []) count) none

-- the line that ends the header
pub costs_done : (bytes rest : List ℕ) (setting : Setting) (before count : ℕ) (line after : List ℕ) (told : BodyLine) → HasCosts bytes rest setting before count
    → lines rest ≡ line ∷ lines after → header_line before line ≡ told → costs_verdict setting before [] told ≡ HopEnds setting → has_word (codes "cost") line ≡ false
    → IsHeaderRead bytes (Ok (record { setting = setting; used = length bytes - length rest; lines = count }))
costs_done bytes rest setting before count line after told has those is ends other =
    let used = IsPast-used bytes rest count has.past in
    let front = text_of (take count (lines bytes)) in
    let long : length bytes ≡ length front + length rest = ap length has.past.whole ∙ length-append front rest in
    let behind : drop (length bytes - length rest) bytes ≡ rest =
    ap (drop (length bytes - length rest)) has.past.whole ∙ drop_at front rest (length bytes - length rest) (omega (arith, long)) in (
      next_line bytes rest setting before count line after told has those is ∙ ap (λ v. read_on v count (λ next. read header_format next (count + 1) (lines after))) ends,
      used.0,
      omega (arith, used.1),
      subst GoesOn (sym behind) (record { line = line; more = lines after; those = those; other = other }),
      omega (arith, has.counted, has.area),
    )

pub costs_ended : (bytes rest : List ℕ) (setting : Setting) (before count : ℕ) (line after : List ℕ) (told : BodyLine) → HasCosts bytes rest setting before count
    → lines rest ≡ line ∷ lines after → told ≡ header_line before line → (told ≡ End) ⊎ ((span : Span) × (told ≡ Spans span))
    → IsHeaderRead bytes (Ok (record { setting = setting; used = length bytes - length rest; lines = count }))
costs_ended bytes rest setting before count line after told has those read which =
    elim which [
      | inl end ↦
          let is : header_line before line ≡ End = sym read ∙ end in
          costs_done bytes rest setting before count line after End has those is refl (subst (HeaderSays before line) is (header_says before line))
      | inr span ↦
          let is : header_line before line ≡ Spans span.0 = sym read ∙ span.1 in absurd (subst (HeaderSays before line) is (header_says before line))
    ]

-- What a call of `read_header` promises.
pub head_setting : (bytes : List ℕ) (result : Result HeaderText FieldRefusal) → IsHeaderRead bytes result → IfOk result (λ header. IsSetting header.setting)
head_setting bytes (Ok header) told = (header_takes bytes header.setting header.lines told.0).0
head_setting bytes (Err refusal) told = tt

pub head_found : (bytes : List ℕ) (result : Result HeaderText FieldRefusal) → IsHeaderRead bytes result → IfOk result (λ header. IsHeaderText (take header.used bytes) header.setting)
head_found bytes (Ok header) told = subst (λ b. IsHeaderText b header.setting) (sym told.1) (header_takes bytes header.setting header.lines told.0).1
head_found bytes (Err refusal) told = tt

pub head_used : (bytes : List ℕ) (result : Result HeaderText FieldRefusal) → IsHeaderRead bytes result → IfOk result (λ header. header.used ≤ length bytes)
head_used bytes (Ok header) told = told.2
head_used bytes (Err refusal) told = tt

pub head_lines : (bytes : List ℕ) (result : Result HeaderText FieldRefusal) → IsHeaderRead bytes result
    → IfOk result (λ header. header.lines ≡ length (lines (take header.used bytes)))
head_lines bytes (Ok header) told =
    let few = read_count header_format AtNav 0 (lines bytes) header.setting (header.lines + 1) told.0 in
    sym (ap length (ap lines told.1 ∙ lines_of_first bytes header.lines) ∙ length-take-le header.lines (lines bytes) (omega (arith, few)))
head_lines bytes (Err refusal) told = tt

pub head_on : (bytes : List ℕ) (result : Result HeaderText FieldRefusal) → IsHeaderRead bytes result → IfOk result (λ header. GoesOn (drop header.used bytes))
head_on bytes (Ok header) told = told.3
head_on bytes (Err refusal) told = tt

pub head_few : (bytes : List ℕ) (result : Result HeaderText FieldRefusal) → IsHeaderRead bytes result → IfOk result (λ header. header.lines ≤ 71)
head_few bytes (Ok header) told = told.4
head_few bytes (Err refusal) told = tt

pub head_only : (bytes : List ℕ) (result : Result HeaderText FieldRefusal) → IsHeaderRead bytes result → (setting : Setting) (text rest : List ℕ) → IsSetting setting
    → IsHeaderText text setting → GoesOn rest → bytes ≡ text ++ rest → GivesHeader setting (length text) result
head_only bytes (Ok header) told setting text rest limits spelling on parts =
    let all = all_header_lines spelling.form setting spelling.costs in
    let same = ok_is (sym told.0 ∙ header_again bytes text rest setting limits spelling on parts) in
    let count : header.lines + 1 ≡ length all + 1 = ap (λ p. p.1) same in
    let lined : header.lines ≡ length all = omega (arith, count) in
    let first : take header.lines (lines bytes) ≡ all =
    ap₂ (λ n ls. take n ls) lined (lines_head bytes text rest setting limits spelling parts) ∙ take_at all (lines rest) (length all) refl in
    let spelled : take header.used bytes ≡ text = told.1 ∙ (ap text_of first ∙ sym spelling.spelled) in (
      ap (λ p. p.0) same,
      sym (length-take-le header.used bytes told.2) ∙ ap length spelled,
    )
head_only bytes (Err (refusals.Fault fault)) told setting text rest limits spelling on parts =
    let again = header_again bytes text rest setting limits spelling on parts in
    let both : ◌≡◌ {A = Result (Setting × ℕ) TextFault} (Err fault) (Ok (setting, length (all_header_lines spelling.form setting spelling.costs) + 1)) = sym told ∙ again in
    absurd cc
head_only bytes (Err refusals.OutOfMemory) told setting text rest limits spelling on parts = absurd told

pub head_first : (bytes : List ℕ) (result : Result HeaderText FieldRefusal) → IsHeaderRead bytes result → (fault : TextFault) → result ≡ Err (refusals.Fault fault)
    → IsFirstFault header_format AtNav 0 (lines bytes) fault
head_first bytes result told fault is =
    let P : Result HeaderText FieldRefusal → Type 0 = λ r. IsHeaderRead bytes r in first_fault header_format AtNav 0 (lines bytes) fault (subst P is told)
