-- What is read of a field text is spelled so: the lines that lead to a place say what the place has.
use Rattle.std.proofs.Common.{zero, suc, length-set, ◌≡◌, ℕ, ◌+◌, ◌-◌, ◌*◌, ◌<◌, ◌≤◌, Bool, true, false, List, [], ◌∷◌, ◌++◌, length, take, get_or, map, replicate, set, codes, Some, Result, Ok, Err, All, AllPairs, IsTrue, sym, refl, ap, ap₂, ◌∙◌, subst, ⊎_elim, arith, append_assoc, append-nil}
use Rattle.std.specs.Prelude.{⊤}
use Rattle.std.specs.List.{list_all}
use Rattle.std.proofs.lemmas.Bool.{and_from, and_parts, cases_lt}
use Rattle.std.proofs.lemmas.Bool.Decides.{nat_tests}
use Rattle.std.proofs.lemmas.List.{length_push, map_push, take_at}
use Rattle.std.proofs.lemmas.List.Elements.{All-nil, All-push}
use Rattle.std.proofs.lemmas.List.Quantifiers.{all_pairs_push}
use Rattle.std.proofs.lemmas.List.Sums.{fold_push}
use Rattle.std.proofs.lemmas.Option.{slice_get-get_or}
use Rattle.nav_ground.specs.declared.setting.Agent.{Agent}
use Rattle.nav_ground.specs.declared.setting.MeshKind.{MeshKind}
use Rattle.nav_ground.specs.declared.setting.Setting.{Setting}
use Rattle.nav_ground.specs.declared.field.Span.{Span}
use Rattle.nav_ground.specs.Limits.{IsAgent, IsSetting, is_cost}
use Rattle.nav_ground.specs.Fields.{IsSpan, IsSpanBefore, IsField}
use Rattle.nav_text.specs.declared.fault.FaultKind.{FaultKind}
use Rattle.nav_text.specs.Forms.{line_text}
use Rattle.nav_text.specs.Lines.{lines, text_of}
use Rattle.nav_text.specs.Reading.{Verdict, Goes, HopEnds, lead}
use Rattle.nav_text.proofs.ReadingLaws.{EndsAt, read_takes, leads_keep}
use Rattle.span_text.specs.declared.front.TextForm.{TextForm}
use Rattle.span_text.specs.declared.front.TextForm.TheVariants.{First, Second}
use Rattle.span_text.specs.declared.body.BodyLine.{BodyLine}
use Rattle.span_text.specs.declared.body.BodyLine.TheVariants as said
use Rattle.span_text.specs.FieldText.{Cost, RiseAbove, with_cost, costs_of, mesh_text, nav_text, clear_lines, header_lines, cost_text, span_text, IsFieldText}
use Rattle.span_text.specs.Header.{nav_line, size_line, limited, agent_line, mesh_line, clear_line}
use Rattle.span_text.specs.Body.{body_line}
use Rattle.span_text.specs.FieldFormat.{Place, AtNav, AtSize, AtTile, AtAgent, AtError, AtMesh, AtLimit, AtClear, AtBody, Value, plain_setting, after_limit, set_cost, body_verdict, BodyVerdict, headed, field_body, field_format, field_of}
use Rattle.span_text.specs.Words.{field_with}
use Rattle.span_text.proofs.HeaderLaws.{nav_takes, IsSize, size_takes, limited_takes, agent_takes, mesh_takes, clear_takes}
use Rattle.span_text.proofs.BodyLineLaws.{IsAfter, last_of, Says, body_says}

-- the area of the last cost line
abbrev pub last_area : ℕ → List Cost → ℕ
last_area before [] = before
last_area before (line ∷ more) = last_area line.area more

-- what the lines before say at a place behind the header
pub record HasSaid (setting : Setting) (before : ℕ) (spans : List Span) (those : List (List ℕ)) : Type 0 where
  pub form : TextForm
  pub costs : List Cost
  pub rise : RiseAbove 0 costs
  pub last : before ≡ last_area 0 costs
  pub table : setting.costs ≡ costs_of costs
  pub clear : form ≡ First → setting.clear ≡ false
  pub limits : IsSetting setting
  pub each : All (IsSpan setting.width setting.depth) spans
  pub order : AllPairs IsSpanBefore spans
  pub spelled : those ≡ header_lines form setting ++ map cost_text costs ++ map span_text spans

abbrev IsTile : ℕ → Type 0
IsTile tile = (4 ≤ tile) × (tile ≤ 128)

-- what the lines before say at each place
abbrev pub Said : Place → List (List ℕ) → Type 0
Said AtNav those = those ≡ []
Said (AtSize form) those = those ≡ nav_text form ∷ []
Said (AtTile form width depth) those = IsSize width depth × (those ≡ nav_text form ∷ line_text (codes "size") (width ∷ depth ∷ []) ∷ [])
Said (AtAgent form width depth tile) those = IsSize width depth × IsTile tile
    × (those ≡ nav_text form ∷ line_text (codes "size") (width ∷ depth ∷ []) ∷ line_text (codes "tile") (tile ∷ []) ∷ [])
Said (AtError form width depth tile agent) those = IsSize width depth × IsTile tile × IsAgent agent
    × (those ≡ nav_text form ∷ line_text (codes "size") (width ∷ depth ∷ []) ∷ line_text (codes "tile") (tile ∷ [])
    ∷ line_text (codes "agent") (agent.height ∷ agent.climb ∷ agent.radius ∷ []) ∷ [])
Said (AtMesh form width depth tile agent error) those = IsSize width depth × IsTile tile × IsAgent agent × (error ≤ 10000)
    × (those ≡ nav_text form ∷ line_text (codes "size") (width ∷ depth ∷ []) ∷ line_text (codes "tile") (tile ∷ [])
    ∷ line_text (codes "agent") (agent.height ∷ agent.climb ∷ agent.radius ∷ []) ∷ line_text (codes "error") (error ∷ []) ∷ [])
Said (AtLimit form width depth tile agent error mesh) those = IsSize width depth × IsTile tile × IsAgent agent × (error ≤ 10000)
    × (those ≡ nav_text form ∷ line_text (codes "size") (width ∷ depth ∷ []) ∷ line_text (codes "tile") (tile ∷ [])
    ∷ line_text (codes "agent") (agent.height ∷ agent.climb ∷ agent.radius ∷ []) ∷ line_text (codes "error") (error ∷ []) ∷ mesh_text mesh ∷ [])
Said (AtClear setting) those = IsSetting setting × (setting.costs ≡ costs_of [])
    × ((clear : Bool) → those ++ clear_lines Second clear ≡ header_lines Second (record setting { clear = clear }))
Said (AtBody setting before spans) those = (length spans ≤ 2000000) × HasSaid setting before spans those

lead_goes : {A V : Type 0} (told : Result A FaultKind) (next : A → Place) (place : Place) → ◌≡◌ {A = Verdict Place V} (lead told next) (Goes place)
    → (x : A) × (told ≡ Ok x) × (next x ≡ place)
lead_goes (Ok x) next place e = (x, refl, cc)
lead_goes (Err kind) next place e = absurd cc

cost_in_limits : (cost : ℕ) → 1 ≤ cost → cost ≤ 1000 → is_cost cost ≡ true
cost_in_limits cost least most = grind (arith, nat_tests)

plain_limits : (width depth tile : ℕ) (agent : Agent) (error : ℕ) (mesh : MeshKind) (limit : ℕ) → IsSize width depth → IsTile tile → IsAgent agent → error ≤ 10000 → 1 ≤ limit → limit ≤ 1024
    → IsSetting (plain_setting width depth tile agent error mesh limit)
plain_limits width depth tile agent error mesh limit size is_tile is_agent few least most = record {
  wide = size.wide;
  width = size.width_most;
  deep = size.deep;
  depth = size.depth_most;
  tile_least = is_tile.0;
  tile_most = is_tile.1;
  agent = is_agent;
  error = few;
  limit_least = least;
  limit_most = most;
  areas = refl;
  costs = refl;
  clear = λ no. absurd cc;
}

clear_limits : (setting : Setting) (clear : Bool) → IsSetting setting → (clear ≡ true → 2 * setting.agent.radius ≤ setting.tile) → IsSetting (record setting { clear = clear })
clear_limits setting clear limits wide = record {
  wide = limits.wide;
  width = limits.width;
  deep = limits.deep;
  depth = limits.depth;
  tile_least = limits.tile_least;
  tile_most = limits.tile_most;
  agent = limits.agent;
  error = limits.error;
  limit_least = limits.limit_least;
  limit_most = limits.limit_most;
  areas = limits.areas;
  costs = limits.costs;
  clear = wide;
}

-- a span before another that is before a third is before the third
before_trans : (a b c : Span) → b.bottom < b.top → IsSpanBefore a b → IsSpanBefore b c → IsSpanBefore a c
before_trans a b c solid first second = grind arith

-- a span after the last one comes after all of them
after_all : (width depth : ℕ) (spans : List Span) (span : Span) → All (IsSpan width depth) spans → AllPairs IsSpanBefore spans → IsAfter (last_of spans) span
    → (k : ℕ) (d : Span) → k < length spans → IsSpanBefore (get_or spans k d) span
after_all width depth spans span each order after k d lt =
    let last : last_of spans ≡ Some (get_or spans (length spans - 1) d) = slice_get-get_or spans (length spans - 1) d (omega arith) in
    let next : IsSpanBefore (get_or spans (length spans - 1) d) span = subst (λ o. IsAfter o span) last after in
    let solid = (each (length spans - 1) d (omega arith)).solid in
    ⊎_elim
    (λ earlier. before_trans (get_or spans k d) (get_or spans (length spans - 1) d) span solid (order k (length spans - 1) d earlier (omega arith)) next)
    (λ same. let at : length spans - 1 ≡ k = omega arith in subst (λ i. IsSpanBefore (get_or spans i d) span) at next)
    (cases_lt k (length spans - 1))

rise_push : (before : ℕ) (costs : List Cost) (line : Cost) → RiseAbove before costs → last_area before costs < line.area → line.area ≤ 63 → 1 ≤ line.cost → line.cost ≤ 1000
    → RiseAbove before (costs ++ line ∷ [])
rise_push before [] line rise further most least few = (further, most, least, few, tt)
rise_push before (cost ∷ costs) line rise further most least few = (rise.0, rise.1, rise.2, rise.3, rise_push cost.area costs line rise.4 further most least few)

last_area_push : (before : ℕ) (costs : List Cost) (line : Cost) → last_area before (costs ++ line ∷ []) ≡ line.area
last_area_push before [] line = refl
last_area_push before (cost ∷ costs) line = last_area_push cost.area costs line

cost_set : (table : List ℕ) (area cost : ℕ) → IsTrue (list_all is_cost table) → 1 ≤ cost → cost ≤ 1000 → IsTrue (list_all is_cost (set table area cost))
cost_set [] area cost all least most = all
cost_set (c ∷ table) zero cost all least most = and_from _ _ (cost_in_limits cost least most) (and_parts (is_cost c) (list_all is_cost table) all).1
cost_set (c ∷ table) (suc area) cost all least most =
    let parts = and_parts (is_cost c) (list_all is_cost table) all in and_from _ _ parts.0 (cost_set table area cost parts.1 least most)

with_cost_line : (header costs spans those : List (List ℕ)) (line : List ℕ) → spans ≡ [] → those ≡ header ++ costs ++ spans → those ++ line ∷ [] ≡ header ++ (costs ++ line ∷ []) ++ spans
with_cost_line header costs spans those line none spelled =
    let P : List (List ℕ) → Type 0 = λ s. those ≡ header ++ costs ++ s → those ++ line ∷ [] ≡ header ++ (costs ++ line ∷ []) ++ s in
    subst P (sym none) (λ e. ap (λ t. t ++ line ∷ []) e ∙ regroup header costs line) spelled
  where
    regroup : (header costs : List (List ℕ)) (line : List ℕ) → header ++ costs ++ [] ++ line ∷ [] ≡ header ++ (costs ++ line ∷ []) ++ []
    regroup header costs line = simp (append_assoc, append-nil)

set_limits : (setting : Setting) (area cost : ℕ) → IsSetting setting → 1 ≤ cost → cost ≤ 1000 → IsSetting (set_cost setting area cost)
set_limits setting area cost limits least most = record {
  wide = limits.wide;
  width = limits.width;
  deep = limits.deep;
  depth = limits.depth;
  tile_least = limits.tile_least;
  tile_most = limits.tile_most;
  agent = limits.agent;
  error = limits.error;
  limit_least = limits.limit_least;
  limit_most = limits.limit_most;
  areas = length-set setting.costs area cost ∙ limits.areas;
  costs = cost_set setting.costs area cost limits.costs least most;
  clear = limits.clear;
}

pub said_cost : (setting : Setting) (before : ℕ) (spans : List Span) (those : List (List ℕ)) (line : List ℕ) (area cost : ℕ) → HasSaid setting before spans those
    → Says setting.width setting.depth before (length spans) (last_of spans) line (said.Cost area cost) → HasSaid (set_cost setting area cost) area spans (those ++ line ∷ [])
said_cost setting before spans those line area cost has says =
    let added : Cost = record { area = area; cost = cost } in
    let further : last_area 0 has.costs < area = subst (λ n. n < area) has.last says.2 in
    record {
      form = has.form;
      costs = has.costs ++ added ∷ [];
      rise = rise_push 0 has.costs added has.rise further says.3 says.4 says.5;
      last = sym (last_area_push 0 has.costs added);
      table = ap (λ t. set t area cost) has.table ∙ sym (fold_push with_cost (replicate 64 1) has.costs added);
      clear = has.clear;
      limits = set_limits setting area cost has.limits says.4 says.5;
      each = has.each;
      order = has.order;
      spelled = ap (λ l. those ++ l ∷ []) says.1
          ∙ (with_cost_line (header_lines has.form setting) (map cost_text has.costs) (map span_text spans) those (cost_text added) (no_spans spans says.0) has.spelled
          ∙ ap (λ c. header_lines has.form setting ++ c ++ map span_text spans) (sym (map_push cost_text has.costs added)));
    }
  where
    no_spans : (spans : List Span) → length spans ≡ 0 → map span_text spans ≡ []
    no_spans [] none = refl
    no_spans (span ∷ spans) none = absurd (omega arith)

said_span : (setting : Setting) (before : ℕ) (spans : List Span) (those : List (List ℕ)) (line : List ℕ) (span : Span) → HasSaid setting before spans those
    → Says setting.width setting.depth before (length spans) (last_of spans) line (said.Spans span) → HasSaid setting before (spans ++ span ∷ []) (those ++ line ∷ [])
said_span setting before spans those line span has says = record {
  form = has.form;
  costs = has.costs;
  rise = has.rise;
  last = has.last;
  table = has.table;
  clear = has.clear;
  limits = has.limits;
  each = All-push (IsSpan setting.width setting.depth) spans span has.each says.2;
  order = all_pairs_push IsSpanBefore spans span has.order (after_all setting.width setting.depth spans span has.each has.order says.3);
  spelled = ap₂ (λ ls l. ls ++ l ∷ []) has.spelled says.1
      ∙ (append_assoc (header_lines has.form setting ++ map cost_text has.costs) (map span_text spans) (span_text span ∷ [])
      ∙ ap (λ s. header_lines has.form setting ++ map cost_text has.costs ++ s) (sym (map_push span_text spans span)));
}

body_goes : (setting : Setting) (before : ℕ) (spans : List Span) (next : Place) (those : List (List ℕ)) (line : List ℕ) → length spans ≤ 2000000 → HasSaid setting before spans those
    → (told : BodyLine) → Says setting.width setting.depth before (length spans) (last_of spans) line told → body_verdict setting before spans told ≡ Goes next → Said next (those ++ line ∷ [])
body_goes setting before spans next those line few has (said.Cost area cost) says e =
    let to : AtBody (set_cost setting area cost) area spans ≡ next = cc in subst (λ p. Said p (those ++ line ∷ [])) to (few, said_cost setting before spans those line area cost has says)
body_goes setting before spans next those line few has (said.Spans span) says e =
    let to : AtBody setting before (spans ++ span ∷ []) ≡ next = cc in
    let more = length_push spans span in
    let room = says.0 in
    subst (λ p. Said p (those ++ line ∷ [])) to (omega arith, said_span setting before spans those line span has says)
body_goes setting before spans next those line few has said.End says e = absurd cc
body_goes setting before spans next those line few has (said.Fails kind) says e = absurd cc

-- the spans that a place has
abbrev pub spans_at : Place → List Span
spans_at AtNav = []
spans_at (AtSize form) = []
spans_at (AtTile form width depth) = []
spans_at (AtAgent form width depth tile) = []
spans_at (AtError form width depth tile agent) = []
spans_at (AtMesh form width depth tile agent error) = []
spans_at (AtLimit form width depth tile agent error mesh) = []
spans_at (AtClear setting) = []
spans_at (AtBody setting before spans) = spans

-- a right line behind those of the setting leads on to what it says, where the spans before are such
abbrev pub BodyGoes : {V : Type 0} → (List Span → Type 0) → BodyVerdict V → Type 0
BodyGoes {V} Such body = (setting : Setting) (before : ℕ) (spans : List Span) (next : Place) (those : List (List ℕ)) (line : List ℕ) → Such spans → length spans ≤ 2000000
    → HasSaid setting before spans those → ◌≡◌ {A = Verdict Place V} (body setting before spans line) (Goes next) → Said next (those ++ line ∷ [])

-- the lines of a setting are said, and none behind them
begun : (form : TextForm) (setting : Setting) (those : List (List ℕ)) → IsSetting setting → setting.costs ≡ costs_of [] → (form ≡ First → setting.clear ≡ false)
    → those ≡ header_lines form setting → HasSaid setting 0 [] those
begun form setting those limits table clear spelled = record {
  form = form;
  costs = [];
  rise = tt;
  last = refl;
  table = table;
  clear = clear;
  limits = limits;
  each = All-nil (IsSpan setting.width setting.depth);
  order = λ i j d lt within. absurd (omega arith);
  spelled = spelled ∙ sym (append-nil (header_lines form setting ++ []) ∙ append-nil (header_lines form setting));
}

-- the seventh line
said_limit : (form : TextForm) (setting : Setting) (those : List (List ℕ)) (line : List ℕ) → IsSetting setting → setting.costs ≡ costs_of [] → setting.clear ≡ false
    → ((clear : Bool) → (those ++ line ∷ []) ++ clear_lines form clear ≡ header_lines form (record setting { clear = clear }))
    → Said (after_limit form setting) (those ++ line ∷ [])
said_limit First setting those line limits table plain spelled =
    (omega arith, begun First setting (those ++ line ∷ []) limits table (λ first. plain) (sym (append-nil (those ++ line ∷ [])) ∙ spelled setting.clear))
said_limit Second setting those line limits table plain spelled = (limits, table, spelled)

-- a right line leads on to what it says
pub header_goes : {V : Type 0} (Such : List Span → Type 0) (body : BodyVerdict V) → BodyGoes Such body → (place next : Place) (those : List (List ℕ)) (line : List ℕ)
    → Such (spans_at place) → Said place those → headed body place line ≡ Goes next → Said next (those ++ line ∷ [])
header_goes Such body behind AtNav next those line such h e =
    let told = lead_goes (nav_line line) (λ form. AtSize form) next e in
    subst (λ p. Said p (those ++ line ∷ [])) told.2 (ap₂ (λ ls l. ls ++ l ∷ []) h (nav_takes line told.0 told.1))
header_goes Such body behind (AtSize form) next those line such h e =
    let told = lead_goes (size_line line) (λ size. AtTile form size.0 size.1) next e in
    let size = size_takes line told.0 told.1 in
    subst (λ p. Said p (those ++ line ∷ [])) told.2 (size.1, ap₂ (λ ls l. ls ++ l ∷ []) h size.0)
header_goes Such body behind (AtTile form width depth) next those line such h e =
    let told = lead_goes (limited (codes "tile") 4 128 line) (λ tile. AtAgent form width depth tile) next e in
    let tile = limited_takes (codes "tile") 4 128 line told.0 told.1 in
    subst (λ p. Said p (those ++ line ∷ [])) told.2 (h.0, (tile.1, tile.2), ap₂ (λ ls l. ls ++ l ∷ []) h.1 tile.0)
header_goes Such body behind (AtAgent form width depth tile) next those line such h e =
    let told = lead_goes (agent_line line) (λ agent. AtError form width depth tile agent) next e in
    let agent = agent_takes line told.0 told.1 in
    subst (λ p. Said p (those ++ line ∷ [])) told.2 (h.0, h.1, agent.1, ap₂ (λ ls l. ls ++ l ∷ []) h.2 agent.0)
header_goes Such body behind (AtError form width depth tile agent) next those line such h e =
    let told = lead_goes (limited (codes "error") 0 10000 line) (λ error. AtMesh form width depth tile agent error) next e in
    let error = limited_takes (codes "error") 0 10000 line told.0 told.1 in
    subst (λ p. Said p (those ++ line ∷ [])) told.2 (h.0, h.1, h.2, error.2, ap₂ (λ ls l. ls ++ l ∷ []) h.3 error.0)
header_goes Such body behind (AtMesh form width depth tile agent error) next those line such h e =
    let told = lead_goes (mesh_line line) (λ mesh. AtLimit form width depth tile agent error mesh) next e in
    subst (λ p. Said p (those ++ line ∷ [])) told.2 (h.0, h.1, h.2, h.3, ap₂ (λ ls l. ls ++ l ∷ []) h.4 (mesh_takes line told.0 told.1))
header_goes Such body behind (AtLimit form width depth tile agent error mesh) next those line such h e =
    let told = lead_goes (limited (codes "limit") 1 1024 line) (λ limit. after_limit form (plain_setting width depth tile agent error mesh limit)) next e in
    let limit = limited_takes (codes "limit") 1 1024 line told.0 told.1 in
    let limits = plain_limits width depth tile agent error mesh told.0 h.0 h.1 h.2 h.3 limit.1 limit.2 in
    subst (λ p. Said p (those ++ line ∷ [])) told.2
    (said_limit form (plain_setting width depth tile agent error mesh told.0) those line limits refl refl (λ clear. ap₂ (λ ls l. (ls ++ l ∷ []) ++ clear_lines form clear) h.4 limit.0))
header_goes Such body behind (AtClear setting) next those line such h e =
    let told = lead_goes (clear_line setting.tile setting.agent.radius line) (λ clear. AtBody (record setting { clear = clear }) 0 []) next e in
    let clear = clear_takes setting.tile setting.agent.radius line told.0 told.1 in
    let with_line : those ++ line ∷ [] ≡ those ++ clear_lines Second told.0 = ap (λ l. those ++ l ∷ []) clear.0 in
    subst (λ p. Said p (those ++ line ∷ [])) told.2
    (omega arith, begun Second (record setting { clear = told.0 }) (those ++ line ∷ []) (clear_limits setting told.0 h.0 clear.1) h.1 (λ first. absurd cc) (with_line ∙ h.2 told.0))
header_goes Such body behind (AtBody setting before spans) next those line such h e = behind setting before spans next those line such h.0 h.1 e

field_goes : BodyGoes (λ spans. ⊤) field_body
field_goes setting before spans next those line any few has e =
    body_goes setting before spans next those line few has (body_line setting.width setting.depth before spans line) (body_says setting.width setting.depth before spans line) e

-- the lines before the end of a text say its value
abbrev IsWhole : Value → List (List ℕ) → Type 0
IsWhole value those = IsSetting value.0 × IsField value.1 × IsFieldText (text_of those) value.0 value.1

lead_never_ends : {A V : Type 0} (told : Result A FaultKind) (next : A → Place) (value : V) → ◌≡◌ {A = Verdict Place V} (lead told next) (HopEnds value) → ⊥
lead_never_ends (Ok x) next value e = cc
lead_never_ends (Err kind) next value e = cc

whole_body : (setting : Setting) (before : ℕ) (spans : List Span) (those : List (List ℕ)) (line : List ℕ) → length spans ≤ 2000000 → HasSaid setting before spans those
    → line ≡ codes "end" → IsWhole (setting, field_with setting spans) (those ++ line ∷ [])
whole_body setting before spans those line few has end = (
  has.limits,
  record {
    wide = has.limits.wide;
    width = has.limits.width;
    deep = has.limits.deep;
    depth = has.limits.depth;
    few = few;
    spans = has.each;
    order = has.order;
  },
  record {
    form = has.form;
    costs = has.costs;
    rise = has.rise;
    table = has.table;
    clear = has.clear;
    width = refl;
    depth = refl;
    spelled = ap text_of (ap₂ (λ ls l. ls ++ l ∷ []) has.spelled end);
  },
)

body_ends : (setting : Setting) (before : ℕ) (spans : List Span) (value : Value) (those : List (List ℕ)) (line : List ℕ) → length spans ≤ 2000000 → HasSaid setting before spans those
    → (told : BodyLine) → Says setting.width setting.depth before (length spans) (last_of spans) line told → body_verdict setting before spans told ≡ HopEnds value → IsWhole value (those ++ line ∷ [])
body_ends setting before spans value those line few has (said.Cost area cost) says e = absurd cc
body_ends setting before spans value those line few has (said.Spans span) says e = absurd cc
body_ends setting before spans value those line few has said.End says e =
    let is : (setting, field_with setting spans) ≡ value = cc in subst (λ v. IsWhole v (those ++ line ∷ [])) is (whole_body setting before spans those line few has says)
body_ends setting before spans value those line few has (said.Fails kind) says e = absurd cc

-- a text ends behind the lines of its setting
pub record EndsBehind {V : Type 0} (body : BodyVerdict V) (place : Place) (value : V) (line : List ℕ) : Type 0 where
  pub setting : Setting
  pub before : ℕ
  pub spans : List Span
  pub at : place ≡ AtBody setting before spans
  pub ends : body setting before spans line ≡ HopEnds value

pub ends_behind : {V : Type 0} (body : BodyVerdict V) (place : Place) (value : V) (line : List ℕ) → headed body place line ≡ HopEnds value → EndsBehind body place value line
ends_behind body AtNav value line e = absurd (lead_never_ends (nav_line line) (λ form. AtSize form) value e)
ends_behind body (AtSize form) value line e = absurd (lead_never_ends (size_line line) (λ size. AtTile form size.0 size.1) value e)
ends_behind body (AtTile form width depth) value line e = absurd (lead_never_ends (limited (codes "tile") 4 128 line) (λ tile. AtAgent form width depth tile) value e)
ends_behind body (AtAgent form width depth tile) value line e = absurd (lead_never_ends (agent_line line) (λ agent. AtError form width depth tile agent) value e)
ends_behind body (AtError form width depth tile agent) value line e =
    absurd (lead_never_ends (limited (codes "error") 0 10000 line) (λ error. AtMesh form width depth tile agent error) value e)
ends_behind body (AtMesh form width depth tile agent error) value line e = absurd (lead_never_ends (mesh_line line) (λ mesh. AtLimit form width depth tile agent error mesh) value e)
ends_behind body (AtLimit form width depth tile agent error mesh) value line e =
    absurd (lead_never_ends (limited (codes "limit") 1 1024 line) (λ limit. after_limit form (plain_setting width depth tile agent error mesh limit)) value e)
ends_behind body (AtClear setting) value line e =
    absurd (lead_never_ends (clear_line setting.tile setting.agent.radius line) (λ clear. AtBody (record setting { clear = clear }) 0 []) value e)
ends_behind body (AtBody setting before spans) value line e = record { setting = setting; before = before; spans = spans; at = refl; ends = e }

place_ends : (place : Place) (value : Value) (those : List (List ℕ)) (line : List ℕ) → Said place those → headed field_body place line ≡ HopEnds value → IsWhole value (those ++ line ∷ [])
place_ends place value those line h e =
    let told = ends_behind field_body place value line e in
    let setting = told.setting in
    let said = subst (λ p. Said p those) told.at h in
    body_ends setting told.before told.spans value those line said.0 said.1 (body_line setting.width setting.depth told.before told.spans line)
    (body_says setting.width setting.depth told.before told.spans line) told.ends

-- What is read is within its limits, and the lines that were read spell it.
pub field_takes : (bytes : List ℕ) (value : Value) (total : ℕ) → field_of bytes ≡ Ok (value, total) → IsWhole value (take total (lines bytes))
field_takes bytes value total e =
    let told = read_takes field_format AtNav 0 (lines bytes) value total e in
    let kept = leads_keep field_format Said (λ place next those line said e. header_goes (λ spans. ⊤) field_body field_goes place next those line tt said e) AtNav [] told.good told.at refl told.leads in
    at_end told.at told.good told.rest told.more kept told.ends told.parts told.counted
  where
    first_lines : (good : List (List ℕ)) (line : List ℕ) (rest those : List (List ℕ)) (more : ℕ) → those ≡ good ++ line ∷ rest → total ≡ 0 + length good + more → more ≡ 1
        → good ++ line ∷ [] ≡ take total those
    first_lines good line rest those more parts counted one =
        let long = length_push good line in
        let at : length (good ++ line ∷ []) ≡ total = omega arith in
        sym (ap (take total) (parts ∙ sym (append_assoc good (line ∷ []) rest)) ∙ take_at (good ++ line ∷ []) rest total at)

    at_end : (at : Place) (good rest : List (List ℕ)) (more : ℕ) → Said at good → EndsAt field_format at rest value more → lines bytes ≡ good ++ rest → total ≡ 0 + length good + more
        → IsWhole value (take total (lines bytes))
    at_end at good [] more kept ends parts counted = absurd (let none = ends.0 in cc)
    at_end at good (line ∷ rest) more kept ends parts counted =
        subst (IsWhole value) (first_lines good line rest (lines bytes) more parts counted ends.1) (place_ends at value good line kept ends.0)
