-- What is spelled as a field text is read so.
use Rattle.std.proofs.Common.{suc, ◌≡◌, ℕ, ◌+◌, ◌-◌, ◌<◌, ◌≤◌, Bool, true, false, List, [], ◌∷◌, ◌++◌, length, drop, slice_get, map, fold, codes, Option, Some, None, Ok, All, AllPairs, sym, subst₂, refl, ap, ap₂, ◌∙◌, subst, arith, append_assoc, append-nil, length-append}
use Rattle.std.specs.Prelude.{⊤}
use Rattle.std.specs.List.{list_all}
use Rattle.std.proofs.lemmas.Bool.{and_from}
use Rattle.std.proofs.lemmas.List.{length_push}
use Rattle.std.proofs.lemmas.List.Elements.{All-head, All-tail}
use Rattle.std.proofs.lemmas.List.Folds.{list_all-append}
use Rattle.nav_ground.specs.declared.setting.MeshKind.{MeshKind}
use Rattle.nav_ground.specs.declared.setting.MeshKind.TheVariants.{Strips, Contours}
use Rattle.nav_ground.specs.declared.setting.Setting.{Setting}
use Rattle.nav_ground.specs.declared.field.Span.{Span}
use Rattle.nav_ground.specs.declared.field.Field.{Field}
use Rattle.nav_ground.specs.Limits.{IsSetting}
use Rattle.nav_ground.specs.Fields.{IsSpan, IsSpanBefore, IsField}
use Rattle.nav_text.specs.Lines.{lines, is_line}
use Rattle.nav_text.specs.Forms.{line_text}
use Rattle.nav_text.specs.Reading.{Leads, read, read_on, lead}
use Rattle.nav_text.proofs.LineLaws.{lines_again}
use Rattle.nav_text.proofs.FormLaws.{is_line-line_text}
use Rattle.nav_text.proofs.ReadingLaws.{leads_read}
use Rattle.span_text.specs.declared.front.TextForm.{TextForm}
use Rattle.span_text.specs.declared.front.TextForm.TheVariants.{First, Second}
use Rattle.span_text.specs.FieldText.{Cost, RiseAbove, with_cost, costs_of, mesh_text, nav_text, clear_lines, header_lines, cost_text, span_text, field_lines, IsFieldText}
use Rattle.span_text.specs.FieldFormat.{AtNav, AtSize, AtTile, AtAgent, AtError, AtMesh, AtLimit, AtBody, plain_setting, after_limit, set_cost, BodyVerdict, body_verdict, headed_format, field_body, field_format, field_of}
use Rattle.span_text.specs.Words.{field_with}
use Rattle.span_text.proofs.HeaderLaws.{nav_again, size_again, limited_again, agent_again, mesh_again, clear_again}
use Rattle.span_text.proofs.BodyLineLaws.{IsAfter, last_of, end_again, cost_again, span_again}
use Rattle.span_text.proofs.FoundLaws.{last_area}

-- the setting that seven lines say, and that a header says
abbrev plain_of : Setting → Setting
plain_of setting = plain_setting setting.width setting.depth setting.tile setting.agent setting.error setting.mesh setting.limit

abbrev pub said_by : Setting → Setting
said_by setting = record (plain_of setting) { clear = setting.clear }

clear_leads : {V : Type 0} (body : BodyVerdict V) (form : TextForm) (setting : Setting) → IsSetting setting → (form ≡ First → setting.clear ≡ false)
    → Leads (headed_format body) (after_limit form (plain_of setting)) (clear_lines form setting.clear) (AtBody (said_by setting) 0 [])
clear_leads body First setting h none = ap (λ c. AtBody (record (plain_of setting) { clear = c }) 0 []) (sym (none refl))
clear_leads body Second setting h none = (
  AtBody (said_by setting) 0 [],
  ap (λ r. lead r (λ clear. AtBody (record (plain_of setting) { clear = clear }) 0 [])) (clear_again setting.tile setting.agent.radius setting.clear h.clear),
  refl,
)

pub header_leads : {V : Type 0} (body : BodyVerdict V) (form : TextForm) (setting : Setting) → IsSetting setting → (form ≡ First → setting.clear ≡ false)
    → Leads (headed_format body) AtNav (header_lines form setting) (AtBody (said_by setting) 0 [])
header_leads body form setting h none =
    let w = setting.width in
    let d = setting.depth in
    let t = setting.tile in
    let a = setting.agent in
    let e = setting.error in
    let m = setting.mesh in (
      AtSize form,
      ap (λ r. lead r (λ f. AtSize f)) (nav_again form),
      (
        AtTile form w d,
        ap (λ r. lead r (λ size. AtTile form size.0 size.1)) (size_again w d (record { wide = h.wide; width_most = h.width; deep = h.deep; depth_most = h.depth })),
        (
          AtAgent form w d t,
          ap (λ r. lead r (λ tile. AtAgent form w d tile)) (limited_again (codes "tile") 4 128 t h.tile_least h.tile_most (omega arith)),
          (
            AtError form w d t a,
            ap (λ r. lead r (λ agent. AtError form w d t agent)) (agent_again a h.agent),
            (
              AtMesh form w d t a e,
              ap (λ r. lead r (λ error. AtMesh form w d t a error)) (limited_again (codes "error") 0 10000 e (omega arith) h.error (omega arith)),
              (
                AtLimit form w d t a e m,
                ap (λ r. lead r (λ mesh. AtLimit form w d t a e mesh)) (mesh_again m),
                (
                  after_limit form (plain_of setting),
                  ap (λ r. lead r (λ limit. after_limit form (plain_setting w d t a e m limit)))
                      (limited_again (codes "limit") 1 1024 setting.limit h.limit_least h.limit_most (omega arith)),
                  clear_leads body form setting h none,
                ),
              ),
            ),
          ),
        ),
      ),
    )

-- a setting after some cost lines
abbrev pub after_costs : Setting → List Cost → Setting
after_costs setting costs = record setting { costs = fold with_cost setting.costs costs }

costs_lead : (setting : Setting) (before : ℕ) (costs : List Cost) → RiseAbove before costs
    → Leads field_format (AtBody setting before []) (map cost_text costs) (AtBody (after_costs setting costs) (last_area before costs) [])
costs_lead setting before [] rise = refl
costs_lead setting before (line ∷ more) rise = (
  AtBody (set_cost setting line.area line.cost) line.area [],
  ap (body_verdict setting before []) (cost_again setting.width setting.depth before line.area line.cost rise.0 rise.1 rise.2 rise.3),
  costs_lead (set_cost setting line.area line.cost) line.area more rise.4,
)

-- each span comes after the one before
abbrev Follows : Option Span → List Span → Type 0
Follows last [] = ⊤
Follows last (span ∷ more) = IsAfter last span × Follows (Some span) more

follows_some : (span : Span) (more : List Span) → AllPairs IsSpanBefore (span ∷ more) → Follows (Some span) more
follows_some span [] pairs = tt
follows_some span (next ∷ more) pairs = (pairs 0 1 span (omega arith) (omega arith), follows_some next more (λ i j d lt within. pairs (suc i) (suc j) d (omega arith) (omega arith)))

follows_all : (spans : List Span) → AllPairs IsSpanBefore spans → Follows None spans
follows_all [] pairs = tt
follows_all (span ∷ more) pairs = (tt, follows_some span more pairs)

behind : (front : List Span) (span : Span) → slice_get (front ++ span ∷ []) (length front) ≡ Some span
behind [] span = refl
behind (first ∷ front) span = behind front span

last_pushed : (front : List Span) (span : Span) → last_of (front ++ span ∷ []) ≡ Some span
last_pushed front span =
    let long = length_push front span in
    let at : length (front ++ span ∷ []) - 1 ≡ length front = omega arith in
    ap (slice_get (front ++ span ∷ [])) at ∙ behind front span

spans_lead : (setting : Setting) (before : ℕ) (front rest : List Span) → setting.width ≤ 1024 → setting.depth ≤ 1024 → All (IsSpan setting.width setting.depth) rest → Follows (last_of front) rest
    → length front + length rest ≤ 2000000 → Leads field_format (AtBody setting before front) (map span_text rest) (AtBody setting before (front ++ rest))
spans_lead setting before front [] wide deep each follows few = ap (AtBody setting before) (sym (append-nil front))
spans_lead setting before front (span ∷ more) wide deep each follows few =
    let long = length_push front span in (
      AtBody setting before (front ++ span ∷ []),
      ap (body_verdict setting before front)
          (span_again setting.width setting.depth before front span wide deep (omega arith) (All-head (IsSpan setting.width setting.depth) span more each) follows.0),
      subst (λ l. Leads field_format (AtBody setting before (front ++ span ∷ [])) (map span_text more) (AtBody setting before l)) (append_assoc front (span ∷ []) more)
          (spans_lead setting before (front ++ span ∷ []) more wide deep (All-tail (IsSpan setting.width setting.depth) span more each)
          (subst (λ o. Follows o more) (sym (last_pushed front span)) follows.1) (omega arith)),
    )

-- every line of a field text is a line
plain_cons : (line : List ℕ) (more : List (List ℕ)) → is_line line ≡ true → list_all is_line more ≡ true → list_all is_line (line ∷ more) ≡ true
plain_cons line more first rest = and_from (is_line line) (list_all is_line more) first rest

plain_mesh : (mesh : MeshKind) → is_line (mesh_text mesh) ≡ true
plain_mesh Strips = refl
plain_mesh Contours = refl

plain_nav : (form : TextForm) → is_line (nav_text form) ≡ true
plain_nav First = refl
plain_nav Second = refl

plain_clear : (form : TextForm) (clear : Bool) → list_all is_line (clear_lines form clear) ≡ true
plain_clear First clear = refl
plain_clear Second true = plain_cons (line_text (codes "clear") (1 ∷ [])) [] (is_line-line_text (codes "clear") (1 ∷ []) refl (omega arith, tt)) refl
plain_clear Second false = plain_cons (line_text (codes "clear") (0 ∷ [])) [] (is_line-line_text (codes "clear") (0 ∷ []) refl (omega arith, tt)) refl

pub header_plain : (form : TextForm) (setting : Setting) → IsSetting setting → list_all is_line (header_lines form setting) ≡ true
header_plain form setting h =
    let all = header_lines form setting in
    let agent = setting.agent in
    let width : setting.width ≤ 1024 = h.width in
    let depth : setting.depth ≤ 1024 = h.depth in
    let tile : setting.tile ≤ 128 = h.tile_most in
    let height : agent.height ≤ 255 = h.agent.low_enough in
    let climb : agent.climb < agent.height = h.agent.climb in
    let radius : agent.radius ≤ 15 = h.agent.radius in
    let error : setting.error ≤ 10000 = h.error in
    let limit : setting.limit ≤ 1024 = h.limit_most in
    plain_cons (nav_text form) (drop 1 all) (plain_nav form)
    (plain_cons (line_text (codes "size") (setting.width ∷ setting.depth ∷ [])) (drop 2 all) (is_line-line_text (codes "size") (setting.width ∷ setting.depth ∷ []) refl (omega arith, (omega arith, tt)))
    (plain_cons (line_text (codes "tile") (setting.tile ∷ [])) (drop 3 all) (is_line-line_text (codes "tile") (setting.tile ∷ []) refl (omega arith, tt))
    (plain_cons (line_text (codes "agent") (agent.height ∷ agent.climb ∷ agent.radius ∷ [])) (drop 4 all)
    (is_line-line_text (codes "agent") (agent.height ∷ agent.climb ∷ agent.radius ∷ []) refl (omega arith, (omega arith, (omega arith, tt))))
    (plain_cons (line_text (codes "error") (setting.error ∷ [])) (drop 5 all) (is_line-line_text (codes "error") (setting.error ∷ []) refl (omega arith, tt))
    (plain_cons (mesh_text setting.mesh) (drop 6 all) (plain_mesh setting.mesh)
    (plain_cons (line_text (codes "limit") (setting.limit ∷ [])) (clear_lines form setting.clear) (is_line-line_text (codes "limit") (setting.limit ∷ []) refl (omega arith, tt))
    (plain_clear form setting.clear)))))))

pub costs_plain : (before : ℕ) (costs : List Cost) → RiseAbove before costs → list_all is_line (map cost_text costs) ≡ true
costs_plain before [] rise = refl
costs_plain before (line ∷ more) rise =
    let area : line.area ≤ 63 = rise.1 in
    let cost : line.cost ≤ 1000 = rise.3 in
    plain_cons (cost_text line) (map cost_text more) (is_line-line_text (codes "cost") (line.area ∷ line.cost ∷ []) refl (omega arith, (omega arith, tt))) (costs_plain line.area more rise.4)

spans_plain : (width depth : ℕ) (spans : List Span) → width ≤ 1024 → depth ≤ 1024 → All (IsSpan width depth) spans → list_all is_line (map span_text spans) ≡ true
spans_plain width depth [] wide deep each = refl
spans_plain width depth (span ∷ more) wide deep each =
    let fits : IsSpan width depth span = All-head (IsSpan width depth) span more each in
    let x : span.x < width = fits.x in
    let z : span.z < depth = fits.z in
    let solid : span.bottom < span.top = fits.solid in
    let top : span.top ≤ 8191 = fits.top in
    let area : span.area ≤ 63 = fits.area in
    plain_cons (span_text span) (map span_text more)
    (is_line-line_text (codes "span") (span.x ∷ span.z ∷ span.bottom ∷ span.top ∷ span.area ∷ []) refl (omega arith, (omega arith, (omega arith, (omega arith, (omega arith, tt))))))
    (spans_plain width depth more wide deep (All-tail (IsSpan width depth) span more each))

regroup : (header costs spans : List (List ℕ)) (end : List ℕ) (more : List (List ℕ)) → header ++ costs ++ spans ++ end ∷ [] ++ more ≡ header ++ (costs ++ (spans ++ end ∷ more))
regroup header costs spans end more = simp append_assoc

plain_all : (header costs spans : List (List ℕ)) → list_all is_line header ≡ true → list_all is_line costs ≡ true → list_all is_line spans ≡ true
    → list_all is_line (header ++ costs ++ spans ++ codes "end" ∷ []) ≡ true
plain_all header costs spans a b c =
    list_all-append is_line (header ++ costs ++ spans) (codes "end" ∷ []) ∙ and_from _ _
    (list_all-append is_line (header ++ costs) spans ∙ and_from _ _ (list_all-append is_line header costs ∙ and_from _ _ a b) c)
    refl

count_all : (header costs spans : List (List ℕ)) (end : List ℕ) → 0 + length header + length costs + length spans + 1 ≡ length (header ++ costs ++ spans ++ end ∷ [])
count_all header costs spans end =
    omega (arith, length-append (header ++ costs ++ spans) (end ∷ []), length-append (header ++ costs) spans, length-append header costs)

pub same_setting : (setting : Setting) (costs : List Cost) → setting.costs ≡ costs_of costs → after_costs (said_by setting) costs ≡ setting
same_setting setting costs table = ap (λ t. record setting { costs = t }) (sym table)

same_field : (setting : Setting) (field : Field) → field.width ≡ setting.width → field.depth ≡ setting.depth → field_with setting field.spans ≡ field
same_field setting field width depth = ap₂ (λ w d. record field { width = w; depth = d }) (sym width) (sym depth)

end_read : (setting : Setting) (before : ℕ) (spans : List Span) (count : ℕ) (rest : List (List ℕ))
    → read field_format (AtBody setting before spans) count (codes "end" ∷ rest) ≡ Ok ((setting, field_with setting spans), count + 1)
unfolding read
end_read setting before spans count rest =
    ap (λ b. read_on (body_verdict setting before spans b) count (λ next. read field_format next (count + 1) rest)) (end_again setting.width setting.depth before spans)

-- The first lines of bytes that begin with a field text are those of the text.
pub lines_begin : (bytes text rest : List ℕ) (setting : Setting) (field : Field) → IsSetting setting → IsField field → (spelling : IsFieldText text setting field) → bytes ≡ text ++ rest
    → lines bytes ≡ field_lines spelling.form setting spelling.costs field.spans ++ lines rest
lines_begin bytes text rest setting field limits fits spelling parts =
    let each : All (IsSpan setting.width setting.depth) field.spans = subst₂ (λ w d. All (IsSpan w d) field.spans) spelling.width spelling.depth fits.spans in
    let plain = plain_all (header_lines spelling.form setting) (map cost_text spelling.costs) (map span_text field.spans) (header_plain spelling.form setting limits) (costs_plain 0 spelling.costs spelling.rise)
    (spans_plain setting.width setting.depth field.spans limits.width limits.depth each) in
    ap lines (parts ∙ ap (λ t. t ++ rest) spelling.spelled) ∙ lines_again (field_lines spelling.form setting spelling.costs field.spans) rest plain

-- The text of a setting and a field is read as these, with all its lines.
pub field_again : (bytes text rest : List ℕ) (setting : Setting) (field : Field) → IsSetting setting → IsField field → (spelling : IsFieldText text setting field) → bytes ≡ text ++ rest
    → field_of bytes ≡ Ok ((setting, field), length (field_lines spelling.form setting spelling.costs field.spans))
field_again bytes text rest setting field limits fits spelling parts =
    let header = header_lines spelling.form setting in
    let costs = map cost_text spelling.costs in
    let spans = map span_text field.spans in
    let few : length field.spans ≤ 2000000 = fits.few in
    let each : All (IsSpan setting.width setting.depth) field.spans = subst₂ (λ w d. All (IsSpan w d) field.spans) spelling.width spelling.depth fits.spans in
    let all : lines bytes ≡ header ++ (costs ++ (spans ++ codes "end" ∷ lines rest)) =
    lines_begin bytes text rest setting field limits fits spelling parts ∙ regroup header costs spans (codes "end") (lines rest) in
    let said = after_costs (said_by setting) spelling.costs in
    let before = last_area 0 spelling.costs in
    ap (read field_format AtNav 0) all
    ∙ (leads_read field_format AtNav 0 header (costs ++ (spans ++ codes "end" ∷ lines rest)) (AtBody (said_by setting) 0 []) (header_leads field_body spelling.form setting limits spelling.clear)
    ∙ (leads_read field_format (AtBody (said_by setting) 0 []) (0 + length header) costs (spans ++ codes "end" ∷ lines rest) (AtBody said before [])
    (costs_lead (said_by setting) 0 spelling.costs spelling.rise)
    ∙ (leads_read field_format (AtBody said before []) (0 + length header + length costs) spans (codes "end" ∷ lines rest) (AtBody said before field.spans)
    (spans_lead said before [] field.spans limits.width limits.depth each (follows_all field.spans fits.order) (omega arith))
    ∙ (end_read said before field.spans (0 + length header + length costs + length spans) (lines rest)
    ∙ ap₂ (λ v k. Ok (v, k))
    (ap₂ (λ s f. (s, f)) (same_setting setting spelling.costs spelling.table) (same_field setting field spelling.width spelling.depth))
    (count_all header costs spans (codes "end"))))))
