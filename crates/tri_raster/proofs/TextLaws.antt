-- The laws of triangle texts: what is read is spelled so, and what is spelled so is read.
use Rattle.std.proofs.Common.{◌≡◌, ◌≢◌, ℕ, ◌+◌, ◌<◌, ◌≤◌, Bool, true, false, cond, ◌&&◌, ◌==◌, nat_le, bytes_eq, List, [], ◌∷◌, ◌++◌, length, take, drop, map, codes, slice_index, Option, Some, None, Result, Ok, Err, All, inr, sym, refl, ap, ap₂, ◌∙◌, subst, arith, append_assoc, append-nil}
use Rattle.std.specs.Prelude.{⊤}
use Rattle.std.specs.List.{list_all}
use Rattle.std.proofs.lemmas.Bool.{and_from, and_parts, and_right, eq-eqb, ne_eqb, cond_both, cond-false}
use Rattle.std.proofs.lemmas.Bool.Decides.{nat_tests}
use Rattle.std.proofs.lemmas.Slice.Eq.{bytes_eq-Decides}
use Rattle.std.proofs.lemmas.List.{length_push, map_push, take-append-drop, length-take-le, drop_at}
use Rattle.std.proofs.lemmas.List.Elements.{All-nil, All-push, All-head, All-tail}
use Rattle.std.proofs.lemmas.List.Folds.{list_all-append}
use Rattle.nav_ground.specs.declared.setting.Setting.{Setting}
use Rattle.nav_ground.specs.Limits.{IsSetting}
use Rattle.nav_lists.specs.declared.items.Items.{Items}
use Rattle.nav_text.specs.declared.fault.TextFault.{TextFault}
use Rattle.nav_text.specs.declared.fault.FaultKind.{FaultKind}
use Rattle.nav_text.specs.declared.fault.FaultKind.TheVariants.{Range, TooManyTriangles, Unfinished}
use Rattle.nav_text.specs.Faults.{fault_at}
use Rattle.nav_text.specs.Lines.{lines, text_of, is_line, is_ended}
use Rattle.nav_text.specs.Forms.{line_text, numbers_of, has_word, AreNumbers}
use Rattle.nav_text.specs.Reading.{Verdict, Goes, HopEnds, Refuses, Leads, read, read_on, read_end, IsFirstFault}
use Rattle.nav_text.proofs.FormLaws.{numbers_take, numbers_again, has_word-numbers, is_line-line_text}
use Rattle.nav_text.proofs.LineLaws.{lines_again}
use Rattle.nav_text.proofs.TextLaws.{text_ended, whole_text}
use Rattle.nav_text.proofs.Inversions.{some_is, err_is, five_is}
use Rattle.nav_text.proofs.ReadingLaws.{EndsAt, first_fault, read_takes, leads_keep, leads_read}
use Rattle.span_text.specs.declared.field.FieldRefusal.{FieldRefusal}
use Rattle.span_text.specs.declared.field.FieldRefusal.TheVariants as refusals
use Rattle.span_text.specs.declared.front.HeaderText.{HeaderText}
use Rattle.span_text.specs.FieldText.{IsHeaderText, GoesOn}
use Rattle.span_text.specs.Outcome.{GivesHeader}
use Rattle.tri_raster.specs.declared.triangle.Corner3.{Corner3}
use Rattle.tri_raster.specs.declared.triangle.Tri.{Tri}
use Rattle.tri_raster.specs.declared.text.TriText.{TriText}
use Rattle.tri_raster.specs.declared.text.TriLine.{TriLine}
use Rattle.tri_raster.specs.declared.text.TriLine.TheVariants.{Triangle, End, Fails}
use Rattle.tri_raster.specs.Triangles.{IsCorner, IsTriangle}
use Rattle.tri_raster.specs.TriText.{tri_text, tri_lines, AreTriangles, BeginsWithHeader, IsTriText}
use Rattle.tri_raster.specs.TriFormat.{Place, AtTris, AtEnd, tri_of, is_corner, is_triangle, tri_in, is_too_many, tri_line, wrong_behind, tri_verdict, verdict, value_at, tri_format, value_of, IsReading, IsTextFault, Gives}

corner_within : (corner : Corner3) → is_corner corner ≡ true → IsCorner corner
corner_within corner good = let told = within corner.x corner.y corner.z good in record { x = told.0; y = told.1; z = told.2 }
  where
    within : (x y z : ℕ) → nat_le x 16384 && nat_le y 8190 && nat_le z 16384 ≡ true → (x ≤ 16384) × (y ≤ 8190) × (z ≤ 16384)
    within x y z good = (grind (arith, nat_tests), grind (arith, nat_tests), grind (arith, nat_tests))

corner_again : (corner : Corner3) → IsCorner corner → is_corner corner ≡ true
corner_again corner is = within corner.x corner.y corner.z is.x is.y is.z
  where
    within : (x y z : ℕ) → x ≤ 16384 → y ≤ 8190 → z ≤ 16384 → nat_le x 16384 && nat_le y 8190 && nat_le z 16384 ≡ true
    within x y z a b c = grind (arith, nat_tests)

area_within : (area : ℕ) → nat_le area 63 ≡ true → area ≤ 63
area_within area good = grind (arith, nat_tests)

area_again : (area : ℕ) → area ≤ 63 → nat_le area 63 ≡ true
area_again area is = grind (arith, nat_tests)

triangle_within : (tri : Tri) → is_triangle tri ≡ true → IsTriangle tri
triangle_within tri good =
    let all = and_parts (is_corner tri.a && is_corner tri.b && is_corner tri.c) (nat_le tri.area 63) good in
    let three = and_parts (is_corner tri.a && is_corner tri.b) (is_corner tri.c) all.0 in
    let two = and_parts (is_corner tri.a) (is_corner tri.b) three.0 in
    record { a = corner_within tri.a two.0; b = corner_within tri.b two.1; c = corner_within tri.c three.1; area = area_within tri.area all.1 }

triangle_again : (tri : Tri) → IsTriangle tri → is_triangle tri ≡ true
triangle_again tri is =
    and_from (is_corner tri.a && is_corner tri.b && is_corner tri.c) (nat_le tri.area 63)
    (and_from (is_corner tri.a && is_corner tri.b) (is_corner tri.c)
    (and_from (is_corner tri.a) (is_corner tri.b) (corner_again tri.a is.a) (corner_again tri.b is.b)) (corner_again tri.c is.c))
    (area_again tri.area is.area)

ten_is : (xs : List ℕ) → length xs ≡ 10 → xs ≡ slice_index xs 0 ∷ slice_index xs 1 ∷ slice_index xs 2 ∷ slice_index xs 3 ∷ slice_index xs 4
    ∷ slice_index xs 5 ∷ slice_index xs 6 ∷ slice_index xs 7 ∷ slice_index xs 8 ∷ slice_index xs 9 ∷ []
ten_is [] long = absurd (omega arith)
ten_is (a ∷ []) long = absurd (omega arith)
ten_is (a ∷ b ∷ []) long = absurd (omega arith)
ten_is (a ∷ b ∷ c ∷ []) long = absurd (omega arith)
ten_is (a ∷ b ∷ c ∷ d ∷ []) long = absurd (omega arith)
ten_is (a ∷ b ∷ c ∷ d ∷ e ∷ xs) long = ap (λ t. a ∷ b ∷ c ∷ d ∷ e ∷ t) (five_is xs (omega arith))

-- a line that is read as a triangle or the end is spelled so, and within its limits
abbrev pub Says : (count : ℕ) (line : List ℕ) → TriLine → Type 0
Says count line (Triangle tri) = (count ≢ 100000) × (line ≡ tri_text tri) × IsTriangle tri
Says count line End = line ≡ codes "end"
Says count line (Fails kind) = ⊤

tri_says : (count : ℕ) (line : List ℕ) → Says count line (tri_line count line)
unfolding tri_line
tri_says count line =
    cond_both (is_too_many count line) (Fails TooManyTriangles) _ (Says count line) (λ many. tt)
    (λ room. cond_both (bytes_eq line (codes "end")) End (tri_in (numbers_of (codes "tri") 10 line)) (Says count line) (λ same. (bytes_eq-Decides line (codes "end")).0 same)
    (λ other. of_numbers room (numbers_of (codes "tri") 10 line) refl))
  where
    of_numbers : is_too_many count line ≡ false → (numbers : Option (List ℕ)) → numbers_of (codes "tri") 10 line ≡ numbers → Says count line (tri_in numbers)
    of_numbers room None is = tt
    of_numbers room (Some numbers) is =
        let form = numbers_take (codes "tri") 10 line numbers is in
        cond_both (is_triangle (tri_of numbers)) (Triangle (tri_of numbers)) (Fails Range) (Says count line)
        (λ good. (
          (λ full. let both = and_from (count == 100000) (has_word (codes "tri") line) (eq-eqb count 100000 full) (has_word-numbers (codes "tri") 9 line numbers is) in absurd cc),
          form.0 ∙ ap (line_text (codes "tri")) (ten_is numbers form.1),
          triangle_within (tri_of numbers) good,
        ))
        (λ bad. tt)

numbers_fit : (tri : Tri) → IsTriangle tri → AreNumbers (tri.a.x ∷ tri.a.y ∷ tri.a.z ∷ tri.b.x ∷ tri.b.y ∷ tri.b.z ∷ tri.c.x ∷ tri.c.y ∷ tri.c.z ∷ tri.area ∷ [])
numbers_fit tri is =
    let ax : tri.a.x ≤ 16384 = is.a.x in
    let ay : tri.a.y ≤ 8190 = is.a.y in
    let az : tri.a.z ≤ 16384 = is.a.z in
    let bx : tri.b.x ≤ 16384 = is.b.x in
    let by : tri.b.y ≤ 8190 = is.b.y in
    let bz : tri.b.z ≤ 16384 = is.b.z in
    let cx : tri.c.x ≤ 16384 = is.c.x in
    let cy : tri.c.y ≤ 8190 = is.c.y in
    let cz : tri.c.z ≤ 16384 = is.c.z in
    let area : tri.area ≤ 63 = is.area in
    (omega arith, (omega arith, (omega arith, (omega arith, (omega arith, (omega arith, (omega arith, (omega arith, (omega arith, (omega arith, tt))))))))))

-- the line of a triangle is read as it, where there is room, and that of the end as the end
tri_again : (count : ℕ) (tri : Tri) → count < 100000 → IsTriangle tri → tri_line count (tri_text tri) ≡ Triangle tri
unfolding tri_line
tri_again count tri room is =
    let numbers = tri.a.x ∷ tri.a.y ∷ tri.a.z ∷ tri.b.x ∷ tri.b.y ∷ tri.b.z ∷ tri.c.x ∷ tri.c.y ∷ tri.c.z ∷ tri.area ∷ [] in
    ap (λ b. cond (b && has_word (codes "tri") (tri_text tri)) (Fails TooManyTriangles) (tri_in (numbers_of (codes "tri") 10 (tri_text tri)))) (ne_eqb count 100000 (λ e. omega arith))
    ∙ (ap tri_in (numbers_again (codes "tri") numbers (numbers_fit tri is))
    ∙ ap (λ b. cond b (Triangle tri) (Fails Range)) (triangle_again tri is))

end_again : (count : ℕ) → tri_line count (codes "end") ≡ End
unfolding tri_line
end_again count = cond-false (count == 100000 && false) (Fails TooManyTriangles) End (and_right (count == 100000) false refl)

-- what the lines before say at each place
abbrev Said : Place → List (List ℕ) → Type 0
Said (AtTris tris) those = (those ≡ map tri_text tris) × AreTriangles tris
Said (AtEnd tris) those = (those ≡ tri_lines tris) × AreTriangles tris

tris_go : (tris : List Tri) (next : Place) (those : List (List ℕ)) (line : List ℕ) → Said (AtTris tris) those → (told : TriLine) → Says (length tris) line told
    → tri_verdict tris told ≡ Goes next → Said next (those ++ line ∷ [])
tris_go tris next those line said (Triangle tri) says e =
    let to : AtTris (tris ++ tri ∷ []) ≡ next = cc in
    let few : length tris ≤ 100000 = said.1.few in
    let other : length tris ≢ 100000 = says.0 in
    let long = length_push tris tri in
    let room : length tris < 100000 = below (length tris) few other in
    subst (λ p. Said p (those ++ line ∷ [])) to (
      ap₂ (λ ls l. ls ++ l ∷ []) said.0 says.1 ∙ sym (map_push tri_text tris tri),
      record { few = omega (arith, long, room); each = All-push IsTriangle tris tri said.1.each says.2 },
    )
  where
    below : (n : ℕ) → n ≤ 100000 → n ≢ 100000 → n < 100000
    below n few other = grind arith
tris_go tris next those line said End says e =
    let to : AtEnd tris ≡ next = cc in
    subst (λ p. Said p (those ++ line ∷ [])) to (ap₂ (λ ls l. ls ++ l ∷ []) said.0 says, said.1)
tris_go tris next those line said (Fails kind) says e = absurd cc

goes : (place next : Place) (those : List (List ℕ)) (line : List ℕ) → Said place those → verdict place line ≡ Goes next → Said next (those ++ line ∷ [])
goes (AtTris tris) next those line said e = tris_go tris next those line said (tri_line (length tris) line) (tri_says (length tris) line) e
goes (AtEnd tris) next those line said e = absurd cc

-- What is read is within its limits, and the bytes spell it.
pub tris_found : (text : List ℕ) (count : ℕ) (tris : List Tri) → value_of (read (tri_format (is_ended text)) (AtTris []) count (lines text)) ≡ Some tris
    → (text ≡ text_of (tri_lines tris)) × AreTriangles tris
tris_found text count tris e = of_result (read (tri_format (is_ended text)) (AtTris []) count (lines text)) refl e
  where
    none_ends : (ended : Bool) (at : Place) (good : List (List ℕ)) → Said at good → value_at ended at ≡ Some tris → (ended ≡ true) × (good ≡ tri_lines tris) × AreTriangles tris
    none_ends ended (AtTris other) good said e = absurd cc
    none_ends true (AtEnd other) good said e = let same : other ≡ tris = some_is e in (refl, said.0 ∙ ap tri_lines same, subst AreTriangles same said.1)
    none_ends false (AtEnd other) good said e = absurd cc

    at_end : (at : Place) (good rest : List (List ℕ)) (more : ℕ) → Said at good → EndsAt (tri_format (is_ended text)) at rest tris more → lines text ≡ good ++ rest
        → (text ≡ text_of (tri_lines tris)) × AreTriangles tris
    at_end at good [] more said ends parts =
        let told = none_ends (is_ended text) at good said ends.0 in
        (sym (whole_text text told.0) ∙ ap text_of (parts ∙ append-nil good ∙ told.1), told.2)
    at_end (AtTris other) good (line ∷ rest) more said ends parts = absurd (no_end (tri_line (length other) line) ends.0)
      where
        no_end : (said : TriLine) → tri_verdict other said ≡ HopEnds tris → ⊥
        no_end (Triangle tri) e = cc
        no_end End e = cc
        no_end (Fails kind) e = cc
    at_end (AtEnd other) good (line ∷ rest) more said ends parts = absurd (let e = ends.0 in cc)

    of_result : (told : Result (List Tri × ℕ) TextFault) → read (tri_format (is_ended text)) (AtTris []) count (lines text) ≡ told → value_of told ≡ Some tris
        → (text ≡ text_of (tri_lines tris)) × AreTriangles tris
    of_result (Ok found) is e =
        let same : found.0 ≡ tris = some_is e in
        let reads = read_takes (tri_format (is_ended text)) (AtTris []) count (lines text) tris found.1 (is ∙ ap (λ t. Ok (t, found.1)) same) in
        let kept = leads_keep (tri_format (is_ended text)) Said goes (AtTris []) [] reads.good reads.at (refl, record { few = omega arith; each = All-nil IsTriangle }) reads.leads in
        at_end reads.at reads.good reads.rest reads.more kept reads.ends reads.parts
    of_result (Err fault) is e = absurd cc

-- lines of triangles lead on
tris_lead : (ended : Bool) (front rest : List Tri) → length front + length rest ≤ 100000 → All IsTriangle rest
    → Leads (tri_format ended) (AtTris front) (map tri_text rest) (AtTris (front ++ rest))
tris_lead ended front [] few each = ap AtTris (sym (append-nil front))
tris_lead ended front (tri ∷ more) few each =
    let long = length_push front tri in (
      AtTris (front ++ tri ∷ []),
      ap (tri_verdict front) (tri_again (length front) tri (omega arith) (All-head IsTriangle tri more each)),
      subst (λ l. Leads (tri_format ended) (AtTris (front ++ tri ∷ [])) (map tri_text more) (AtTris l)) (append_assoc front (tri ∷ []) more)
          (tris_lead ended (front ++ tri ∷ []) more (omega (arith, long)) (All-tail IsTriangle tri more each)),
    )

tris_plain : (tris : List Tri) → All IsTriangle tris → list_all is_line (map tri_text tris) ≡ true
tris_plain [] each = refl
tris_plain (tri ∷ more) each =
    and_from (is_line (tri_text tri)) (list_all is_line (map tri_text more))
    (is_line-line_text (codes "tri") (tri.a.x ∷ tri.a.y ∷ tri.a.z ∷ tri.b.x ∷ tri.b.y ∷ tri.b.z ∷ tri.c.x ∷ tri.c.y ∷ tri.c.z ∷ tri.area ∷ []) refl (numbers_fit tri (All-head IsTriangle tri more each)))
    (tris_plain more (All-tail IsTriangle tri more each))

-- The lines of the text of triangles.
lines_tris : (text : List ℕ) (tris : List Tri) → AreTriangles tris → text ≡ text_of (tri_lines tris) → lines text ≡ tri_lines tris
lines_tris text tris limits spelled =
    let all = tri_lines tris in
    let plain : list_all is_line all ≡ true = list_all-append is_line (map tri_text tris) (codes "end" ∷ []) ∙ and_from _ _ (tris_plain tris limits.each) refl in
    ap lines (spelled ∙ sym (append-nil (text_of all))) ∙ (lines_again all [] plain ∙ append-nil all)

-- The text of triangles is read as these.
pub tris_again : (text : List ℕ) (count : ℕ) (tris : List Tri) → AreTriangles tris → text ≡ text_of (tri_lines tris)
    → value_of (read (tri_format (is_ended text)) (AtTris []) count (lines text)) ≡ Some tris
unfolding read
tris_again text count tris limits spelled =
    let ended : is_ended text ≡ true = ap is_ended spelled ∙ text_ended (tri_lines tris) in
    let few : length tris ≤ 100000 = limits.few in
    let n = count + length (map tri_text tris) in
    ap₂ (λ b ls. value_of (read (tri_format b) (AtTris []) count ls)) ended (lines_tris text tris limits spelled)
    ∙ (ap value_of (leads_read (tri_format true) (AtTris []) count (map tri_text tris) (codes "end" ∷ []) (AtTris tris) (tris_lead true [] tris (omega arith) limits.each))
    ∙ ap (λ v. value_of (read_on (tri_verdict tris v) n (λ next. read_end (value_at true next) (n + 1)))) (end_again (length tris)))

-- The text of triangles begins with a line of another first word than `cost`.
pub tris_go_on : (text : List ℕ) (tris : List Tri) → AreTriangles tris → text ≡ text_of (tri_lines tris) → GoesOn text
tris_go_on text tris limits spelled = at_first tris (lines_tris text tris limits spelled)
  where
    at_first : (some : List Tri) → lines text ≡ tri_lines some → GoesOn text
    at_first [] those = record { line = codes "end"; more = []; those = those; other = refl }
    at_first (tri ∷ more) those = record { line = tri_text tri; more = tri_lines more; those = those; other = refl }

-- reading has come to a line behind the header: these are the triangles so far
pub record HasTris (text rest : List ℕ) (header : ℕ) (tris : List Tri) : Type 0 where
  pub ended : is_ended text ≡ is_ended rest
  pub few : length tris ≤ 100000
  pub reads : read (tri_format (is_ended text)) (AtTris []) header (lines text) ≡ read (tri_format (is_ended text)) (AtTris tris) (header + length tris) (lines rest)

at_line : (ended : Bool) (place : Place) (count : ℕ) (those : List (List ℕ)) (line : List ℕ) (more : List (List ℕ)) (told : Verdict Place (List Tri))
    → those ≡ line ∷ more → verdict place line ≡ told
    → read (tri_format ended) place count those ≡ read_on told count (λ next. read (tri_format ended) next (count + 1) more)
unfolding read
at_line ended place count those line more told parts is =
    ap (read (tri_format ended) place count) parts ∙ ap (λ v. read_on v count (λ next. read (tri_format ended) next (count + 1) more)) is

at_stop : (ended : Bool) (place : Place) (count : ℕ) (those : List (List ℕ)) → those ≡ [] → read (tri_format ended) place count those ≡ read_end (value_at ended place) count
unfolding read
at_stop ended place count those none = ap (read (tri_format ended) place count) none

pub HasTris_more : (text rest : List ℕ) (header : ℕ) (tris : List Tri) (line after : List ℕ) (told : TriLine) (number : ℕ) (tri : Tri) (longer : List Tri) → HasTris text rest header tris
    → lines rest ≡ line ∷ lines after → is_ended rest ≡ is_ended after → told ≡ tri_line number line → number ≡ length tris → told ≡ Triangle tri → longer ≡ tris ++ tri ∷ []
    → HasTris text after header longer
HasTris_more text rest header tris line after told number tri longer has those ended reads counted which more =
    let is : told ≡ tri_line (length tris) line = reads ∙ ap (λ n. tri_line n line) counted in
    let long = length_push tris tri in
    let says = subst (Says (length tris) line) (sym is ∙ which) (tri_says (length tris) line) in
    let other : length tris ≢ 100000 = says.0 in
    let few : length tris ≤ 100000 = has.few in
    let room : length tris < 100000 = below (length tris) few other in
    let next : header + length tris + 1 ≡ header + length (tris ++ tri ∷ []) = omega (arith, long) in
    rw more (record {
      ended = has.ended ∙ ended;
      few = omega (arith, long, room);
      reads = has.reads ∙ (at_line (is_ended text) (AtTris tris) (header + length tris) (lines rest) line (lines after) (Goes (AtTris (tris ++ tri ∷ []))) those (ap (tri_verdict tris) (sym is ∙ which))
          ∙ ap (λ n. read (tri_format (is_ended text)) (AtTris (tris ++ tri ∷ [])) n (lines after)) next);
    })
  where
    below : (n : ℕ) → n ≤ 100000 → n ≢ 100000 → n < 100000
    below n few other = grind arith

pub tris_fail : (text rest : List ℕ) (header : ℕ) (tris : List Tri) (line after : List ℕ) (told : TriLine) (count number : ℕ) (kind : FaultKind) (refusal : FieldRefusal) → HasTris text rest header tris
    → lines rest ≡ line ∷ lines after → told ≡ tri_line number line → number ≡ length tris → told ≡ Fails kind → refusal ≡ refusals.Fault (fault_at (header + count + 1) kind) → count ≡ length tris
    → IsReading (read (tri_format (is_ended text)) (AtTris []) header (lines text)) (Err refusal)
tris_fail text rest header tris line after told count number kind refusal has those reads numbered which refused counted =
    let is : told ≡ tri_line (length tris) line = reads ∙ ap (λ n. tri_line n line) numbered in
    rw (refused, counted) (has.reads ∙ at_line (is_ended text) (AtTris tris) (header + length tris) (lines rest) line (lines after) (Refuses kind) those (ap (tri_verdict tris) (sym is ∙ which)))

pub tris_cut : (text rest : List ℕ) (header : ℕ) (tris : List Tri) (count : ℕ) (refusal : FieldRefusal) → HasTris text rest header tris → lines rest ≡ []
    → refusal ≡ refusals.Fault (fault_at (header + count + 1) Unfinished) → count ≡ length tris
    → IsReading (read (tri_format (is_ended text)) (AtTris []) header (lines text)) (Err refusal)
tris_cut text rest header tris count refusal has none refused counted =
    rw (refused, counted) (has.reads ∙ at_stop (is_ended text) (AtTris tris) (header + length tris) (lines rest) none)

pub tris_end : (text rest : List ℕ) (header : ℕ) (tris : List Tri) (line after : List ℕ) (told : TriLine) (count number : ℕ) (result : Result (Items Tri) FieldRefusal) → HasTris text rest header tris
    → lines rest ≡ line ∷ lines after → is_ended rest ≡ is_ended after → told ≡ tri_line number line → number ≡ length tris → told ≡ End → count ≡ length tris
    → IsReading (read (tri_format (is_ended after)) (AtEnd tris) (header + count + 1) (lines after)) result
    → IsReading (read (tri_format (is_ended text)) (AtTris []) header (lines text)) result
tris_end text rest header tris line after told count number result has those ended reads numbered which counted reading =
    let is : told ≡ tri_line (length tris) line = reads ∙ ap (λ n. tri_line n line) numbered in
    subst (λ t. IsReading t result)
    (sym (has.reads ∙ (at_line (is_ended text) (AtTris tris) (header + length tris) (lines rest) line (lines after) (Goes (AtEnd tris)) those (ap (tri_verdict tris) (sym is ∙ which))
    ∙ ap₂ (λ b n. read (tri_format b) (AtEnd tris) (header + n + 1) (lines after)) (has.ended ∙ ended) (sym counted)))) reading

-- what follows the end
pub end_line : (rest line after : List ℕ) (tris : List Tri) (count : ℕ) (kind : FaultKind) (refusal : FieldRefusal) → lines rest ≡ line ∷ lines after → kind ≡ wrong_behind (length tris) line
    → refusal ≡ refusals.Fault (fault_at (count + 1) kind) → IsReading (read (tri_format (is_ended rest)) (AtEnd tris) count (lines rest)) (Err refusal)
end_line rest line after tris count kind refusal those is refused =
    rw refused (at_line (is_ended rest) (AtEnd tris) count (lines rest) line (lines after) (Refuses kind) those (ap Refuses (sym is)))

pub end_open : (rest : List ℕ) (tris : List Tri) (count : ℕ) (refusal : FieldRefusal) → lines rest ≡ [] → is_ended rest ≡ false
    → refusal ≡ refusals.Fault (fault_at (count + 1) Unfinished) → IsReading (read (tri_format (is_ended rest)) (AtEnd tris) count (lines rest)) (Err refusal)
end_open rest tris count refusal none unended refused =
    rw refused (at_stop (is_ended rest) (AtEnd tris) count (lines rest) none ∙ ap (λ b. read_end (value_at b (AtEnd tris)) count) unended)

pub end_well : (rest : List ℕ) (tris : List Tri) (count : ℕ) → lines rest ≡ [] → is_ended rest ≡ true
    → value_of (read (tri_format (is_ended rest)) (AtEnd tris) count (lines rest)) ≡ Some tris
end_well rest tris count none ended = ap value_of (at_stop (is_ended rest) (AtEnd tris) count (lines rest) none ∙ ap (λ b. read_end (value_at b (AtEnd tris)) count) ended)

-- what the header's reader does with the front of a text
abbrev pub ReadsHeader : List ℕ → Result HeaderText FieldRefusal → Type 0
ReadsHeader bytes result = (setting : Setting) (text rest : List ℕ) → IsSetting setting → IsHeaderText text setting → GoesOn rest → bytes ≡ text ++ rest
    → GivesHeader setting (length text) result

-- what was read of the lines behind a header
abbrev pub ReadsTris : List ℕ → HeaderText → Result (Items Tri) FieldRefusal → Type 0
ReadsTris body header result = IsReading (read (tri_format (is_ended body)) (AtTris []) header.lines (lines body)) result

begins_of : (bytes body : List ℕ) (header : HeaderText) → IsSetting header.setting → IsHeaderText (take header.used bytes) header.setting → body ≡ drop header.used bytes
    → BeginsWithHeader bytes (take header.used bytes) body header.setting
begins_of bytes body header limits spelled rest = record {
  parts = sym (take-append-drop header.used bytes) ∙ ap (λ xs. take header.used bytes ++ xs) (sym rest);
  spelled = spelled;
  limits = limits;
}

pub found_of : (bytes body : List ℕ) (header : HeaderText) (result : Result (Items Tri) FieldRefusal) (tris : List Tri) → IsSetting header.setting
    → IsHeaderText (take header.used bytes) header.setting → header.used ≤ length bytes → body ≡ drop header.used bytes → ReadsTris body header result → result ≡ Ok tris
    → IsTriText bytes header.setting header.used tris
found_of bytes body header result tris limits spelled used rest reading is =
    let told = tris_found body header.lines tris (subst (λ r. ReadsTris body header r) is reading) in record {
      front = take header.used bytes;
      back = body;
      begins = begins_of bytes body header limits spelled rest;
      used = sym (length-take-le header.used bytes used);
      spelled = told.0;
      limits = told.1;
    }

-- a text of triangles has no fault in its header
pub no_header_fault : (bytes : List ℕ) (result : Result HeaderText FieldRefusal) (refusal : FieldRefusal) → ReadsHeader bytes result → result ≡ Err refusal
    → (setting : Setting) (header : ℕ) (tris : List Tri) → IsTriText bytes setting header tris → ⊥
no_header_fault bytes result refusal reads is setting header tris there =
    subst (λ r. GivesHeader setting (length there.front) r) is
    (reads setting there.front there.back there.begins.limits there.begins.spelled (tris_go_on there.back tris there.limits there.spelled) there.begins.parts)

-- what was read is what the text says
record SaysSo (body : List ℕ) (header : HeaderText) (setting : Setting) (used : ℕ) (tris : List Tri) : Type 0 where
  setting_is : header.setting ≡ setting
  used_is : header.used ≡ used
  told : value_of (read (tri_format (is_ended body)) (AtTris []) header.lines (lines body)) ≡ Some tris

says_so : (bytes body : List ℕ) (read_as : Result HeaderText FieldRefusal) (header : HeaderText) → ReadsHeader bytes read_as → read_as ≡ Ok header → body ≡ drop header.used bytes
    → (setting : Setting) (used : ℕ) (tris : List Tri) → IsTriText bytes setting used tris → SaysSo body header setting used tris
says_so bytes body read_as header reads is rest setting used tris there =
    let parts = subst (λ r. GivesHeader setting (length there.front) r) is
    (reads setting there.front there.back there.begins.limits there.begins.spelled (tris_go_on there.back tris there.limits there.spelled) there.begins.parts) in
    let behind : body ≡ there.back =
    rest ∙ (ap (λ n. drop n bytes) parts.1 ∙ (ap (λ xs. drop (length there.front) xs) there.begins.parts ∙ drop_at there.front there.back (length there.front) refl)) in record {
      setting_is = parts.0;
      used_is = parts.1 ∙ sym there.used;
      told = ap (λ b. value_of (read (tri_format (is_ended b)) (AtTris []) header.lines (lines b))) behind ∙ tris_again there.back header.lines tris there.limits there.spelled;
    }

pub only_of : (bytes body : List ℕ) (read_as : Result HeaderText FieldRefusal) (header : HeaderText) (result : Result (Items Tri) FieldRefusal) (found : List Tri) → ReadsHeader bytes read_as
    → read_as ≡ Ok header → body ≡ drop header.used bytes → ReadsTris body header result → result ≡ Ok found
    → (setting : Setting) (used : ℕ) (tris : List Tri) → IsTriText bytes setting used tris → (header.setting ≡ setting) × (header.used ≡ used) × (found ≡ tris)
only_of bytes body read_as header result found reads is rest reading which setting used tris there =
    let so = says_so bytes body read_as header reads is rest setting used tris there in
    let told = subst (λ r. ReadsTris body header r) which reading in
    (so.setting_is, so.used_is, some_is (sym told ∙ so.told))

pub no_tris_fault : (bytes body : List ℕ) (read_as : Result HeaderText FieldRefusal) (header : HeaderText) (result : Result (Items Tri) FieldRefusal) (refusal : FieldRefusal)
    → ReadsHeader bytes read_as → read_as ≡ Ok header → body ≡ drop header.used bytes → ReadsTris body header result → result ≡ Err refusal
    → (setting : Setting) (used : ℕ) (tris : List Tri) → IsTriText bytes setting used tris → Gives setting used tris (Err refusal)
no_tris_fault bytes body read_as header result refusal reads is rest reading which setting used tris there =
    let so = says_so bytes body read_as header reads is rest setting used tris there in
    of_refusal refusal (subst (λ r. ReadsTris body header r) which reading) so.told
  where
    of_refusal : (refusal : FieldRefusal) → ReadsTris body header (Err refusal) → value_of (read (tri_format (is_ended body)) (AtTris []) header.lines (lines body)) ≡ Some tris
        → Gives setting used tris (Err refusal)
    of_refusal (refusals.Fault fault) told so = let none = sym (ap value_of told) ∙ so in absurd cc
    of_refusal refusals.OutOfMemory told so = tt

pub first_of : (bytes body : List ℕ) (header : HeaderText) (result : Result (Items Tri) FieldRefusal) (refusal : FieldRefusal) → IsSetting header.setting
    → IsHeaderText (take header.used bytes) header.setting → header.lines ≡ length (lines (take header.used bytes)) → GoesOn (drop header.used bytes) → body ≡ drop header.used bytes
    → ReadsTris body header result → result ≡ Err refusal → (fault : TextFault) → ◌≡◌ {A = Result TriText FieldRefusal} (Err refusal) (Err (refusals.Fault fault)) → IsTextFault bytes fault
first_of bytes body header result refusal limits spelled counted on rest reading is fault which =
    let same : refusal ≡ refusals.Fault fault = err_is which in
    let told = subst (λ r. ReadsTris body header (Err r)) same (subst (λ r. ReadsTris body header r) is reading) in
    inr (record {
      setting = header.setting;
      front = take header.used bytes;
      back = body;
      begins = begins_of bytes body header limits spelled rest;
      on = subst GoesOn (sym rest) on;
      fails = subst (λ n. IsFirstFault (tri_format (is_ended body)) (AtTris []) n (lines body) fault) counted
          (first_fault (tri_format (is_ended body)) (AtTris []) header.lines (lines body) fault told);
    })
