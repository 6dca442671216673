-- The cells on the walkable spans, span by span.
use Rattle.std.proofs.Common.{◌≡◌, ℕ, ◌+◌, ◌<◌, ◌≤◌, ◌++◌, Bool, true, false, cond, length, List, [], ◌∷◌, take, drop, map, get_or, refl, sym, ap, ◌∙◌, subst, arith}
use Rattle.std.specs.Prelude.{All, ◌==◌, not, slice_get}
use Rattle.std.specs.List.{filter, zip}
use Rattle.std.proofs.lemmas.Bool.{eq-eqb, ne_eqb, not_from_true, not_from_false, cond-true}
use Rattle.std.proofs.lemmas.List.{get_or-map, length-map, length-append, get_or_append_left, map-append, append-nil, take_at, get_or_at, drop_more, take-append-drop, take_all}
use Rattle.std.proofs.lemmas.List.Elements.{filter-append, filter_more, All-map}
use Rattle.std.proofs.lemmas.Slice.Zip.{length-zip, get_or-zip}
use Rattle.nav_ground.specs.declared.field.Span.{Span}
use Rattle.nav_ground.specs.declared.field.Field.{Field}
use Rattle.nav_ground.specs.declared.cell.Cell.{Cell}
use Rattle.nav_ground.specs.Fields.{IsField, IsSpan, AreAreas}
use Rattle.nav_ground.specs.Column.{ceiling_of}
use Rattle.nav_ground.specs.Connection.{walkable_spans, unconnected_cell, unconnected_cells}
use Rattle.nav_ground.proofs.Walkable.{walkable, walkable_order}
use Rattle.compact_layer.specs.Making.{cell_with, level_over, ceiling_over}
use Rattle.compact_layer.proofs.Ceilings.{AreSpans, ceiling_is}
use Rattle.compact_layer.proofs.Levels.{level_is, level_low}

-- the spans with the areas that stand beside them, and which of them are walkable
abbrev spans_with : List Span → List ℕ → List Span
spans_with spans areas = map (λ (beside : Span × ℕ). record beside.0 { area = beside.1 }) (zip spans areas)

abbrev is_walkable : Span → Bool
is_walkable span = not (span.area == 0)

-- the cells on those among the first spans
abbrev pub cells_so_far : List Span → List ℕ → ℕ → List Cell
cells_so_far spans areas i = map (unconnected_cell spans (walkable_spans spans areas)) (filter is_walkable (take i (spans_with spans areas)))

-- the spans of a field, and the walkable ones, are spans of the largest field
wider : (width depth : ℕ) (span : Span) → width ≤ 1024 → depth ≤ 1024 → IsSpan width depth span → IsSpan 1024 1024 span
wider width depth span wide deep here =
    record { x = omega (arith, here.x, wide); z = omega (arith, here.z, deep); solid = here.solid; top = here.top; area = here.area }

pub spans_of_field : (field : Field) → IsField field → AreSpans field.spans
spans_of_field field rules' = record {
  each = λ k d there. wider field.width field.depth _ rules'.width rules'.depth (rules'.spans k d there);
  order = rules'.order;
}

walkable_of_field : (field : Field) (areas : List ℕ) → IsField field → AreAreas areas → length areas ≡ length field.spans
    → AreSpans (walkable_spans field.spans areas)
walkable_of_field field areas rules' limits same =
    let each = walkable field areas rules' limits same in
    record {
      each = λ k d there. wider field.width field.depth _ rules'.width rules'.depth (each k d there).limits;
      order = walkable_order field.spans areas same rules'.order;
    }

-- an element that a filter keeps, among those that it keeps
pub record IsKept {X : Type 0} (p : X → Bool) (xs : List X) (i : ℕ) (d : X) : Type 0 where
  pub there : length (filter p (take i xs)) < length (filter p xs)
  pub at : get_or (filter p xs) (length (filter p (take i xs))) d ≡ get_or xs i d
  pub before : take (length (filter p (take i xs))) (filter p xs) ≡ filter p (take i xs)

kept_at : {X : Type 0} (p : X → Bool) (xs : List X) (i : ℕ) (d : X) → i < length xs → p (get_or xs i d) ≡ true → IsKept p xs i d
kept_at p xs i d there passes =
    let first = filter p (take i xs) in
    let last = filter p (drop (i + 1) xs) in
    let split : filter p xs ≡ first ++ get_or xs i d ∷ last =
    ap (filter p) (sym (take-append-drop i xs)) ∙ filter-append p (take i xs) (drop i xs)
    ∙ ap (λ ys. first ++ filter p ys) (drop_more xs i d there)
    ∙ ap (λ ys. first ++ ys) (cond-true (p (get_or xs i d)) (get_or xs i d ∷ last) last passes) in
    record {
      there = let long = ap length split ∙ length-append first (get_or xs i d ∷ last) in omega (arith, long);
      at = ap (λ ys. get_or ys (length first) d) split ∙ get_or_at first (get_or xs i d) last d (length first) refl;
      before = ap (take (length first)) split ∙ take_at first (get_or xs i d ∷ last) (length first) refl;
    }

-- a span with its area
span_with : (spans : List Span) (areas : List ℕ) (i : ℕ) (d : Span) → length areas ≡ length spans → i < length spans
    → get_or (spans_with spans areas) i d ≡ record (get_or spans i d) { area = get_or areas i 0 }
span_with spans areas i d same there =
    get_or-map (λ (beside : Span × ℕ). record beside.0 { area = beside.1 }) (zip spans areas) i (d, 0) d (omega (arith, there, same, length-zip spans areas))
    ∙ ap (λ (beside : Span × ℕ). record beside.0 { area = beside.1 }) (get_or-zip spans areas i (d, 0) there (omega (arith, there, same)))

length-spans_with : (spans : List Span) (areas : List ℕ) → length areas ≡ length spans → length (spans_with spans areas) ≡ length spans
length-spans_with spans areas same =
    let pairs = length-map (zip spans areas) (λ (beside : Span × ℕ). record beside.0 { area = beside.1 }) in
    omega (arith, pairs, length-zip spans areas, same)

so_far_more : (spans : List Span) (areas : List ℕ) (i : ℕ) (d : Span) (walkable : Bool) → length areas ≡ length spans → i < length spans
    → is_walkable (get_or (spans_with spans areas) i d) ≡ walkable
    → cells_so_far spans areas (i + 1)
    ≡ cells_so_far spans areas i ++ map (unconnected_cell spans (walkable_spans spans areas)) (cond walkable (get_or (spans_with spans areas) i d ∷ []) [])
so_far_more spans areas i d walkable same there is =
    let with' = spans_with spans areas in
    let cell : Span → Cell = unconnected_cell spans (walkable_spans spans areas) in
    ap (map cell) (filter_more is_walkable with' i d (omega (arith, there, length-spans_with spans areas same)))
    ∙ map-append cell (filter is_walkable (take i with')) (cond (is_walkable (get_or with' i d)) (get_or with' i d ∷ []) [])
    ∙ ap (λ b. cells_so_far spans areas i ++ map cell (cond b (get_or with' i d ∷ []) [])) is

-- the level of the cell on the next walkable span
level_so_far : (field : Field) (areas : List ℕ) (i : ℕ) (d : Span) (cells : List Cell) → IsField field → AreAreas areas
    → length areas ≡ length field.spans → i < length field.spans → is_walkable (get_or (spans_with field.spans areas) i d) ≡ true
    → cells ≡ cells_so_far field.spans areas i
    → level_over cells (get_or field.spans i d)
    ≡ (unconnected_cell field.spans (walkable_spans field.spans areas) (record (get_or field.spans i d) { area = get_or areas i 0 })).at.level
level_so_far field areas i d cells rules' limits same there open' before =
    let spans = field.spans in
    let walkable = walkable_spans spans areas in
    let on : Span → Cell = unconnected_cell spans walkable in
    let with' = spans_with spans areas in
    let n = length (filter is_walkable (take i with')) in
    let kept = kept_at is_walkable with' i d (omega (arith, there, length-spans_with spans areas same)) open' in
    let P : Span → Type 0 = λ (span : Span). level_over (map on (take n walkable)) span ≡ (on span).at.level in
    ap (λ (cells : List Cell). level_over cells (get_or spans i d)) (before ∙ sym (ap (map on) kept.before))
    ∙ subst P (kept.at ∙ span_with spans areas i d same there)
    (level_is spans walkable n d (walkable_of_field field areas rules' limits same) kept.there)

cell_on : (spans others : List Span) (span : Span) (level ceiling : ℕ) → level ≡ (unconnected_cell spans others span).at.level → ceiling ≡ ceiling_of spans span
    → cell_with span level ceiling ≡ unconnected_cell spans others span
cell_on spans others span level ceiling e f =
    ap (λ l. cell_with span l ceiling) e ∙ ap (λ c. cell_with span (unconnected_cell spans others span).at.level c) f

-- one more span that is walkable
pub one_more_cell : (field : Field) (areas : List ℕ) (i : ℕ) (d : Span) (cells : List Cell) (level ceiling : ℕ) → IsField field → AreAreas areas
    → length areas ≡ length field.spans → i < length field.spans → (get_or areas i 0 ≡ 0 → ⊥)
    → level ≡ level_over cells (get_or field.spans i d) → ceiling ≡ ceiling_over (slice_get field.spans (i + 1)) (get_or field.spans i d)
    → cells ≡ cells_so_far field.spans areas i
    → cells ++ cell_with (record (get_or field.spans i d) { area = get_or areas i 0 }) level ceiling ∷ [] ≡ cells_so_far field.spans areas (i + 1)
one_more_cell field areas i d cells level ceiling rules' limits same there some on_level on_ceiling before =
    let spans = field.spans in
    let with' = spans_with spans areas in
    let on : Span → Cell = unconnected_cell spans (walkable_spans spans areas) in
    let at = span_with spans areas i d same there in
    let open' : is_walkable (get_or with' i d) ≡ true =
    ap is_walkable at ∙ not_from_false (get_or areas i 0 == 0) (ne_eqb (get_or areas i 0) 0 some) in
    let level_is' = on_level ∙ level_so_far field areas i d cells rules' limits same there open' before in
    let ceiling_is' = on_ceiling ∙ sym (ceiling_is spans i d (spans_of_field field rules') there) in
    let cell_is = cell_on spans (walkable_spans spans areas) (record (get_or spans i d) { area = get_or areas i 0 }) level ceiling level_is' ceiling_is' in
    ap (λ (xs : List Cell). xs ++ cell_with (record (get_or spans i d) { area = get_or areas i 0 }) level ceiling ∷ []) before
    ∙ ap (λ (c : Cell). cells_so_far spans areas i ++ c ∷ []) (cell_is ∙ ap on (sym at))
    ∙ sym (so_far_more spans areas i d true same there open')

-- one more span that is not
pub one_more_blocked : (spans : List Span) (areas : List ℕ) (i : ℕ) (d : Span) (cells : List Cell) → length areas ≡ length spans → i < length spans
    → get_or areas i 0 ≡ 0 → cells ≡ cells_so_far spans areas i → cells ≡ cells_so_far spans areas (i + 1)
one_more_blocked spans areas i d cells same there none before =
    let closed : is_walkable (get_or (spans_with spans areas) i d) ≡ false =
    ap is_walkable (span_with spans areas i d same there) ∙ not_from_true (get_or areas i 0 == 0) (eq-eqb (get_or areas i 0) 0 none) in
    before ∙ sym (append-nil (cells_so_far spans areas i)) ∙ sym (so_far_more spans areas i d false same there closed)

-- all spans
pub all_cells : (field : Field) (areas : List ℕ) (i : ℕ) (cells : List Cell) → length areas ≡ length field.spans → length field.spans ≤ i
    → cells ≡ cells_so_far field.spans areas i → cells ≡ unconnected_cells field areas
all_cells field areas i cells same all before =
    before ∙ ap (λ (spans : List Span). map (unconnected_cell field.spans (walkable_spans field.spans areas)) (filter is_walkable spans))
    (take_all i (spans_with field.spans areas) (omega (arith, all, length-spans_with field.spans areas same)))

-- the levels of the cells so far, and of all cells of a field
level_at : (spans walkable : List Span) → AreSpans walkable → All (λ (span : Span). (unconnected_cell spans walkable span).at.level ≤ 8191) walkable
level_at spans walkable rules' k d there =
    let here = rules'.each k d there in
    omega (arith, level_low walkable k d rules' there, here.solid, here.top)

pub levels_of_field : (field : Field) (areas : List ℕ) → IsField field → AreAreas areas → length areas ≡ length field.spans
    → All (λ (cell : Cell). cell.at.level ≤ 8191) (unconnected_cells field areas)
levels_of_field field areas rules' limits same =
    let walkable = walkable_spans field.spans areas in
    All-map (λ (cell : Cell). cell.at.level ≤ 8191) (unconnected_cell field.spans walkable) walkable
    (level_at field.spans walkable (walkable_of_field field areas rules' limits same))

pub levels_so_far : (field : Field) (areas : List ℕ) (i : ℕ) → IsField field → AreAreas areas → length areas ≡ length field.spans
    → All (λ (cell : Cell). cell.at.level ≤ 8191) (cells_so_far field.spans areas i)
levels_so_far field areas i rules' limits same =
    let spans = field.spans in
    let walkable = walkable_spans spans areas in
    let first = filter is_walkable (take i (spans_with spans areas)) in
    let rest = filter is_walkable (drop i (spans_with spans areas)) in
    let split : walkable ≡ first ++ rest =
    ap (filter is_walkable) (sym (take-append-drop i (spans_with spans areas)))
    ∙ filter-append is_walkable (take i (spans_with spans areas)) (drop i (spans_with spans areas)) in
    let P : Span → Type 0 = λ (span : Span). (unconnected_cell spans walkable span).at.level ≤ 8191 in
    let Q : List Span → Type 0 = λ (list : List Span). All P list in
    All-map (λ (cell : Cell). cell.at.level ≤ 8191) (unconnected_cell spans walkable) first
    (λ k d there.
    subst P (get_or_append_left first rest d k there)
    (subst Q split (level_at spans walkable (walkable_of_field field areas rules' limits same)) k d (omega (arith, there, length-append first rest))))
