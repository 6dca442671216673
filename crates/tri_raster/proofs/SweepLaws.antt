-- Rows and columns one after the other, and the field at their end.
use Rattle.std.proofs.Common.{◌≡◌, ℕ, zero, suc, ◌+◌, ◌-◌, ◌<◌, ◌≤◌, ◌⊎◌, inl, inr, List, [], ◌∷◌, ◌++◌, length, get_or, set, filter, true, ap, sym, subst, ◌∙◌, refl, arith}
use Rattle.std.specs.Prelude.{All, AllPairs, Any, Contains, Result, Ok, Err}
use Rattle.std.proofs.lemmas.Bool.{cases_lt, cases_eq}
use Rattle.std.proofs.lemmas.List.{length-append, get_or_append_left, get_or-append_right, length-set, get_or-set_same, get_or-set_other, get_or_read}
use Rattle.std.proofs.lemmas.List.Elements.{All-contains, All-nil, All-append, Contains-append_left, Contains-append_right, Contains-get_or, All-filter, filter_passes}
use Rattle.nav_ground.specs.declared.field.Field.{Field}
use Rattle.nav_ground.specs.declared.field.Span.{Span}
use Rattle.nav_ground.specs.declared.setting.Setting.{Setting}
use Rattle.tri_raster.specs.declared.triangle.Bound.{Bound}
use Rattle.tri_raster.specs.declared.triangle.Hits.{Hits}
use Rattle.tri_raster.specs.declared.triangle.Shadow.{Shadow}
use Rattle.tri_raster.specs.declared.triangle.Tri.{Tri}
use Rattle.tri_raster.specs.Bounds.{bound_at}
use Rattle.tri_raster.specs.Rows.{MeetsRow, AreRowShadows, shadow_of}
use Rattle.tri_raster.specs.Triangles.{IsTriangle}
use Rattle.tri_raster.specs.Rasters.{IsShadow, IsSpanOf, HoldsShadow, IsSpanBefore, IsRaster, HasManySpans}
use Rattle.tri_raster.specs.ActiveRows.{first_row, end_row, BeginIn, AreByRow, MayReach, CanEnter, reaches_row}
use Rattle.tri_raster.specs.Columns.{IsLimited, Covers, IsCovered, IsUpright, StandFor, AreKept, Reaches, IsGroupSpan, AreGroupSpans, AreColumnSpans}
use Rattle.tri_raster.specs.declared.text.RasterRefusal.{RasterRefusal}
use Rattle.tri_raster.specs.declared.text.RasterRefusal.TheVariants as refusals
use Rattle.tri_raster.specs.Sweeps.{column_at, AreAdded, IsColumnBefore, AreSpansBefore, AppendsSpans, ExceedsSpans, HasPushed, IsRowOf, HasRow, HasRows, AreEmpty, IsAtRow, IsBeforeRow}
use Rattle.tri_raster.proofs.LinkLaws.{span_of_group}
use Rattle.tri_raster.proofs.ShadowLaws.{each_of, any_of, member_of, kept_on, kept_more, kept_passed, solid_shadow, limited_shadow}
use Rattle.tri_raster.proofs.ActiveLaws.{meets_row, reaches_from}

-- two lists in order, of which the first stands before the second
pairs_on : {X : Type 0} (R : X → X → Type 0) (xs ys : List X) → AllPairs R xs → AllPairs R ys → ((a b : X) → Contains xs a → Contains ys b → R a b)
    → AllPairs R (xs ++ ys)
pairs_on {X = X} R xs ys first last across i j d less in' = by_place (cases_lt i (length xs)) (cases_lt j (length xs))
  where
    long : length (xs ++ ys) ≡ length xs + length ys
    long = length-append xs ys

    L : (k : ℕ) → k < length xs → get_or (xs ++ ys) k d ≡ get_or xs k d
    L k there = get_or_append_left xs ys d k there

    B : (k : ℕ) → length xs ≤ k → get_or (xs ++ ys) k d ≡ get_or ys (k - length xs) d
    B k there = get_or-append_right xs ys (length xs) k d refl there

    by_place : (i < length xs) ⊎ (length xs ≤ i) → (j < length xs) ⊎ (length xs ≤ j) → R (get_or (xs ++ ys) i d) (get_or (xs ++ ys) j d)
    by_place (inl left) (inl right) =
        let P : X → Type 0 = λ a. R a (get_or (xs ++ ys) j d) in
        subst P (sym (L i left)) (subst (R (get_or xs i d)) (sym (L j right)) (first i j d less right))
    by_place (inl left) (inr right) =
        let P : X → Type 0 = λ a. R a (get_or (xs ++ ys) j d) in
        subst P (sym (L i left)) (subst (R (get_or xs i d)) (sym (B j right)) (across (get_or xs i d) (get_or ys (j - length xs) d)
        (Contains-get_or xs i d left) (Contains-get_or ys (j - length xs) d (omega (arith, in', long, right)))))
    by_place (inr left) (inl right) = absurd (omega (arith, left, right, less))
    by_place (inr left) (inr right) =
        let P : X → Type 0 = λ a. R a (get_or (xs ++ ys) j d) in
        subst P (sym (B i left)) (subst (R (get_or ys (i - length xs) d)) (sym (B j right)) (last (i - length xs) (j - length xs) d (omega (arith, left, less))
        (omega (arith, in', long, right))))

module _ (setting : Setting) (tris : List Tri) (x z : ℕ) (shadows kept : List Shadow) (before made : List Span)
    (so_far : AreSpansBefore setting tris x z before) (are_kept : AreKept tris x z shadows) (in_x : x < setting.width) (in_z : z < setting.depth)
    (stand : StandFor shadows kept) (groups : AreGroupSpans setting.agent.climb x z kept made) where
  abbrev Of : Span → Type 0
  Of = IsSpanOf setting.agent.climb tris

  abbrev Inside : Span → Type 0
  Inside span = (span.x < setting.width) × (span.z < setting.depth)

  still : AreKept tris x z kept
  still = kept_on tris x z shadows kept are_kept stand

  group_of : (span : Span) → Contains made span → IsGroupSpan setting.agent.climb x z kept span
  group_of span there = All-contains (IsGroupSpan setting.agent.climb x z kept) made span groups.each there

  made_of : All Of made
  made_of = each_of Of made (λ span there. span_of_group setting.agent.climb tris x z kept span still (group_of span there))

  made_inside : All Inside made
  made_inside = each_of Inside made (λ span there.
      let group = group_of span there in
      (omega (arith, group.column.0, in_x), omega (arith, group.column.1, in_z)))

  all_of : All Of (before ++ made)
  all_of = All-append Of before made so_far.each made_of

  all_inside : All Inside (before ++ made)
  all_inside = All-append Inside before made so_far.inside made_inside

  made_order : AllPairs IsSpanBefore made
  made_order i j d less in' =
      let a = get_or made i d in
      let b = get_or made j d in
      let of_a = group_of a (Contains-get_or made i d (omega (arith, less, in'))) in
      let of_b = group_of b (Contains-get_or made j d in') in
      inr (of_a.column.1 ∙ sym of_b.column.1, inr (of_a.column.0 ∙ sym of_b.column.0, groups.order i j d less in'))

  comes_after : (a b : Span) → Contains before a → Contains made b → IsSpanBefore a b
  comes_after a b in_a in_b =
      let group = group_of b in_b in
      elim (All-contains (λ (span : Span). IsColumnBefore span.x span.z x z) before a so_far.before in_a) [
        | inl less ↦ inl (omega (arith, less, group.column.1))
        | inr same ↦ inr (same.0 ∙ sym group.column.1, inl (omega (arith, same.1, group.column.0)))
      ]

  all_order : AllPairs IsSpanBefore (before ++ made)
  all_order = pairs_on IsSpanBefore before made so_far.order made_order comes_after

  pub too_many : 2000000 < length (before ++ made) → HasManySpans setting tris
  too_many many = record { spans = before ++ made; many = many; each = all_of; inside = all_inside; order = all_order }

  pub with_column : length (before ++ made) ≤ 2000000 → All (λ (s : Shadow). Any (λ (span : Span). Reaches span s) made) kept
      → AreSpansBefore setting tris (x + 1) z (before ++ made)
  with_column few held = record {
    few = few;
    each = all_of;
    inside = all_inside;
    before = All-append Early before made (each_of Early before early) (each_of Early made here);
    all = all;
    order = all_order;
  }
    where
      Early : Span → Type 0
      Early span = IsColumnBefore span.x span.z (x + 1) z

      early : (span : Span) → Contains before span → Early span
      early span there = elim (All-contains (λ (s : Span). IsColumnBefore s.x s.z x z) before span so_far.before there) [
        | inl less ↦ inl less
        | inr same ↦ inr (same.0, omega (arith, same.1))
      ]

      here : (span : Span) → Contains made span → Early span
      here span there = inr ((group_of span there).column.1, omega (arith, (group_of span there).column.0))

      old : (at_x at_z : ℕ) (s : Shadow) → Any (HoldsShadow at_x at_z s) before → Any (HoldsShadow at_x at_z s) (before ++ made)
      old at_x at_z s found =
          any_of (HoldsShadow at_x at_z s) (before ++ made) found.1
          (Contains-append_left before made found.1 (member_of (HoldsShadow at_x at_z s) before found)) found.4

      new : (at_x at_z : ℕ) (s : Shadow) → at_x ≡ x → at_z ≡ z → IsShadow tris at_x at_z s → Any (HoldsShadow at_x at_z s) (before ++ made)
      new at_x at_z s same_x same_z is =
          let X : ℕ → Type 0 = λ n. IsShadow tris n at_z s in
          let Z : ℕ → Type 0 = λ n. IsShadow tris x n s in
          let covered = still.all s (subst Z same_z (subst X same_x is)) in
          let covers : Covers covered.1 s = covered.4 in
          let found = All-contains (λ (t : Shadow). Any (λ (span : Span). Reaches span t) made) kept covered.1 held
          (member_of (λ (t : Shadow). Covers t s) kept covered) in
          let span = found.1 in
          let reaches : Reaches span covered.1 = found.4 in
          let there = member_of (λ (t : Span). Reaches t covered.1) made found in
          let group = group_of span there in
          any_of (HoldsShadow at_x at_z s) (before ++ made) span (Contains-append_right before made span there)
          (group.column.0 ∙ sym same_x, group.column.1 ∙ sym same_z, omega (arith, reaches.0, covers.0), omega (arith, reaches.1, covers.1))

      all : (at_x at_z : ℕ) (s : Shadow) → at_x < setting.width → IsColumnBefore at_x at_z (x + 1) z → IsShadow tris at_x at_z s
          → Any (HoldsShadow at_x at_z s) (before ++ made)
      all at_x at_z s inside (inl less) is = old at_x at_z s (so_far.all at_x at_z s inside (inl less) is)
      all at_x at_z s inside (inr (same, less)) is = elim (cases_lt at_x x) [
        | inl early ↦ old at_x at_z s (so_far.all at_x at_z s inside (inr (same, early)) is)
        | inr late ↦ new at_x at_z s (omega (arith, less, late)) same is
      ]

-- a column's spans, for each setting and triangles of which it is one
pub column_done : (setting : Setting) (tris : List Tri) (x z : ℕ) (shadows : List Shadow) (before after : List Span) → AreSpansBefore setting tris x z before
    → AreKept tris x z shadows → x < setting.width → z < setting.depth → AppendsSpans setting.agent.climb x z shadows before after
    → AreSpansBefore setting tris (x + 1) z after
column_done setting tris x z shadows before after so_far are in_x in_z adds =
    let few : length (before ++ adds.made) ≤ 2000000 = omega (arith, adds.few, ap (λ (xs : List Span). length xs) adds.added) in
    subst (AreSpansBefore setting tris (x + 1) z) (sym adds.added)
    (with_column setting tris x z shadows adds.kept before adds.made so_far are in_x in_z adds.stand adds.are.are few adds.are.all)

pub column_exceeds : (setting : Setting) (tris : List Tri) (x z : ℕ) (shadows : List Shadow) (before : List Span) → AreSpansBefore setting tris x z before
    → AreKept tris x z shadows → x < setting.width → z < setting.depth → ExceedsSpans setting.agent.climb x z shadows before → HasManySpans setting tris
column_exceeds setting tris x z shadows before so_far are in_x in_z exceeds =
    too_many setting tris x z shadows exceeds.kept before exceeds.made so_far are in_x in_z exceeds.stand exceeds.are exceeds.many

-- at the end of a row the next begins
pub next_row : (setting : Setting) (tris : List Tri) (z : ℕ) (spans : List Span) → AreSpansBefore setting tris setting.width z spans
    → AreSpansBefore setting tris 0 (z + 1) spans
next_row setting tris z spans so_far = record {
  few = so_far.few;
  each = so_far.each;
  inside = so_far.inside;
  before = each_of (λ (span : Span). IsColumnBefore span.x span.z 0 (z + 1)) spans (λ span there.
      elim (All-contains (λ (s : Span). IsColumnBefore s.x s.z setting.width z) spans span so_far.before there) [
        | inl less ↦ inl (omega (arith, less))
        | inr same ↦ inl (omega (arith, same.0))
      ]);
  all = all;
  order = so_far.order;
}
  where
    all : (at_x at_z : ℕ) (s : Shadow) → at_x < setting.width → IsColumnBefore at_x at_z 0 (z + 1) → IsShadow tris at_x at_z s
        → Any (HoldsShadow at_x at_z s) spans
    all at_x at_z s inside (inl less) is = elim (cases_lt at_z z) [
      | inl early ↦ so_far.all at_x at_z s inside (inl early) is
      | inr late ↦ so_far.all at_x at_z s inside (inr (omega (arith, less, late), inside)) is
    ]
    all at_x at_z s inside (inr (same, less)) is = absurd (omega (arith, less))

pub no_rows : (setting : Setting) (tris : List Tri) → AreSpansBefore setting tris 0 0 []
no_rows setting tris = record {
  few = omega arith;
  each = All-nil (IsSpanOf setting.agent.climb tris);
  inside = All-nil (λ (span : Span). (span.x < setting.width) × (span.z < setting.depth));
  before = All-nil (λ (span : Span). IsColumnBefore span.x span.z 0 0);
  all = all;
  order = λ i j d less in'. absurd (omega (arith, in'));
}
  where
    all : (at_x at_z : ℕ) (s : Shadow) → at_x < setting.width → IsColumnBefore at_x at_z 0 0 → IsShadow tris at_x at_z s → Any (HoldsShadow at_x at_z s) []
    all at_x at_z s inside (inl less) is = absurd (omega (arith, less))
    all at_x at_z s inside (inr (same, less)) is = absurd (omega (arith, less))

-- all rows together are the raster
pub all_rows : (setting : Setting) (tris : List Tri) (spans : List Span) → AreSpansBefore setting tris 0 setting.depth spans
    → IsRaster setting tris (record { width = setting.width; depth = setting.depth; spans = spans })
all_rows setting tris spans so_far = record {
  width = refl;
  depth = refl;
  each = so_far.each;
  inside = so_far.inside;
  all = λ x z s in_x in_z is. so_far.all x z s in_x (inl in_z) is;
  order = so_far.order;
}

-- of some columns those before one
abbrev pub upto : Hits → ℕ → Hits
upto hits x = record hits { end = x }

-- the columns of a row before one are done and empty, and the others as they were
pub record HasColumns (climb x z : ℕ) (old columns : List (List Shadow)) (before spans : List Span) : Type 0 where
  pub same : length columns ≡ length old
  pub empty : (k : ℕ) → k < x → column_at columns k ≡ []
  pub rest : (k : ℕ) → x ≤ k → column_at columns k ≡ column_at old k
  pub few : length spans ≤ 2000000
  pub done : (setting : Setting) (tris : List Tri) → IsRowOf setting tris climb z old before → AreSpansBefore setting tris x z spans

-- shadows added to columns

pub added_none : (bounds : List Bound) (hits : Hits) (area : ℕ) (columns : List (List Shadow)) → AreAdded bounds (upto hits hits.first) area columns columns
added_none bounds hits area columns = record {
  same = refl;
  hit = λ x from to. absurd (omega (arith, from, to));
  others = λ x place. refl;
}

pub added_more : (bounds : List Bound) (hits : Hits) (x area : ℕ) (old columns : List (List Shadow)) (here new : List Shadow)
    → AreAdded bounds (upto hits x) area old columns → hits.first ≤ x → x < length old → here ≡ column_at columns x
    → StandFor (here ++ shadow_of (bound_at bounds x) area ∷ []) new → AreAdded bounds (upto hits (x + 1)) area old (set columns x new)
added_more bounds hits x area old columns here new added from inside read stand = record {
  same = length-set columns x new ∙ added.same;
  hit = hit;
  others = others;
}
  where
    Stands : ℕ → List Shadow → Type 0
    Stands k kept = StandFor (column_at old k ++ shadow_of (bound_at bounds k) area ∷ []) kept

    this : column_at (set columns x new) x ≡ new
    this = get_or-set_same columns x new [] (omega (arith, inside, added.same))

    that : (k : ℕ) → (k ≡ x → ⊥) → column_at (set columns x new) k ≡ column_at columns k
    that k other = get_or-set_other columns x k new [] other

    was : here ≡ column_at old x
    was = read ∙ added.others x (inr (omega arith))

    hit : (k : ℕ) → hits.first ≤ k → k < x + 1 → Stands k (column_at (set columns x new) k)
    hit k begin end = elim (cases_eq k x) [
      | inl same ↦
          let P : ℕ → Type 0 = λ n. Stands n (column_at (set columns x new) n) in
          let S : List Shadow → Type 0 = λ list. StandFor (list ++ shadow_of (bound_at bounds x) area ∷ []) new in
          subst P (sym same) (subst (Stands x) (sym this) (subst S was stand))
      | inr other ↦ subst (Stands k) (sym (that k other)) (added.hit k begin (before k end other))
    ]
      where
        before : (n : ℕ) → n < x + 1 → (n ≡ x → ⊥) → n < x
        before n less not_x = elim (cases_lt n x) [ inl early ↦ early | inr late ↦ absurd (not_x (omega (arith, late, less))) ]

    others : (k : ℕ) → (k < hits.first) ⊎ (x + 1 ≤ k) → column_at (set columns x new) k ≡ column_at old k
    others k (inl early) = that k (λ same. omega (arith, same, early, from)) ∙ added.others k (inl early)
    others k (inr late) = that k (λ same. omega (arith, same, late)) ∙ added.others k (inr (omega (arith, late)))

pub added_all : (bounds : List Bound) (hits : Hits) (x area : ℕ) (old columns : List (List Shadow)) → AreAdded bounds (upto hits x) area old columns
    → hits.end ≤ x → x - hits.first ≤ hits.end - hits.first → AreAdded bounds hits area old columns
added_all bounds hits x area old columns added end within = record {
  same = added.same;
  hit = λ k from to. added.hit k from (omega (arith, to, end));
  others = others;
}
  where
    others : (k : ℕ) → (k < hits.first) ⊎ (hits.end ≤ k) → column_at columns k ≡ column_at old k
    others k (inl early) = added.others k (inl early)
    others k (inr late) = elim (cases_lt k hits.first) [
      | inl early ↦ added.others k (inl early)
      | inr inside ↦ added.others k (inr (omega (arith, inside, late, end, within)))
    ]

-- one more triangle of a row
pub filled_more : (tris : List Tri) (tri : Tri) (x z : ℕ) (bounds : List Bound) (hits : Hits) (old new : List (List Shadow))
    → AreKept tris x z (column_at old x) → x < length bounds → AreRowShadows tri z bounds hits → AreAdded bounds hits tri.area old new
    → AreKept (tris ++ tri ∷ []) x z (column_at new x)
filled_more tris tri x z bounds hits old new are inside row added = by_place (cases_lt x hits.first) (cases_lt x hits.end)
  where
    passed : (x < hits.first) ⊎ (hits.end ≤ x) → AreKept (tris ++ tri ∷ []) x z (column_at new x)
    passed place =
        subst (AreKept (tris ++ tri ∷ []) x z) (sym (added.others x place))
        (kept_passed tris tri x z (column_at old x) are (λ p in'. row.no_others x p inside place in'))

    by_place : (x < hits.first) ⊎ (hits.first ≤ x) → (x < hits.end) ⊎ (hits.end ≤ x) → AreKept (tris ++ tri ∷ []) x z (column_at new x)
    by_place (inl early) end = passed (inl early)
    by_place (inr from) (inr late) = passed (inr late)
    by_place (inr from) (inl to) =
        kept_more tris tri x z (column_at old x) (column_at new x) (shadow_of (bound_at bounds x) tri.area) are (row.shadows x from to) (added.hit x from to)

-- columns with their spans made

pub columns_more : (climb x z : ℕ) (old columns : List (List Shadow)) (pushed cleared here : List Shadow) (before spans after : List Span)
    → HasColumns climb x z old columns before spans → x < length old → here ≡ column_at columns x → AppendsSpans climb x z here spans after
    → cleared ≡ [] → HasColumns climb (x + 1) z old (set (set columns x pushed) x cleared) before after
columns_more climb x z old columns pushed cleared here before spans after has inside read adds empty = record {
  same = length-set (set columns x pushed) x cleared ∙ length-set columns x pushed ∙ has.same;
  empty = all_empty;
  rest = λ k late. others k (λ same. omega (arith, same, late)) ∙ has.rest k (omega (arith, late));
  few = adds.few;
  done = done;
}
  where
    new : List (List Shadow)
    new = set (set columns x pushed) x cleared

    others : (k : ℕ) → (k ≡ x → ⊥) → column_at new k ≡ column_at columns k
    others k other = get_or-set_other (set columns x pushed) x k cleared [] other ∙ get_or-set_other columns x k pushed [] other

    this : column_at new x ≡ []
    this = get_or-set_same (set columns x pushed) x cleared [] (omega (arith, length-set columns x pushed, has.same, inside)) ∙ empty

    all_empty : (k : ℕ) → k < x + 1 → column_at new k ≡ []
    all_empty k less = elim (cases_eq k x) [
      | inl same ↦ ap (λ n. column_at new n) same ∙ this
      | inr other ↦ others k other ∙ has.empty k (before_x k less other)
    ]
      where
        before_x : (n : ℕ) → n < x + 1 → (n ≡ x → ⊥) → n < x
        before_x n early not_x = elim (cases_lt n x) [ inl yet ↦ yet | inr late ↦ absurd (not_x (omega (arith, late, early))) ]

    was : here ≡ column_at old x
    was = read ∙ has.rest x (omega arith)

    done : (setting : Setting) (tris : List Tri) → IsRowOf setting tris climb z old before → AreSpansBefore setting tris (x + 1) z after
    done setting tris row =
        let C : ℕ → Type 0 = λ n. AppendsSpans n x z here spans after in
        let in_x : x < setting.width = omega (arith, inside, row.width) in
        let K : List Shadow → Type 0 = λ list. AreKept tris x z list in
        column_done setting tris x z here spans after (has.done setting tris row) (subst K (sym was) (row.kept x in_x)) in_x row.inside
        (subst C (sym row.step) adds)

-- a refusal at a column, as that of the row
module _ (climb x z : ℕ) (old columns : List (List Shadow)) (here : List Shadow) (before spans after : List Span)
    (has : HasColumns climb x z old columns before spans) (inside : x < length old) (read : here ≡ column_at columns x) (setting : Setting)
    (tris : List Tri) (row : IsRowOf setting tris climb z old before) (A B : Type 0) where
  by_refusal : (refusal : RasterRefusal) → HasPushed climb x z here spans after {T = A} (Err refusal) → HasRow setting tris z after {T = B} (Err refusal)
  by_refusal refusals.OutOfMemory pushed = tt
  by_refusal refusals.TooManySpans pushed =
      let C : ℕ → Type 0 = λ n. ExceedsSpans n x z here spans in
      let in_x : x < setting.width = omega (arith, inside, row.width) in
      let K : List Shadow → Type 0 = λ list. AreKept tris x z list in
      column_exceeds setting tris x z here spans (has.done setting tris row) (subst K (sym (read ∙ has.rest x (omega arith))) (row.kept x in_x)) in_x
      row.inside (subst C (sym row.step) pushed)

  pub columns_refused : (pushed : Result A RasterRefusal) (result : Result B RasterRefusal) (refusal : RasterRefusal) → pushed ≡ Err refusal
      → result ≡ Err refusal → HasPushed climb x z here spans after pushed → HasRow setting tris z after result
  columns_refused pushed result refusal pushed_is result_is known =
      let R : Result B RasterRefusal → Type 0 = λ r. HasRow setting tris z after r in
      let P : Result A RasterRefusal → Type 0 = λ r. HasPushed climb x z here spans after r in
      subst R (sym result_is) (by_refusal refusal (subst P pushed_is known))

pub columns_all : (climb x z : ℕ) (old columns : List (List Shadow)) (before spans : List Span) → HasColumns climb x z old columns before spans
    → x ≡ length old → (setting : Setting) (tris : List Tri) → IsRowOf setting tris climb z old before → AreSpansBefore setting tris 0 (z + 1) spans
columns_all climb x z old columns before spans has end setting tris row =
    let E : ℕ → Type 0 = λ n. AreSpansBefore setting tris n z spans in
    next_row setting tris z spans (subst E (end ∙ row.width) (has.done setting tris row))

-- the triangles of a row

pub can_fill : (z : ℕ) (old entering new : List Tri) → CanEnter z old entering → new ≡ filter (reaches_row z) old ++ entering
    → All (λ (tri : Tri). IsTriangle tri × MeetsRow tri z) new
can_fill z old entering new can is = subst (λ (xs : List Tri). All Fits xs) (sym is) (All-append Fits (filter (reaches_row z) old) entering stay enter)
  where
    Fits : Tri → Type 0
    Fits tri = IsTriangle tri × MeetsRow tri z

    Old : Tri → Type 0
    Old tri = IsTriangle tri × (first_row tri < z)

    stay : All Fits (filter (reaches_row z) old)
    stay = each_of Fits (filter (reaches_row z) old) (λ tri there.
        let was = All-contains Old (filter (reaches_row z) old) tri (All-filter (reaches_row z) Old old can.old) there in
        let passes = All-contains (λ (t : Tri). reaches_row z t ≡ true) (filter (reaches_row z) old) tri (filter_passes (reaches_row z) old) there in
        (was.0, meets_row tri z (omega (arith, was.1)) (reaches_from z tri passes)))

    enter : All Fits entering
    enter = each_of Fits entering (λ tri there.
        let begins = All-contains (λ (t : Tri). IsTriangle t × (first_row t ≡ z) × (z < end_row t)) entering tri can.new there in
        (begins.0, meets_row tri z (omega (arith, begins.1)) begins.2))

pub kept_upright : (tris : List Tri) (x z : ℕ) (kept : List Shadow) → AreKept tris x z kept → All IsUpright kept
kept_upright tris x z kept are =
    each_of IsUpright kept (λ s there. upright s (solid_shadow tris x z s (All-contains (IsShadow tris x z) kept s are.are there)))
  where
    upright : (s : Shadow) → s.bottom < s.top → IsUpright s
    upright s solid = omega (arith, solid)

pub kept_limited : (tris : List Tri) (x z : ℕ) (kept : List Shadow) → All IsTriangle tris → AreKept tris x z kept → All IsLimited kept
kept_limited tris x z kept limits are =
    each_of IsLimited kept (λ s there. limited_shadow tris x z s limits (All-contains (IsShadow tris x z) kept s are.are there))

-- the triangles before a row, and those that begin there, are within their limits
pub can_enter : (tris : List Tri) (z : ℕ) (active entering : List Tri) → All IsTriangle tris → MayReach tris z active → BeginIn tris z entering
    → CanEnter z active entering
can_enter tris z active entering limits may begin = record {
  old = λ k d in'. (All-contains IsTriangle tris (get_or active k d) limits (may.are k d in').0, (may.are k d in').1);
  new = λ k d in'. (All-contains IsTriangle tris (get_or entering k d) limits (begin.are k d in').0, (begin.are k d in').1, (begin.are k d in').2);
}

-- between rows: what is at hand for the next, and the spans of those before
pub record IsSweeping (setting : Setting) (tris : List Tri) (z : ℕ) (active : List Tri) (bounds : List Bound) (columns : List (List Shadow)) (spans : List Span)
    : Type 0 where
  pub at : IsAtRow tris setting.width z active bounds columns
  pub done : AreSpansBefore setting tris 0 z spans

-- a refusal at a row, as that of all
rows_by_refusal : (setting : Setting) (tris : List Tri) (z depth : ℕ) (after : List Span) (A : Type 0) (refusal : RasterRefusal)
    → HasRow setting tris z after {T = A} (Err refusal) → HasRows setting tris depth (Err refusal)
rows_by_refusal setting tris z depth after A refusals.OutOfMemory known = tt
rows_by_refusal setting tris z depth after A refusals.TooManySpans known = known

pub rows_refused : (setting : Setting) (tris : List Tri) (z depth : ℕ) (after : List Span) (A : Type 0) (row : Result A RasterRefusal)
    (result : Result (List Span) RasterRefusal) (refusal : RasterRefusal) → row ≡ Err refusal → result ≡ Err refusal → HasRow setting tris z after row
    → HasRows setting tris depth result
rows_refused setting tris z depth after A row result refusal row_is result_is known =
    let R : Result A RasterRefusal → Type 0 = λ r. HasRow setting tris z after r in
    subst (HasRows setting tris depth) (sym result_is) (rows_by_refusal setting tris z depth after A refusal (subst R row_is known))

pub rows_no_memory : (setting : Setting) (tris : List Tri) (depth : ℕ) (result : Result (List Span) RasterRefusal) (refusal : RasterRefusal)
    → result ≡ Err refusal → refusal ≡ refusals.OutOfMemory → HasRows setting tris depth result
rows_no_memory setting tris depth result refusal is none = subst (HasRows setting tris depth) (sym (is ∙ ap Err none)) tt

-- the list of a row, as it was read
pub begin_at : (tris : List Tri) (depth z : ℕ) (lists : List (List Tri)) (read entering : List Tri) → AreByRow tris depth lists → z < depth
    → read ≡ get_or lists z read → entering ≡ read → BeginIn tris z entering
begin_at tris depth z lists read entering by_row inside there same =
    subst (BeginIn tris z) (sym (same ∙ get_or_read lists z read (omega (arith, inside, by_row.rows)) there [])) (by_row.each z inside)

-- what is at hand for a row, with the triangles that begin there
pub before_row : (setting : Setting) (tris : List Tri) (z : ℕ) (active : List Tri) (bounds : List Bound) (columns : List (List Shadow)) (entering : List Tri)
    (spans : List Span) → IsSweeping setting tris z active bounds columns spans → BeginIn tris z entering → z < setting.depth
    → IsBeforeRow setting tris setting.agent.climb z active bounds columns entering spans
before_row setting tris z active bounds columns entering spans sweeping begin inside =
    record { at = sweeping.at; begin = begin; step = refl; inside = inside; done = sweeping.done }

-- the refusal for too many spans
pub not_many : (setting : Setting) (tris : List Tri) (spans : Result (List Span) RasterRefusal) → HasRows setting tris setting.depth spans
    → spans ≡ Err refusals.TooManySpans → HasManySpans setting tris
not_many setting tris spans known is = subst (HasRows setting tris setting.depth) is known
