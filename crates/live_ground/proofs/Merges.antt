-- New spans put among those of a field: the start, one more of either, and the end.
use Rattle.std.proofs.Common.{◌≡◌, ℕ, ◌+◌, ◌-◌, ◌<◌, ◌≤◌, Bool, true, false, cond, List, [], ◌∷◌, ◌++◌, length, take, drop, get_or, ap, ◌∙◌, sym, refl, subst, arith, inl, inr}
use Rattle.std.specs.Prelude.{ℤ, pos, ◌<ℤ◌, ◌≤ℤ◌, not, All, AllPairs}
use Rattle.std.proofs.lemmas.Bool.{both_ways, cases_lt}
use Rattle.std.proofs.lemmas.Int.{ints}
use Rattle.std.proofs.lemmas.List.{append_assoc, append-nil, take-append-drop, drop_more, drop_all, length-append, length-take-le, length-drop, get_or-take, get_or-drop, get_or_read}
use Rattle.std.proofs.lemmas.List.Elements.{All-nil, All-cons, All-head, All-tail, All-weaker, filter-append}
use Rattle.std.proofs.lemmas.List.Sums.{length-filter, count_by-le-length}
use Rattle.std.proofs.lemmas.List.Kept.{AllPairs-filter}
use Rattle.nav_ground.specs.declared.cell.Window.{Window}
use Rattle.nav_ground.specs.declared.field.Span.{Span}
use Rattle.nav_ground.specs.Fields.{IsSpanBefore}
use Rattle.nav_ground.specs.Tiling.{is_in_window, IsInWindow}
use Rattle.nav_ground.proofs.Selections.{filter_all, filter_none}
use Rattle.layer_cut.specs.Nearby.{spans_in}
use Rattle.live_ground.specs.Changes.{spans_outside}
use Rattle.live_ground.specs.Merging.{ArePlacesOfRows, IsMerged, is_in_earlier_column}
use Rattle.live_ground.proofs.Windows.{all_inside, before_rows, behind_rows}
use Rattle.live_ground.proofs.Ordered.{pairs_head, pairs_left, pairs_right, pairs_append, pairs_between, pairs_take}

-- what stands in an earlier column than a span comes before all that the span comes before
pub earlier_column : (a b : Span) → is_in_earlier_column a b ≡ true → IsSpanBefore a b
earlier_column a b h = grind arith

pub before_later : (a b c : Span) → is_in_earlier_column a b ≡ true → IsSpanBefore b c → IsSpanBefore a c
before_later a b c h (inl below) = grind arith
before_later a b c h (inr (same, inl left)) = grind arith
before_later a b c h (inr (same, inr (column, above))) = grind arith

-- of two spans, one in a rectangle and one outside, the second comes first where the first is in no earlier column
columns_same : (a b : Span) → is_in_earlier_column a b ≡ false → is_in_earlier_column b a ≡ false → (a.x ≡ b.x) × (a.z ≡ b.z)
columns_same a b h k = (grind arith, grind arith)

not_false : (p : Bool) → (p ≡ false → ⊥) → p ≡ true
not_false true h = refl
not_false false h = absurd (h refl)

pub column_after : (window : Window) (a b : Span) → is_in_window window a.x a.z ≡ true → is_in_window window b.x b.z ≡ false
    → is_in_earlier_column a b ≡ false → is_in_earlier_column b a ≡ true
column_after window a b inside outside after = not_false (is_in_earlier_column b a) (λ h.
    let same = columns_same a b after h in
    both_ways (is_in_window window b.x b.z) outside ((λ i. is_in_window window (sym same.0 i) (sym same.1 i)) ∙ inside))

zero_more : (n : ℕ) → n + 0 ≡ n
zero_more n = omega arith

-- of spans that stand row by row, those before a row end before those from a later row on begin
pub ends_rise : (spans : List Span) (first end a b : ℕ) → All (λ (span : Span). span.z < a) (take first spans)
    → All (λ (span : Span). b ≤ span.z) (drop end spans) → a ≤ b → first ≤ length spans → first ≤ end
ends_rise spans first end a b before behind rise most = elim (cases_lt end first) [
  | inl less ↦
      let d : Span = record { x = 0; z = 0; bottom = 0; top = 0; area = 0 } in
      let low = before end d (omega (arith, less, most, length-take-le first spans most)) in
      let high = behind 0 d (omega (arith, less, most, length-drop end spans)) in
      let same = get_or-take first spans end d less in
      let there = get_or-drop end spans 0 d ∙ ap (λ n. get_or spans n d) (zero_more end) in
      let at = ap (λ (span : Span). span.z) same in
      let from = ap (λ (span : Span). span.z) there in
      absurd (omega (arith, low, high, at, from, rise))
  | inr more ↦ more
]

module _ (window : Window) where
  outside_more : (span : Span) (spans : List Span) → is_in_window window span.x span.z ≡ false → spans_outside window (span ∷ spans) ≡ span ∷ spans_outside window spans
  outside_more span spans out = ap (λ b. cond (not b) (span ∷ spans_outside window spans) (spans_outside window spans)) out

  outside_none : (span : Span) (spans : List Span) → is_in_window window span.x span.z ≡ true → spans_outside window (span ∷ spans) ≡ spans_outside window spans
  outside_none span spans here = ap (λ b. cond (not b) (span ∷ spans_outside window spans) (spans_outside window spans)) here

  inside_none : (span : Span) → is_in_window window span.x span.z ≡ false → spans_in window (span ∷ []) ≡ []
  inside_none span out = ap (λ b. cond b (span ∷ []) []) out

  inside_one : (span : Span) → is_in_window window span.x span.z ≡ true → spans_in window (span ∷ []) ≡ span ∷ []
  inside_one span here = ap (λ b. cond b (span ∷ []) []) here

  in_append : (xs ys : List Span) → spans_in window (xs ++ ys) ≡ spans_in window xs ++ spans_in window ys
  in_append xs ys = filter-append (λ (span : Span). is_in_window window span.x span.z) xs ys

  out_append : (xs ys : List Span) → spans_outside window (xs ++ ys) ≡ spans_outside window xs ++ spans_outside window ys
  out_append xs ys = filter-append (λ (span : Span). not (is_in_window window span.x span.z)) xs ys

  -- a list of spans none of which is in the rectangle
  none_in : (spans : List Span) → All (λ (span : Span). is_in_window window span.x span.z ≡ false) spans → spans_in window spans ≡ []
  none_in spans out = filter_none (λ (span : Span). is_in_window window span.x span.z) spans out

  all_out : (spans : List Span) → All (λ (span : Span). is_in_window window span.x span.z ≡ false) spans → spans_outside window spans ≡ spans
  all_out spans out =
      filter_all (λ (span : Span). not (is_in_window window span.x span.z)) spans
      (All-weaker (λ (span : Span). is_in_window window span.x span.z ≡ false) (λ (span : Span). not (is_in_window window span.x span.z) ≡ true)
      (λ span h. ap not h) spans out)

  -- a list of spans all of which are
  all_in : (spans : List Span) → All (λ (span : Span). is_in_window window span.x span.z ≡ true) spans → spans_in window spans ≡ spans
  all_in spans here = filter_all (λ (span : Span). is_in_window window span.x span.z) spans here

  none_out : (spans : List Span) → All (λ (span : Span). is_in_window window span.x span.z ≡ true) spans → spans_outside window spans ≡ []
  none_out spans here =
      filter_none (λ (span : Span). not (is_in_window window span.x span.z)) spans
      (All-weaker (λ (span : Span). is_in_window window span.x span.z ≡ true) (λ (span : Span). not (is_in_window window span.x span.z) ≡ false)
      (λ span h. ap not h) spans here)

  -- the start: the spans in rows before the rectangle
  row_before : (a b : Span) → pos a.z <ℤ window.z0 → window.z0 ≤ℤ pos b.z → IsSpanBefore a b
  row_before a b before least = inl (less window.z0 a.z b.z before least)
    where
      less : (z0 : ℤ) (z z' : ℕ) → pos z <ℤ z0 → z0 ≤ℤ pos z' → z < z'
      less z0 z z' before least = omega (arith, ints)

  row_behind : (a b : Span) → pos a.z ≤ℤ window.z1 → window.z1 <ℤ pos b.z → IsSpanBefore a b
  row_behind a b most behind = inl (less window.z1 a.z b.z most behind)
    where
      less : (z1 : ℤ) (z z' : ℕ) → pos z ≤ℤ z1 → z1 <ℤ pos z' → z < z'
      less z1 z z' most behind = omega (arith, ints)

  pub merged_start : (old news : List Span) (first end : ℕ) → ArePlacesOfRows window old first end → AllPairs IsSpanBefore old → AllPairs IsSpanBefore news
      → All (λ (span : Span). IsInWindow window span.x span.z) news → IsMerged window old news (take first old) (drop first old) news
  merged_start old news first end places old_order news_order inside =
      let out = All-weaker (λ (span : Span). pos span.z <ℤ window.z0) (λ (span : Span). is_in_window window span.x span.z ≡ false)
      (λ (span : Span) before. before_rows window span.x span.z before) (take first old) places.before in
      let parts = sym (out_append (take first old) (drop first old)) ∙ ap (spans_outside window) (take-append-drop first old) in
      let P : List Span → Type 0 = λ list. AllPairs IsSpanBefore list in
      record {
        inside = ap (λ (list : List Span). list ++ news) (none_in (take first old) out);
        outside = parts;
        left = all_inside window news inside;
        old_order = subst P (sym (ap (λ (list : List Span). list ++ spans_outside window (drop first old)) (sym (all_out (take first old) out)) ∙ parts))
            (AllPairs-filter IsSpanBefore (λ (span : Span). not (is_in_window window span.x span.z)) old old_order);
        news_order = pairs_append IsSpanBefore (take first old) news (pairs_take IsSpanBefore first old old_order) news_order
            (All-weaker (λ (span : Span). pos span.z <ℤ window.z0) (λ (span : Span). All (IsSpanBefore span) news)
            (λ (span : Span) before. All-weaker (λ (other : Span). IsInWindow window other.x other.z) (IsSpanBefore span)
            (λ (other : Span) here. row_before span other before here.z_least) news inside) (take first old) places.before);
      }

  -- how many spans stand outside: all before the rows of the rectangle, and all behind them
  pub count_start : (old : List Span) (first end : ℕ) → ArePlacesOfRows window old first end → first ≡ length (spans_outside window (take first old))
  count_start old first end places =
      let out = All-weaker (λ (span : Span). pos span.z <ℤ window.z0) (λ (span : Span). is_in_window window span.x span.z ≡ false)
      (λ (span : Span) before. before_rows window span.x span.z before) (take first old) places.before in
      sym (ap length (all_out (take first old) out) ∙ length-take-le first old (omega (arith, places.order, places.most)))

  pub count_end : (old : List Span) (first end : ℕ) → ArePlacesOfRows window old first end
      → length (spans_outside window (take end old)) + (length old - end) ≡ length (spans_outside window old)
  count_end old first end places =
      let out = All-weaker (λ (span : Span). window.z1 <ℤ pos span.z) (λ (span : Span). is_in_window window span.x span.z ≡ false)
      (λ (span : Span) behind. behind_rows window span.x span.z behind) (drop end old) places.behind in
      let tail = ap length (all_out (drop end old) out) ∙ length-drop end old in
      let parts = ap length (ap (spans_outside window) (sym (take-append-drop end old)) ∙ out_append (take end old) (drop end old)) in
      omega (arith, tail, parts, length-append (spans_outside window (take end old)) (spans_outside window (drop end old)))

  pub counted_all : (old : List Span) (first end i count : ℕ) → ArePlacesOfRows window old first end → count ≡ length (spans_outside window (take i old))
      → i ≡ end → count + (length old - end) ≡ length (spans_outside window old)
  counted_all old first end i count places counted all =
      let so_far = counted ∙ ap (λ n. length (spans_outside window (take n old))) all in
      omega (arith, so_far, count_end old first end places)

  pub outside_most : (old : List Span) → length (spans_outside window old) ≤ length old
  outside_most old =
      let out = λ (span : Span). not (is_in_window window span.x span.z) in
      omega (arith, length-filter out old, count_by-le-length out old)

  module _ (old news made left : List Span) (span : Span) where
    -- a span of the field inside the rectangle is left out
    pub merged_without : (news_left : List Span) → IsMerged window old news made (span ∷ left) news_left → is_in_window window span.x span.z ≡ true
        → IsMerged window old news made left news_left
    merged_without news_left have here =
        let same = outside_none span left here in
        let P : List Span → Type 0 = λ list. AllPairs IsSpanBefore (made ++ list) in
        record {
          inside = have.inside;
          outside = ap (λ (list : List Span). spans_outside window made ++ list) (sym same) ∙ have.outside;
          left = have.left;
          old_order = subst P same have.old_order;
          news_order = have.news_order;
        }

    -- one outside is put behind, where it comes before all new ones that are left
    pub merged_old : (news_left : List Span) → IsMerged window old news made (span ∷ left) news_left → is_in_window window span.x span.z ≡ false
        → All (IsSpanBefore span) news_left → IsMerged window old news (made ++ span ∷ []) left news_left
    merged_old news_left have out before =
        let same = outside_more span left out in
        let P : List Span → Type 0 = λ list. AllPairs IsSpanBefore list in
        let order = subst P (sym (append_assoc made (span ∷ []) (spans_outside window left)
        ∙ ap (λ (list : List Span). made ++ list) (sym same))) have.old_order in
        record {
          inside = ap (λ (list : List Span). list ++ news_left) (in_append made (span ∷ [])
              ∙ ap (λ (list : List Span). spans_in window made ++ list) (inside_none span out) ∙ append-nil (spans_in window made)) ∙ have.inside;
          outside = ap (λ (list : List Span). list ++ spans_outside window left) (out_append made (span ∷ [])
              ∙ ap (λ (list : List Span). spans_outside window made ++ list) (outside_more span [] out))
              ∙ append_assoc (spans_outside window made) (span ∷ []) (spans_outside window left)
              ∙ ap (λ (list : List Span). spans_outside window made ++ list) (sym same) ∙ have.outside;
          left = have.left;
          old_order = order;
          news_order = pairs_between IsSpanBefore made (span ∷ []) news_left
              (pairs_left IsSpanBefore (made ++ span ∷ []) (spans_outside window left) order) have.news_order
              (All-cons (λ (a : Span). All (IsSpanBefore a) news_left) span [] before (All-nil (λ (a : Span). All (IsSpanBefore a) news_left)));
        }

    -- a new one of an earlier column is put behind
    pub merged_new : (new : Span) (news_left : List Span) → IsMerged window old news made (span ∷ left) (new ∷ news_left)
        → is_in_window window span.x span.z ≡ false → is_in_earlier_column new span ≡ true
        → IsMerged window old news (made ++ new ∷ []) (span ∷ left) news_left
    merged_new new news_left have out earlier =
        let here = All-head (λ (a : Span). is_in_window window a.x a.z ≡ true) new news_left have.left in
        let same = outside_more span left out in
        let P : List Span → Type 0 = λ list. AllPairs IsSpanBefore list in
        let later = pairs_head IsSpanBefore span (spans_outside window left)
        (pairs_right IsSpanBefore made (span ∷ spans_outside window left)
        (subst P (ap (λ (list : List Span). made ++ list) same) have.old_order)) in
        let Q : List Span → Type 0 = λ list. All (IsSpanBefore new) list in
        let before = subst Q (sym same) (All-cons (IsSpanBefore new) span (spans_outside window left) (earlier_column new span earlier)
        (All-weaker (IsSpanBefore span) (IsSpanBefore new) (λ (c : Span) h. before_later new span c earlier h) (spans_outside window left) later)) in
        let order = subst P (sym (append_assoc made (new ∷ []) news_left)) have.news_order in
        record {
          inside = ap (λ (list : List Span). list ++ news_left) (in_append made (new ∷ [])
              ∙ ap (λ (list : List Span). spans_in window made ++ list) (inside_one new here))
              ∙ append_assoc (spans_in window made) (new ∷ []) news_left ∙ have.inside;
          outside = ap (λ (list : List Span). list ++ spans_outside window (span ∷ left)) (out_append made (new ∷ [])
              ∙ ap (λ (list : List Span). spans_outside window made ++ list) (outside_none new [] here) ∙ append-nil (spans_outside window made)) ∙ have.outside;
          left = All-tail (λ (a : Span). is_in_window window a.x a.z ≡ true) new news_left have.left;
          old_order = pairs_between IsSpanBefore made (new ∷ []) (spans_outside window (span ∷ left))
              (pairs_left IsSpanBefore (made ++ new ∷ []) news_left order) have.old_order
              (All-cons (λ (a : Span). All (IsSpanBefore a) (spans_outside window (span ∷ left))) new [] before
              (All-nil (λ (a : Span). All (IsSpanBefore a) (spans_outside window (span ∷ left)))));
          news_order = order;
        }

    -- the same, for the next of a list
    pub merged_more : (now : List Span) (next : ℕ) (new seen : Span) → IsMerged window old news made (span ∷ left) (drop next news)
        → is_in_window window span.x span.z ≡ false → next < length news → new ≡ get_or news next new → seen ≡ get_or news next seen
        → is_in_earlier_column seen span ≡ true → now ≡ made ++ new ∷ [] → IsMerged window old news now (span ∷ left) (drop (next + 1) news)
    merged_more now next new seen have out there is was earlier pushed =
        let rest = drop_more news next new there ∙ ap (λ (a : Span). a ∷ drop (next + 1) news) (sym is) in
        let P : List Span → Type 0 = λ list. IsMerged window old news made (span ∷ left) list in
        let Q : List Span → Type 0 = λ list. IsMerged window old news list (span ∷ left) (drop (next + 1) news) in
        let same : new ≡ seen = is ∙ sym (get_or_read news next seen there was new) in
        subst Q (sym pushed) (merged_new new (drop (next + 1) news) (subst P rest have) out
        (ap (λ (a : Span). is_in_earlier_column a span) same ∙ earlier))

    -- where the first new one that is left is in no earlier column, the span comes before all of them
    rest_behind : (new : Span) (news_left : List Span) → IsMerged window old news made (span ∷ left) (new ∷ news_left)
        → is_in_window window span.x span.z ≡ false → is_in_earlier_column new span ≡ false → All (IsSpanBefore span) (new ∷ news_left)
    rest_behind new news_left have out after =
        let here = All-head (λ (a : Span). is_in_window window a.x a.z ≡ true) new news_left have.left in
        let column = column_after window new span here out after in
        let later = pairs_head IsSpanBefore new news_left (pairs_right IsSpanBefore made (new ∷ news_left) have.news_order) in
        All-cons (IsSpanBefore span) new news_left (earlier_column span new column)
        (All-weaker (IsSpanBefore new) (IsSpanBefore span) (λ (c : Span) h. before_later span new c column h) news_left later)

    pub rest_behind_at : (all : List Span) (next : ℕ) → IsMerged window old news made (span ∷ left) (drop next all)
        → is_in_window window span.x span.z ≡ false
        → ((d : Span) → next < length all → is_in_earlier_column (get_or all next d) span ≡ false) → All (IsSpanBefore span) (drop next all)
    rest_behind_at all next have out after = elim (cases_lt next (length all)) [
      | inl there ↦
          let is = drop_more all next span there in
          let Q : List Span → Type 0 = λ list. All (IsSpanBefore span) list in
          let P : List Span → Type 0 = λ list. IsMerged window old news made (span ∷ left) list in
          subst Q (sym is) (rest_behind (get_or all next span) (drop (next + 1) all) (subst P is have) out (after span there))
      | inr past ↦
          let Q : List Span → Type 0 = λ list. All (IsSpanBefore span) list in
          subst Q (sym (drop_all next all past)) (All-nil (IsSpanBefore span))
    ]

  -- the end: the new ones that are left, and the spans in rows behind the rectangle
  module _ (old news made rest : List Span) (first end : ℕ) (places : ArePlacesOfRows window old first end) (order : AllPairs IsSpanBefore old)
      (inside : All (λ (span : Span). IsInWindow window span.x span.z) rest) (have : IsMerged window old news made (drop end old) rest) where
    tail_out : All (λ (span : Span). is_in_window window span.x span.z ≡ false) (drop end old)
    tail_out =
        All-weaker (λ (span : Span). window.z1 <ℤ pos span.z) (λ (span : Span). is_in_window window span.x span.z ≡ false)
        (λ (span : Span) behind. behind_rows window span.x span.z behind) (drop end old) places.behind

    pub end_inside : spans_in window ((made ++ rest) ++ drop end old) ≡ news
    end_inside =
        in_append (made ++ rest) (drop end old)
        ∙ ap (λ (list : List Span). spans_in window (made ++ rest) ++ list) (none_in (drop end old) tail_out)
        ∙ append-nil (spans_in window (made ++ rest))
        ∙ in_append made rest
        ∙ ap (λ (list : List Span). spans_in window made ++ list) (all_in rest have.left)
        ∙ have.inside

    pub end_outside : spans_outside window ((made ++ rest) ++ drop end old) ≡ spans_outside window old
    end_outside =
        out_append (made ++ rest) (drop end old)
        ∙ ap (λ (list : List Span). list ++ spans_outside window (drop end old)) (out_append made rest
        ∙ ap (λ (list : List Span). spans_outside window made ++ list) (none_out rest have.left)
        ∙ append-nil (spans_outside window made))
        ∙ have.outside

    pub end_order : AllPairs IsSpanBefore ((made ++ rest) ++ drop end old)
    end_order =
        let P : List Span → Type 0 = λ list. AllPairs IsSpanBefore (made ++ list) in
        pairs_between IsSpanBefore made rest (drop end old) have.news_order (subst P (all_out (drop end old) tail_out) have.old_order)
        (All-weaker (λ (span : Span). IsInWindow window span.x span.z) (λ (span : Span). All (IsSpanBefore span) (drop end old))
        (λ (span : Span) here. All-weaker (λ (other : Span). window.z1 <ℤ pos other.z) (IsSpanBefore span)
        (λ (other : Span) behind. row_behind span other here.z_most behind) (drop end old) places.behind) rest inside)
