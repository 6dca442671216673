-- Groups of shadows that stand by their bottoms, found one after the other.
use Rattle.std.proofs.Common.{◌≡◌, ℕ, zero, suc, ◌+◌, ◌-◌, ◌<◌, ◌≤◌, max, ◌⊎◌, inl, inr, List, [], ◌∷◌, ◌++◌, length, get_or, take, drop, ap, sym, subst, ◌∙◌, refl, arith}
use Rattle.std.specs.Prelude.{All, AllPairs, Any, Contains, Result, Ok, Err}
use Rattle.std.specs.List.Sorted.{IsNonDecreasingBy}
use Rattle.std.proofs.lemmas.Bool.{cases_lt}
use Rattle.std.proofs.lemmas.List.{take-append-drop, drop_all, take_all, append_assoc, append-nil, length-append, length-drop, get_or-drop, get_or-take, length-take-le, get_or_default, take_more, length_push}
use Rattle.std.proofs.lemmas.List.Elements.{All-contains, All-nil, All-more, All-push, Contains-get_or, Contains-append_left, Contains-append_right, Contains-append_cases, Contains-push_cases, Contains-push}
use Rattle.std.proofs.lemmas.List.Quantifiers.{all_pairs_push}
use Rattle.nav_ground.specs.declared.field.Span.{Span}
use Rattle.nav_ground.specs.Fields.{IsSmallSpan}
use Rattle.tri_raster.specs.declared.triangle.Shadow.{Shadow}
use Rattle.tri_raster.specs.Rasters.{Meets, AreLinked}
use Rattle.tri_raster.specs.Columns.{IsUpright, IsLimited, AreLinkedIn, no_shadow, first_of, IsFirstGroup, IsNear, IsTopArea, StandFor, Reaches, IsApart, IsGroupSpan, AreGroupSpans, AreColumnSpans}
use Rattle.tri_raster.specs.declared.text.RasterRefusal.{RasterRefusal}
use Rattle.tri_raster.specs.declared.text.RasterRefusal.TheVariants as refusals
use Rattle.tri_raster.specs.Sweeps.{AppendsSpans, ExceedsSpans, HasPushed}
use Rattle.tri_raster.proofs.LinkLaws.{linked_more, linked_among}
use Rattle.tri_raster.proofs.ShadowLaws.{each_of, any_of, member_of, stand_same, stand_on}

abbrev pub IsByBottoms : List Shadow → Type 0
IsByBottoms shadows = IsNonDecreasingBy (λ (shadow : Shadow). shadow.bottom) shadows

-- the first shadows are linked to the first, one of them, or the first, has their greatest top
pub record HasFront (shadows : List Shadow) (count top : ℕ) : Type 0 where
  pub at : ℕ
  pub seen : (at < count) ⊎ (at ≡ 0)
  pub there : at < length shadows
  pub greatest : top ≡ (get_or shadows at no_shadow).top
  pub tall : AreLinkedIn shadows (first_of shadows) (get_or shadows at no_shadow)
  pub linked : All (AreLinkedIn shadows (first_of shadows)) (take count shadows)
  pub below : All (λ (shadow : Shadow). shadow.top ≤ top) (take count shadows)

pub front_none : (shadows : List Shadow) (top : ℕ) → 0 < length shadows → top ≡ (get_or shadows 0 no_shadow).top → HasFront shadows 0 top
front_none shadows top some is = record {
  at = 0;
  seen = inr refl;
  there = some;
  greatest = is;
  tall = record { way = []; linked = refl };
  linked = All-nil (AreLinkedIn shadows (first_of shadows));
  below = All-nil (λ (shadow : Shadow). shadow.top ≤ top);
}

pub front_more : (shadows : List Shadow) (i top : ℕ) (s : Shadow) → All IsUpright shadows → IsByBottoms shadows → i < length shadows
    → s ≡ get_or shadows i no_shadow → HasFront shadows i top → s.bottom ≤ top → HasFront shadows (i + 1) (max top s.top)
front_more shadows i top s upright order less is front near = by_height (cases_lt top s.top)
  where
    first : Shadow
    first = first_of shadows

    tallest : Shadow
    tallest = get_or shadows front.at no_shadow

    before : front.at ≤ i
    before = elim front.seen [ inl earlier ↦ omega (arith, earlier) | inr begin ↦ omega (arith, begin) ]

    lower : tallest.bottom ≤ s.bottom
    lower = omega (arith, order front.at i no_shadow before less, ap (λ (t : Shadow). t.bottom) is)

    there : Contains shadows s
    there = subst (Contains shadows) (sym is) (Contains-get_or shadows i no_shadow less)

    stands : s.bottom ≤ s.top
    stands = All-contains IsUpright shadows s upright there

    meets : Meets tallest s
    meets = (omega (arith, lower, stands), omega (arith, near, front.greatest))

    linked : AreLinkedIn shadows first s
    linked = record { way = front.tall.way ++ s ∷ []; linked = linked_more (Contains shadows) first front.tall.way tallest s front.tall.linked there meets }

    all_linked : All (AreLinkedIn shadows first) (take (i + 1) shadows)
    all_linked = All-more (AreLinkedIn shadows first) shadows i no_shadow less front.linked (subst (AreLinkedIn shadows first) is linked)

    all_below : (high : ℕ) → top ≤ high → s.top ≤ high → All (λ (t : Shadow). t.top ≤ high) (take (i + 1) shadows)
    all_below high over reaches =
        All-more (λ (t : Shadow). t.top ≤ high) shadows i no_shadow less (λ k d in'. omega (arith, front.below k d in', over)) (omega (arith, reaches, ap (λ (t : Shadow). t.top) is))

    by_height : (top < s.top) ⊎ (s.top ≤ top) → HasFront shadows (i + 1) (max top s.top)
    by_height (inl higher) = record {
      at = i;
      seen = inl (omega arith);
      there = less;
      greatest = omega (arith, higher, ap (λ (t : Shadow). t.top) is);
      tall = subst (AreLinkedIn shadows first) is linked;
      linked = all_linked;
      below = all_below (max top s.top) (omega arith) (omega arith);
    }
    by_height (inr lower) = record {
      at = front.at;
      seen = inl (omega (arith, before));
      there = front.there;
      greatest = omega (arith, lower, front.greatest);
      tall = front.tall;
      linked = all_linked;
      below = all_below (max top s.top) (omega arith) (omega arith);
    }

-- what stands among the first of a list
taken : {X : Type 0} (xs : List X) (count i : ℕ) (d : X) → i < count → count ≤ length xs → Contains (take count xs) (get_or xs i d)
taken xs count i d less within =
    let long : length (take count xs) ≡ count = length-take-le count xs within in
    subst (Contains (take count xs)) (get_or-take count xs i d less) (Contains-get_or (take count xs) i d (omega (arith, long, less)))

-- the first shadows are a group where the others begin above them
front_group : (shadows : List Shadow) (count top : ℕ) → HasFront shadows count top → 0 < count → count ≤ length shadows
    → All (λ (shadow : Shadow). top < shadow.bottom) (drop count shadows) → IsFirstGroup shadows count top
front_group shadows count top front some within behind = record {
  some = some;
  within = within;
  tallest = get_or shadows front.at no_shadow;
  listed = taken shadows count front.at no_shadow (elim front.seen [ inl earlier ↦ earlier | inr begin ↦ omega (arith, begin, some) ]) within;
  greatest = front.greatest;
  linked = front.linked;
  below = front.below;
  behind = behind;
}

pub front_end : (shadows : List Shadow) (i top : ℕ) (s : Shadow) → All IsUpright shadows → IsByBottoms shadows → i < length shadows
    → s ≡ get_or shadows i no_shadow → HasFront shadows i top → top < s.bottom → IsFirstGroup shadows i top
front_end shadows i top s upright order less is front above =
    front_group shadows i top front (some front.seen) (omega (arith, less)) behind
  where
    bottom_is : s.bottom ≡ (get_or shadows i no_shadow).bottom
    bottom_is = ap (λ (t : Shadow). t.bottom) is

    behind : All (λ (shadow : Shadow). top < shadow.bottom) (drop i shadows)
    behind k d in' =
        let there : get_or (drop i shadows) k d ≡ get_or shadows (i + k) d = get_or-drop i shadows k d in
        let far : i + k < length shadows = omega (arith, in', length-drop i shadows) in
        let same : get_or shadows i d ≡ get_or shadows i no_shadow = get_or_default shadows i d no_shadow less in
        let up = order i (i + k) d (omega arith) far in
        omega (arith, up, above, bottom_is, ap (λ (t : Shadow). t.bottom) there, ap (λ (t : Shadow). t.bottom) same)

    some : (front.at < i) ⊎ (front.at ≡ 0) → 0 < i
    some (inl earlier) = omega (arith, earlier)
    some (inr begin) = elim (cases_lt 0 i) [
      | inl less ↦ less
      | inr none ↦
          let start : i ≡ front.at = omega (arith, none, begin) in
          let top_is : (get_or shadows i no_shadow).top ≡ (get_or shadows front.at no_shadow).top = ap (λ k. (get_or shadows k no_shadow).top) start in
          let stands = upright i no_shadow less in
          absurd (omega (arith, stands, top_is, front.greatest, bottom_is, above))
    ]

pub front_all : (shadows : List Shadow) (top : ℕ) → 0 < length shadows → HasFront shadows (length shadows) top → IsFirstGroup shadows (length shadows) top
front_all shadows top some front =
    front_group shadows (length shadows) top front some (omega arith)
    (subst (λ (xs : List Shadow). All (λ (shadow : Shadow). top < shadow.bottom) xs) (sym (drop_all (length shadows) shadows (omega arith)))
    (All-nil (λ (shadow : Shadow). top < shadow.bottom)))

-- areas

-- the greatest area so far, or none
pub record HasArea (climb top : ℕ) (shadows : List Shadow) (area : ℕ) : Type 0 where
  pub chosen : (area ≡ 0) ⊎ Any (λ (shadow : Shadow). IsNear climb top shadow × (shadow.area ≡ area)) shadows
  pub no_greater : All (λ (shadow : Shadow). IsNear climb top shadow → shadow.area ≤ area) shadows

abbrev Chosen : ℕ → ℕ → ℕ → Shadow → Type 0
Chosen climb top area shadow = IsNear climb top shadow × (shadow.area ≡ area)

abbrev NoGreater : ℕ → ℕ → ℕ → Shadow → Type 0
NoGreater climb top area shadow = IsNear climb top shadow → shadow.area ≤ area

pub area_none : (climb top : ℕ) → HasArea climb top [] 0
area_none climb top = record { chosen = inl refl; no_greater = All-nil (NoGreater climb top 0) }

-- what was found among the first of a list is found among more
found_more : (P : Shadow → Type 0) (shadows : List Shadow) (i : ℕ) → i < length shadows → Any P (take i shadows) → Any P (take (i + 1) shadows)
found_more P shadows i less found =
    subst (λ (xs : List Shadow). Any P xs) (sym (take_more shadows i no_shadow less))
    (any_of P (take i shadows ++ get_or shadows i no_shadow ∷ []) found.1
    (Contains-append_left (take i shadows) (get_or shadows i no_shadow ∷ []) found.1 (member_of P (take i shadows) found)) found.4)

pub area_far : (climb top : ℕ) (shadows : List Shadow) (i area : ℕ) (s : Shadow) → i < length shadows → s ≡ get_or shadows i no_shadow
    → s.top < top - climb → HasArea climb top (take i shadows) area → HasArea climb top (take (i + 1) shadows) area
area_far climb top shadows i area s less is far has = record {
  chosen = elim has.chosen [ inl none ↦ inl none | inr found ↦ inr (found_more (Chosen climb top area) shadows i less found) ];
  no_greater = All-more (NoGreater climb top area) shadows i no_shadow less has.no_greater
      (λ near. absurd (omega (arith, near, far, ap (λ (t : Shadow). t.top) is)));
}

pub area_near : (climb top : ℕ) (shadows : List Shadow) (i area : ℕ) (s : Shadow) → i < length shadows → s ≡ get_or shadows i no_shadow
    → top - climb ≤ s.top → HasArea climb top (take i shadows) area → HasArea climb top (take (i + 1) shadows) (max area s.area)
area_near climb top shadows i area s less is near has = record {
  chosen = by_area (cases_lt area s.area);
  no_greater = All-more (NoGreater climb top (max area s.area)) shadows i no_shadow less (λ k d in' close. omega (arith, has.no_greater k d in' close))
      (λ close. omega (arith, ap (λ (t : Shadow). t.area) is));
}
  where
    this : Contains (take (i + 1) shadows) (get_or shadows i no_shadow)
    this = taken shadows (i + 1) i no_shadow (omega arith) (omega (arith, less))

    by_area : (area < s.area) ⊎ (s.area ≤ area)
        → (max area s.area ≡ 0) ⊎ Any (Chosen climb top (max area s.area)) (take (i + 1) shadows)
    by_area (inl more) =
        let fits : Chosen climb top (max area s.area) (get_or shadows i no_shadow) =
        (omega (arith, near, ap (λ (t : Shadow). t.top) is), omega (arith, more, ap (λ (t : Shadow). t.area) is)) in
        inr (any_of (Chosen climb top (max area s.area)) (take (i + 1) shadows) (get_or shadows i no_shadow) this fits)
    by_area (inr fewer) = elim has.chosen [
      | inl none ↦ inl (omega (arith, none, fewer))
      | inr found ↦
          let same : area ≡ max area s.area = omega (arith, fewer) in
          let P : ℕ → Type 0 = λ n. Any (Chosen climb top n) (take (i + 1) shadows) in
          inr (subst P same (found_more (Chosen climb top area) shadows i less found))
    ]

pub area_all : (climb top : ℕ) (shadows : List Shadow) (area : ℕ) → HasArea climb top shadows area → Any (IsNear climb top) shadows
    → IsTopArea climb top shadows area
area_all climb top shadows area has some = record {
  chosen = elim has.chosen [
    | inl none ↦
        let there = member_of (IsNear climb top) shadows some in
        let low = All-contains (NoGreater climb top area) shadows some.1 has.no_greater there some.4 in
        any_of (Chosen climb top area) shadows some.1 there (some.4, omega (arith, low, none))
    | inr found ↦ found
  ];
  no_greater = has.no_greater;
}

-- the tallest of a group is near its top
pub tallest_near : (climb : ℕ) (shadows : List Shadow) (count top : ℕ) → IsFirstGroup shadows count top → Any (IsNear climb top) (take count shadows)
tallest_near climb shadows count top group =
    any_of (IsNear climb top) (take count shadows) group.tallest group.listed (omega (arith, group.greatest))

-- spans

-- the groups found so far: their spans stand for the shadows that were passed, and the rest begins above them
pub record HasGroups (climb x z : ℕ) (shadows rest : List Shadow) (before now : List Span) : Type 0 where
  pub passed : List Shadow
  pub parts : shadows ≡ passed ++ rest
  pub made : List Span
  pub added : now ≡ before ++ made
  pub spans : AreGroupSpans climb x z shadows made
  pub held : All (λ (shadow : Shadow). Any (λ (span : Span). Reaches span shadow) made) passed
  pub above : All (λ (span : Span). All (λ (shadow : Shadow). span.top < shadow.bottom) rest) made

pub groups_none : (climb x z : ℕ) (shadows : List Shadow) (before : List Span) → HasGroups climb x z shadows shadows before before
groups_none climb x z shadows before = record {
  passed = [];
  parts = refl;
  made = [];
  added = sym (append-nil before);
  spans = record { each = All-nil (IsGroupSpan climb x z shadows); order = λ i j d less in'. absurd (omega (arith, in')) };
  held = All-nil (λ (shadow : Shadow). Any (λ (span : Span). Reaches span shadow) []);
  above = All-nil (λ (span : Span). All (λ (shadow : Shadow). span.top < shadow.bottom) shadows);
}

-- the span of the first group of the rest
abbrev pub next_span : ℕ → ℕ → List Shadow → ℕ → ℕ → Span
next_span x z rest top area = record { x = x; z = z; bottom = (first_of rest).bottom; top = top; area = area }

module _ (climb x z : ℕ) (shadows rest : List Shadow) (before now : List Span) (count top area : ℕ) (upright : All IsUpright shadows)
    (order : IsByBottoms rest) (has : HasGroups climb x z shadows rest before now) (group : IsFirstGroup rest count top)
    (shown : IsTopArea climb top (take count rest) area) where
  abbrev span : Span
  span = next_span x z rest top area

  abbrev first : Shadow
  first = first_of rest

  split : rest ≡ take count rest ++ drop count rest
  split = sym (take-append-drop count rest)

  first_there : Contains rest first
  first_there = Contains-get_or rest 0 no_shadow (omega (arith, group.some, group.within))

  in_all : (s : Shadow) → Contains rest s → Contains shadows s
  in_all s there = subst (λ (xs : List Shadow). Contains xs s) (sym has.parts) (Contains-append_right has.passed rest s there)

  chain : (s : Shadow) → AreLinkedIn rest first s → AreLinkedIn shadows first s
  chain s linked = record { way = linked.way; linked = linked_among (Contains rest) (Contains shadows) in_all first linked.way s linked.linked }

  in_group : (s : Shadow) → Contains (take count rest) s → Contains rest s
  in_group s there = subst (λ (xs : List Shadow). Contains xs s) (sym split) (Contains-append_left (take count rest) (drop count rest) s there)

  in_behind : (s : Shadow) → Contains (drop count rest) s → Contains rest s
  in_behind s there = subst (λ (xs : List Shadow). Contains xs s) (sym split) (Contains-append_right (take count rest) (drop count rest) s there)

  lowest : (s : Shadow) → Contains rest s → first.bottom ≤ s.bottom
  lowest s there =
      let up = order 0 there.0 s (omega arith) there.1 in
      let begin : get_or rest 0 s ≡ first = get_or_default rest 0 s no_shadow (omega (arith, group.some, group.within)) in
      omega (arith, up, ap (λ (t : Shadow). t.bottom) begin, ap (λ (t : Shadow). t.bottom) there.2)

  -- a shadow was passed, is one of the group, or stands behind it
  places : (s : Shadow) → Contains shadows s → Contains has.passed s ⊎ (Contains (take count rest) s ⊎ Contains (drop count rest) s)
  places s there = elim (Contains-append_cases has.passed rest s (subst (λ (xs : List Shadow). Contains xs s) has.parts there)) [
    | inl passed ↦ inl passed
    | inr later ↦ inr (Contains-append_cases (take count rest) (drop count rest) s (subst (λ (xs : List Shadow). Contains xs s) split later))
  ]

  passed_below : (s : Shadow) → Contains has.passed s → s.top < first.bottom
  passed_below s there =
      let Holds : Span → Type 0 = λ other. Reaches other s in
      let found = All-contains (λ (t : Shadow). Any (λ (other : Span). Reaches other t) has.made) has.passed s has.held there in
      let other = found.1 in
      let reaches : Reaches other s = found.4 in
      let higher = All-contains (λ (other : Span). All (λ (t : Shadow). other.top < t.bottom) rest) has.made other has.above (member_of Holds has.made found) in
      omega (arith, reaches.1, All-contains (λ (t : Shadow). other.top < t.bottom) rest first higher first_there)

  in_reach : (s : Shadow) → Contains (take count rest) s → Reaches span s
  in_reach s there = (lowest s (in_group s there), All-contains (λ (t : Shadow). t.top ≤ top) (take count rest) s group.below there)

  behind_above : (s : Shadow) → Contains (drop count rest) s → top < s.bottom
  behind_above s there = All-contains (λ (t : Shadow). top < t.bottom) (drop count rest) s group.behind there

  group_span : IsGroupSpan climb x z shadows span
  group_span = record {
    column = (refl, refl);
    lowest = first;
    listed = in_all first first_there;
    begins = refl;
    reaches = (in_reach first (taken rest count 0 no_shadow group.some group.within)).1;
    tallest = group.tallest;
    tall = chain group.tallest (All-contains (AreLinkedIn rest first) (take count rest) group.tallest group.linked group.listed);
    ends = group.greatest;
    chosen = shown.chosen.1;
    high = chain shown.chosen.1 (All-contains (AreLinkedIn rest first) (take count rest) shown.chosen.1 group.linked
        (member_of (Chosen climb top area) (take count rest) shown.chosen));
    near = shown.chosen.4.0;
    shows = sym shown.chosen.4.1;
    apart = each_of (λ (s : Shadow). Reaches span s ⊎ IsApart span s) shadows (λ s there. elim (places s there) [
      | inl passed ↦ inr (inl (passed_below s passed))
      | inr (inl member) ↦ inl (in_reach s member)
      | inr (inr behind) ↦ inr (inr (behind_above s behind))
    ]);
    no_greater = each_of (λ (s : Shadow). Reaches span s → IsNear climb top s → s.area ≤ area) shadows (λ s there reaches near.
        let stands = All-contains IsUpright shadows s upright there in
        elim (places s there) [
          | inl passed ↦ absurd (omega (arith, passed_below s passed, reaches.0, stands))
          | inr (inl member) ↦ All-contains (NoGreater climb top area) (take count rest) s shown.no_greater member near
          | inr (inr behind) ↦ absurd (omega (arith, behind_above s behind, reaches.1, stands))
        ]);
  }

  pub spans_more : AreGroupSpans climb x z shadows (has.made ++ span ∷ [])
  spans_more = record {
    each = All-push (IsGroupSpan climb x z shadows) has.made span has.spans.each group_span;
    order = all_pairs_push (λ (a b : Span). a.top < b.bottom) has.made span has.spans.order
        (λ k d in'. All-contains (λ (s : Shadow). (get_or has.made k d).top < s.bottom) rest first (has.above k d in') first_there);
  }

  pub groups_more : (new : List Span) → new ≡ now ++ span ∷ [] → HasGroups climb x z shadows (drop count rest) before new
  groups_more new is = record {
    passed = has.passed ++ take count rest;
    parts = has.parts ∙ ap (λ (xs : List Shadow). has.passed ++ xs) split ∙ sym (append_assoc has.passed (take count rest) (drop count rest));
    made = has.made ++ span ∷ [];
    added = is ∙ ap (λ (xs : List Span). xs ++ span ∷ []) has.added ∙ append_assoc before has.made (span ∷ []);
    spans = spans_more;
    held = each_of (λ (s : Shadow). Any (λ (other : Span). Reaches other s) (has.made ++ span ∷ [])) (has.passed ++ take count rest) (λ s there.
        elim (Contains-append_cases has.passed (take count rest) s there) [
          | inl passed ↦
              let Holds : Span → Type 0 = λ other. Reaches other s in
              let found = All-contains (λ (t : Shadow). Any (λ (other : Span). Reaches other t) has.made) has.passed s has.held passed in
              any_of Holds (has.made ++ span ∷ []) found.1 (Contains-append_left has.made (span ∷ []) found.1 (member_of Holds has.made found)) found.4
          | inr member ↦ any_of (λ (other : Span). Reaches other s) (has.made ++ span ∷ []) span (Contains-push has.made span) (in_reach s member)
        ]);
    above = each_of (λ (other : Span). All (λ (s : Shadow). other.top < s.bottom) (drop count rest)) (has.made ++ span ∷ []) (λ other there.
        each_of (λ (s : Shadow). other.top < s.bottom) (drop count rest) (λ s behind. elim (Contains-push_cases has.made span other there) [
          | inl old ↦
              let higher = All-contains (λ (t : Span). All (λ (s : Shadow). t.top < s.bottom) rest) has.made other has.above old in
              All-contains (λ (s : Shadow). other.top < s.bottom) rest s higher (in_behind s behind)
          | inr new ↦ subst (λ (t : Span). t.top < s.bottom) new (behind_above s behind)
        ]));
  }

  -- with this span there would be too many
  pub groups_exceed : 2000000 ≤ length now → ExceedsSpans climb x z shadows before
  groups_exceed full = record {
    kept = shadows;
    stand = stand_same shadows;
    made = has.made ++ span ∷ [];
    many = omega (
      arith,
      full,
      ap (λ (xs : List Span). length xs) has.added,
      length-append before has.made,
      length-append before (has.made ++ span ∷ []),
      length_push has.made span,
    );
    are = spans_more;
  }

pub groups_all : (climb x z : ℕ) (shadows : List Shadow) (before now : List Span) → HasGroups climb x z shadows [] before now → length now ≤ 2000000
    → AppendsSpans climb x z shadows before now
groups_all climb x z shadows before now has few = record {
  kept = shadows;
  stand = stand_same shadows;
  made = has.made;
  added = has.added;
  few = few;
  are = record {
    are = has.spans;
    all = subst (λ (xs : List Shadow). All (λ (s : Shadow). Any (λ (other : Span). Reaches other s) has.made) xs)
        (sym (has.parts ∙ append-nil has.passed)) has.held;
  };
}

-- what was pushed for shadows that stand for others was pushed for these
pub pushed_for : (climb x z : ℕ) (these shadows : List Shadow) (before after : List Span) {T : Type 0} (result : Result T RasterRefusal) → StandFor these shadows
    → HasPushed climb x z shadows before after result → HasPushed climb x z these before after result
pushed_for climb x z these shadows before after (Ok done) stand pushed =
    record { kept = pushed.kept; stand = stand_on these shadows pushed.kept stand pushed.stand; made = pushed.made; added = pushed.added; few = pushed.few; are = pushed.are }
pushed_for climb x z these shadows before after (Err refusals.TooManySpans) stand pushed =
    record { kept = pushed.kept; stand = stand_on these shadows pushed.kept stand pushed.stand; made = pushed.made; many = pushed.many; are = pushed.are }
pushed_for climb x z these shadows before after (Err refusals.OutOfMemory) stand pushed = tt

-- shadows that stand for upright ones are upright
pub upright_for : (these shadows : List Shadow) → StandFor these shadows → All IsUpright these → All IsUpright shadows
upright_for these shadows stand upright =
    each_of IsUpright shadows (λ s there. All-contains IsUpright these s upright (All-contains (Contains these) shadows s stand.are there))

-- and so with limited ones
pub limited_for : (these shadows : List Shadow) → StandFor these shadows → All IsLimited these → All IsLimited shadows
limited_for these shadows stand limited =
    each_of IsLimited shadows (λ s there. All-contains IsLimited these s limited (All-contains (Contains these) shadows s stand.are there))

-- the span of a group of limited shadows fits ten bytes
pub group_small : (climb x z : ℕ) (rest : List Shadow) (count top area : ℕ) → x < 1024 → z < 1024 → All IsUpright rest → All IsLimited rest
    → IsFirstGroup rest count top → IsTopArea climb top (take count rest) area → IsSmallSpan (next_span x z rest top area)
group_small climb x z rest count top area left front upright limited group shown =
    let there : Contains rest (first_of rest) = Contains-get_or rest 0 no_shadow (omega (arith, group.some, group.within)) in
    let stands = All-contains IsUpright rest (first_of rest) upright there in
    let low = All-contains IsLimited rest (first_of rest) limited there in
    let tall = in_rest group.tallest group.listed in
    let near = in_rest shown.chosen.1 (member_of (λ (shadow : Shadow). IsNear climb top shadow × (shadow.area ≡ area)) (take count rest) shown.chosen) in
    record {
      x = omega (arith, left);
      z = omega (arith, front);
      bottom = omega (arith, stands, low.top);
      top = omega (arith, group.greatest, tall.top);
      area = omega (arith, shown.chosen.4.1, near.area);
    }
  where
    in_rest : (s : Shadow) → Contains (take count rest) s → IsLimited s
    in_rest s there =
        let C : List Shadow → Type 0 = λ xs. Contains xs s in
        All-contains IsLimited rest s limited (subst C (take-append-drop count rest) (Contains-append_left (take count rest) (drop count rest) s there))
