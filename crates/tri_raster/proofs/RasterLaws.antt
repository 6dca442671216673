-- What a raster's definition determines.
use Rattle.std.proofs.Common.{◌≡◌, ℕ, zero, suc, ◌+◌, ◌<◌, ◌≤◌, ◌⊎◌, inl, inr, List, [], ◌∷◌, ◌++◌, length, get_or, ap, sym, subst, ◌∙◌, refl, arith}
use Rattle.std.specs.Prelude.{All, AllPairs, Any, Contains}
use Rattle.std.proofs.lemmas.List.Elements.{All-contains, All-head, All-tail}
use Rattle.nav_ground.specs.declared.field.Field.{Field}
use Rattle.nav_ground.specs.declared.field.Span.{Span}
use Rattle.nav_ground.specs.declared.setting.Setting.{Setting}
use Rattle.nav_ground.specs.Fields.{IsField, IsSpan}
use Rattle.nav_ground.specs.Fields.{IsSpanBefore as ComesBefore}
use Rattle.nav_ground.specs.Grounds.{IsSized}
use Rattle.nav_ground.specs.Limits.{IsSetting}
use Rattle.tri_raster.specs.declared.triangle.Shadow.{Shadow}
use Rattle.tri_raster.specs.declared.triangle.Tri.{Tri}
use Rattle.tri_raster.specs.Triangles.{IsTriangle}
use Rattle.tri_raster.specs.Rasters.{IsShadow, Meets, AreLinked, IsOfGroup, IsSpanOf, HoldsShadow, IsSpanBefore, IsRaster, HasManySpans}
use Rattle.tri_raster.specs.Columns.{IsLimited, Reaches}
use Rattle.tri_raster.proofs.ShadowLaws.{each_of, member_of, solid_shadow, limited_shadow}
use Rattle.tri_raster.proofs.LinkLaws.{linked_on, linked_back, linked_more, last_is, passes_at}

-- lists in a strict order

module _ {X : Type 0} (Is : X → Type 0) (Before : X → X → Type 0) (strict : (a b : X) → Is a → Is b → Before a b → Before b a → ⊥) where
  first_before : (x : X) (xs : List X) → AllPairs Before (x ∷ xs) → (y : X) → Contains xs y → Before x y
  first_before x xs order y there = subst (Before x) there.2 (order 0 (suc there.0) y (omega arith) (omega (arith, there.1)))

  rest_order : (x : X) (xs : List X) → AllPairs Before (x ∷ xs) → AllPairs Before xs
  rest_order x xs order i j d less in' = order (suc i) (suc j) d (omega (arith, less)) (omega (arith, in'))

  -- members of a list that are not its first stand in the rest
  in_rest : (x : X) (xs : List X) (y : X) → Contains (x ∷ xs) y → (x ≡ y → ⊥) → Contains xs y
  in_rest x xs y (zero, less, at) other = absurd (other at)
  in_rest x xs y (suc k, less, at) other = (k, omega (arith, less), at)

  never_twice : (x y : X) → Is x → Is y → Before x y → x ≡ y → ⊥
  never_twice x y is_x is_y before same = strict x y is_x is_y before (subst (λ (a : X). Before a x) same (subst (Before x) (sym same) before))

  -- a list in order whose members all stand in another is no longer than that
  pub no_longer : (xs ys : List X) → All Is xs → All Is ys → AllPairs Before xs → AllPairs Before ys → ((x : X) → Contains xs x → Contains ys x)
      → length xs ≤ length ys
  no_longer [] ys are_x are_y order_x order_y sub = omega arith
  no_longer (x ∷ xs) [] are_x are_y order_x order_y sub = absurd (none (sub x (0, omega arith, refl)))
    where
      none : Contains [] x → ⊥
      none (k, less, at) = omega (arith, less)
  no_longer (x ∷ xs) (y ∷ ys) are_x are_y order_x order_y sub =
      by_place (sub x (0, omega arith, refl)) (no_longer xs ys) (no_longer (x ∷ xs) ys)
    where
      is_x : Is x
      is_x = All-head Is x xs are_x

      is_y : Is y
      is_y = All-head Is y ys are_y

      rest_x : All Is xs
      rest_x = All-tail Is x xs are_x

      rest_y : All Is ys
      rest_y = All-tail Is y ys are_y

      later : (s : X) → Contains xs s → Contains (x ∷ xs) s
      later s (k, less, at) = (suc k, omega (arith, less), at)

      by_place : Contains (y ∷ ys) x
          → (All Is xs → All Is ys → AllPairs Before xs → AllPairs Before ys → ((s : X) → Contains xs s → Contains ys s) → length xs ≤ length ys)
          → (All Is (x ∷ xs) → All Is ys → AllPairs Before (x ∷ xs) → AllPairs Before ys → ((s : X) → Contains (x ∷ xs) s → Contains ys s) → length (x ∷ xs) ≤ length ys)
          → length (x ∷ xs) ≤ length (y ∷ ys)
      by_place (zero, less, at) both one =
          let shorter = both rest_x rest_y (rest_order x xs order_x) (rest_order y ys order_y) (λ s there. in_rest y ys s (sub s (later s there))
          (λ same. never_twice x s is_x (All-contains Is xs s rest_x there) (first_before x xs order_x s there) (sym at ∙ same))) in
          omega (arith, shorter)
      by_place (suc k, less, at) both one =
          let there : Contains ys x = (k, omega (arith, less), at) in
          let behind : Before y x = first_before y ys order_y x there in
          let shorter = one are_x rest_y order_x (rest_order y ys order_y) (λ s found. in_rest y ys s (sub s found)
          (λ same. elsewhere s found same there behind)) in
          omega (arith, shorter)
        where
          elsewhere : (s : X) → Contains (x ∷ xs) s → y ≡ s → Contains ys x → Before y x → ⊥
          elsewhere s (zero, inside, is) same there before = never_twice y x is_y is_x before (same ∙ sym is)
          elsewhere s (suc i, inside, is) same there before =
              strict x y is_x is_y (subst (Before x) (sym same) (first_before x xs order_x s (i, omega (arith, inside), is))) before

  -- two lists in order with the same members are the same
  pub same_members : (xs ys : List X) → All Is xs → All Is ys → AllPairs Before xs → AllPairs Before ys
      → ((x : X) → Contains xs x → Contains ys x) → ((y : X) → Contains ys y → Contains xs y) → xs ≡ ys
  same_members [] [] are_x are_y order_x order_y sub super = refl
  same_members [] (y ∷ ys) are_x are_y order_x order_y sub super = absurd (none (super y (0, omega arith, refl)))
    where
      none : Contains [] y → ⊥
      none (k, less, at) = omega (arith, less)
  same_members (x ∷ xs) [] are_x are_y order_x order_y sub super = absurd (none (sub x (0, omega arith, refl)))
    where
      none : Contains [] x → ⊥
      none (k, less, at) = omega (arith, less)
  same_members (x ∷ xs) (y ∷ ys) are_x are_y order_x order_y sub super =
      let rest = same_members xs ys (All-tail Is x xs are_x) (All-tail Is y ys are_y) (rest_order x xs order_x) (rest_order y ys order_y)
      (λ s there. in_rest y ys s (sub s (later x xs s there))
      (λ again. never_twice x s is_x (All-contains Is xs s (All-tail Is x xs are_x) there) (first_before x xs order_x s there) (same ∙ again)))
      (λ s there. in_rest x xs s (super s (later y ys s there))
      (λ again. never_twice y s is_y (All-contains Is ys s (All-tail Is y ys are_y) there) (first_before y ys order_y s there) (sym same ∙ again))) in
      ap (λ (z : X). z ∷ xs) same ∙ ap (λ (zs : List X). y ∷ zs) rest
    where
      is_x : Is x
      is_x = All-head Is x xs are_x

      is_y : Is y
      is_y = All-head Is y ys are_y

      later : (a : X) (more : List X) (s : X) → Contains more s → Contains (a ∷ more) s
      later a more s (k, less, at) = (suc k, omega (arith, less), at)

      firsts : Contains (y ∷ ys) x → Contains (x ∷ xs) y → x ≡ y
      firsts (zero, less, at) there = sym at
      firsts (suc k, less, at) (zero, less_y, at_y) = at_y
      firsts (suc k, less, at) (suc i, less_y, at_y) =
          absurd (strict x y is_x is_y (first_before x xs order_x y (i, omega (arith, less_y), at_y)) (first_before y ys order_y x (k, omega (arith, less), at)))

      same : x ≡ y
      same = firsts (sub x (0, omega arith, refl)) (super y (0, omega arith, refl))

-- groups

-- a group's shadows are linked to each other
linked_to : (tris : List Tri) (x z : ℕ) (one a b : Shadow) → IsShadow tris x z one → IsOfGroup tris x z one a → IsOfGroup tris x z one b
    → IsOfGroup tris x z a b
linked_to tris x z one a b is of_a of_b =
    let back = linked_back (IsShadow tris x z) one of_a.way a is of_a.linked in
    record { way = back.0 ++ of_b.way; linked = linked_on (IsShadow tris x z) a back.0 one of_b.way b back.1 of_b.linked }

-- a shadow is of the group of the span that reaches over it
reached : (climb : ℕ) (tris : List Tri) (span : Span) (is : IsSpanOf climb tris span) (s : Shadow) → IsShadow tris span.x span.z s → Reaches span s
    → IsOfGroup tris span.x span.z is.one s
reached climb tris span is s shadow reaches =
    let Is : Shadow → Type 0 = IsShadow tris span.x span.z in
    let solid = solid_shadow tris span.x span.z s shadow in
    let lowest = is.has_lowest.0 in
    let is_lowest = last_is Is is.one lowest.way is.lowest is.is lowest.linked in
    let up = linked_to tris span.x span.z is.one is.lowest is.tallest is.is lowest is.has_tallest.0 in
    let found = passes_at Is is.lowest up.way is.tallest s.bottom is_lowest up.linked
    (omega (arith, is.has_lowest.1, reaches.0)) (omega (arith, is.has_tallest.1, reaches.1, solid)) in
    record {
      way = lowest.way ++ (found.way ++ s ∷ []);
      linked = linked_on Is is.one lowest.way is.lowest (found.way ++ s ∷ []) s lowest.linked
          (linked_more Is is.lowest found.way found.one s found.linked shadow (omega (arith, found.from, solid), found.to));
    }

-- the group of a span, seen from another span's shadow in it
of_group : (tris : List Tri) (x z : ℕ) (one other s : Shadow) → IsOfGroup tris x z one other → IsOfGroup tris x z other s → IsOfGroup tris x z one s
of_group tris x z one other s there on =
    record { way = there.way ++ on.way; linked = linked_on (IsShadow tris x z) one there.way other on.way s there.linked on.linked }

-- the same span of the same column: its parts are equal
same_span : (a b : Span) → a.x ≡ b.x → a.z ≡ b.z → a.bottom ≡ b.bottom → a.top ≡ b.top → a.area ≡ b.area → a ≡ b
same_span a b x z bottom top area =
    ap (λ n. record a { x = n }) x
    ∙ ap (λ n. record a { x = b.x; z = n }) z
    ∙ ap (λ n. record a { x = b.x; z = b.z; bottom = n }) bottom
    ∙ ap (λ n. record a { x = b.x; z = b.z; bottom = b.bottom; top = n }) top
    ∙ ap (λ n. record a { x = b.x; z = b.z; bottom = b.bottom; top = b.top; area = n }) area

-- two spans of groups of one column of which one reaches over the shadow that the other begins with have the same parts
record HaveSameParts (a b : Span) : Type 0 where
  bottom : a.bottom ≡ b.bottom
  top : a.top ≡ b.top
  area : a.area ≡ b.area

same_parts : (climb : ℕ) (tris : List Tri) (a b : Span) (is_a : IsSpanOf climb tris a) (is_b : IsSpanOf climb tris b) (x z : ℕ) → a.x ≡ x → a.z ≡ z
    → b.x ≡ x → b.z ≡ z → Reaches b is_a.one → HaveSameParts a b
same_parts climb tris a b is_a is_b x z ax az bx bz reaches =
    record { bottom = omega (arith, low, lower); top = tops; area = omega (arith, great, greater) }
  where
    Of : Shadow → Shadow → Type 0
    Of one s = IsOfGroup tris x z one s

    at_a : (one s : Shadow) → Of one s → IsOfGroup tris a.x a.z one s
    at_a one s of =
        let X : ℕ → Type 0 = λ at. IsOfGroup tris at z one s in
        let Z : ℕ → Type 0 = λ at. IsOfGroup tris a.x at one s in
        subst Z (sym az) (subst X (sym ax) of)

    from_a : (one s : Shadow) → IsOfGroup tris a.x a.z one s → Of one s
    from_a one s of =
        let X : ℕ → Type 0 = λ at. IsOfGroup tris at a.z one s in
        let Z : ℕ → Type 0 = λ at. IsOfGroup tris x at one s in
        subst Z az (subst X ax of)

    at_b : (one s : Shadow) → Of one s → IsOfGroup tris b.x b.z one s
    at_b one s of =
        let X : ℕ → Type 0 = λ at. IsOfGroup tris at z one s in
        let Z : ℕ → Type 0 = λ at. IsOfGroup tris b.x at one s in
        subst Z (sym bz) (subst X (sym bx) of)

    from_b : (one s : Shadow) → IsOfGroup tris b.x b.z one s → Of one s
    from_b one s of =
        let X : ℕ → Type 0 = λ at. IsOfGroup tris at b.z one s in
        let Z : ℕ → Type 0 = λ at. IsOfGroup tris x at one s in
        subst Z bz (subst X bx of)

    is_one : IsShadow tris b.x b.z is_a.one
    is_one =
        let X : ℕ → Type 0 = λ at. IsShadow tris at a.z is_a.one in
        let Z : ℕ → Type 0 = λ at. IsShadow tris b.x at is_a.one in
        subst Z (az ∙ sym bz) (subst X (ax ∙ sym bx) is_a.is)

    start : IsShadow tris x z is_b.one
    start =
        let X : ℕ → Type 0 = λ at. IsShadow tris at b.z is_b.one in
        let Z : ℕ → Type 0 = λ at. IsShadow tris x at is_b.one in
        subst Z bz (subst X bx is_b.is)

    there : Of is_b.one is_a.one
    there = from_b is_b.one is_a.one (reached climb tris b is_b is_a.one is_one reaches)

    back : Of is_a.one is_b.one
    back = linked_to tris x z is_b.one is_a.one is_b.one start there (record { way = []; linked = refl })

    in_b : (s : Shadow) → IsOfGroup tris a.x a.z is_a.one s → IsOfGroup tris b.x b.z is_b.one s
    in_b s of = at_b is_b.one s (of_group tris x z is_b.one is_a.one s there (from_a is_a.one s of))

    in_a : (s : Shadow) → IsOfGroup tris b.x b.z is_b.one s → IsOfGroup tris a.x a.z is_a.one s
    in_a s of = at_a is_a.one s (of_group tris x z is_a.one is_b.one s back (from_b is_b.one s of))

    low : a.bottom ≤ b.bottom
    low = omega (arith, is_a.no_lower is_b.lowest (in_a is_b.lowest is_b.has_lowest.0), is_b.has_lowest.1)

    lower : b.bottom ≤ a.bottom
    lower = omega (arith, is_b.no_lower is_a.lowest (in_b is_a.lowest is_a.has_lowest.0), is_a.has_lowest.1)

    tall : b.top ≤ a.top
    tall = omega (arith, is_a.no_taller is_b.tallest (in_a is_b.tallest is_b.has_tallest.0), is_b.has_tallest.1)

    taller : a.top ≤ b.top
    taller = omega (arith, is_b.no_taller is_a.tallest (in_b is_a.tallest is_a.has_tallest.0), is_a.has_tallest.1)

    tops : a.top ≡ b.top
    tops = omega (arith, tall, taller)

    great : b.area ≤ a.area
    great = omega (arith, is_a.no_greater is_b.chosen (in_a is_b.chosen is_b.has_chosen.0) (omega (arith, is_b.has_chosen.1, tops)), is_b.has_chosen.2)

    greater : a.area ≤ b.area
    greater = omega (arith, is_b.no_greater is_a.chosen (in_b is_a.chosen is_a.has_chosen.0) (omega (arith, is_a.has_chosen.1, tops)), is_a.has_chosen.2)

-- a span of a group stands in a raster
pub in_raster : (setting : Setting) (tris : List Tri) (field : Field) → IsRaster setting tris field → (span : Span)
    → IsSpanOf setting.agent.climb tris span → span.x < setting.width → span.z < setting.depth → Contains field.spans span
in_raster setting tris field raster span is x z =
    let Holds : Span → Type 0 = λ other. HoldsShadow span.x span.z is.one other in
    let found = raster.all span.x span.z is.one x z is.is in
    let there = member_of Holds field.spans found in
    let other = found.1 in
    let holds : HoldsShadow span.x span.z is.one other = found.4 in
    let is_other = All-contains (IsSpanOf setting.agent.climb tris) field.spans other raster.each there in
    let parts = same_parts setting.agent.climb tris span other is is_other span.x span.z refl refl holds.0 holds.1 (holds.2, holds.3) in
    subst (Contains field.spans) (sym (same_span span other (sym holds.0) (sym holds.1) parts.bottom parts.top parts.area)) there

-- spans of groups have some height, so that none comes before another that comes before it
abbrev IsSolid : Span → Type 0
IsSolid span = span.bottom < span.top

solid_span : (climb : ℕ) (tris : List Tri) (span : Span) → IsSpanOf climb tris span → IsSolid span
solid_span climb tris span is =
    let itself : IsOfGroup tris span.x span.z is.one is.one = record { way = []; linked = refl } in
    omega (arith, solid_shadow tris span.x span.z is.one is.is, is.no_lower is.one itself, is.no_taller is.one itself)

one_way : (a b : Span) → IsSolid a → IsSolid b → IsSpanBefore a b → IsSpanBefore b a → ⊥
one_way a b solid_a solid_b (inl less) (inl more) = omega (arith, less, more)
one_way a b solid_a solid_b (inl less) (inr (same, more)) = omega (arith, less, same)
one_way a b solid_a solid_b (inr (same, less)) (inl more) = omega (arith, more, same)
one_way a b solid_a solid_b (inr (same_z, inl less)) (inr (other_z, inl more)) = omega (arith, less, more)
one_way a b solid_a solid_b (inr (same_z, inl less)) (inr (other_z, inr (same_x, more))) = omega (arith, less, same_x)
one_way a b solid_a solid_b (inr (same_z, inr (same_x, less))) (inr (other_z, inl more)) = omega (arith, more, same_x)
one_way a b solid_a solid_b (inr (same_z, inr (same_x, less))) (inr (other_z, inr (other_x, more))) = omega (arith, less, more, solid_a, solid_b)

solid_spans : (climb : ℕ) (tris : List Tri) (spans : List Span) → All (IsSpanOf climb tris) spans → All IsSolid spans
solid_spans climb tris spans each = each_of IsSolid spans (λ span there. solid_span climb tris span (All-contains (IsSpanOf climb tris) spans span each there))

-- each span of groups in a field stands in a raster of that field
all_in_raster : (setting : Setting) (tris : List Tri) (field : Field) (spans : List Span) → IsRaster setting tris field
    → All (IsSpanOf setting.agent.climb tris) spans → All (λ (span : Span). (span.x < setting.width) × (span.z < setting.depth)) spans
    → (span : Span) → Contains spans span → Contains field.spans span
all_in_raster setting tris field spans raster each inside span there =
    let within = All-contains (λ (s : Span). (s.x < setting.width) × (s.z < setting.depth)) spans span inside there in
    in_raster setting tris field raster span (All-contains (IsSpanOf setting.agent.climb tris) spans span each there) within.0 within.1

-- triangles have one raster over a field
pub one_raster : (setting : Setting) (tris : List Tri) (a b : Field) → IsRaster setting tris a → IsRaster setting tris b → a ≡ b
one_raster setting tris a b is_a is_b =
    let spans = same_members IsSolid IsSpanBefore one_way a.spans b.spans (solid_spans setting.agent.climb tris a.spans is_a.each)
    (solid_spans setting.agent.climb tris b.spans is_b.each) is_a.order is_b.order
    (all_in_raster setting tris b a.spans is_b is_a.each is_a.inside) (all_in_raster setting tris a b.spans is_a is_b.each is_b.inside) in
    ap (λ n. record a { width = n }) (is_a.width ∙ sym is_b.width)
    ∙ ap (λ n. record a { width = b.width; depth = n }) (is_a.depth ∙ sym is_b.depth)
    ∙ ap (λ (list : List Span). record a { width = b.width; depth = b.depth; spans = list }) spans

-- where there are too many spans, no raster has few
pub many_or_few : (setting : Setting) (tris : List Tri) (field : Field) → HasManySpans setting tris → IsRaster setting tris field
    → length field.spans ≤ 2000000 → ⊥
many_or_few setting tris field many raster few =
    let fits = no_longer IsSolid IsSpanBefore one_way many.spans field.spans (solid_spans setting.agent.climb tris many.spans many.each)
    (solid_spans setting.agent.climb tris field.spans raster.each) many.order raster.order
    (all_in_raster setting tris field many.spans raster many.each many.inside) in
    omega (arith, fits, many.many, few)

-- a raster within a field's count of spans is a field

group_limits : (tris : List Tri) (x z : ℕ) (one s : Shadow) → All IsTriangle tris → IsShadow tris x z one → IsOfGroup tris x z one s → IsLimited s
group_limits tris x z one s limits is of = limited_shadow tris x z s limits (last_is (IsShadow tris x z) one of.way s is of.linked)

raster_span : (setting : Setting) (tris : List Tri) (span : Span) → All IsTriangle tris → IsSpanOf setting.agent.climb tris span
    → span.x < setting.width → span.z < setting.depth → IsSpan setting.width setting.depth span
raster_span setting tris span limits is x z =
    let tall = group_limits tris span.x span.z is.one is.tallest limits is.is is.has_tallest.0 in
    let chosen = group_limits tris span.x span.z is.one is.chosen limits is.is is.has_chosen.0 in
    record {
      x = x;
      z = z;
      solid = solid_span setting.agent.climb tris span is;
      top = omega (arith, tall.top, is.has_tallest.1);
      area = omega (arith, chosen.area, is.has_chosen.2);
    }

weaker_order : (a b : Span) → IsSpanBefore a b → ComesBefore a b
weaker_order a b (inl less) = inl less
weaker_order a b (inr (same, inl less)) = inr (same, inl less)
weaker_order a b (inr (same, inr (equal, less))) = inr (same, inr (equal, omega (arith, less)))

pub raster_field : (setting : Setting) (tris : List Tri) (field : Field) → IsSetting setting → All IsTriangle tris → IsRaster setting tris field
    → length field.spans ≤ 2000000 → IsField field
raster_field setting tris field rules limits raster few =
    let spans : All (IsSpan setting.width setting.depth) field.spans = each_of (IsSpan setting.width setting.depth) field.spans (λ span there.
    let within = All-contains (λ (s : Span). (s.x < setting.width) × (s.z < setting.depth)) field.spans span raster.inside there in
    raster_span setting tris span limits (All-contains (IsSpanOf setting.agent.climb tris) field.spans span raster.each there) within.0 within.1) in
    let W : ℕ → Type 0 = λ width. All (IsSpan width field.depth) field.spans in
    let D : ℕ → Type 0 = λ depth. All (IsSpan setting.width depth) field.spans in
    record {
      wide = omega (arith, rules.wide, raster.width);
      width = omega (arith, rules.width, raster.width);
      deep = omega (arith, rules.deep, raster.depth);
      depth = omega (arith, rules.depth, raster.depth);
      few = few;
      spans = subst W (sym raster.width) (subst D (sym raster.depth) spans);
      order = λ i j d less in'. weaker_order (get_or field.spans i d) (get_or field.spans j d) (raster.order i j d less in');
    }

pub raster_size : (setting : Setting) (tris : List Tri) (field : Field) → IsRaster setting tris field → IsSized setting field
raster_size setting tris field raster = record { width = raster.width; depth = raster.depth }
