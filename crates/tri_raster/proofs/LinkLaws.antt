-- Groups of linked shadows: what their spans are.
use Rattle.std.proofs.Common.{◌≡◌, ℕ, zero, suc, ◌+◌, ◌<◌, ◌≤◌, ◌⊎◌, inl, inr, List, [], ◌∷◌, ◌++◌, length, get_or, ap, sym, subst, ◌∙◌, refl, arith}
use Rattle.std.specs.Prelude.{All, AllPairs, Any, Contains}
use Rattle.std.proofs.lemmas.Bool.{cases_lt}
use Rattle.std.proofs.lemmas.List.Elements.{All-contains, All-append, Contains-append_left}
use Rattle.nav_ground.specs.declared.field.Span.{Span}
use Rattle.tri_raster.specs.declared.triangle.Shadow.{Shadow}
use Rattle.tri_raster.specs.declared.triangle.Tri.{Tri}
use Rattle.tri_raster.specs.Rasters.{IsShadow, Meets, AreLinked, IsOfGroup, IsSpanOf}
use Rattle.tri_raster.specs.Columns.{Covers, IsCovered, AreKept, AreLinkedIn, Reaches, IsApart, IsNear, IsGroupSpan}
use Rattle.tri_raster.proofs.ShadowLaws.{member_of, solid_shadow}

module _ (Is : Shadow → Type 0) where
  -- one more shadow at the end of a chain
  pub linked_more : (a : Shadow) (way : List Shadow) (b c : Shadow) → AreLinked Is a way b → Is c → Meets b c → AreLinked Is a (way ++ c ∷ []) c
  linked_more a [] b c same is meets =
      let M : Shadow → Type 0 = λ s. Meets s c in
      (is, subst M (sym same) meets, refl)
  linked_more a (s ∷ way) b c linked is meets = (linked.0, linked.1, linked_more s way b c linked.2 is meets)

  -- one chain and then another
  pub linked_on : (a : Shadow) (way : List Shadow) (b : Shadow) (more : List Shadow) (c : Shadow) → AreLinked Is a way b → AreLinked Is b more c
      → AreLinked Is a (way ++ more) c
  linked_on a [] b more c same other =
      let L : Shadow → Type 0 = λ s. AreLinked Is s more c in
      subst L (sym same) other
  linked_on a (s ∷ way) b more c linked other = (linked.0, linked.1, linked_on s way b more c linked.2 other)

  -- a chain the other way
  pub linked_back : (a : Shadow) (way : List Shadow) (b : Shadow) → Is a → AreLinked Is a way b → (back : List Shadow) × AreLinked Is b back a
  linked_back a [] b is same = ([], sym same)
  linked_back a (s ∷ way) b is linked =
      let back = linked_back s way b linked.0 linked.2 in
      (back.0 ++ a ∷ [], linked_more b back.0 s a back.1 is (linked.1.1, linked.1.0))

  -- the last of a chain is one of the shadows
  pub last_is : (a : Shadow) (way : List Shadow) (b : Shadow) → Is a → AreLinked Is a way b → Is b
  last_is a [] b is same = subst Is same is
  last_is a (s ∷ way) b is linked = last_is s way b linked.0 linked.2

  -- some shadow of a chain reaches over each height between
  pub record PassesAt (a : Shadow) (height : ℕ) : Type 0 where
    pub one : Shadow
    pub is : Is one
    pub way : List Shadow
    pub linked : AreLinked Is a way one
    pub from : one.bottom ≤ height
    pub to : height ≤ one.top

  pub passes_at : (a : Shadow) (way : List Shadow) (b : Shadow) (height : ℕ) → Is a → AreLinked Is a way b → a.bottom ≤ height → height ≤ b.top
      → PassesAt a height
  passes_at a [] b height is same low high =
      record { one = a; is = is; way = []; linked = refl; from = low; to = omega (arith, high, ap (λ (s : Shadow). s.top) same) }
  passes_at a (s ∷ way) b height is linked low high = elim (cases_lt a.top height) [
    | inl above ↦
        let found = passes_at s way b height linked.0 linked.2 (omega (arith, linked.1, above)) high in
        record { one = found.one; is = found.is; way = s ∷ found.way; linked = (linked.0, linked.1, found.linked); from = found.from; to = found.to }
    | inr within ↦ record { one = a; is = is; way = []; linked = refl; from = low; to = within }
  ]

-- a chain of some shadows is one of others among which they are
pub linked_among : (Is Are : Shadow → Type 0) → ((s : Shadow) → Is s → Are s) → (a : Shadow) (way : List Shadow) (b : Shadow) → AreLinked Is a way b
    → AreLinked Are a way b
linked_among Is Are are a [] b same = same
linked_among Is Are are a (s ∷ way) b linked = (are s linked.0, linked.1, linked_among Is Are are s way b linked.2)

-- a chain of shadows goes on where a span that is apart from all others reaches
pub stays_within : (tris : List Tri) (x z : ℕ) (kept : List Shadow) → AreKept tris x z kept → (span : Span)
    → All (λ (s : Shadow). Reaches span s ⊎ IsApart span s) kept → (a : Shadow) (way : List Shadow) (b : Shadow) → Reaches span a
    → AreLinked (IsShadow tris x z) a way b → Reaches span b
stays_within tris x z kept are span apart a [] b reaches same = subst (Reaches span) same reaches
stays_within tris x z kept are span apart a (s ∷ way) b reaches linked =
    let found = are.all s linked.0 in
    let covers : Covers found.1 s = found.4 in
    let place = All-contains (λ (t : Shadow). Reaches span t ⊎ IsApart span t) kept found.1 apart (member_of (λ (t : Shadow). Covers t s) kept found) in
    let next : Reaches span s = elim place [
      | inl over ↦ (omega (arith, over.0, covers.0), omega (arith, over.1, covers.1))
      | inr (inl below) ↦ absurd (omega (arith, below, reaches.0, linked.1.0, covers.1))
      | inr (inr above) ↦ absurd (omega (arith, above, reaches.1, linked.1.1, covers.0))
    ] in
    stays_within tris x z kept are span apart s way b next linked.2

-- a chain of kept shadows is one of shadows
kept_chain : (tris : List Tri) (x z : ℕ) (kept : List Shadow) (a b : Shadow) → AreKept tris x z kept → AreLinkedIn kept a b → IsOfGroup tris x z a b
kept_chain tris x z kept a b are chain = record {
  way = chain.way;
  linked = linked_among (Contains kept) (IsShadow tris x z) (λ s there. All-contains (IsShadow tris x z) kept s are.are there) a chain.way b chain.linked;
}

-- the span of a group of what is kept is that of a group of all shadows
group_span : (climb : ℕ) (tris : List Tri) (x z : ℕ) (kept : List Shadow) (span : Span) → AreKept tris span.x span.z kept
    → IsGroupSpan climb x z kept span → IsSpanOf climb tris span
group_span climb tris x z kept span are group = record {
  one = group.lowest;
  is = is_lowest;
  lowest = group.lowest;
  has_lowest = (record { way = []; linked = refl }, group.begins);
  no_lower = λ s of. (within s of).0;
  tallest = group.tallest;
  has_tallest = (kept_chain tris span.x span.z kept group.lowest group.tallest are group.tall, group.ends);
  no_taller = λ s of. (within s of).1;
  chosen = group.chosen;
  has_chosen = (kept_chain tris span.x span.z kept group.lowest group.chosen are group.high, group.near, group.shows);
  no_greater = no_greater;
}
  where
    is_lowest : IsShadow tris span.x span.z group.lowest
    is_lowest = All-contains (IsShadow tris span.x span.z) kept group.lowest are.are group.listed

    within : (s : Shadow) → IsOfGroup tris span.x span.z group.lowest s → Reaches span s
    within s of = stays_within tris span.x span.z kept are span group.apart group.lowest of.way s (omega (arith, group.begins), group.reaches) of.linked

    no_greater : (s : Shadow) → IsOfGroup tris span.x span.z group.lowest s → span.top ≤ s.top + climb → s.area ≤ span.area
    no_greater s of near =
        let is = last_is (IsShadow tris span.x span.z) group.lowest of.way s is_lowest of.linked in
        let solid = solid_shadow tris span.x span.z s is in
        let found = are.all s is in
        let covers : Covers found.1 s = found.4 in
        let there = member_of (λ (t : Shadow). Covers t s) kept found in
        let place = All-contains (λ (t : Shadow). Reaches span t ⊎ IsApart span t) kept found.1 group.apart there in
        let inside = within s of in
        let reaches : Reaches span found.1 = elim place [
          | inl over ↦ over
          | inr (inl below) ↦ absurd (omega (arith, below, inside.0, solid, covers.1))
          | inr (inr above) ↦ absurd (omega (arith, above, inside.1, solid, covers.0))
        ] in
        let most = All-contains (λ (t : Shadow). Reaches span t → IsNear climb span.top t → t.area ≤ span.area) kept found.1 group.no_greater there reaches
        (omega (arith, near, covers.1)) in
        omega (arith, most, covers.2)

pub span_of_group : (climb : ℕ) (tris : List Tri) (x z : ℕ) (kept : List Shadow) (span : Span) → AreKept tris x z kept
    → IsGroupSpan climb x z kept span → IsSpanOf climb tris span
span_of_group climb tris x z kept span are group =
    let X : ℕ → Type 0 = λ at. AreKept tris at z kept in
    let Z : ℕ → Type 0 = λ at. AreKept tris span.x at kept in
    group_span climb tris x z kept span (subst Z (sym group.column.1) (subst X (sym group.column.0) are)) group
