-- What triangles leave in the columns of a field.
use Rattle.std.specs.Prelude.{◌≡◌, ℕ, ◌+◌, ◌*◌, ◌<◌, ◌≤◌, ◌⊎◌, max, List, [], ◌∷◌, length, All, AllPairs, Any, Contains}
use Rattle.nav_ground.specs.declared.field.Span.{Span}
use Rattle.nav_ground.specs.declared.field.Field.{Field}
use Rattle.nav_ground.specs.declared.setting.Setting.{Setting}
use Rattle.tri_raster.specs.declared.triangle.Tri.{Tri}
use Rattle.tri_raster.specs.declared.triangle.Shadow.{Shadow}
use Rattle.tri_raster.specs.Triangles.{Weights, count_of, y_of, IsOver, IsInside}

-- the greatest whole number that is not above any point of a triangle in a column
pub record IsBottom (tri : Tri) (x z bottom : ℕ) : Type 0 where
  pub below : (p : Weights) → IsOver tri x z p → bottom * count_of p ≤ y_of tri p
  pub greatest : (other : ℕ) → ((p : Weights) → IsOver tri x z p → other * count_of p ≤ y_of tri p) → other ≤ bottom

-- the least whole number that is not below any point of a triangle in a column
pub record IsHighest (tri : Tri) (x z highest : ℕ) : Type 0 where
  pub above : (p : Weights) → IsOver tri x z p → y_of tri p ≤ highest * count_of p
  pub least : (other : ℕ) → ((p : Weights) → IsOver tri x z p → y_of tri p ≤ other * count_of p) → highest ≤ other

-- what a triangle of a list leaves in a column that it hits: from its bottom to its highest, or to the bottom and one more, with its area
pub record IsShadow (tris : List Tri) (x z : ℕ) (shadow : Shadow) : Type 0 where
  pub tri : Tri
  pub listed : Contains tris tri
  pub point : Weights
  pub hit : IsInside tri x z point
  pub bottom : IsBottom tri x z shadow.bottom
  pub highest : ℕ
  pub is_highest : IsHighest tri x z highest
  pub top : shadow.top ≡ max highest (shadow.bottom + 1)
  pub area : shadow.area ≡ tri.area

-- two shadows meet where neither begins above the other's top
abbrev pub Meets : Shadow → Shadow → Type 0
Meets a b = (a.bottom ≤ b.top) × (b.bottom ≤ a.top)

-- two shadows are linked by a chain of shadows of which each meets the next
abbrev pub AreLinked : (Shadow → Type 0) → Shadow → List Shadow → Shadow → Type 0
AreLinked Is a [] b = a ≡ b
AreLinked Is a (s ∷ way) b = Is s × Meets a s × AreLinked Is s way b

-- a shadow is of the group of another: it is linked to it
pub record IsOfGroup (tris : List Tri) (x z : ℕ) (one s : Shadow) : Type 0 where
  pub way : List Shadow
  pub linked : AreLinked (IsShadow tris x z) one way s

-- a span is that of a group: it has the group's least bottom and greatest top, and the greatest area among those of its shadows whose top is at
-- most the climb below that
pub record IsSpanOf (climb : ℕ) (tris : List Tri) (span : Span) : Type 0 where
  pub one : Shadow
  pub is : IsShadow tris span.x span.z one
  pub lowest : Shadow
  pub has_lowest : IsOfGroup tris span.x span.z one lowest × (span.bottom ≡ lowest.bottom)
  pub no_lower : (s : Shadow) → IsOfGroup tris span.x span.z one s → span.bottom ≤ s.bottom
  pub tallest : Shadow
  pub has_tallest : IsOfGroup tris span.x span.z one tallest × (span.top ≡ tallest.top)
  pub no_taller : (s : Shadow) → IsOfGroup tris span.x span.z one s → s.top ≤ span.top
  pub chosen : Shadow
  pub has_chosen : IsOfGroup tris span.x span.z one chosen × (span.top ≤ chosen.top + climb) × (span.area ≡ chosen.area)
  pub no_greater : (s : Shadow) → IsOfGroup tris span.x span.z one s → span.top ≤ s.top + climb → s.area ≤ span.area

-- a span of a column reaches over a shadow
abbrev pub HoldsShadow : ℕ → ℕ → Shadow → Span → Type 0
HoldsShadow x z s span = (span.x ≡ x) × (span.z ≡ z) × (span.bottom ≤ s.bottom) × (s.top ≤ span.top)

-- one span comes before another: by z, then x, then wholly below it
abbrev pub IsSpanBefore : Span → Span → Type 0
IsSpanBefore a b = (a.z < b.z) ⊎ ((a.z ≡ b.z) × ((a.x < b.x) ⊎ ((a.x ≡ b.x) × (a.top < b.bottom))))

-- the field of triangles: each span is one of a group, each shadow's group has its span, and spans stand by z, x and bottom, each above the one before
pub record IsRaster (setting : Setting) (tris : List Tri) (field : Field) : Type 0 where
  pub width : field.width ≡ setting.width
  pub depth : field.depth ≡ setting.depth
  pub each : All (IsSpanOf setting.agent.climb tris) field.spans
  pub inside : All (λ (span : Span). (span.x < setting.width) × (span.z < setting.depth)) field.spans
  pub all : (x z : ℕ) (s : Shadow) → x < setting.width → z < setting.depth → IsShadow tris x z s → Any (HoldsShadow x z s) field.spans
  pub order : AllPairs IsSpanBefore field.spans

-- there are more spans than a field may have
pub record HasManySpans (setting : Setting) (tris : List Tri) : Type 0 where
  pub spans : List Span
  pub many : 2000000 < length spans
  pub each : All (IsSpanOf setting.agent.climb tris) spans
  pub inside : All (λ (span : Span). (span.x < setting.width) × (span.z < setting.depth)) spans
  pub order : AllPairs IsSpanBefore spans
