-- Shadows kept for a column in place of all, and the spans of their groups.
use Rattle.std.specs.Prelude.{◌≡◌, ℕ, ◌+◌, ◌<◌, ◌≤◌, ◌⊎◌, Bool, nat_le, ◌&&◌, List, [], ◌∷◌, ◌++◌, length, take, drop, slice_index_or, All, AllPairs, Any, Contains}
use Rattle.nav_ground.specs.declared.field.Span.{Span}
use Rattle.tri_raster.specs.declared.triangle.Shadow.{Shadow}
use Rattle.tri_raster.specs.declared.triangle.Tri.{Tri}
use Rattle.tri_raster.specs.Rasters.{IsShadow, AreLinked}

-- a shadow reaches over another and has no lesser area, so that the other changes no span
abbrev pub Covers : Shadow → Shadow → Type 0
Covers one other = (one.bottom ≤ other.bottom) × (other.top ≤ one.top) × (other.area ≤ one.area)

-- the same as a test
abbrev pub covers : Shadow → Shadow → Bool
covers one other = nat_le one.bottom other.bottom && nat_le other.top one.top && nat_le other.area one.area

-- some shadow of a list covers this one
abbrev pub IsCovered : List Shadow → Shadow → Type 0
IsCovered kept shadow = Any (λ (one : Shadow). Covers one shadow) kept

-- shadows that are kept stand for those that there are: each is one of these, and these are all covered
pub record StandFor (these kept : List Shadow) : Type 0 where
  pub are : All (Contains these) kept
  pub all : All (IsCovered kept) these

-- shadows are kept for a column: each is what one of some triangles leaves there, and all that these leave is covered
pub record AreKept (tris : List Tri) (x z : ℕ) (kept : List Shadow) : Type 0 where
  pub are : All (IsShadow tris x z) kept
  pub all : (shadow : Shadow) → IsShadow tris x z shadow → IsCovered kept shadow

-- a shadow does not end below where it begins
abbrev pub IsUpright : Shadow → Type 0
IsUpright shadow = shadow.bottom ≤ shadow.top

-- a shadow ends where a span may, and has an area that a span may have
pub record IsLimited (shadow : Shadow) : Type 0 where
  pub top : shadow.top ≤ 8191
  pub area : shadow.area ≤ 63

-- two shadows are linked by a chain of shadows of a list
pub record AreLinkedIn (shadows : List Shadow) (a b : Shadow) : Type 0 where
  pub way : List Shadow
  pub linked : AreLinked (Contains shadows) a way b

-- what stands at the front of a list of none
abbrev pub no_shadow : Shadow
no_shadow = record { bottom = 0; top = 0; area = 0 }

abbrev pub first_of : List Shadow → Shadow
first_of shadows = slice_index_or shadows 0 no_shadow

-- of shadows by their bottoms the first so many are one group, with this greatest top: each is linked to the first, and the others begin above it
pub record IsFirstGroup (shadows : List Shadow) (count top : ℕ) : Type 0 where
  pub some : 0 < count
  pub within : count ≤ length shadows
  pub tallest : Shadow
  pub listed : Contains (take count shadows) tallest
  pub greatest : top ≡ tallest.top
  pub linked : All (AreLinkedIn shadows (first_of shadows)) (take count shadows)
  pub below : All (λ (shadow : Shadow). shadow.top ≤ top) (take count shadows)
  pub behind : All (λ (shadow : Shadow). top < shadow.bottom) (drop count shadows)

-- a shadow's top is at most the climb below the top of a group
abbrev pub IsNear : ℕ → ℕ → Shadow → Type 0
IsNear climb top shadow = top ≤ shadow.top + climb

-- the greatest area of the shadows whose top is at most the climb below this top
pub record IsTopArea (climb top : ℕ) (shadows : List Shadow) (area : ℕ) : Type 0 where
  pub chosen : Any (λ (shadow : Shadow). IsNear climb top shadow × (shadow.area ≡ area)) shadows
  pub no_greater : All (λ (shadow : Shadow). IsNear climb top shadow → shadow.area ≤ area) shadows

-- a span reaches over a shadow of its column, or apart from it
abbrev pub Reaches : Span → Shadow → Type 0
Reaches span shadow = (span.bottom ≤ shadow.bottom) × (shadow.top ≤ span.top)

abbrev pub IsApart : Span → Shadow → Type 0
IsApart span shadow = (shadow.top < span.bottom) ⊎ (span.top < shadow.bottom)

-- the span of one group of the shadows kept for a column
pub record IsGroupSpan (climb x z : ℕ) (shadows : List Shadow) (span : Span) : Type 0 where
  pub column : (span.x ≡ x) × (span.z ≡ z)
  pub lowest : Shadow
  pub listed : Contains shadows lowest
  pub begins : span.bottom ≡ lowest.bottom
  pub reaches : lowest.top ≤ span.top
  pub tallest : Shadow
  pub tall : AreLinkedIn shadows lowest tallest
  pub ends : span.top ≡ tallest.top
  pub chosen : Shadow
  pub high : AreLinkedIn shadows lowest chosen
  pub near : IsNear climb span.top chosen
  pub shows : span.area ≡ chosen.area
  pub apart : All (λ (shadow : Shadow). Reaches span shadow ⊎ IsApart span shadow) shadows
  pub no_greater : All (λ (shadow : Shadow). Reaches span shadow → IsNear climb span.top shadow → shadow.area ≤ span.area) shadows

-- spans of groups of a column, from the bottom up
pub record AreGroupSpans (climb x z : ℕ) (shadows : List Shadow) (spans : List Span) : Type 0 where
  pub each : All (IsGroupSpan climb x z shadows) spans
  pub order : AllPairs (λ (a b : Span). a.top < b.bottom) spans

-- the spans of all groups of a column
pub record AreColumnSpans (climb x z : ℕ) (shadows : List Shadow) (spans : List Span) : Type 0 where
  pub are : AreGroupSpans climb x z shadows spans
  pub all : All (λ (shadow : Shadow). Any (λ (span : Span). Reaches span shadow) spans) shadows
