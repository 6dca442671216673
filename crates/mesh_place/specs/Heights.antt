-- Heights: the right answers to the question for the height at a point of a polygon.
use Rattle.std.specs.Prelude.{◌≡◌, ℕ, Some}
use Rattle.nav_base.specs.declared.point.Point.{Point}
use Rattle.mesh_types.specs.declared.links.PolyRef.{PolyRef}
use Rattle.mesh_types.specs.declared.mesh.Mesh.{Mesh}
use Rattle.mesh_types.specs.declared.storeys.Storey.{Storey}
use Rattle.mesh_types.specs.Rays.{IsHeldAt}
use Rattle.mesh_types.specs.Places.{storey_at, IsHighestAt, IsPlace}
use Rattle.mesh_place.specs.declared.heights.HeightAnswer.{HeightAnswer}
use Rattle.mesh_place.specs.declared.heights.HeightAnswer.TheVariants.{Height, NoPlace}

-- a right height: the polygon holds the point, and no floor of its storey there is higher; no place where it makes none at any height
abbrev pub IsRightHeight : Mesh → PolyRef → Point → HeightAnswer → Type 0
IsRightHeight mesh at p (Height y aside) =
    IsHeldAt mesh p at × ((storey : Storey) × (storey_at mesh at ≡ Some storey) × IsHighestAt storey p y aside)
IsRightHeight mesh at p NoPlace = (y : ℕ) → IsPlace mesh (record { polygon = at; point = p; y = y }) → ⊥
