-- Parts: regions with an outline that can be cut, and the facets and doors of their pieces.
use Rattle.std.specs.Prelude.{ℕ, ◌+◌, List, [], ◌∷◌, ◌++◌, All}
use Rattle.mesh_types.specs.declared.region.Outline as outlines
use Rattle.mesh_types.specs.declared.region.RegionPart.{RegionPart}
use Rattle.mesh_types.specs.Simplified.{IsOutline}
use Rattle.mesh_types.specs.Merging.{IsPieceOf}
use Rattle.mesh_types.specs.Facets.{Facet, facets_in}

-- the outline of a part can be cut, and its pieces are pieces of that outline
pub record IsCutPart (part : RegionPart) : Type 0 where
  pub outline : IsOutline part.outline
  pub pieces : All (IsPieceOf part.outline.corners) part.pieces

-- what a list gives element by element, each with its number, from a number on
abbrev pub numbered : {A B : Type 0} → (ℕ → A → List B) → ℕ → List A → List B
numbered f n [] = []
numbered f n (x ∷ xs) = f n x ++ numbered f (n + 1) xs

-- the facets of the part of the region with a number
abbrev pub facets_at : ℕ → RegionPart → List Facet
facets_at region part = facets_in part region

-- the facet of a region with these places of its outline
abbrev pub facet_over : ℕ → outlines.Outline → List ℕ → Facet
facet_over region outline places = record { region = region; outline = outline; places = places }
