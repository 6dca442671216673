-- Triangle texts: the header of a field text, a line for each triangle, and `end`.
use Rattle.std.specs.Prelude.{◌≡◌, ℕ, ◌≤◌, List, [], ◌∷◌, ◌++◌, length, map, codes, All}
use Rattle.nav_ground.specs.declared.setting.Setting.{Setting}
use Rattle.nav_ground.specs.Limits.{IsSetting}
use Rattle.nav_text.specs.Lines.{text_of}
use Rattle.nav_text.specs.Forms.{line_text}
use Rattle.span_text.specs.FieldText.{IsHeaderText}
use Rattle.tri_raster.specs.declared.triangle.Tri.{Tri}
use Rattle.tri_raster.specs.Triangles.{IsTriangle}

-- the line of a triangle: its corners, x, height and z of each, and its area
abbrev pub tri_text : Tri → List ℕ
tri_text tri = line_text (codes "tri")
    (tri.a.x ∷ tri.a.y ∷ tri.a.z ∷ tri.b.x ∷ tri.b.y ∷ tri.b.z ∷ tri.c.x ∷ tri.c.y ∷ tri.c.z ∷ tri.area ∷ [])

-- the lines behind the header
abbrev pub tri_lines : List Tri → List (List ℕ)
tri_lines tris = map tri_text tris ++ codes "end" ∷ []

-- a list of triangles that a text may have
pub record AreTriangles (tris : List Tri) : Type 0 where
  pub few : length tris ≤ 100000
  pub each : All IsTriangle tris

-- a header is the front of a text, and the back what follows it
pub record BeginsWithHeader (bytes front back : List ℕ) (setting : Setting) : Type 0 where
  pub parts : bytes ≡ front ++ back
  pub spelled : IsHeaderText front setting
  pub limits : IsSetting setting

-- all the bytes are the text of a setting and of triangles within their limits; its header has so many bytes
pub record IsTriText (bytes : List ℕ) (setting : Setting) (header : ℕ) (tris : List Tri) : Type 0 where
  pub front : List ℕ
  pub back : List ℕ
  pub begins : BeginsWithHeader bytes front back setting
  pub used : header ≡ length front
  pub spelled : back ≡ text_of (tri_lines tris)
  pub limits : AreTriangles tris
