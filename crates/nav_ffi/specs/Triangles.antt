-- What a handle holds once a level was opened from triangles.
use Rattle.std.specs.Prelude.{◌≡◌, ℕ, List, Option, Some}
use Rattle.nav_ground.specs.declared.field.Field.{Field}
use Rattle.nav_ground.specs.declared.setting.Setting.{Setting}
use Rattle.nav_ground.specs.Fields.{IsField}
use Rattle.tri_raster.specs.declared.triangle.Tri.{Tri}
use Rattle.tri_raster.specs.Rasters.{HasManySpans, IsRaster}
use Rattle.tri_raster.specs.TriText.{IsTriText}
use Rattle.build_queue.specs.BookState.{BookState, first_state}
use Rattle.nav_book.specs.Openings.{ground_of}

-- the bytes are the text of a setting and of triangles, and a handle holds the first state of the level of what these leave in the columns
pub record HoldsRastered (bytes : List ℕ) (held : Option BookState) : Type 0 where
  pub setting : Setting
  pub header : ℕ
  pub tris : List Tri
  pub field : Field
  pub text : IsTriText bytes setting header tris
  pub raster : IsRaster setting tris field
  pub rules : IsField field
  pub is : held ≡ Some (first_state (ground_of setting field))

-- the bytes are the text of a setting and of triangles that leave more spans than a field may have
pub record HasTooMany (bytes : List ℕ) : Type 0 where
  pub setting : Setting
  pub header : ℕ
  pub tris : List Tri
  pub text : IsTriText bytes setting header tris
  pub many : HasManySpans setting tris
