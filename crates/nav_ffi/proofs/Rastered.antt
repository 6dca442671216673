-- What a handle holds once a triangle text was read and its level put in.
use Rattle.std.proofs.Common.{◌≡◌, ◌∙◌, sym, subst, ℕ, List, Err}
use Rattle.nav_ground.specs.declared.field.Field.{Field}
use Rattle.nav_ground.specs.declared.setting.Setting.{Setting}
use Rattle.nav_text.specs.declared.fault.TextFault.{TextFault}
use Rattle.span_text.specs.declared.field.FieldRefusal.{FieldRefusal}
use Rattle.span_text.specs.declared.field.FieldRefusal.TheVariants.{Fault}
use Rattle.tri_raster.specs.declared.triangle.Tri.{Tri}
use Rattle.tri_raster.specs.Rasters.{IsRaster}
use Rattle.tri_raster.specs.TriFormat.{Gives}

pub no_text_fault : (setting : Setting) (header : ℕ) (tris : List Tri) (refusal : FieldRefusal) (fault : TextFault)
    → refusal ≡ Fault fault → Gives setting header tris (Err refusal) → ⊥
no_text_fault setting header tris refusal fault is gives = subst (λ r. Gives setting header tris (Err r)) is gives

-- the field is that of the setting and triangles that were read
pub raster_read : (setting read_setting : Setting) (tris read_tris slice : List Tri) (field : Field)
    → read_setting ≡ setting → read_tris ≡ tris → slice ≡ read_tris → IsRaster setting tris field → IsRaster read_setting slice field
raster_read setting read_setting tris read_tris slice field same_setting same_tris lent is =
    subst (λ (s : Setting). IsRaster s slice field) (sym same_setting)
    (subst (λ (t : List Tri). IsRaster setting t field) (sym (lent ∙ same_tris)) is)
