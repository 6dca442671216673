use Rattle.std.proofs.Common.{Some, refl, ap, inl, inr, ◌∙◌}
use Rattle.mesh_handle.specs.declared.input.MeshEnd.TheVariants as ends
use Rattle.nav_ffi.proofs.meshes.navd_open_mesh.Goals as goal

pub returns-in-Err : goal.returns-in-Err
returns-in-Err c = inr (record { why = c.in-Err.end; so = c.in-Err.ensures.refused; told = c.end_mesh.ensures; kept = refl })

pub returns-in-Ok-level_of : goal.returns-in-Ok-level_of
returns-in-Ok-level_of c =
    inl (record {
      ends = refl;
      holds = record { made = c.in-Ok.made; of_mesh = c.in-Ok.ensures.found; is = c.put.ensures ∙ ap Some c.in-Ok-level_of.ensures };
      told = refl;
    })

pub returns-in-Err-level_of : goal.returns-in-Err-level_of
returns-in-Err-level_of c = inr (record { why = ends.NoMemory; so = tt; told = (refl, refl); kept = refl })
