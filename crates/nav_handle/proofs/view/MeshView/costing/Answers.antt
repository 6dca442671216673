use Rattle.std.proofs.Common.{◌≡◌, ◌∙◌, sym, subst}
use Rattle.nav_ground.specs.Limits.{IsSetting}
use Rattle.mesh_types.specs.declared.mesh.Mesh.{Mesh}
use Rattle.mesh_types.specs.Passages.{IsTwoWay}
use Rattle.mesh_types.specs.Soundness.{IsSound}
use Rattle.nav_handle.proofs.view.MeshView.costing.Goals as goal

-- the view's mesh is the one that was made
pub invariant_of-result : goal.invariant_of-result
invariant_of-result c =
    let same : c.in_ok-mesh.mesh ≡ c.new-2.result = sym (c.new-2.ensures ∙ c.in_ok-new.ensures.ok) in
    record {
      sound = subst IsSound same c.in_ok-mesh.ensures.sound;
      setting = subst (λ (mesh : Mesh). IsSetting mesh.setting) same c.in_ok-mesh.ensures.setting;
      two_way = subst IsTwoWay same c.in_ok-mesh.ensures.two_way;
      own = c.requires;
      sums = tt;
    }
