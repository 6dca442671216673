use Rattle.std.proofs.Common.{◌≡◌, [], ◌∷◌, ◌++◌, refl, sym, arith}
use Rattle.std.proofs.lemmas.Grind.{common_steps}
use Rattle.std.proofs.lemmas.List.{append-nil}
use Rattle.mesh_input.proofs.AddLaws.{first_more}
use Rattle.mesh_input.specs.Adding.{AreMade, lists_of}
use Rattle.mesh_input.proofs.add.push_triangles.Goals as goal

pub loop-place-init : goal.loop-place-init
unfolding AreMade
loop-place-init c = record { made = []; are = tt; count = refl; added = sym (append-nil c.args.tris.now.items) }

pub loop-place-preserved : goal.loop-place-preserved
loop-place-preserved c =
    let pushed : c.push.new.self.items ≡ c.loop-place.tris.items ++ c.in-Ok.tri ∷ [] = grind (arith, common_steps) in
    first_more c.args.mesh.grid.now c.args.mesh.slope (lists_of c.args.mesh.vertices.now c.args.mesh.corners.now c.args.mesh.areas.now) c.loop-place.place c.args.tris.now.items c.loop-place.tris.items
    c.push.new.self.items c.in-Ok.tri c.loop-place.invariant c.in-Ok.ensures pushed
