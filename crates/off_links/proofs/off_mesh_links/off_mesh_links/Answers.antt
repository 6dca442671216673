use Rattle.std.proofs.Common.{rules, ◌+◌, List, Vec, Global, subst, sym, ap, ◌∙◌}
use Rattle.std.proofs.lemmas.List.Sorted.{IsNonDecreasingBy-from_sort_by}
use Rattle.off_links.specs.declared.off_mesh_links.OffMeshLink.{OffMeshLink}
use Rattle.off_links.specs.OffMeshLinks.{off_mesh_link_number}
use Rattle.off_links.proofs.Gathering.{AreGathered, gathered_none, gathered_more, gathered_less, gathered_all}
use Rattle.off_links.proofs.off_mesh_links.off_mesh_links.Goals as goal
use Rattle.off_links.proofs.off_mesh_links.off_mesh_links.Goals.{in-Some+in_ok-push-in-Some, in-None}

pub loop-number-init : goal.loop-number-init
loop-number-init c =
    subst (λ (off_mesh_links : List OffMeshLink). AreGathered c.args.mesh.now c.args.jumps.now 0 off_mesh_links) (sym c.new-off_mesh_links.ensures.items) (gathered_none c.args.mesh.now c.args.jumps.now)

pub loop-number-preserved : goal.loop-number-preserved
loop-number-preserved c =
    let mesh = c.args.mesh.now in
    let jumps = c.args.jumps.now in
    let number = c.loop-number.number in
    let off_mesh_links = c.loop-number.off_mesh_links.items in
    elim c.match-joined.branch [
      | in-Some+in_ok-push-in-Some w ↦
          let is = rw w.in-Some.is at c.joined.ensures.joined in
          subst (AreGathered mesh jumps (number + 1)) (sym (ap (λ (v : Vec OffMeshLink Global). v.items) w.off_mesh_links-is ∙ w.in_ok-push-in-Some.ensures.items))
          (gathered_more mesh jumps number off_mesh_links w.in-Some.off_mesh_link c.loop-number-test.true is c.loop-number.invariant)
      | in-None w ↦
          let none = rw w.in-None.is at c.joined.ensures.none in
          subst (AreGathered mesh jumps (number + 1)) (sym (ap (λ (v : Vec OffMeshLink Global). v.items) w.off_mesh_links-is))
          (gathered_less mesh jumps number off_mesh_links none c.loop-number.invariant)
    ]

pub returns : goal.returns
returns c =
    gathered_all c.args.mesh.now c.args.jumps.now c.loop-number.number c.loop-number.off_mesh_links.items _ c.loop-number.invariant c.loop-number-test.false
    c.sort_unstable_by.ensures.permutation
    (IsNonDecreasingBy-from_sort_by off_mesh_link_number _ c.sort_unstable_by.ensures.sorted (λ a r q k. search rules))
