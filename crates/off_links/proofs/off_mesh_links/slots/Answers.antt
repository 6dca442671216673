use Rattle.std.proofs.Common.{◌≡◌, ◌+◌, ◌<◌, ℕ, true, List, length, set, get_or, sym, subst, ◌∙◌, arith}
use Rattle.std.specs.List.{AllWithin}
use Rattle.std.proofs.lemmas.List.{length-set}
use Rattle.off_links.specs.declared.off_mesh_links.OffMeshLink.{OffMeshLink}
use Rattle.off_links.specs.Slots.{is_taken}
use Rattle.off_links.proofs.TakenSlots.{slot_more}
use Rattle.off_links.proofs.off_mesh_links.slots.Goals as goal

pub loop-off_mesh_link-preserved : goal.loop-off_mesh_link-preserved
loop-off_mesh_link-preserved c =
    let off_mesh_links = c.args.off_mesh_links.now in
    let slots = c.loop-off_mesh_link.slots.items in
    record {
      count = length-set slots c.slot.result true ∙ c.loop-off_mesh_link.invariant.count;
      taken =
          subst (λ (n : ℕ). AllWithin (λ (off_mesh_link : OffMeshLink). is_taken (set slots n true) off_mesh_link.from ≡ true) off_mesh_links 0 (c.loop-off_mesh_link.off_mesh_link-index + 1)) (sym c.slot.ensures.value)
          (slot_more off_mesh_links slots c.loop-off_mesh_link.off_mesh_link-index _ c.loop-off_mesh_link-test.true (omega (arith, c.slot.ensures.value, c.slot.ensures.small, c.loop-off_mesh_link.invariant.count))
          c.loop-off_mesh_link.invariant.taken);
    }
