use Rattle.std.proofs.Common.{sym, ◌∙◌}
use Rattle.off_links.proofs.TakenSlots.{none_leaves}
use Rattle.off_links.proofs.off_mesh_links.leaving_by_slot.Goals as goal

pub returns-else-is_taken : goal.returns-else-is_taken
returns-else-is_taken c =
    sym (none_leaves c.args.off_mesh_links.now c.args.slots.now c.args.at c.requires.slots (sym c.is_taken.ensures ∙ c.if-is_taken.false))
