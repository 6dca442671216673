use Rattle.std.proofs.Common.{refl, sym, ap, subst, ◌∙◌, length, drop, List}
use Rattle.std.proofs.lemmas.Bool.{iff_false}
use Rattle.std.proofs.lemmas.List.{take_rest}
use Rattle.mesh_types.specs.declared.links.Link.{Link}
use Rattle.kept_paths.specs.Repairs.{AreParts}
use Rattle.kept_paths.proofs.RepairLaws.{bridge-parts, kept-part, kept-there, lead-most, limited-repair, no-bridge, sought, target-there, whole-parts}
use Rattle.kept_paths.proofs.repairs.repair_behind.Goals as goal

pub joined-requires-clause-parts : goal.joined-requires-clause-parts
joined-requires-clause-parts c =
    let mesh = c.args.mesh.now in
    let repair = c.args.repair.now in
    whole-parts mesh repair c.args.first (length c.args.lead.now) c.first_links-kept.result.now c.end_of-at.result
    (kept-part mesh repair c.args.first (length c.args.lead.now) c.args.lead.now c.first_links-kept.result.now c.end_of-at.result c.requires.lead refl
    c.first_links-kept.ensures c.end_of-at.ensures) (c.is_all_kept.ensures.0 c.if-is_all_kept.true)

pub bridge_target-requires-clause-cut : goal.bridge_target-requires-clause-cut
bridge_target-requires-clause-cut c = lead-most c.args.mesh.now c.args.repair.now c.args.first c.args.lead.now c.requires.lead

pub cheapest_allowed_in-requires-clause-from : goal.cheapest_allowed_in-requires-clause-from
cheapest_allowed_in-requires-clause-from c =
    let mesh = c.args.mesh.now in
    let repair = c.args.repair.now in
    kept-there mesh repair c.args.first (length c.args.lead.now) c.first_links-kept.result.now c.end_of-at.result
    (kept-part mesh repair c.args.first (length c.args.lead.now) c.args.lead.now c.first_links-kept.result.now c.end_of-at.result c.requires.lead refl
    c.first_links-kept.ensures c.end_of-at.ensures)

pub cheapest_allowed_in-requires-clause-to : goal.cheapest_allowed_in-requires-clause-to
cheapest_allowed_in-requires-clause-to c =
    target-there c.args.mesh.now c.args.repair.now _ _ c.in-Some.target.to c.in-Some.target.last c.requires.sound c.in-Some.ensures.some

pub joined-requires-in-Found-clause-parts : goal.joined-requires-in-Found-clause-parts
joined-requires-in-Found-clause-parts c =
    let mesh = c.args.mesh.now in
    let repair = c.args.repair.now in
    let kept = c.first_links-kept.result.now in
    let found = rw c.in-Found.is at c.in_ok-corridor.ensures in
    let keeps = kept-part mesh repair c.args.first (length c.args.lead.now) c.args.lead.now kept c.end_of-at.result c.requires.lead refl
    c.first_links-kept.ensures c.end_of-at.ensures in
    let parts = bridge-parts mesh repair c.args.first (length c.args.lead.now) kept (drop c.in-Some.target.start repair.path.links) c.end_of-at.result
    c.in-Some.target.to c.in-Some.target.last c.in-Found.at _ c.in-Found.corridor keeps (iff_false c.is_all_kept.ensures c.if-is_all_kept.false)
    c.in-Some.ensures.some found in
    let rest = take_rest c.as_slice-in-Found.result.now c.in-Some.target.start
    ∙ ap (λ (ls : List Link). drop c.in-Some.target.start ls) c.as_slice-in-Found.ensures in
    subst (λ (ls : List Link). AreParts mesh repair c.args.first kept c.as_slice.result.now ls c.in-Some.target.last) (sym rest)
    (subst (λ (ls : List Link). AreParts mesh repair c.args.first kept ls (drop c.in-Some.target.start repair.path.links) c.in-Some.target.last)
    (sym c.as_slice.ensures) parts)

pub returns-in-Limit : goal.returns-in-Limit
returns-in-Limit c =
    let mesh = c.args.mesh.now in
    let repair = c.args.repair.now in
    let kept = c.first_links-kept.result.now in
    let found = rw c.in-Limit.is at c.in_ok-corridor.ensures in
    let keeps = kept-part mesh repair c.args.first (length c.args.lead.now) c.args.lead.now kept c.end_of-at.result c.requires.lead refl
    c.first_links-kept.ensures c.end_of-at.ensures in
    limited-repair mesh repair c.end_of-at.result c.in-Some.target.to c.in-Limit.seen
    (sought mesh repair c.args.first (length c.args.lead.now) kept (drop c.in-Some.target.start repair.path.links) c.end_of-at.result
    c.in-Some.target.to c.in-Some.target.last keeps (iff_false c.is_all_kept.ensures c.if-is_all_kept.false) c.in-Some.ensures.some) found

pub returns-in-Apart : goal.returns-in-Apart
returns-in-Apart c =
    let mesh = c.args.mesh.now in
    let repair = c.args.repair.now in
    let kept = c.first_links-kept.result.now in
    let found = rw c.in-Apart.is at c.in_ok-corridor.ensures in
    let keeps = kept-part mesh repair c.args.first (length c.args.lead.now) c.args.lead.now kept c.end_of-at.result c.requires.lead refl
    c.first_links-kept.ensures c.end_of-at.ensures in
    no-bridge mesh repair c.end_of-at.result c.in-Some.target.to
    (sought mesh repair c.args.first (length c.args.lead.now) kept (drop c.in-Some.target.start repair.path.links) c.end_of-at.result
    c.in-Some.target.to c.in-Some.target.last keeps (iff_false c.is_all_kept.ensures c.if-is_all_kept.false) c.in-Some.ensures.some) found
