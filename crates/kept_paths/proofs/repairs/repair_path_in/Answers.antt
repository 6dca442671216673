use Rattle.std.proofs.Common.{List, sym, subst}
use Rattle.mesh_types.specs.declared.links.Link.{Link}
use Rattle.kept_paths.specs.KeptPaths.{LeadOn}
use Rattle.kept_paths.specs.Repairs.{IsLead}
use Rattle.kept_paths.proofs.repairs.repair_path_in.Goals as goal

pub repair_behind-requires-clause-lead : goal.repair_behind-requires-clause-lead
repair_behind-requires-clause-lead c =
    let path = c.args.repair.now.path in
    subst (IsLead c.args.mesh.now path c.in-Some.first) (sym c.as_slice-2.ensures)
    (record {
      begins = c.in-Some.ensures.some;
      last = c.in_ok-lead.lead.last;
      leads = subst (λ (kept : List Link). LeadOn c.args.mesh.now path.filter.areas c.in-Some.first kept c.in_ok-lead.lead.links c.in_ok-lead.lead.last)
          c.as_slice.ensures c.in_ok-lead.ensures.leads;
    })
