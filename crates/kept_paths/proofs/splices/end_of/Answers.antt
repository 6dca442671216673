use Rattle.std.proofs.Common.{◌-◌, length, ap, ◌∙◌, arith}
use Rattle.mesh_types.specs.declared.links.Link.{Link}
use Rattle.mesh_types.proofs.WalkChains.{some_link, walk_last}
use Rattle.kept_paths.proofs.splices.end_of.Goals as goal

pub returns-in-Some : goal.returns-in-Some
returns-in-Some c = λ mesh to walk.
    let item = c.in-Some.ensures.item.3 in
    ap (λ (link : Link). link.to) (item.1 some_link)
    ∙ walk_last mesh c.args.first c.args.links.now to walk (length c.args.links.now - 1) (omega (arith, item.0))
