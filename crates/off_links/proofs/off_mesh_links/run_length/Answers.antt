use Rattle.std.proofs.Common.{◌≡◌, true, sym, ◌∙◌}
use Rattle.std.proofs.lemmas.List.Elements.{AllWithin-more}
use Rattle.off_links.specs.declared.off_mesh_links.OffMeshLink.{OffMeshLink}
use Rattle.off_links.specs.OffMeshLinks.{has_number}
use Rattle.off_links.proofs.Leaving.{none_after, own_at, other_at}
use Rattle.off_links.proofs.off_mesh_links.run_length.Goals as goal

pub loop-count-preserved : goal.loop-count-preserved
loop-count-preserved c =
    AllWithin-more (λ (off_mesh_link : OffMeshLink). has_number c.args.own off_mesh_link ≡ true) c.args.off_mesh_links.now 0 c.loop-count.count c.loop-count.invariant
    (λ d. own_at c.args.own c.args.off_mesh_links.now c.loop-count.count d _ c.loop-count-test.true (sym c.off_mesh_link_number.ensures ∙ c.if-off_mesh_link_number-own.false))

pub returns-then-off_mesh_link_number-own-clause-all : goal.returns-then-off_mesh_link_number-own-clause-all
returns-then-off_mesh_link_number-own-clause-all c =
    none_after (has_number c.args.own) c.args.off_mesh_links.now c.loop-count.count c.requires c.loop-count.invariant
    (λ d. other_at c.args.own c.args.off_mesh_links.now c.loop-count.count d _ c.loop-count-test.true (λ same. c.if-off_mesh_link_number-own.true (c.off_mesh_link_number.ensures ∙ same)))
