use Rattle.std.proofs.Common.{rules, ◌≡◌, length, take, drop, ◌-◌, sym, ◌∙◌, ap, subst}
use Rattle.std.specs.Prelude.{nat_lt}
use Rattle.std.specs.List.Sorted.{IsPartitionedBy}
use Rattle.std.proofs.lemmas.List.{take_rest}
use Rattle.std.proofs.lemmas.Fn.{always_returns_same}
use Rattle.mesh_types.proofs.Keyed.{before_first}
use Rattle.off_links.specs.declared.off_mesh_links.OffMeshLink.{OffMeshLink}
use Rattle.off_links.specs.OffMeshLinks.{has_number, off_mesh_link_number}
use Rattle.off_links.proofs.Leaving.{own_first, leaving_found}
use Rattle.off_links.proofs.off_mesh_links.leaving.Goals as goal

pub run_length-requires : goal.run_length-requires
run_length-requires c =
    let off_mesh_links = c.args.off_mesh_links.now in
    let own = c.number-own.result in
    let first = c.partition_point-first.result in
    let point = c.partition_point-first.ensures.partitioned (λ (off_mesh_link : OffMeshLink). nat_lt (off_mesh_link_number off_mesh_link) own) (always_returns_same _ _ _ (λ a r q k. search rules))
    (before_first off_mesh_link_number own off_mesh_links c.requires.order) in
    subst (IsPartitionedBy (has_number own)) (sym (take_rest off_mesh_links first)) (own_first own off_mesh_links first c.requires.order point.1)

pub returns : goal.returns
returns c =
    let off_mesh_links = c.args.off_mesh_links.now in
    let own = c.number-own.result in
    let first = c.partition_point-first.result in
    let rest : take (length off_mesh_links - first) (drop first off_mesh_links) ≡ drop first off_mesh_links = take_rest off_mesh_links first in
    let point = c.partition_point-first.ensures.partitioned (λ (off_mesh_link : OffMeshLink). nat_lt (off_mesh_link_number off_mesh_link) own) (always_returns_same _ _ _ (λ a r q k. search rules))
    (before_first off_mesh_link_number own off_mesh_links c.requires.order) in
    ap (take c.run_length.result) rest
    ∙ leaving_found off_mesh_links c.args.at own first c.run_length.result c.number-own.ensures.value c.number-own.ensures.small c.requires.places point (rw rest at c.run_length.ensures.all)
