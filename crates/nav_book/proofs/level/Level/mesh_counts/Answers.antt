use Rattle.std.proofs.Common.{ap, arith}
use Rattle.mesh_types.specs.Soundness.{link_count}
use Rattle.tile_build.proofs.BuildTotals.{few_links_of_build}
use Rattle.nav_book.proofs.level.Level.mesh_counts.Goals as goal

pub links-requires : goal.links-requires
links-requires c =
    let state = c.args.self.now in
    omega (
      arith,
      ap link_count c.mesh-mesh.ensures.value,
      few_links_of_build state.ground state.history state.published c.mesh-mesh.ensures.rules.level c.mesh-mesh.ensures.rules.replied.requests,
    )

pub returns-clause-few_links : goal.returns-clause-few_links
returns-clause-few_links c =
    let state = c.args.self.now in
    omega (
      arith,
      c.links.ensures,
      ap link_count c.mesh-mesh.ensures.value,
      few_links_of_build state.ground state.history state.published c.mesh-mesh.ensures.rules.level c.mesh-mesh.ensures.rules.replied.requests,
    )
