use Rattle.std.proofs.Common.{List, sym, subst}
use Rattle.std.specs.Prelude.{All}
use Rattle.mesh_types.specs.declared.links.Link.{Link}
use Rattle.fine_walk.specs.Passing.{IsFirstIn, IsOnward, IsOutward, inner_links, links_from, outer_links}
use Rattle.fine_walk.proofs.FirstLinks.{of_both}
use Rattle.fine_walk.proofs.LeavingLinks.{inner_outward, outer_outward, its_corners}
use Rattle.fine_walk.proofs.onward.next_link.Goals as goal

pub first_onward-inside-requires-clause-links : goal.first_onward-inside-requires-clause-links
first_onward-inside-requires-clause-links c =
    subst (λ (links : List Link). All (IsOutward c.args.crossing.mesh.now c.args.crossing.polygon.now) links) (sym c.inner.ensures)
    (inner_outward c.args.crossing.mesh.now c.args.at c.args.crossing.polygon.now c.requires.sound c.requires.there)

pub first_onward-inside-requires-clause-corners : goal.first_onward-inside-requires-clause-corners
first_onward-inside-requires-clause-corners c = its_corners c.args.crossing.mesh.now c.args.at c.args.crossing.polygon.now c.requires.sound c.requires.there

pub first_onward-outside-requires-clause-links : goal.first_onward-outside-requires-clause-links
first_onward-outside-requires-clause-links c =
    subst (λ (links : List Link). All (IsOutward c.args.crossing.mesh.now c.args.crossing.polygon.now) links) (sym c.outer.ensures)
    (outer_outward c.args.crossing.mesh.now c.args.at c.args.crossing.polygon.now c.requires.sound c.requires.there)

pub first_onward-outside-requires-clause-corners : goal.first_onward-outside-requires-clause-corners
first_onward-outside-requires-clause-corners c = its_corners c.args.crossing.mesh.now c.args.at c.args.crossing.polygon.now c.requires.sound c.requires.there

pub returns : goal.returns
returns c =
    let mesh = c.args.crossing.mesh.now in
    let P = IsOnward mesh c.args.crossing.areas c.args.crossing.polygon.now c.args.crossing.ray c.args.visited.now in
    subst (IsFirstIn P (links_from mesh c.args.at)) (sym c.first_of.ensures)
    (of_both P (inner_links mesh c.args.at) (outer_links mesh c.args.at) c.first_onward-inside.result c.first_onward-outside.result
    (subst (λ (links : List Link). IsFirstIn P links c.first_onward-inside.result) c.inner.ensures c.first_onward-inside.ensures)
    (subst (λ (links : List Link). IsFirstIn P links c.first_onward-outside.result) c.outer.ensures c.first_onward-outside.ensures))
