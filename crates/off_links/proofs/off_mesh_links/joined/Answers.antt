use Rattle.std.proofs.Common.{refl, sym, subst}
use Rattle.off_links.specs.OffMeshLinks.{IsOffMeshLinkOf}
use Rattle.off_links.proofs.Polygons.{located_there, place_small}
use Rattle.off_links.proofs.off_mesh_links.joined.Goals as goal

pub returns-in_default-clause-none : goal.returns-in_default-clause-none
returns-in_default-clause-none c from to joined = c.in_default.ensures.none.0 refl from joined.start.holding

pub returns-in_default-locate-clause-none : goal.returns-in_default-locate-clause-none
returns-in_default-locate-clause-none c from to joined = c.in_default-locate.ensures.none.0 refl to joined.landing.holding

pub returns-clause-joined : goal.returns-clause-joined
returns-clause-joined c =
    let jump = c.args.jump in
    subst (IsOffMeshLinkOf c.args.mesh.now c.args.number jump) (sym c.off_mesh_link_by.ensures.value) (record {
      numbered = refl;
      joined = record { start = c.in-Some.ensures.located; landing = c.in-Some-locate.ensures.located };
      costs = refl;
      light = c.off_mesh_link_by.ensures.light;
      place = place_small c.args.mesh.now c.in-Some.from c.requires.sound
          (located_there c.args.mesh.now jump.from jump.from_y c.in-Some.from c.in-Some.ensures.located);
    })
