use Rattle.std.proofs.Common.{◌∙◌, refl, sym}
use Rattle.build_queue.specs.Steps.{after_request}
use Rattle.nav_book.proofs.KeptTiles.{kept_unless, mesh_after_request, whole_unless}
use Rattle.nav_book.proofs.level.Level.request.Goals as goal

pub invariant_of-self : goal.invariant_of-self
invariant_of-self c =
    let state = c.self.inside.queue in
    let places = c.self.inside.fresh in
    let mesh = c.self.inside.mesh in
    record {
      tiles = kept_unless state places mesh c.self.invariant.tiles c.request.result (after_request state c.args.lane c.args.request) _
          c.request.ensures.appended c.request.ensures.refused c.request.ensures.rules refl refl
          (mesh_after_request state places mesh c.self.invariant.tiles c.args.lane c.args.request);
      builds = c.self.invariant.builds
          ∙ sym (whole_unless state c.request.result (after_request state c.args.lane c.args.request) _ c.request.ensures.appended c.request.ensures.refused refl);
    }

pub returns : goal.returns
returns c = rw (← c.self.view_is) c.request.ensures
