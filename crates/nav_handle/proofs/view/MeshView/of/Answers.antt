use Rattle.nav_book.proofs.GroundTiles.{IsSetting-of_build}
use Rattle.nav_handle.proofs.TwoWayViews.{two_way_shown}
use Rattle.nav_handle.proofs.view.MeshView.of.Goals as goal

pub invariant_of-result : goal.invariant_of-result
invariant_of-result c =
    let state = c.args.level.now in
    record {
      sound = c.in_ok-mesh.ensures.sound;
      setting = IsSetting-of_build state.ground state.history state.published c.in_ok-mesh.mesh c.mesh-shown.ensures.rules.level c.in_ok-mesh.ensures.value;
      two_way = two_way_shown state c.in_ok-mesh.mesh c.mesh-shown.ensures.rules c.in_ok-mesh.ensures.value;
      own = tt;
      sums = tt;
    }
