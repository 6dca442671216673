use Rattle.nav_ground.proofs.BoxLaws.{high_enough}
use Rattle.nav_ground.proofs.prism.base_window.Goals as goal

pub window-requires : goal.window-requires
window-requires c = high_enough c.args.corners.now c.corner_box.result c.requires c.corner_box.ensures
