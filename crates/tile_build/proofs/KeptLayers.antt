-- The layers of a ground keep their radius where no shape stands.
use Rattle.std.proofs.Common.{◌≡◌, ℕ, sym, subst}
use Rattle.nav_ground.specs.declared.cell.Layer.{Layer}
use Rattle.nav_ground.specs.declared.history.Ground.{Ground}
use Rattle.nav_ground.specs.Grounds.{IsGround}
use Rattle.nav_ground.specs.Layers.{layer_of}
use Rattle.obstacle_mark.specs.Near.{KeepsRadius}
use Rattle.obstacle_mark.proofs.WholeFree.{layer_keeps}

pub kept_layer : (ground : Ground) (tile : ℕ) (layer : Layer) → IsGround ground → layer ≡ layer_of ground.setting ground.field tile → KeepsRadius layer
kept_layer ground tile layer rules' is = subst KeepsRadius (sym is) (layer_keeps ground.setting ground.field tile rules'.setting rules'.field)
