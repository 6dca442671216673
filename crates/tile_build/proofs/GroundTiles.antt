-- The tiles of a ground: there is one for each layer.
use Rattle.std.proofs.Common.{◌≡◌, ℕ, List, length, ap, ◌∙◌, subst}
use Rattle.nav_ground.specs.declared.cell.Layer.{Layer}
use Rattle.nav_ground.specs.declared.history.Ground.{Ground}
use Rattle.nav_ground.specs.Grounds.{IsGround}
use Rattle.nav_ground.specs.Tiling.{tile_count}
use Rattle.nav_ground.proofs.LayerLaws.{length-layers_of_ground}
use Rattle.nav_base.specs.Counts.{HasRisenAtMost}

-- steps for the layers of a ground are steps for its tiles
pub for_tiles : (ground : Ground) (layers : List Layer) (before after : ℕ) → IsGround ground → layers ≡ ground.layers
    → HasRisenAtMost (length layers) before after → HasRisenAtMost (tile_count ground.setting) before after
for_tiles ground layers before after rules' same =
    subst (λ n. HasRisenAtMost n before after) (ap length same ∙ length-layers_of_ground ground rules')
