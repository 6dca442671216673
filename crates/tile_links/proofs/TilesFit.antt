-- What tiles of a list are, seen from one of them.
use Rattle.std.proofs.Common.{◌≡◌, ℕ, ◌<◌, ◌≤◌, List, length, get_or, ap, ◌∙◌, sym, subst, arith}
use Rattle.std.proofs.lemmas.List.Sums.{get_or-le-sum_by}
use Rattle.nav_ground.specs.declared.setting.Setting.{Setting}
use Rattle.mesh_types.specs.declared.mesh.TileMesh.{TileMesh}
use Rattle.mesh_types.specs.Soundness.{AreTiles}
use Rattle.mesh_types.specs.FitTiles.{IsFit}

-- a tile that is lent from a place of the tiles is fit
pub tile_fit : (setting : Setting) (tiles : List TileMesh) (t : ℕ) (tile lent : TileMesh) → AreTiles setting tiles → t < length tiles
    → tile ≡ get_or tiles t tile → lent ≡ tile → IsFit setting lent
tile_fit setting tiles t tile lent are there at is = subst (IsFit setting) (sym (is ∙ at)) (are.fit t tile there)

-- and has few polygons
pub tile_few : (setting : Setting) (tiles : List TileMesh) (t : ℕ) (tile lent : TileMesh) → AreTiles setting tiles → t < length tiles
    → tile ≡ get_or tiles t tile → lent ≡ tile → length lent.polys ≤ 8000000
tile_few setting tiles t tile lent are there at is =
    omega (arith, get_or-le-sum_by (λ (other : TileMesh). length other.polys) tiles t tile there, ap (λ (other : TileMesh). length other.polys) (is ∙ at), are.few)
