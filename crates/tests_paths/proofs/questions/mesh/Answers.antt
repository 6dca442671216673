use Rattle.std.proofs.Common.{◌≡◌, ℕ, zero, suc, ◌<◌, ◌≤◌, List, [], ◌∷◌, length, get_or, ap, sym, subst, refl, arith}
use Rattle.std.proofs.lemmas.List.Elements.{All-nil, All-cons}
use Rattle.std.proofs.lemmas.Result.{IfOk-weaker}
use Rattle.nav_ground.specs.declared.setting.Setting.{Setting}
use Rattle.nav_ground.specs.Tiling.{tile_count}
use Rattle.mesh_types.specs.declared.mesh.Mesh.{Mesh}
use Rattle.mesh_types.specs.declared.mesh.TileMesh.{TileMesh}
use Rattle.mesh_types.specs.Soundness.{AreTiles}
use Rattle.mesh_types.specs.FitTiles.{IsFit}
use Rattle.mesh_types.specs.WholeMesh.{mesh_of}
use Rattle.tests_paths.specs.declared.questions.TheConstants.{SETTING}
use Rattle.tests_paths.proofs.questions.mesh.Goals as goal

-- a fit tile is the only one of a ground of one tile
first : (setting : Setting) (tile : TileMesh) → tile_count setting ≡ 1 → IsFit setting tile → (t : ℕ) (d : TileMesh) → t < length (tile ∷ [])
    → (get_or (tile ∷ []) t d).tile ≡ t
first setting tile one fit zero d there = let small : tile.tile < tile_count setting = fit.in_tile.there in omega (arith, small, one)
first setting tile one fit (suc t) d there = absurd (omega (arith, there))

one_tile : (setting : Setting) (tile : TileMesh) (tiles : List TileMesh) → tile_count setting ≡ 1 → tiles ≡ tile ∷ [] → IsFit setting tile
    → length tile.polys ≤ 8000000 → AreTiles setting tiles
one_tile setting tile tiles one is fit few =
    subst (AreTiles setting) (sym is)
    (record {
      each = sym one;
      in_order = first setting tile one fit;
      fit = All-cons (IsFit setting) tile [] fit (All-nil (IsFit setting));
      few = omega (arith, few);
    })

pub whole-requires-clause-tiles : goal.whole-requires-clause-tiles
whole-requires-clause-tiles c =
    one_tile SETTING c.in_ok-tile.tile c.in_ok-tiles.tiles.items refl c.in_ok-tiles.ensures.items c.in_ok-tile.ensures (omega arith)

pub returns-clause-setting : goal.returns-clause-setting
unfolding mesh_of
returns-clause-setting c =
    IfOk-weaker c.whole.result _ (λ (mesh : Mesh). mesh.setting ≡ SETTING)
    (λ mesh e. ap (λ (m : Mesh). m.setting) e) c.whole.ensures.mesh
