-- A patch over the first version of a ground of one tile, which covers it anew.
use Rattle.std.proofs.Common.{◌≡◌, ℕ, ◌<◌, ◌==◌, Bool, true, false, cond, List, [], ◌∷◌, length, get_or, refl, sym, ap, ◌∙◌, subst, Some, None, eq-eqb, arith}
use Rattle.std.specs.Prelude.{unwrap_or}
use Rattle.std.specs.Option.{option_map}
use Rattle.std.specs.List.{All}
use Rattle.std.proofs.lemmas.List.Elements.{All-nil, All-cons, All-head}
use Rattle.nav_ground.specs.declared.setting.Setting.{Setting}
use Rattle.nav_ground.specs.declared.history.Entry.{Entry}
use Rattle.nav_ground.specs.declared.history.Ground.{Ground}
use Rattle.nav_ground.specs.declared.shape.Shape.{Shape}
use Rattle.nav_ground.specs.Grounds.{IsGround}
use Rattle.nav_ground.specs.History.{IsRequest, shapes_alive}
use Rattle.nav_ground.specs.Limits.{IsShape}
use Rattle.nav_ground.specs.Tiling.{tile_count}
use Rattle.mesh_types.specs.declared.mesh.TileMesh.{TileMesh}
use Rattle.mesh_types.specs.Builds.{build_of}
use Rattle.mesh_types.specs.Soundness.{AreTiles, polygon_count}
use Rattle.mesh_types.specs.FitTiles.{IsFit}
use Rattle.mesh_types.specs.WholeMesh.{mesh_of}
use Rattle.tile_build.specs.Meshes.{tiles_under}
use Rattle.tile_links.specs.NewTiles.{AreNew, New, tile_after, tiles_after}
use Rattle.nav_book.proofs.GroundTiles.{are_tiles, build_from, tiles_of_build}
use Rattle.nav_version.specs.declared.press.Patch.{Patch}
use Rattle.nav_version.specs.Pairs.{IsPatch}
use Rattle.tests_paths.specs.OneTile.{numbered_tiles}

-- a new tile mesh with a tile's number takes its place
takes_place : (new old : TileMesh) → new.tile ≡ old.tile → tile_after ((new.tile, new) ∷ []) old ≡ new
takes_place new old same = subst (λ (b : Bool). unwrap_or (option_map (λ (n : New). n.1) (cond b (Some (new.tile, new)) None)) old ≡ new) (sym (eq-eqb new.tile old.tile same)) refl

replaces_all : (setting : Setting) (news olds : List TileMesh) → tile_count setting ≡ 1 → AreTiles setting news → AreTiles setting olds
    → tiles_after (numbered_tiles news) olds ≡ news
replaces_all setting [] olds one are were = absurd (let e = are.each in omega arith)
replaces_all setting (new ∷ more) [] one are were = absurd (let e = were.each in omega arith)
replaces_all setting (new ∷ []) (old ∷ []) one are were =
    ap (λ (tile : TileMesh). tile ∷ []) (takes_place new old (are.in_order 0 new (omega arith) ∙ sym (were.in_order 0 old (omega arith))))
replaces_all setting (new ∷ []) (old ∷ (other ∷ rest)) one are were = absurd (let e = were.each in omega arith)
replaces_all setting (new ∷ (other ∷ rest)) olds one are were = absurd (let e = are.each in omega arith)

are_new : (setting : Setting) (news : List TileMesh) → tile_count setting ≡ 1 → AreTiles setting news → AreNew setting (numbered_tiles news)
are_new setting [] one are = absurd (let e = are.each in omega arith)
are_new setting (new ∷ (other ∷ rest)) one are = absurd (let e = are.each in omega arith)
are_new setting (new ∷ []) one are = record {
  rising = λ i j d before there. absurd (omega arith);
  there = All-cons (λ (n : New). n.0 < tile_count setting) (new.tile, new) [] (let is = are.in_order 0 new (omega arith) in omega arith) (All-nil (λ (n : New). n.0 < tile_count setting));
  own = All-cons (λ (n : New). n.1.tile ≡ n.0) (new.tile, new) [] refl (All-nil (λ (n : New). n.1.tile ≡ n.0));
  fit = All-cons (λ (n : New). IsFit setting n.1) (new.tile, new) [] (All-head (IsFit setting) new [] are.fit) (All-nil (λ (n : New). IsFit setting n.1));
}

pub is_patch : (ground : Ground) (shapes : List Shape) (entry : Entry) (patch : Patch) (tiles : List TileMesh) → IsGround ground → tile_count ground.setting ≡ 1 → All IsShape shapes
    → IsRequest entry.request → shapes_alive (entry ∷ []) 1 ≡ shapes → tiles ≡ tiles_under ground shapes → patch.entries ≡ entry ∷ [] → patch.tiles.items ≡ numbered_tiles tiles
    → IsPatch ground [] patch
is_patch ground shapes entry patch tiles rules' one limits may alive are entries news =
    let made : List TileMesh = tiles_under ground shapes in
    let fit : AreTiles ground.setting made = are_tiles ground shapes rules' limits in
    let is : patch.tiles.items ≡ numbered_tiles made = news ∙ ap numbered_tiles are in
    let replaced : tiles_after patch.tiles.items (build_of ground [] 0).tiles ≡ made =
    ap (tiles_after patch.tiles.items) (tiles_of_build ground [] 0)
    ∙ ap (λ (list : List New). tiles_after list (tiles_under ground [])) is
    ∙ replaces_all ground.setting made (tiles_under ground []) one fit (are_tiles ground [] rules' (All-nil IsShape)) in
    record {
      tiles = subst (AreNew ground.setting) (sym is) (are_new ground.setting made one fit);
      polygons = omega (arith, ap polygon_count replaced, fit.few);
      few = omega (arith, ap (λ (list : List Entry). length list) entries);
      requests = subst (λ (list : List Entry). All (λ (e : Entry). IsRequest e.request) list) (sym entries)
          (All-cons (λ (e : Entry). IsRequest e.request) entry [] may (All-nil (λ (e : Entry). IsRequest e.request)));
      mesh = ap (mesh_of ground.setting) replaced
          ∙ build_from ground (entry ∷ []) 1 made (mesh_of ground.setting made) (ap (tiles_under ground) (sym alive)) refl
          ∙ ap (λ (list : List Entry). build_of ground list (length list)) (sym entries);
    }
