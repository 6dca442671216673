-- The mesh of a ground that comes: some tiles are built, and all others are the same.
use Rattle.std.proofs.Common.{◌≡◌, ◌≢◌, ℕ, zero, suc, ◌+◌, ◌<◌, true≢false, List, [], length, get_or, map, ap, ◌∙◌, refl, sym, subst, arith, Option, Some, None, ⊎_elim, replicate}
use Rattle.std.specs.Prelude.{All, Contains, is_some, slice_set, unwrap_or, ◌≤◌}
use Rattle.std.proofs.lemmas.Bool.{cases_eq}
use Rattle.std.proofs.lemmas.List.{get_or_default, get_or-set_same, get_or-set_other, length-replicate, length-set}
use Rattle.std.proofs.lemmas.List.Elements.{All-contains, All-filter, All-map}
use Rattle.std.proofs.lemmas.Option.{none-some, same_Some, slice_get-get_or}
use Rattle.nav_ground.specs.declared.cell.Layer.{Layer}
use Rattle.nav_ground.specs.declared.history.Ground.{Ground}
use Rattle.nav_ground.specs.declared.setting.Setting.{Setting}
use Rattle.nav_ground.specs.declared.shape.Shape.{Shape}
use Rattle.nav_ground.specs.History.{shapes_alive}
use Rattle.nav_ground.specs.Layers.{layer_of}
use Rattle.nav_ground.specs.Limits.{IsShape}
use Rattle.nav_ground.specs.Tiling.{tile_count}
use Rattle.nav_ground.specs.Touching.{is_touching, touching_shapes}
use Rattle.nav_ground.proofs.LayerLaws.{layer_of_ground, length-layers_of_ground}
use Rattle.mesh_types.specs.declared.mesh.Mesh.{Mesh}
use Rattle.mesh_types.specs.declared.mesh.TileMesh.{TileMesh}
use Rattle.mesh_types.specs.Builds.{build_of, tile_mesh_of}
use Rattle.mesh_types.specs.Soundness.{AreTiles, IsSound, polygon_count}
use Rattle.mesh_types.specs.WholeMesh.{mesh_of}
use Rattle.tile_build.specs.Meshes.{tiles_under}
use Rattle.tile_build.proofs.BuildTotals.{alive_limits}
use Rattle.tile_links.specs.NewTiles.{AreNew, New, tiles_after}
use Rattle.corridor_search.specs.Changes.{DifferIn}
use Rattle.build_queue.specs.BookState.{BookState, IsBook}
use Rattle.build_queue.specs.GroundSteps.{IsAtRest, IsGroundBut, IsGroundFor, after_ground}
use Rattle.build_queue.proofs.BookLaws.{none_awaited}
use Rattle.nav_book.specs.Fresh.{AreStored, mesh_at_hand, news_of}
use Rattle.nav_book.specs.GroundChanges.{AreBuiltIn}
use Rattle.nav_book.specs.LevelRepresentation.{AreKept}
use Rattle.nav_book.specs.LevelResults.{published_mesh, tile_under}
use Rattle.nav_book.proofs.FreshTiles.{all_from}
use Rattle.nav_book.proofs.GroundTiles.{are_tiles, setting_of_build, tiles_of_build, whole_build}
use Rattle.nav_book.proofs.StoredTiles.{AreTouching, news_are_new, stored_again, stored_tile, tiles_renewed}

-- so many empty places have no mesh
abbrev empty_places : ℕ → List (Option TileMesh)
empty_places n = replicate n None

empty_at : (n t : ℕ) → get_or (empty_places n) t None ≡ None
empty_at zero t = refl
empty_at (suc n) zero = refl
empty_at (suc n) (suc t) = empty_at n t

pub setting_of_whole : (setting : Setting) (tiles : List TileMesh) → (mesh_of setting tiles).setting ≡ setting
unfolding mesh_of
setting_of_whole setting tiles = refl

-- what tiles that are built over a ground that comes make of the published mesh: they are new ones for it, few, and once in place they make the
-- mesh of the ground; and one that differs in them differs in the tiles of the list
pub record NextTiles (state : BookState) (ground : Ground) (tiles : List ℕ) (shown : Mesh) (news : List New) : Type 0 where
  pub new : AreNew shown.setting news
  pub few : polygon_count (tiles_after news shown.tiles) ≤ 8000000
  pub mesh : mesh_of shown.setting (tiles_after news shown.tiles) ≡ build_of ground state.history state.published
  pub differ : (after : Mesh) → DifferIn (map (λ (new : New). new.0) news) shown after → DifferIn tiles shown after

module _ (ground : Ground) (stored : List (List Shape)) (tiles : List ℕ) where
  -- nothing is built at first
  pub built_none : (places : List (Option TileMesh)) → places ≡ replicate (tile_count ground.setting) None → AreBuiltIn ground stored tiles 0 places
  built_none places is = record {
    each = ap length is ∙ length-replicate (tile_count ground.setting) None;
    right = λ t mesh found. absurd (nothing t mesh found);
    named = λ t mesh found. absurd (nothing t mesh found);
    done = λ place below. absurd (omega (arith, below));
  }
    where
      nothing : (t : ℕ) (mesh : TileMesh) → get_or places t None ≡ Some mesh → ⊥
      nothing t mesh found =
          none-some mesh (sym (empty_at (tile_count ground.setting) t) ∙ ap (λ (p : List (Option TileMesh)). get_or p t None) (sym is) ∙ found)

  -- one tile more is built
  pub built_more : (count tile : ℕ) (mesh : TileMesh) (places after : List (Option TileMesh)) → AreBuiltIn ground stored tiles count places → count < length tiles
      → tile ≡ get_or tiles count tile → tile < tile_count ground.setting → mesh ≡ tile_under ground tile (get_or stored tile [])
      → after ≡ slice_set places tile (Some mesh) → AreBuiltIn ground stored tiles (count + 1) after
  built_more count tile mesh places after built within is there right after_is = record {
    each = ap length after_is ∙ length-set places tile (Some mesh) ∙ built.each;
    right = λ t other found. ⊎_elim
        (λ same.
        sym (here t other same found) ∙ right ∙ ap (λ n. tile_under ground n (get_or stored n [])) (sym same))
        (λ apart. built.right t other (sym (elsewhere t apart) ∙ found)) (cases_eq t tile);
    named = λ t other found. ⊎_elim
        (λ same. subst (Contains tiles) (sym same) (count, within, sym is))
        (λ apart. built.named t other (sym (elsewhere t apart) ∙ found)) (cases_eq t tile);
    done = λ place below. ⊎_elim
        (λ same. ap (λ (o : Option TileMesh). is_some o)
        (ap (λ n. get_or after n None) (ap (λ n. get_or tiles n 0) same ∙ get_or_default tiles count 0 tile within ∙ sym is) ∙ at_tile))
        (λ apart. ⊎_elim
        (λ again. ap (λ (o : Option TileMesh). is_some o) (ap (λ n. get_or after n None) again ∙ at_tile))
        (λ other. ap (λ (o : Option TileMesh). is_some o) (elsewhere (get_or tiles place 0) other) ∙ built.done place (omega (arith, below, apart)))
        (cases_eq (get_or tiles place 0) tile))
        (cases_eq place count);
  }
    where
      at_tile : get_or after tile None ≡ Some mesh
      at_tile =
          ap (λ (p : List (Option TileMesh)). get_or p tile None) after_is
          ∙ get_or-set_same places tile (Some mesh) None (omega (arith, there, built.each))

      elsewhere : (t : ℕ) → t ≢ tile → get_or after t None ≡ get_or places t None
      elsewhere t apart = ap (λ (p : List (Option TileMesh)). get_or p t None) after_is ∙ get_or-set_other places tile t (Some mesh) None apart

      here : (t : ℕ) (other : TileMesh) → t ≡ tile → get_or after t None ≡ Some other → mesh ≡ other
      here t other same found = same_Some mesh other (sym at_tile ∙ ap (λ n. get_or after n None) (sym same) ∙ found)

-- where a level is at rest, a ground that comes has the same stored lists
module _ (state : BookState) (ground : Ground) (rules : IsBook state) (rest : IsAtRest state) (fits : IsGroundFor state.ground ground) where
  abbrev alive : List Shape
  alive = shapes_alive state.history state.published

  limits : All IsShape alive
  limits = alive_limits state.history state.published rules.replied.requests

  same_count : tile_count ground.setting ≡ tile_count state.ground.setting
  same_count = ap tile_count fits.setting

  touching_before : AreTouching state.ground alive state.stored
  touching_before t there =
      none_awaited state t rest.built there ∙ ap (λ k. touching_shapes state.ground.setting t (shapes_alive state.history k)) rest.shown

  touching : AreTouching ground alive state.stored
  touching t there =
      touching_before t (omega (arith, there, same_count)) ∙ ap (λ (setting : Setting). touching_shapes setting t alive) (sym fits.setting)

  -- the shapes that are stored for a tile keep their limits
  pub stored_limits : (t : ℕ) → t < tile_count state.ground.setting → All IsShape (get_or state.stored t [])
  stored_limits t there =
      subst (All IsShape) (sym (touching_before t there)) (All-filter (is_touching state.ground.setting t) IsShape alive limits)

  -- once it is shown, all is kept
  pub kept_ground : (after : BookState) (before empty : List (Option TileMesh)) (next : Mesh) → length before ≡ tile_count state.ground.setting
      → after ≡ after_ground state ground → IsBook after → empty ≡ replicate (length before) None → next ≡ build_of ground state.history state.published
      → IsSound next → AreKept after empty next
  kept_ground after before empty next each step after_rules none_fresh is sound =
      let tiles_are : next.tiles ≡ tiles_under ground alive = ap (λ (m : Mesh). m.tiles) is ∙ tiles_of_build ground state.history state.published in
      let count : empty_places (length before) ≡ empty_places (tile_count ground.setting) = ap empty_places (each ∙ sym same_count) in
      let own : after.ground ≡ ground = ap (λ (s : BookState). s.ground) step in
      let lists : after.stored ≡ state.stored = ap (λ (s : BookState). s.stored) step in
      record {
        rules = after_rules;
        each = ap length none_fresh ∙ length-replicate (length before) None ∙ each ∙ sym same_count ∙ ap (λ (w : Ground). tile_count w.setting) (sym own);
        stored = rw (tiles_are, none_fresh, count, own, lists) (stored_again ground alive state.stored fits.rules touching);
        shown = is ∙ ap published_mesh (sym step);
        sound = sound;
      }

  module _ (tiles : List ℕ) (but : IsGroundBut tiles state.ground ground) where
    -- a tile that the list does not name is the same over both
    same_tile : (t : ℕ) (shapes : List Shape) → t < tile_count state.ground.setting → (Contains tiles t → ⊥)
        → tile_under ground t shapes ≡ tile_under state.ground t shapes
    same_tile t shapes there unnamed = λ i. tile_mesh_of (fits.setting i) (layers i) shapes
      where
        e : Layer
        e = layer_of state.ground.setting state.ground.field t

        there_too : t < tile_count ground.setting
        there_too = omega (arith, there, same_count)

        stands : get_or ground.layers t e ≡ get_or state.ground.layers t e
        stands =
            same_Some (get_or ground.layers t e) (get_or state.ground.layers t e)
            (sym (slice_get-get_or ground.layers t e (omega (arith, there_too, length-layers_of_ground ground fits.rules)))
            ∙ but.others t there unnamed
            ∙ slice_get-get_or state.ground.layers t e (omega (arith, there, length-layers_of_ground state.ground rules.level)))

        layers : layer_of ground.setting ground.field t ≡ layer_of state.ground.setting state.ground.field t
        layers =
            sym (layer_of_ground ground t e fits.rules there_too) ∙ stands ∙ layer_of_ground state.ground t e rules.level there

    module _ (places : List (Option TileMesh)) (mesh : Mesh) (built : AreBuiltIn ground state.stored tiles (length tiles) places)
        (shown : mesh ≡ published_mesh state) (sound : IsSound mesh) where
      published_are : mesh.tiles ≡ tiles_under state.ground alive
      published_are = ap (λ (m : Mesh). m.tiles) shown ∙ tiles_of_build state.ground state.history state.published

      -- a tile without a place is one that the list does not name
      unnamed_at : (t : ℕ) → get_or places t None ≡ None → Contains tiles t → ⊥
      unnamed_at t none held =
          true≢false
          (sym (built.done held.0 held.1)
          ∙ ap (λ n. is_some (get_or places n None)) (get_or_default tiles held.0 0 t held.1 ∙ held.2)
          ∙ ap (λ (o : Option TileMesh). is_some o) none)

      stored : AreStored ground state.stored places mesh.tiles
      stored t d there = by_place (get_or places t None) refl
        where
          there_before : t < tile_count state.ground.setting
          there_before = omega (arith, there, same_count)

          by_place : (o : Option TileMesh) → get_or places t None ≡ o → mesh_at_hand places mesh.tiles t d ≡ tile_under ground t (get_or state.stored t [])
          by_place (Some other) found = ap (λ (o : Option TileMesh). unwrap_or o (get_or mesh.tiles t d)) found ∙ built.right t other found
          by_place None none =
              ap (λ (o : Option TileMesh). unwrap_or o (get_or mesh.tiles t d)) none
              ∙ ap (λ (list : List TileMesh). get_or list t d) published_are
              ∙ sym (stored_tile state.ground alive state.stored rules.level touching_before t d there_before)
              ∙ sym (same_tile t (get_or state.stored t []) there_before (unnamed_at t none))

      same_setting : mesh.setting ≡ ground.setting
      same_setting = ap (λ (m : Mesh). m.setting) shown ∙ setting_of_build state.ground state.history state.published ∙ sym fits.setting

      published_tiles : AreTiles ground.setting mesh.tiles
      published_tiles = subst (λ (setting : Setting). AreTiles setting mesh.tiles) same_setting sound.tiles

      renewed : tiles_after (news_of places) mesh.tiles ≡ tiles_under ground alive
      renewed = tiles_renewed ground alive state.stored fits.rules touching places mesh.tiles built.each stored published_tiles

      -- so the tiles that are built can be put into the published mesh, and make that of the ground
      are_next : (news : List New) → news ≡ news_of places → AreNew mesh.setting news
      are_next news are =
          rw (same_setting, are) (news_are_new ground alive state.stored fits.rules touching places mesh.tiles built.each stored limits)

      few_next : (news : List New) → news ≡ news_of places → polygon_count (tiles_after news mesh.tiles) ≤ 8000000
      few_next news are = rw (are, renewed) (are_tiles ground alive fits.rules limits).few

      next_is : (news : List New) → news ≡ news_of places → mesh_of mesh.setting (tiles_after news mesh.tiles) ≡ build_of ground state.history state.published
      next_is news are =
          ap (λ (list : List New). mesh_of mesh.setting (tiles_after list mesh.tiles)) are
          ∙ (λ i. mesh_of (same_setting i) (renewed i)) ∙ sym (whole_build ground state.history state.published)

      -- and the mesh so made differs in the tiles of the list at most
      differ_in : (news : List New) (after : Mesh) → news ≡ news_of places → DifferIn (map (λ (new : New). new.0) news) mesh after → DifferIn tiles mesh after
      differ_in news after are differ = record {
        one = differ.one;
        others = λ t none. differ.others t (λ held. none (among t held));
        between = λ link from to is. differ.between link (λ held. from (among link.from.tile held)) (λ held. to (among link.to.tile held)) is;
      }
        where
          each : All (λ (new : New). Contains tiles new.0) news
          each =
              subst (All (λ (new : New). Contains tiles new.0)) (sym are)
              (all_from (λ (new : New). Contains tiles new.0) places 0
              (λ t other there found. let from_zero : t ≡ 0 + t = omega arith in subst (Contains tiles) from_zero (built.named t other found)))

          among : (t : ℕ) → Contains (map (λ (new : New). new.0) news) t → Contains tiles t
          among t held =
              All-contains (Contains tiles) (map (λ (new : New). new.0) news) t (All-map (Contains tiles) (λ (new : New). new.0) news each) held

      pub next_tiles : (news : List New) → news ≡ news_of places → NextTiles state ground tiles mesh news
      next_tiles news are = record {
        new = are_next news are;
        few = few_next news are;
        mesh = next_is news are;
        differ = λ after differ. differ_in news after are differ;
      }

-- the same for a level, whose queue is seen as its state
pub level_tiles : (queue state : BookState) (ground over : Ground) (tiles : List ℕ) (fresh places : List (Option TileMesh)) (mesh : Mesh) (news : List New)
    → queue ≡ state → AreKept queue fresh mesh → IsAtRest state → IsGroundBut tiles state.ground ground → over ≡ ground
    → AreBuiltIn over queue.stored tiles (length tiles) places → news ≡ news_of places → NextTiles queue ground tiles mesh news
level_tiles queue state ground over tiles fresh places mesh news is kept rest but same built are =
    let here : IsGroundBut tiles queue.ground ground = subst (λ (s : BookState). IsGroundBut tiles s.ground ground) (sym is) but in
    next_tiles queue ground kept.rules (subst IsAtRest (sym is) rest) here.ground tiles here places mesh
    (subst (λ (w : Ground). AreBuiltIn w queue.stored tiles (length tiles) places) same built) kept.shown kept.sound news are
