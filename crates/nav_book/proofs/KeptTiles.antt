-- What a level keeps from step to step.
use Rattle.std.proofs.Common.{◌≡◌, ℕ, ◌<◌, Bool, true, false, List, [], ◌∷◌, ◌++◌, length, ap, ◌∙◌, refl, sym, subst, arith, Option, Some, None, Result, Ok, Err, replicate}
use Rattle.std.specs.Prelude.{◌≤◌, slice_set, OnOk, OnErr, if◌then◌else◌}
use Rattle.std.proofs.lemmas.List.{length-replicate, get_or-replicate, length-set}
use Rattle.nav_ground.specs.declared.history.Entry.{Entry}
use Rattle.nav_ground.specs.declared.history.Ground.{Ground}
use Rattle.nav_ground.specs.declared.history.Request.{Request}
use Rattle.nav_ground.specs.declared.setting.Setting.{Setting}
use Rattle.nav_ground.specs.declared.shape.Shape.{Shape}
use Rattle.nav_ground.specs.Grounds.{IsGround}
use Rattle.nav_ground.specs.History.{shapes_alive}
use Rattle.nav_ground.specs.Limits.{IsSetting}
use Rattle.nav_ground.specs.Tiling.{tile_count}
use Rattle.mesh_types.specs.declared.mesh.Mesh.{Mesh}
use Rattle.mesh_types.specs.declared.mesh.TileMesh.{TileMesh}
use Rattle.mesh_types.specs.Builds.{build_of}
use Rattle.mesh_types.specs.Soundness.{AreTiles, IsSound, polygon_count}
use Rattle.mesh_types.specs.WholeMesh.{mesh_of}
use Rattle.tile_build.specs.Meshes.{tiles_under}
use Rattle.tile_build.proofs.BuildTotals.{alive_limits}
use Rattle.tile_links.specs.NewTiles.{AreNew, IsWhole, New, tiles_after}
use Rattle.build_queue.specs.declared.live.Submitted.TheVariants.{Taken, Stale}
use Rattle.build_queue.specs.BookState.{BookState, IsBook, first_state, least_awaited}
use Rattle.build_queue.specs.Renewal.{IsAllShown, IsRenewed}
use Rattle.build_queue.specs.Steps.{next_reply, after_request, is_taken, submission, after_submit, after_publish}
use Rattle.build_queue.proofs.BookLaws.{none_awaited}
use Rattle.nav_book.specs.Fresh.{news_of}
use Rattle.nav_book.specs.LevelRepresentation.{AreKept}
use Rattle.nav_book.specs.LevelResults.{published_mesh, target_mesh, tile_under}
use Rattle.nav_book.proofs.GroundTiles.{are_tiles, build_is_whole, build_of-append, same_shapes_build, setting_of_build, tiles_of_build, whole_build}
use Rattle.nav_book.proofs.StoredTiles.{AreTouching, news_are_new, stored_again, stored_with, tiles_renewed}

-- so many empty places
abbrev empty_places : ℕ → List (Option TileMesh)
empty_places n = replicate n None

-- the first state
first_touching : (ground : Ground) → AreTouching ground [] (replicate (tile_count ground.setting) [])
first_touching ground t there = get_or-replicate (tile_count ground.setting) t [] [] there

pub kept_first : (ground : Ground) (state : BookState) (places : List (Option TileMesh)) (mesh : Mesh) → state ≡ first_state ground → IsBook state → IsGround ground
    → places ≡ replicate (tile_count ground.setting) None → mesh ≡ mesh_of ground.setting (tiles_under ground []) → IsSound mesh → AreKept state places mesh
kept_first ground state places mesh first rules rules' empty is sound' =
    let shown : mesh ≡ published_mesh (first_state ground) = is ∙ sym (whole_build ground [] 0) in
    let tiles : mesh.tiles ≡ tiles_under ground [] = ap (λ (m : Mesh). m.tiles) shown ∙ tiles_of_build ground [] 0 in
    rw first (record {
      rules = subst IsBook first rules;
      each = ap length empty ∙ length-replicate (tile_count ground.setting) None;
      stored = rw (empty, tiles) (stored_again ground [] (replicate (tile_count ground.setting) []) rules' (first_touching ground));
      shown = shown;
      sound = sound';
    })

-- a step that may be refused with nothing changed leaves the ground, where it does if it is taken
pub whole_unless : {A E : Type 0} (state : BookState) (result : Result A E) (next new : BookState) → OnOk result (new ≡ next) → OnErr result (new ≡ state)
    → next.ground ≡ state.ground → new.ground ≡ state.ground
whole_unless state (Ok answer) next new taken refused ground = ap (λ (s : BookState). s.ground) taken ∙ ground
whole_unless state (Err error) next new taken refused ground = ap (λ (s : BookState). s.ground) refused

module _ (state : BookState) (places : List (Option TileMesh)) (mesh : Mesh) (kept : AreKept state places mesh) where
  shown_within : state.published ≤ length state.history
  shown_within = omega (arith, kept.rules.aimed, kept.rules.shown)

  -- a step that leaves the ground, the stored lists and what is published
  same_tiles : (new : BookState) → IsBook new → new.ground ≡ state.ground → new.stored ≡ state.stored → published_mesh new ≡ published_mesh state
      → AreKept new places mesh
  same_tiles new rules ground stored is = record {
    rules = rules;
    each = kept.each ∙ ap (λ (w : Ground). tile_count w.setting) (sym ground);
    stored = rw (ground, stored) kept.stored;
    shown = kept.shown ∙ sym is;
    sound = kept.sound;
  }

  pub kept_step : (next new : BookState) → new ≡ next → IsBook new → next.ground ≡ state.ground → next.stored ≡ state.stored
      → published_mesh next ≡ published_mesh state → AreKept new places mesh
  kept_step next new is rules ground stored shown =
      same_tiles new rules (ap (λ (s : BookState). s.ground) is ∙ ground) (ap (λ (s : BookState). s.stored) is ∙ stored) (ap published_mesh is ∙ shown)

  -- the same of a step that may be refused with nothing changed
  pub kept_unless : {A E : Type 0} (result : Result A E) (next new : BookState) → OnOk result (new ≡ next) → OnErr result (new ≡ state) → IsBook new
      → next.ground ≡ state.ground → next.stored ≡ state.stored → published_mesh next ≡ published_mesh state → AreKept new places mesh
  kept_unless (Ok answer) next new taken refused rules ground stored shown = kept_step next new taken rules ground stored shown
  kept_unless (Err error) next new taken refused rules ground stored shown = kept_step state new refused rules refl refl refl

  -- one entry more shows nothing more
  pub mesh_after_request : (lane : ℕ) (request : Request) → published_mesh (after_request state lane request) ≡ published_mesh state
  mesh_after_request lane request =
      build_of-append state.ground state.history (record { lane = lane; request = request; reply = next_reply state request } ∷ []) state.published shown_within

  -- what was published stays the build for its length, however the history grows
  pub lasting : (more : List Entry) → mesh ≡ build_of state.ground (state.history ++ more) state.published
  lasting more = kept.shown ∙ sym (build_of-append state.ground state.history more state.published shown_within)

  -- a build that is stale changes nothing
  pub kept_stale : (tile : ℕ) (shapes : List Shape) (new : BookState) → new ≡ after_submit state tile shapes → IsBook new → submission state tile shapes ≡ Stale
      → AreKept new places mesh
  kept_stale tile shapes new is rules stale =
      kept_step (after_submit state tile shapes) new is rules refl (by_test (is_taken state tile shapes) stale) refl
    where
      by_test : (taken : Bool) → (if taken then Taken else Stale) ≡ Stale
          → (if taken then slice_set state.stored tile shapes else state.stored) ≡ state.stored
      by_test true other = absurd cc
      by_test false here = refl

  -- one that is taken is stored
  pub kept_taken : (tile : ℕ) (shapes : List Shape) (made : TileMesh) (new : BookState) → tile < tile_count state.ground.setting
      → made ≡ tile_under state.ground tile shapes → new ≡ after_submit state tile shapes → IsBook new → submission state tile shapes ≡ Taken
      → AreKept new (slice_set places tile (Some made)) mesh
  kept_taken tile shapes made new there built is rules taken =
      let ground : new.ground ≡ state.ground = ap (λ (s : BookState). s.ground) is in
      let stored : new.stored ≡ slice_set state.stored tile shapes = ap (λ (s : BookState). s.stored) is ∙ by_test (is_taken state tile shapes) taken in
      record {
        rules = rules;
        each = length-set places tile (Some made) ∙ kept.each ∙ ap (λ (w : Ground). tile_count w.setting) (sym ground);
        stored = rw (ground, stored)
            (stored_with state.ground state.stored places mesh.tiles tile shapes made kept.stored (omega (arith, there, kept.rules.lists))
            (omega (arith, there, kept.each)) built);
        shown = kept.shown ∙ sym (ap published_mesh is);
        sound = kept.sound;
      }
    where
      by_test : (test : Bool) → (if test then Taken else Stale) ≡ Taken
          → (if test then slice_set state.stored tile shapes else state.stored) ≡ slice_set state.stored tile shapes
      by_test true here = refl
      by_test false other = absurd cc

  -- a renewed history shows the same, since the same shapes are alive
  pub mesh_renewed : (new : BookState) → IsAllShown state → IsRenewed state new
      → shapes_alive new.history (length new.history) ≡ shapes_alive state.history (length state.history) → published_mesh new ≡ published_mesh state
  mesh_renewed new all renewed alive =
      let shapes : shapes_alive new.history new.published ≡ shapes_alive state.history state.published =
      ap (shapes_alive new.history) renewed.published ∙ alive ∙ ap (shapes_alive state.history) (sym all.shown) in
      ap (λ (w : Ground). build_of w new.history new.published) renewed.ground
      ∙ same_shapes_build state.ground new.history state.history new.published state.published shapes

  pub kept_renewed : (new : BookState) → IsAllShown state → IsRenewed state new
      → shapes_alive new.history (length new.history) ≡ shapes_alive state.history (length state.history) → IsBook new → AreKept new places mesh
  kept_renewed new all renewed alive rules = same_tiles new rules renewed.ground renewed.stored (mesh_renewed new all renewed alive)

  -- the published mesh has the ground's setting, and is the whole of its tiles
  same_setting : mesh.setting ≡ state.ground.setting
  same_setting = ap (λ (m : Mesh). m.setting) kept.shown ∙ setting_of_build state.ground state.history state.published

  pub setting_fits : IsSetting mesh.setting
  setting_fits = subst IsSetting (sym same_setting) kept.rules.level.setting

  pub is_whole : IsWhole mesh
  is_whole = record {
    tiles = kept.sound.tiles;
    is = subst (λ (m : Mesh). m ≡ mesh_of m.setting m.tiles) (sym kept.shown) (build_is_whole state.ground state.history state.published);
  }

  -- where nothing is awaited, what is stored is what the target asks for
  module _ (none : least_awaited state ≡ None) where
    abbrev alive : List Shape
    alive = shapes_alive state.history state.target

    touching : AreTouching state.ground alive state.stored
    touching t there = none_awaited state t none there

    published_tiles : AreTiles state.ground.setting mesh.tiles
    published_tiles = subst (λ (setting : Setting). AreTiles setting mesh.tiles) same_setting kept.sound.tiles

    -- the fresh meshes in place are the tiles at the target
    renewed : tiles_after (news_of places) mesh.tiles ≡ tiles_under state.ground alive
    renewed = tiles_renewed state.ground alive state.stored kept.rules.level touching places mesh.tiles kept.each kept.stored published_tiles

    -- so they can be put into the published mesh, and make that of the target
    pub are_news : (news : List New) → news ≡ news_of places → AreNew mesh.setting news
    are_news news are =
        rw (same_setting, are)
        (news_are_new state.ground alive state.stored kept.rules.level touching places mesh.tiles kept.each kept.stored
        (alive_limits state.history state.target kept.rules.replied.requests))

    pub few_after : (news : List New) → news ≡ news_of places → polygon_count (tiles_after news mesh.tiles) ≤ 8000000
    few_after news are =
        rw (are, renewed) (are_tiles state.ground alive kept.rules.level (alive_limits state.history state.target kept.rules.replied.requests)).few

    pub target_is : (news : List New) → news ≡ news_of places → mesh_of mesh.setting (tiles_after news mesh.tiles) ≡ target_mesh state
    target_is news are =
        ap (λ (list : List New). mesh_of mesh.setting (tiles_after list mesh.tiles)) are
        ∙ (λ i. mesh_of (same_setting i) (renewed i)) ∙ sym (whole_build state.ground state.history state.target)

    pub kept_shown : (after : BookState) (empty : List (Option TileMesh)) (next : Mesh) → after ≡ after_publish state → after.published ≡ state.target → IsBook after
        → empty ≡ replicate (length places) None → next ≡ target_mesh state → IsSound next → AreKept after empty next
    kept_shown after empty next step published rules none_fresh is sound' =
        let ground : after.ground ≡ state.ground = ap (λ (s : BookState). s.ground) step in
        let lists : after.stored ≡ state.stored = ap (λ (s : BookState). s.stored) step in
        let history : after.history ≡ state.history = ap (λ (s : BookState). s.history) step in
        let tiles : next.tiles ≡ tiles_under state.ground alive = ap (λ (m : Mesh). m.tiles) is ∙ tiles_of_build state.ground state.history state.target in
        let count : empty_places (length places) ≡ empty_places (tile_count state.ground.setting) = ap empty_places kept.each in
        record {
          rules = rules;
          each = ap length none_fresh ∙ length-replicate (length places) None ∙ kept.each ∙ ap (λ (w : Ground). tile_count w.setting) (sym ground);
          stored = rw (tiles, none_fresh, count, ground, lists) (stored_again state.ground alive state.stored kept.rules.level touching);
          shown = is ∙ (λ i. build_of (sym ground i) (sym history i) (sym published i));
          sound = sound';
        }
