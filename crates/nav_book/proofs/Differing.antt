-- A link between two tiles that are the same in two meshes is in both; so a mesh in which tiles were replaced differs from the one before in
-- those tiles at most.
use Rattle.std.proofs.Common.{◌≡◌, ℕ, ◌<◌, Bool, true, false, List, [], map, length, get_or, Option, Some, None, refl, sym, ap, ◌∙◌, subst, arith, inl, inr}
use Rattle.std.specs.Prelude.{All, Contains, slice_get, option_and_then}
use Rattle.std.specs.List.{flat_map, range_with_len}
use Rattle.std.specs.Option.{option_map, option_map_or}
use Rattle.std.proofs.lemmas.List.{get_or_default, get_or-map, length-map}
use Rattle.std.proofs.lemmas.List.Elements.{All-contains, All-map, All-nil}
use Rattle.std.proofs.lemmas.Option.{get_or_from_slice_get, none-some, same_Some, slice_get-map, slice_get_within}
use Rattle.nav_ground.specs.Cells.{opposite}
use Rattle.nav_ground.specs.declared.setting.Setting.{Setting}
use Rattle.mesh_types.specs.declared.links.Link.{Link}
use Rattle.mesh_types.specs.declared.mesh.RimEdge.{RimEdge}
use Rattle.mesh_types.specs.declared.mesh.TileMesh.{TileMesh}
use Rattle.mesh_types.specs.declared.mesh.Mesh.{Mesh}
use Rattle.mesh_types.specs.BorderLinks.{along_side, border_link, border_links, meetings}
use Rattle.mesh_types.specs.Corridors.{IsLinkOf}
use Rattle.mesh_types.specs.Runs.{runs_of}
use Rattle.mesh_types.specs.Soundness.{IsSound}
use Rattle.mesh_types.specs.WholeMesh.{cross_links, links_over, mesh_of, tile_across}
use Rattle.mesh_types.proofs.Gathered.{all_of_each, gathered_all, gathered_held}
use Rattle.mesh_types.proofs.LinksInOrder.{All-ordered_links, Contains-ordered_links}
use Rattle.tile_links.specs.NewTiles.{IsWhole, New, is_new, tiles_after}
use Rattle.tile_links.proofs.NearTiles.{new_there}
use Rattle.tile_links.proofs.ReplacedTiles.{same_at}
use Rattle.corridor_search.specs.Changes.{DifferIn}

-- each tile mesh has the number of its place
abbrev AreNumbered : List TileMesh → Type 0
AreNumbered tiles = (t : ℕ) (d : TileMesh) → t < length tiles → (get_or tiles t d).tile ≡ t

-- the links to the tile across a side lead there
leads_across : (tile other : TileMesh) (side : ℕ) → All (λ (link : Link). link.to.tile ≡ other.tile) (border_links tile other side)
unfolding border_links
leads_across tile other side =
    All-ordered_links (λ (link : Link). link.to.tile ≡ other.tile) _
    (all_of_each (λ (link : Link). link.to.tile ≡ other.tile)
    (λ (entry : RimEdge). flat_map (λ (across : RimEdge). map (border_link tile other side entry across) (runs_of (meetings entry across)))
    (along_side (opposite side) other.rim)) (along_side side tile.rim)
    (λ k entry there.
    all_of_each (λ (link : Link). link.to.tile ≡ other.tile)
    (λ (across : RimEdge). map (border_link tile other side (get_or (along_side side tile.rim) k entry) across)
    (runs_of (meetings (get_or (along_side side tile.rim) k entry) across))) (along_side (opposite side) other.rim)
    (λ j across inside.
    All-map (λ (link : Link). link.to.tile ≡ other.tile)
    (border_link tile other side (get_or (along_side side tile.rim) k entry) (get_or (along_side (opposite side) other.rim) j across))
    (runs_of (meetings (get_or (along_side side tile.rim) k entry) (get_or (along_side (opposite side) other.rim) j across))) (λ i run held. refl))))

module _ (setting : Setting) (before after : List TileMesh) (numbered : AreNumbered before) where
  -- a link to a tile that is the same in both
  abbrev IsKeptOver : TileMesh → ℕ → Link → Type 0
  IsKeptOver tile side link = slice_get before link.to.tile ≡ slice_get after link.to.tile → Contains (links_over setting after tile side) link

  kept_over : (tile : TileMesh) (side : ℕ) → All (IsKeptOver tile side) (links_over setting before tile side)
  kept_over tile side = by_across (tile_across setting tile.tile side) refl
    where
      by_tile : (place : ℕ) → tile_across setting tile.tile side ≡ Some place → (found : Option TileMesh) → slice_get before place ≡ found
          → All (IsKeptOver tile side) (option_map_or (λ (other : TileMesh). border_links tile other side) found [])
      by_tile place is None none = All-nil (IsKeptOver tile side)
      by_tile place is (Some other) there = λ k d inside same.
          let link = get_or (border_links tile other side) k d in
          let number : other.tile ≡ place =
          ap (λ (t : TileMesh). t.tile) (sym (get_or_from_slice_get before place other other there))
          ∙ numbered place other (slice_get_within before place other there) in
          let to : link.to.tile ≡ place = leads_across tile other side k d inside ∙ number in
          let again : slice_get after place ≡ Some other =
          ap (slice_get after) (sym to) ∙ sym same ∙ ap (slice_get before) to ∙ there in
          let listed : links_over setting after tile side ≡ border_links tile other side =
          ap (λ (found : Option TileMesh). option_map_or (λ (t : TileMesh). border_links tile t side) found [])
          (ap (option_and_then (slice_get after)) is ∙ again) in
          subst (λ (links : List Link). Contains links link) (sym listed)
          (k, inside, get_or_default (border_links tile other side) k link d inside)

      by_across : (found : Option ℕ) → tile_across setting tile.tile side ≡ found
          → All (IsKeptOver tile side)
          (option_map_or (λ (other : TileMesh). border_links tile other side) (option_and_then (slice_get before) found) [])
      by_across None none = All-nil (IsKeptOver tile side)
      by_across (Some place) is = by_tile place is (slice_get before place) refl

  kept_cross : (tile : TileMesh) (link : Link) → slice_get before link.to.tile ≡ slice_get after link.to.tile → Contains (cross_links setting before tile) link
      → Contains (cross_links setting after tile) link
  kept_cross tile link same held =
      Contains-ordered_links link (flat_map (links_over setting after tile) (range_with_len 0 4))
      (All-contains (λ (l : Link). slice_get before l.to.tile ≡ slice_get after l.to.tile → Contains (flat_map (links_over setting after tile) (range_with_len 0 4)) l)
      (cross_links setting before tile) link
      (All-ordered_links (λ (l : Link). slice_get before l.to.tile ≡ slice_get after l.to.tile → Contains (flat_map (links_over setting after tile) (range_with_len 0 4)) l)
      (flat_map (links_over setting before tile) (range_with_len 0 4))
      (gathered_all (λ (l : Link). slice_get before l.to.tile ≡ slice_get after l.to.tile → Contains (flat_map (links_over setting after tile) (range_with_len 0 4)) l)
      (links_over setting before tile) 0 4
      (λ side least most k d inside there.
      gathered_held (links_over setting after tile) (get_or (links_over setting before tile side) k d) 0 4 side least most (kept_over tile side k d inside there))))
      held same)

  pub kept_link : (link : Link) → slice_get before link.from.tile ≡ slice_get after link.from.tile → slice_get before link.to.tile ≡ slice_get after link.to.tile
      → IsLinkOf (mesh_of setting before) link → IsLinkOf (mesh_of setting after) link
  unfolding mesh_of
  kept_link link from to is = record {
    listed = elim is.listed [
      | inl inner ↦ inl (inner.0, sym from ∙ inner.1, inner.2)
      | inr over ↦ inr (by_tile (slice_get before link.from.tile) refl over.0 over.1 over.2)
    ];
  }
    where
      by_tile : (found : Option TileMesh) → slice_get before link.from.tile ≡ found → (links : List Link)
          → slice_get (map (cross_links setting before) before) link.from.tile ≡ Some links → Contains links link
          → (others : List Link) × (slice_get (map (cross_links setting after) after) link.from.tile ≡ Some others) × Contains others link
      by_tile None none links at held =
          absurd (none-some links (sym (slice_get-map (cross_links setting before) before link.from.tile ∙ ap (option_map (cross_links setting before)) none) ∙ at))
      by_tile (Some tile) there links at held =
          let own = same_Some (cross_links setting before tile) links
          (sym (slice_get-map (cross_links setting before) before link.from.tile ∙ ap (option_map (cross_links setting before)) there) ∙ at) in (
            cross_links setting after tile,
            slice_get-map (cross_links setting after) after link.from.tile ∙ ap (option_map (cross_links setting after)) (sym from ∙ there),
            kept_cross tile link to (subst (λ (list : List Link). Contains list link) (sym own) held),
          )

-- the numbers of new tile meshes
abbrev numbers_of : List New → List ℕ
numbers_of news = map (λ (new : New). new.0) news

-- a number that none of them has is not that of a new tile
named : (news : List New) → All (λ (new : New). Contains (numbers_of news) new.0) news
named news k d there =
    let e : ℕ = (get_or news k d).0 in
    (k, omega (arith, there, length-map news (λ (new : New). new.0)), get_or-map (λ (new : New). new.0) news k d e there)

not_new : (news : List New) (t : ℕ) → (Contains (numbers_of news) t → ⊥) → is_new news t ≡ false
not_new news t none = by_test (is_new news t) refl
  where
    by_test : (b : Bool) → is_new news t ≡ b → b ≡ false
    by_test true is = absurd (none (new_there news t (Contains (numbers_of news)) (named news) is))
    by_test false is = refl

-- a mesh in which tiles were replaced, and the one before
module _ (news : List New) (before after : Mesh) (whole : IsWhole before) (sound : IsSound after)
    (is : after ≡ mesh_of before.setting (tiles_after news before.tiles)) where
  same_setting : after.setting ≡ before.setting
  unfolding mesh_of
  same_setting = ap (λ (m : Mesh). m.setting) is

  tiles_are : after.tiles ≡ tiles_after news before.tiles
  unfolding mesh_of
  tiles_are = ap (λ (m : Mesh). m.tiles) is

  stays_at : (t : ℕ) → (Contains (numbers_of news) t → ⊥) → slice_get (tiles_after news before.tiles) t ≡ slice_get before.tiles t
  stays_at t none = same_at before.setting news before.tiles t whole.tiles (not_new news t none)

  pub replaced_differs : DifferIn (numbers_of news) before after
  replaced_differs = record {
    one = same_setting;
    others = λ t none. ap (λ (tiles : List TileMesh). slice_get tiles t) tiles_are ∙ stays_at t none;
    between = λ link from to of_after.
        subst (λ (m : Mesh). IsLinkOf m link) (sym whole.is)
        (kept_link before.setting (tiles_after news before.tiles) before.tiles (subst AreNumbered tiles_are sound.tiles.in_order) link (stays_at link.from.tile from)
        (stays_at link.to.tile to) (subst (λ (m : Mesh). IsLinkOf m link) is of_after));
  }
