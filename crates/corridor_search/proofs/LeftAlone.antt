-- No walk leads to an island that no link from outside leads to.
use Rattle.std.proofs.Common.{◌≡◌, ℕ, ◌<◌, List, [], ◌∷◌, length, get_or, refl, sym, subst, ◌∙◌}
use Rattle.std.specs.Prelude.{Contains, All, Option, Some, None, slice_get}
use Rattle.std.specs.Option.{option_map_or}
use Rattle.std.proofs.lemmas.List.Elements.{All-contains, All-nil}
use Rattle.mesh_types.specs.declared.links.PolyRef.{PolyRef}
use Rattle.mesh_types.specs.declared.links.Link.{Link}
use Rattle.mesh_types.specs.declared.mesh.TileMesh.{TileMesh}
use Rattle.mesh_types.specs.declared.mesh.Mesh.{Mesh}
use Rattle.mesh_types.specs.Corridors.{WalksTo}
use Rattle.mesh_types.specs.Soundness.{IsSound}
use Rattle.corridor_search.specs.MeshGraphs.{IsApart}
use Rattle.corridor_search.specs.Islands.{inner_of, outer_of, IsFromInside, IsLeftAlone, IsReached}
use Rattle.corridor_search.proofs.EachLink.{each-link}
use Rattle.corridor_search.proofs.Sound.{tile-fit, tile-number}

-- a walk to an island that is left alone begins there
begins-inside : (mesh : Mesh) (island : List PolyRef) → IsLeftAlone mesh island → (links : List Link) (from to : PolyRef) → Contains island to
    → WalksTo mesh from links to → Contains island from
begins-inside mesh island alone [] from to there walk = subst (Contains island) (sym walk) there
begins-inside mesh island alone (link ∷ links) from to there walk =
    let rest = begins-inside mesh island alone links link.to to there walk.2 in
    subst (Contains island) walk.1 ((alone.each link walk.0).inside rest)

-- so a polygon outside is apart from one inside
pub apart-outside : (mesh : Mesh) (island : List PolyRef) (from to : PolyRef) → IsLeftAlone mesh island → Contains island to → (Contains island from → ⊥)
    → IsApart mesh from to
apart-outside mesh island from to alone there outside links walk = outside (begins-inside mesh island alone links from to there walk)

-- where the links inside tiles and over borders leave an island alone, all do
pub all-alone : (mesh : Mesh) (island : List PolyRef) → ((t : ℕ) → All (IsFromInside island) (inner_of mesh t)) → ((t : ℕ) → All (IsFromInside island) (outer_of mesh t))
    → IsLeftAlone mesh island
all-alone mesh island inner outer = record { each = each-link mesh (IsFromInside island) inner outer }

-- a link to a polygon in a tile in which the island has none leads to none of the island
pub unreached : (island : List PolyRef) (tiles : List ℕ) (at : PolyRef) → All (IsReached tiles) island → (Contains tiles at.tile → ⊥) → Contains island at → ⊥
unreached island tiles at reached not held = not (All-contains (IsReached tiles) island at reached held).tile

-- so no link inside such a tile does
pub inner-unreached : (mesh : Mesh) (island : List PolyRef) (tiles : List ℕ) (t : ℕ) → IsSound mesh → All (IsReached tiles) island → (Contains tiles t → ⊥)
    → All (IsFromInside island) (inner_of mesh t)
inner-unreached mesh island tiles t sound reached not = by_tile (slice_get mesh.tiles t) refl
  where
    by_tile : (o : Option TileMesh) → slice_get mesh.tiles t ≡ o → All (IsFromInside island) (option_map_or (λ (tile : TileMesh). tile.links) o [])
    by_tile None is = All-nil (IsFromInside island)
    by_tile (Some tile) is = each
      where
        each : (k : ℕ) (d : Link) → k < length tile.links → IsFromInside island (get_or tile.links k d)
        each k d below =
            let link = get_or tile.links k d in
            let to : link.to.tile ≡ t = ((tile-fit mesh t tile sound is).links k d below).to_here ∙ tile-number mesh t tile sound is in
            record { inside = λ held. absurd (unreached island tiles link.to reached (λ there. not (subst (Contains tiles) to there)) held) }
