-- Every mesh of a setting and fit tiles is sound.
use Rattle.std.proofs.Common.{◌≡◌, ℕ, zero, suc, ◌+◌, ◌/◌, ◌%◌, ◌<◌, pos, List, [], ◌∷◌, length, get_or, map, Option, ap, ◌∙◌, sym, refl, subst, arith}
use Rattle.std.specs.Prelude.{All, Some, slice_get, option_and_then}
use Rattle.std.specs.List.{range_with_len}
use Rattle.std.specs.Option.{option_map_or}
use Rattle.std.proofs.lemmas.List.{get_or-map, length-map}
use Rattle.std.proofs.lemmas.List.FromFn.{get_or-range_with_len}
use Rattle.std.proofs.lemmas.List.Elements.{All-map, All-weaker}
use Rattle.std.proofs.lemmas.Option.{slice_get_read, slice_get_within, get_or_from_slice_get}
use Rattle.nav_base.specs.Convex.{corner_at, place_after}
use Rattle.nav_ground.specs.declared.setting.Setting.{Setting}
use Rattle.nav_ground.specs.Limits.{IsSetting}
use Rattle.nav_ground.specs.Cells.{opposite}
use Rattle.nav_ground.specs.Tiling.{tile_window, tiles_in_row}
use Rattle.mesh_types.specs.declared.links.Link.{Link}
use Rattle.mesh_types.specs.declared.polygon.Polygon.{Polygon}
use Rattle.mesh_types.specs.declared.region.LabelRun.{LabelRun}
use Rattle.mesh_types.specs.declared.mesh.RimEdge.{RimEdge}
use Rattle.mesh_types.specs.declared.mesh.TileMesh.{TileMesh}
use Rattle.mesh_types.specs.declared.mesh.Mesh.{Mesh}
use Rattle.mesh_types.specs.Runs.{runs_of}
use Rattle.mesh_types.specs.BorderLinks.{border_link, line_of, meetings}
use Rattle.mesh_types.specs.WholeMesh.{cross_links, mesh_of, poly_at}
use Rattle.mesh_types.specs.FitTiles.{IsFit, IsRimOf, LiesOnSide, RunsOver}
use Rattle.mesh_types.specs.Soundness.{AreTiles, IsCrossLink, IsSound}
use Rattle.mesh_types.specs.Portals.{LeadsThrough}
use Rattle.mesh_types.proofs.LinksInOrder.{All-ordered_links}
use Rattle.tile_links.specs.Across.{fixed_of}
use Rattle.tile_links.specs.Loose.{loose_links, loose_over}
use Rattle.tile_links.proofs.TilesAcross.{IsPlacedAcross, LiesBeside, placed_across, tile_at}
use Rattle.tile_links.proofs.LooseLinks.{All-flat_map, loose_all, loose_over_all, cross_links_found}
use Rattle.tile_links.proofs.SharedRuns.{IsShared, runs_shared}
use Rattle.tile_links.proofs.BorderPortals.{AreOn, portal_out, portal_in, one_line, fixed_on_side, side_line}

-- the line of an entry is its side of the tile
pub line_is : (setting : Setting) (tile : TileMesh) (entry : RimEdge) (side : ℕ) → (rim : IsRimOf setting tile entry) → entry.side ≡ side
    → line_of side tile.polys entry ≡ side_line (tile_window setting tile.tile) side
line_is setting tile entry side rim on =
    ap (λ (found : Option Polygon). option_map_or (λ (polygon : Polygon). fixed_of side (corner_at polygon.corners entry.edge)) found (pos 0)) rim.is_there
    ∙ subst (λ n. fixed_of n (corner_at rim.polygon.corners entry.edge) ≡ side_line (tile_window setting tile.tile) n) on
    (fixed_on_side entry.side (tile_window setting tile.tile) _ _ rim.side rim.lies)

-- a link along a shared run of two entries leads from the one polygon to the other
through : (setting : Setting) (a b : TileMesh) (side : ℕ) (entry other : RimEdge) (run : LabelRun) → IsSetting setting → IsPlacedAcross setting a.tile side b.tile
    → IsRimOf setting a entry → entry.side ≡ side → IsRimOf setting b other → other.side ≡ opposite side → IsShared entry other run
    → LeadsThrough (slice_get a.polys entry.poly) (slice_get b.polys other.poly) (border_link a b side entry other run)
through setting a b side entry other run limits at rim on rim' on' shared =
    let four : side < 4 = omega (arith, on, rim.side) in
    let line = line_of side a.polys entry in
    let at_line = line_is setting a entry side rim on in
    let own : AreOn entry.first (entry.first + length entry.pairs) (entry.first + run.first) (entry.first + run.last) =
    record { least = omega arith; order = omega (arith, shared.order); most = omega (arith, shared.last.own) } in
    let across : AreOn other.first (other.first + length other.pairs) (entry.first + run.first) (entry.first + run.last) =
    record { least = shared.first.begins; order = omega (arith, shared.order); most = shared.last.ends } in
    record {
      leaves = rim.polygon;
      is_left = rim.is_there;
      out = record {
        there = rim.edge;
        lies = portal_out side (tile_window setting a.tile) _ _ line entry.first (entry.first + length entry.pairs) (entry.first + run.first) (entry.first + run.last)
            four (subst (λ n. LiesOnSide (tile_window setting a.tile) n (corner_at rim.polygon.corners entry.edge)
            (corner_at rim.polygon.corners (place_after (length rim.polygon.corners) entry.edge))) on rim.lies)
            (subst (λ n. RunsOver n (corner_at rim.polygon.corners entry.edge)
            (corner_at rim.polygon.corners (place_after (length rim.polygon.corners) entry.edge)) entry.first (entry.first + length entry.pairs)) on
            (rim.runs (omega (arith, shared.last.own))))
            own at_line;
      };
      enters = rim'.polygon;
      is_entered = rim'.is_there;
      into = record {
        edge = other.edge;
        there = rim'.edge;
        lies = portal_in side (tile_window setting b.tile) _ _ line other.first (other.first + length other.pairs) (entry.first + run.first) (entry.first + run.last)
            four (subst (λ n. LiesOnSide (tile_window setting b.tile) n (corner_at rim'.polygon.corners other.edge)
            (corner_at rim'.polygon.corners (place_after (length rim'.polygon.corners) other.edge))) on' rim'.lies)
            (subst (λ n. RunsOver n (corner_at rim'.polygon.corners other.edge)
            (corner_at rim'.polygon.corners (place_after (length rim'.polygon.corners) other.edge)) other.first (other.first + length other.pairs)) on'
            (rim'.runs (omega (arith, shared.first.begins, shared.last.ends))))
            across (at_line ∙ one_line setting a.tile side b.tile limits four at);
      };
    }

-- a tile across a side is another tile
another : (side column row other_column other_row : ℕ) → LiesBeside side column row other_column other_row → column ≡ other_column → row ≡ other_row → ⊥
another zero column row other_column other_row beside same same' = omega (arith, beside.0, same)
another (suc zero) column row other_column other_row beside same same' = omega (arith, beside.1, same')
another (suc (suc zero)) column row other_column other_row beside same same' = omega (arith, beside.0, same)
another (suc (suc (suc side))) column row other_column other_row beside same same' = omega (arith, beside.1, same')

-- the polygon that a reference to a tile that is there names
poly_there : (mesh : Mesh) (tile : TileMesh) (index : ℕ) → slice_get mesh.tiles tile.tile ≡ Some tile
    → poly_at mesh (record { tile = tile.tile; index = index }) ≡ slice_get tile.polys index
poly_there mesh tile index there = ap (option_and_then (λ (t : TileMesh). slice_get t.polys index)) there

-- the links from a tile to the tile across a side are sound
loose_sound : (setting : Setting) (mesh : Mesh) (a b : TileMesh) (side : ℕ) → IsSetting setting → IsFit setting a → IsFit setting b
    → IsPlacedAcross setting a.tile side b.tile → slice_get mesh.tiles a.tile ≡ Some a → slice_get mesh.tiles b.tile ≡ Some b
    → All (IsCrossLink mesh a.tile) (loose_links a b side)
loose_sound setting mesh a b side limits fit fit' at there there' =
    loose_all (IsCrossLink mesh a.tile) (IsRimOf setting a) (IsRimOf setting b) a b side fit.rim fit'.rim
    (λ entry other rim on rim' on'.
    All-map (IsCrossLink mesh a.tile) (border_link a b side entry other) (runs_of (meetings entry other))
    (All-weaker (IsShared entry other) (λ (run : LabelRun). IsCrossLink mesh a.tile (border_link a b side entry other run))
    (λ run shared.
    let leads = through setting a b side entry other run limits at rim on rim' on' shared in
    record {
      from_here = refl;
      to_another = λ same. another side _ _ _ _ at.beside
          (ap (λ (t : ℕ). t % tiles_in_row setting) (sym same)) (ap (λ (t : ℕ). t / tiles_in_row setting) (sym same));
      through = record {
        leaves = leads.leaves;
        is_left = poly_there mesh a entry.poly there ∙ leads.is_left;
        out = leads.out;
        enters = leads.enters;
        is_entered = poly_there mesh b other.poly there' ∙ leads.is_entered;
        into = leads.into;
      };
    })
    (runs_of (meetings entry other)) (runs_shared entry other)))

-- an element that is there
pub element : {X : Type 0} (xs : List X) (i : ℕ) → i < length xs → (x : X) × (x ≡ get_or xs i x)
element [] i there = absurd (omega (arith, there))
element (x ∷ xs) zero there = (x, refl)
element (x ∷ xs) (suc i) there = element xs i (omega (arith, there))

-- so are all links that leave a tile
tile_sound : (setting : Setting) (mesh : Mesh) (tile : TileMesh) (t : ℕ) → IsSetting setting → AreTiles setting mesh.tiles → t < length mesh.tiles
    → tile ≡ get_or mesh.tiles t tile → All (IsCrossLink mesh t) (cross_links setting mesh.tiles tile)
tile_sound setting mesh tile t limits are there is =
    let facts = tile_at setting mesh.tiles t tile are there is in
    let here : slice_get mesh.tiles tile.tile ≡ Some tile =
    ap (slice_get mesh.tiles) facts.0 ∙ slice_get_read mesh.tiles (length mesh.tiles) t tile refl there is in
    subst (λ n. All (IsCrossLink mesh n) (cross_links setting mesh.tiles tile)) facts.0
    (subst (All (IsCrossLink mesh tile.tile)) (cross_links_found setting mesh.tiles tile)
    (All-ordered_links (IsCrossLink mesh tile.tile) _
    (All-flat_map (IsCrossLink mesh tile.tile) (loose_over setting mesh.tiles tile) (range_with_len 0 4)
    (λ k d in_four.
    let side : ℕ = get_or (range_with_len 0 4) k d in
    let four : side < 4 = omega (arith, in_four, get_or-range_with_len 0 4 k d (omega (arith, in_four))) in
    loose_over_all (IsCrossLink mesh tile.tile) setting mesh.tiles tile side
    (λ place other across found.
    let within = slice_get_within mesh.tiles place other found in
    let facts' = tile_at setting mesh.tiles place other are within (sym (get_or_from_slice_get mesh.tiles place other other found)) in
    loose_sound setting mesh tile other side limits facts.1 facts'.1
    (subst (IsPlacedAcross setting tile.tile side) (sym facts'.0) (placed_across setting tile.tile side place facts.1.in_tile.there four across))
    here (ap (slice_get mesh.tiles) facts'.0 ∙ found))))))

pub IsSound-mesh_of : (setting : Setting) (tiles : List TileMesh) → IsSetting setting → AreTiles setting tiles → IsSound (mesh_of setting tiles)
unfolding mesh_of
IsSound-mesh_of setting tiles limits are = record {
  tiles = are;
  one_each = length-map tiles (cross_links setting tiles);
  cross = λ t d there.
      let within : t < length tiles = omega (arith, there, length-map tiles (cross_links setting tiles)) in
      let found = element tiles t within in
      subst (All (IsCrossLink (mesh_of setting tiles) t))
      (ap (cross_links setting tiles) found.1 ∙ sym (get_or-map (cross_links setting tiles) tiles t found.0 d within))
      (tile_sound setting (mesh_of setting tiles) found.0 t limits are within found.1);
}

-- the mesh of tiles and of the links that leave them
pub mesh_made : (setting : Setting) (tiles held : List TileMesh) (cross : List (List Link)) → held ≡ tiles → cross ≡ map (cross_links setting held) held
    → ◌≡◌ {A = Mesh} (record { setting = setting; tiles = held; cross = cross }) (mesh_of setting tiles)
unfolding mesh_of
mesh_made setting tiles held cross same links =
    let all = links ∙ ap (λ (ts : List TileMesh). map (cross_links setting ts) ts) same in
    λ i. record { setting = setting; tiles = same i; cross = all i }
