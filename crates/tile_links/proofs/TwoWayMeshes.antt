-- Each link over a border has its reverse; and so has each link of a mesh where those inside its tiles have theirs.
use Rattle.std.proofs.Common.{◌≡◌, ℕ, zero, suc, ◌+◌, ◌-◌, ◌/◌, ◌%◌, ◌*◌, ◌<◌, ℤ, Bool, true, false, List, [], map, length, get_or, Option, ap, ◌∙◌, sym, refl, subst, arith, inl, inr}
use Rattle.std.specs.Prelude.{All, Contains, Some, None, slice_get, nat_lt, ◌==◌}
use Rattle.std.specs.List.{flat_map, range_with_len}
use Rattle.std.proofs.Math.Nat.{mod-add-div'}
use Rattle.std.proofs.lemmas.Bool.{cases_lt, and_from, and_parts, cond-true, cond-false, eq-eqb, eqb-true, lt-ltb, ne_eqb}
use Rattle.std.proofs.lemmas.List.{get_or-map, length-map}
use Rattle.std.proofs.lemmas.List.Elements.{All-contains, All-contains_itself, All-map}
use Rattle.std.proofs.lemmas.List.FromFn.{get_or-range_with_len}
use Rattle.std.proofs.lemmas.Option.{none-some, same_Some, slice_get-get_or, slice_get_read, slice_get_within, get_or_from_slice_get}
use Rattle.nav_ground.specs.declared.setting.Setting.{Setting}
use Rattle.nav_ground.specs.Limits.{IsSetting}
use Rattle.nav_ground.specs.Cells.{opposite}
use Rattle.nav_ground.specs.Tiling.{tiles_in_row, tile_rows}
use Rattle.mesh_types.specs.declared.region.LabelRun.{LabelRun}
use Rattle.mesh_types.specs.declared.links.Link.{Link}
use Rattle.mesh_types.specs.declared.links.Portal.{Portal}
use Rattle.mesh_types.specs.declared.mesh.LevelPair.{LevelPair}
use Rattle.mesh_types.specs.declared.mesh.RimEdge.{RimEdge}
use Rattle.mesh_types.specs.declared.mesh.TileMesh.{TileMesh}
use Rattle.mesh_types.specs.Runs.{has_label, label_if, runs_of}
use Rattle.mesh_types.specs.BorderLinks.{along_side, are_meeting, border_link, line_of, meetings, pair_at, side_portal}
use Rattle.mesh_types.specs.Passages.{AreTwoWay, HasReverse, HasReverseIn, IsTwoWay, reverse_of}
use Rattle.mesh_types.specs.Soundness.{AreTiles}
use Rattle.mesh_types.specs.FitTiles.{IsFit, IsInnerLink, IsRimOf}
use Rattle.mesh_types.specs.WholeMesh.{cross_links, mesh_of, tile_across}
use Rattle.mesh_types.proofs.Gathered.{gathered_held, Contains-filter, Contains-flat_map, Contains-map}
use Rattle.mesh_types.proofs.LinksInOrder.{All-ordered_links, Contains-ordered_links}
use Rattle.mesh_types.proofs.MaximalRuns.{AreMirrored, IsMaximal, maximal_listed, mirrored_run, runs_are_maximal}
use Rattle.mesh_types.proofs.Opposites.{opposite_small, opposite_twice}
use Rattle.mesh_types.proofs.RunLaws.{labelled_true}
use Rattle.tile_links.specs.Loose.{entry_links, loose_links, loose_over, pair_links}
use Rattle.tile_links.proofs.BorderPortals.{one_line}
use Rattle.tile_links.proofs.LooseLinks.{All-flat_map, cross_links_found, found_over, loose_all, loose_over_all}
use Rattle.tile_links.proofs.MeetingPlaces.{length-meetings, meeting_at}
use Rattle.tile_links.proofs.SharedRuns.{met_of_both}
use Rattle.tile_links.proofs.SoundMeshes.{element, line_is}
use Rattle.tile_links.proofs.TilesAcross.{IsPlacedAcross, placed_across, tile_at}

-- ---- where entries meet, there and back

meeting_back : (x y : Option LevelPair) → are_meeting x y ≡ true → are_meeting y x ≡ true
meeting_back (Some a) (Some b) h =
    let parts = and_parts (a.own == b.other) (a.other == b.own) h in
    and_from (b.own == a.other) (b.other == a.own) (eq-eqb b.own a.other (sym (eqb-true a.other b.own parts.1)))
    (eq-eqb b.other a.own (sym (eqb-true a.own b.other parts.0)))
meeting_back (Some a) None h = absurd cc
meeting_back None (Some b) h = absurd cc
meeting_back None None h = h

-- the place of the other entry at which two entries meet at a place of the one
record MeetsBack (a b : RimEdge) (k : ℕ) : Type 0 where
  place : ℕ
  position : b.first + place ≡ a.first + k
  met : get_or (meetings b a) place None ≡ Some 0

meets_back : (a b : RimEdge) (k : ℕ) → get_or (meetings a b) k None ≡ Some 0 → MeetsBack a b k
meets_back a b k is =
    let both = met_of_both a b k 0 (ap (has_label 0) is ∙ eq-eqb 0 0 refl) in
    let place : ℕ = a.first + k - b.first in
    let position : b.first + place ≡ a.first + k = omega (arith, both.begins) in
    let meet = labelled_true (are_meeting (pair_at a (a.first + k)) (pair_at b (a.first + k))) 0 (sym (meeting_at a b k both.own) ∙ is) in
    record {
      place = place;
      position = position;
      met = meeting_at b a place (omega (arith, position, both.ends))
          ∙ ap (λ p. label_if (are_meeting (pair_at b p) (pair_at a p))) position
          ∙ ap label_if (meeting_back (pair_at a (a.first + k)) (pair_at b (a.first + k)) meet);
    }

entries_mirrored : (a b : RimEdge) → AreMirrored (meetings a b) (meetings b a) 0 0 b.first a.first
entries_mirrored a b = record {
  forth = λ k is. let at = meets_back a b k is in (at.place, omega (arith, at.position), at.met);
  back = λ j is. let at = meets_back b a j is in (at.place, omega (arith, at.position), at.met);
}

-- the one label is 0
label_zero : (b : Bool) (label : ℕ) → label_if b ≡ Some label → label ≡ 0
label_zero true label is = cc
label_zero false label is = absurd cc

run_label : (a b : RimEdge) (run : LabelRun) → IsMaximal (meetings a b) run → run.label ≡ 0
run_label a b run is =
    let there = is.range.labelled run.first (omega arith) is.range.order in
    elim (cases_lt run.first (length a.pairs)) [
      | inl inside ↦ label_zero _ run.label (sym (meeting_at a b run.first inside) ∙ there)
      | inr past ↦ absurd (omega (arith, past, is.range.order, is.range.inside, length-meetings a b))
    ]

-- ---- the links over a border

-- the link along a run where two entries meet is found
loose_held : (a b : TileMesh) (side : ℕ) (entry other : RimEdge) (run : LabelRun) → Contains a.rim entry → entry.side ≡ side → Contains b.rim other
    → other.side ≡ opposite side → Contains (runs_of (meetings entry other)) run → Contains (loose_links a b side) (border_link a b side entry other run)
loose_held a b side entry other run held along held' along' listed =
    let link : Link = border_link a b side entry other run in
    Contains-flat_map (λ (e : RimEdge). entry_links a b side e (along_side (opposite side) b.rim)) (along_side side a.rim) entry link
    (Contains-filter (λ (e : RimEdge). e.side == side) a.rim entry held (eq-eqb entry.side side along))
    (Contains-flat_map (pair_links a b side entry) (along_side (opposite side) b.rim) other link
    (Contains-filter (λ (e : RimEdge). e.side == opposite side) b.rim other held' (eq-eqb other.side (opposite side) along'))
    (Contains-map (border_link a b side entry other) (runs_of (meetings entry other)) run listed))

-- ---- the tile across, there and back

-- the tile across a side has the tile across its opposite side
across_back : (setting : Setting) (tile side other : ℕ) → side < 4 → IsPlacedAcross setting tile side other → tile_across setting other (opposite side) ≡ Some tile
across_back setting tile zero other small at =
    let columns : ℕ = tiles_in_row setting in
    let product = ap (λ n. n * columns) at.beside.1 in
    let same : other + 1 ≡ tile = omega (arith, at.beside.0, product, mod-add-div' tile columns, mod-add-div' other columns) in
    cond-true (nat_lt (other % columns + 1) columns) (Some (other + 1)) None (lt-ltb _ _ (omega (arith, at.beside.0, at.column))) ∙ ap (λ (n : ℕ). Some n) same
across_back setting tile (suc zero) other small at =
    let columns : ℕ = tiles_in_row setting in
    let product = ap (λ n. n * columns) at.beside.1 in
    let same : other - columns ≡ tile = omega (arith, at.beside.0, product, mod-add-div' tile columns, mod-add-div' other columns) in
    cond-false (other / columns == 0) None (Some (other - columns)) (ne_eqb (other / columns) 0 (λ e. omega (arith, e, at.beside.1))) ∙ ap (λ (n : ℕ). Some n) same
across_back setting tile (suc (suc zero)) other small at =
    let columns : ℕ = tiles_in_row setting in
    let product = ap (λ n. n * columns) at.beside.1 in
    let same : other - 1 ≡ tile = omega (arith, at.beside.0, product, mod-add-div' tile columns, mod-add-div' other columns) in
    cond-false (other % columns == 0) None (Some (other - 1)) (ne_eqb (other % columns) 0 (λ e. omega (arith, e, at.beside.0))) ∙ ap (λ (n : ℕ). Some n) same
across_back setting tile (suc (suc (suc zero))) other small at =
    let columns : ℕ = tiles_in_row setting in
    let product = ap (λ n. n * columns) at.beside.1 in
    let same : other + columns ≡ tile = omega (arith, at.beside.0, product, mod-add-div' tile columns, mod-add-div' other columns) in
    cond-true (nat_lt (other / columns + 1) (tile_rows setting)) (Some (other + columns)) None (lt-ltb _ _ (omega (arith, at.beside.1, at.row)))
    ∙ ap (λ (n : ℕ). Some n) same
across_back setting tile (suc (suc (suc (suc side)))) other small at = absurd (omega (arith, small))

-- ---- the reverse of a link over a border

abbrev turned : Portal → Portal
turned portal = record { left = portal.right; right = portal.left }

side_portal_back : (side : ℕ) (line : ℤ) (first last : ℕ) → side < 4 → side_portal (opposite side) line first last ≡ turned (side_portal side line first last)
side_portal_back zero line first last small = refl
side_portal_back (suc zero) line first last small = refl
side_portal_back (suc (suc zero)) line first last small = refl
side_portal_back (suc (suc (suc zero))) line first last small = refl
side_portal_back (suc (suc (suc (suc side)))) line first last small = absurd (omega (arith, small))

-- an entry of a tile's rim
pub record IsEntry (setting : Setting) (tile : TileMesh) (entry : RimEdge) : Type 0 where
  pub held : Contains tile.rim entry
  pub rim : IsRimOf setting tile entry

pub entries : (setting : Setting) (tile : TileMesh) → IsFit setting tile → All (IsEntry setting tile) tile.rim
entries setting tile fit k d there = record { held = All-contains_itself tile.rim k d there; rim = fit.rim k d there }

link_back : (setting : Setting) (a b : TileMesh) (side : ℕ) (entry other : RimEdge) (run : LabelRun) → IsSetting setting → side < 4
    → IsPlacedAcross setting a.tile side b.tile → IsEntry setting a entry → entry.side ≡ side → IsEntry setting b other → other.side ≡ opposite side
    → IsMaximal (meetings entry other) run
    → Contains (loose_links b a (opposite side)) (reverse_of other.edge (border_link a b side entry other run))
link_back setting a b side entry other run limits small at is along is' along' maximal =
    let back = mirrored_run (meetings entry other) (meetings other entry) 0 0 other.first entry.first run (entries_mirrored entry other) maximal
    (run_label entry other run maximal) in
    let held = loose_held b a (opposite side) other entry back.mirrored is'.held along' is.held (along ∙ sym (opposite_twice side small))
    (maximal_listed (meetings other entry) back.mirrored back.maximal) in
    let line : line_of (opposite side) b.polys other ≡ line_of side a.polys entry =
    line_is setting b other (opposite side) is'.rim along' ∙ sym (one_line setting a.tile side b.tile limits small at) ∙ sym (line_is setting a entry side is.rim along) in
    let first : other.first + back.mirrored.first ≡ entry.first + run.first = omega (arith, back.first) in
    let last : other.first + back.mirrored.last ≡ entry.first + run.last = omega (arith, back.last) in
    let portal : side_portal (opposite side) (line_of (opposite side) b.polys other) (other.first + back.mirrored.first) (other.first + back.mirrored.last)
    ≡ turned (side_portal side (line_of side a.polys entry) (entry.first + run.first) (entry.first + run.last)) =
    (λ i. side_portal (opposite side) (line i) (first i) (last i)) ∙ side_portal_back side (line_of side a.polys entry) (entry.first + run.first) (entry.first + run.last) small in
    let P : Link → Type 0 = Contains (loose_links b a (opposite side)) in
    subst P (ap made portal) held
  where
    made : Portal → Link
    made portal = record {
      from = record { tile = b.tile; index = other.poly };
      edge = other.edge;
      to = record { tile = a.tile; index = entry.poly };
      portal = portal;
    }

-- ---- the links of a mesh

-- the links that are found over a side of a tile are among those that leave it
crossing_held : (setting : Setting) (tiles : List TileMesh) (tile other : TileMesh) (side : ℕ) (link : Link) → side < 4
    → tile_across setting tile.tile side ≡ Some other.tile → slice_get tiles other.tile ≡ Some other → Contains (loose_links tile other side) link
    → Contains (cross_links setting tiles tile) link
crossing_held setting tiles tile other side link small across there held =
    let P : List Link → Type 0 = λ links. Contains links link in
    subst P (cross_links_found setting tiles tile)
    (Contains-ordered_links link (flat_map (loose_over setting tiles tile) (range_with_len 0 4))
    (gathered_held (loose_over setting tiles tile) link 0 4 side (omega arith) (omega (arith, small))
    (subst P (found_over setting tiles tile other side other.tile across there) held)))

-- the list of the links that leave a tile
cross_there : (setting : Setting) (tiles : List TileMesh) (tile : TileMesh) (t : ℕ) → slice_get tiles t ≡ Some tile
    → slice_get (map (cross_links setting tiles) tiles) t ≡ Some (cross_links setting tiles tile)
cross_there setting tiles tile t there =
    let within = slice_get_within tiles t tile there in
    slice_get-get_or (map (cross_links setting tiles) tiles) t [] (omega (arith, within, length-map tiles (cross_links setting tiles)))
    ∙ ap (λ (links : List Link). Some links)
    (get_or-map (cross_links setting tiles) tiles t tile [] within ∙ ap (cross_links setting tiles) (get_or_from_slice_get tiles t tile tile there))

-- each link that leaves a tile has its reverse
crossing_back : (setting : Setting) (tiles : List TileMesh) (tile : TileMesh) (t : ℕ) → IsSetting setting → AreTiles setting tiles → slice_get tiles t ≡ Some tile
    → All (HasReverseIn (mesh_of setting tiles)) (cross_links setting tiles tile)
unfolding mesh_of
crossing_back setting tiles tile t limits are there =
    let P : Link → Type 0 = HasReverseIn (mesh_of setting tiles) in
    let facts = tile_at setting tiles t tile are (slice_get_within tiles t tile there) (sym (get_or_from_slice_get tiles t tile tile there)) in
    let here : slice_get tiles tile.tile ≡ Some tile = ap (slice_get tiles) facts.0 ∙ there in
    subst (All P) (cross_links_found setting tiles tile)
    (All-ordered_links P (flat_map (loose_over setting tiles tile) (range_with_len 0 4))
    (All-flat_map P (loose_over setting tiles tile) (range_with_len 0 4)
    (λ k d in_four.
    let side : ℕ = get_or (range_with_len 0 4) k d in
    let small : side < 4 = omega (arith, in_four, get_or-range_with_len 0 4 k d (omega (arith, in_four))) in
    loose_over_all P setting tiles tile side
    (λ place other across found.
    let facts' = tile_at setting tiles place other are (slice_get_within tiles place other found) (sym (get_or_from_slice_get tiles place other other found)) in
    let at = subst (IsPlacedAcross setting tile.tile side) (sym facts'.0) (placed_across setting tile.tile side place facts.1.in_tile.there small across) in
    loose_all P (IsEntry setting tile) (IsEntry setting other) tile other side (entries setting tile facts.1) (entries setting other facts'.1)
    (λ entry across' is along is' along'.
    All-map P (border_link tile other side entry across') (runs_of (meetings entry across'))
    (λ j e inside.
    let held = link_back setting tile other side entry across' (get_or (runs_of (meetings entry across')) j e) limits small at is along is' along'
    (runs_are_maximal (meetings entry across') j e inside) in
    record {
      edge = across'.edge;
      back = record {
        listed = inr (
          cross_links setting tiles other,
          cross_there setting tiles other other.tile (ap (slice_get tiles) facts'.0 ∙ found),
          crossing_held setting tiles other tile (opposite side) _ (opposite_small side small) (across_back setting tile.tile side other.tile small at) here held,
        );
      };
    }))))))

-- the links that leave a tile, by its number
pub links_of_tile : (setting : Setting) (tiles : List TileMesh) (t : ℕ) (links : List Link) → slice_get (map (cross_links setting tiles) tiles) t ≡ Some links
    → (tile : TileMesh) × (slice_get tiles t ≡ Some tile) × (links ≡ cross_links setting tiles tile)
links_of_tile setting tiles t links there = by_case (slice_get tiles t) refl
  where
    by_case : (found : Option TileMesh) → slice_get tiles t ≡ found → (tile : TileMesh) × (slice_get tiles t ≡ Some tile) × (links ≡ cross_links setting tiles tile)
    by_case None none =
        absurd (no_more (slice_get_within (map (cross_links setting tiles) tiles) t links there))
      where
        no_more : t < length (map (cross_links setting tiles) tiles) → ⊥
        no_more less =
            let within : t < length tiles = omega (arith, less, length-map tiles (cross_links setting tiles)) in
            let found = element tiles t within in
            none-some found.0 (sym none ∙ slice_get_read tiles (length tiles) t found.0 refl within found.1)
    by_case (Some tile) is = (tile, is, same_Some links (cross_links setting tiles tile) (sym there ∙ cross_there setting tiles tile t is))

pub two_way : (setting : Setting) (tiles : List TileMesh) → IsSetting setting → AreTiles setting tiles → All (λ (tile : TileMesh). AreTwoWay tile.links) tiles
    → IsTwoWay (mesh_of setting tiles)
unfolding mesh_of
two_way setting tiles limits are inner link is = elim is.listed [
  | inl (tile, there, held) ↦
      let t : ℕ = link.from.tile in
      let within = slice_get_within tiles t tile there in
      let facts = tile_at setting tiles t tile are within (sym (get_or_from_slice_get tiles t tile tile there)) in
      let back : AreTwoWay tile.links =
      subst (λ (other : TileMesh). AreTwoWay other.links) (get_or_from_slice_get tiles t tile tile there) (inner t tile within) in
      let reverse = All-contains (HasReverse tile.links) tile.links link back held in
      let inside = All-contains (IsInnerLink tile) tile.links link facts.1.links held in
      let same : link.to.tile ≡ t = inside.to_here ∙ facts.0 in
      record { edge = reverse.edge; back = record { listed = inl (tile, ap (slice_get tiles) same ∙ there, reverse.back) } }
  | inr (links, there, held) ↦
      let found = links_of_tile setting tiles link.from.tile links there in
      All-contains (HasReverseIn (mesh_of setting tiles)) (cross_links setting tiles found.0) link
      (crossing_back setting tiles found.0 link.from.tile limits are found.1) (subst (λ ls. Contains ls link) found.2 held)
]
