-- How many links a mesh has whose tiles list each position and level of a side once: few inside each tile, and over its borders one a position.
use Rattle.std.proofs.Common.{◌≡◌, ℕ, ◌+◌, ◌-◌, ◌*◌, ◌<◌, ◌≤◌, Bool, true, false, cond, List, [], map, length, get_or, ap, ◌∙◌, sym, refl, subst, arith, Option}
use Rattle.std.specs.Prelude.{All, Some, None, ◌==◌, ◌&&◌, nat_le, slice_get, option_and_then, if◌then◌else◌}
use Rattle.std.specs.List.{sum_by, count_by, range_with_len, flat_map}
use Rattle.std.specs.Option.{option_map_or}
use Rattle.std.proofs.lemmas.Bool.{eqb-true, leb-true}
use Rattle.std.proofs.lemmas.List.{length-map}
use Rattle.std.proofs.lemmas.List.Concat.{length-flat_map}
use Rattle.std.proofs.lemmas.List.FromFn.{length-range_with_len, length-map-range_with_len, get_or-map-range_with_len}
use Rattle.std.proofs.lemmas.List.Sums.{sum_by-le, sum_by-le-sum_by}
use Rattle.std.proofs.lemmas.Option.{slice_get_within, get_or_from_slice_get}
use Rattle.nav_ground.specs.declared.setting.Setting.{Setting}
use Rattle.nav_ground.specs.Cells.{opposite}
use Rattle.mesh_types.specs.declared.links.Link.{Link}
use Rattle.mesh_types.specs.declared.mesh.LevelPair.{LevelPair}
use Rattle.mesh_types.specs.declared.mesh.RimEdge.{RimEdge}
use Rattle.mesh_types.specs.declared.mesh.TileMesh.{TileMesh}
use Rattle.mesh_types.specs.Runs.{runs_of, label_if}
use Rattle.mesh_types.specs.LinkOrder.{ordered_links}
use Rattle.mesh_types.specs.BorderLinks.{pair_at, are_meeting, meetings, along_side, border_link, border_links}
use Rattle.mesh_types.specs.WholeMesh.{tile_across, links_over, cross_links, mesh_of}
use Rattle.mesh_types.specs.Soundness.{link_count, polygon_count}
use Rattle.mesh_types.proofs.LinksInOrder.{ordered_links-count}
use Rattle.mesh_types.proofs.RunTotals.{few_runs}
use Rattle.mesh_types.proofs.RunLaws.{labelled_true}
use Rattle.mesh_types.proofs.Totals.{sum_by-map, sum_by-one, sum_by-zero, sum_by-plus, sum_by-times, sum_by-no_more, sum_by-shared}

-- links put in order are as many
pub length-ordered_links : (links : List Link) → length (ordered_links links) ≡ length links
length-ordered_links links =
    sym (sum_by-one (ordered_links links)) ∙ ordered_links-count (λ link. true) links ∙ sum_by-one links

-- an entry has a level of its own at a position
abbrev pub is_named : RimEdge → ℕ → ℕ → Bool
is_named entry position level = option_map_or (λ (pair : LevelPair). level == pair.own) (pair_at entry position) false

-- the pair that an entry has there
pub record IsPairOf (entry : RimEdge) (position level : ℕ) : Type 0 where
  pub begins : entry.first ≤ position
  pub inside : position - entry.first < length entry.pairs
  pub own : (d : LevelPair) → (get_or entry.pairs (position - entry.first) d).own ≡ level

pub named_pair : (entry : RimEdge) (position level : ℕ) → is_named entry position level ≡ true → IsPairOf entry position level
named_pair entry position level named = by_test (nat_le entry.first position) refl named
  where
    by_pair : entry.first ≤ position → (found : Option LevelPair) → slice_get entry.pairs (position - entry.first) ≡ found
        → option_map_or (λ (pair : LevelPair). level == pair.own) found false ≡ true → IsPairOf entry position level
    by_pair begins None at is = absurd cc
    by_pair begins (Some pair) at is = record {
      begins = begins;
      inside = slice_get_within entry.pairs (position - entry.first) pair at;
      own = λ d.
          ap (λ (p : LevelPair). p.own) (get_or_from_slice_get entry.pairs (position - entry.first) pair d at) ∙ sym (eqb-true level pair.own is);
    }

    by_test : (b : Bool) → nat_le entry.first position ≡ b
        → option_map_or (λ (pair : LevelPair). level == pair.own) (if b then slice_get entry.pairs (position - entry.first) else None) false ≡ true
        → IsPairOf entry position level
    by_test true begins is = by_pair (leb-true entry.first position begins) (slice_get entry.pairs (position - entry.first)) refl is
    by_test false after is = absurd cc

-- two entries have at most one link a position where they meet
few_of_pair : (a b : TileMesh) (side : ℕ) (entry other : RimEdge)
    → length (map (border_link a b side entry other) (runs_of (meetings entry other)))
    ≤ sum_by (λ k. cond (are_meeting (pair_at entry (entry.first + k)) (pair_at other (entry.first + k))) 1 0) (range_with_len 0 (length entry.pairs))
few_of_pair a b side entry other =
    let meets : ℕ → Bool = λ k. are_meeting (pair_at entry (entry.first + k)) (pair_at other (entry.first + k)) in
    let many : length (meetings entry other) ≡ length entry.pairs = length-map-range_with_len (λ k. label_if (meets k)) 0 (length entry.pairs) in
    omega (
      arith,
      length-map (runs_of (meetings entry other)) (border_link a b side entry other),
      few_runs (meetings entry other) meets (λ place label there is. labelled_true (meets place) label
          (sym (get_or-map-range_with_len (λ k. label_if (meets k)) 0 (length entry.pairs) place place None (omega (arith, there, many)) (omega arith)) ∙ is)),
      ap (λ n. count_by meets (range_with_len 0 n)) many,
    )

-- where at each position at most one entry across meets a pair of levels, an entry has at most one link a position
few_of_entry : (a b : TileMesh) (side : ℕ) (others : List RimEdge) (entry : RimEdge)
    → ((position : ℕ) (pair : Option LevelPair) → sum_by (λ (other : RimEdge). cond (are_meeting pair (pair_at other position)) 1 0) others ≤ 1)
    → length (flat_map (λ (other : RimEdge). map (border_link a b side entry other) (runs_of (meetings entry other))) others) ≤ length entry.pairs
few_of_entry a b side others entry once_each =
    let places : List ℕ = range_with_len 0 (length entry.pairs) in
    let meets : RimEdge → ℕ → ℕ = λ other k. cond (are_meeting (pair_at entry (entry.first + k)) (pair_at other (entry.first + k))) 1 0 in
    omega (
      arith,
      length-flat_map (λ (other : RimEdge). map (border_link a b side entry other) (runs_of (meetings entry other))) others,
      sum_by-le-sum_by (λ (other : RimEdge). length (map (border_link a b side entry other) (runs_of (meetings entry other)))) (λ other. sum_by (meets other) places) others
          (λ other. few_of_pair a b side entry other),
      sum_by-shared meets (λ k. 1) others places
          (λ k d there. once_each (entry.first + get_or places k d) (pair_at entry (entry.first + get_or places k d))),
      sum_by-one places,
      length-range_with_len 0 (length entry.pairs),
    )

few_over_border : (a b : TileMesh) (side most : ℕ) → sum_by (λ (entry : RimEdge). length entry.pairs) (along_side side a.rim) ≤ most
    → ((position : ℕ) (pair : Option LevelPair)
    → sum_by (λ (other : RimEdge). cond (are_meeting pair (pair_at other position)) 1 0) (along_side (opposite side) b.rim) ≤ 1)
    → length (border_links a b side) ≤ most
unfolding border_links
few_over_border a b side most few once_each =
    let others : List RimEdge = along_side (opposite side) b.rim in
    let from : RimEdge → List Link = λ (entry : RimEdge). flat_map (λ (other : RimEdge). map (border_link a b side entry other) (runs_of (meetings entry other))) others in
    omega (
      arith,
      few,
      length-ordered_links (flat_map from (along_side side a.rim)),
      length-flat_map from (along_side side a.rim),
      sum_by-le-sum_by (λ entry. length (from entry)) (λ (entry : RimEdge). length entry.pairs) (along_side side a.rim)
          (λ entry. few_of_entry a b side others entry once_each),
    )

-- A tile has few links: inside no more than 24 times its free cells; along a side its rim lists no more positions than there are free cells, and
-- each position with each level of its own once at most.
pub record HasFewLinks (tile : TileMesh) : Type 0 where
  pub inner : length tile.links ≤ 24 * length tile.free.cells
  pub positions : (side : ℕ) → sum_by (λ (entry : RimEdge). length entry.pairs) (along_side side tile.rim) ≤ length tile.free.cells
  pub once : (side position level : ℕ) → side < 4
      → sum_by (λ (entry : RimEdge). cond (is_named entry position level) 1 0) (along_side side tile.rim) ≤ 1

-- a tile is small: it has at most four polygons a free cell, and few links
pub record IsSmall (tile : TileMesh) : Type 0 where
  pub polys : length tile.polys ≤ 4 * length tile.free.cells
  pub links : HasFewLinks tile

-- Where a tile has few links, at most one entry along a side meets a pair of levels at a position
met_once : (entries : List RimEdge) (position : ℕ) (pair : Option LevelPair)
    → ((level : ℕ) → sum_by (λ (entry : RimEdge). cond (is_named entry position level) 1 0) entries ≤ 1)
    → sum_by (λ (entry : RimEdge). cond (are_meeting pair (pair_at entry position)) 1 0) entries ≤ 1
met_once entries position None named = omega (arith, sum_by-zero entries)
met_once entries position (Some pair) named =
    let fewer = sum_by-le-sum_by (λ (entry : RimEdge). cond (are_meeting (Some pair) (pair_at entry position)) 1 0)
    (λ (entry : RimEdge). cond (is_named entry position pair.other) 1 0) entries (λ entry. by_pair (pair_at entry position)) in
    omega (arith, fewer, named pair.other)
  where
    by_test : (a b : Bool) → cond (a && b) 1 0 ≤ cond b 1 0
    by_test true b = omega arith
    by_test false b = omega arith

    by_pair : (found : Option LevelPair)
        → cond (are_meeting (Some pair) found) 1 0 ≤ cond (option_map_or (λ (other : LevelPair). pair.other == other.own) found false) 1 0
    by_pair None = omega arith
    by_pair (Some other) = by_test (pair.own == other.other) (pair.other == other.own)

few_between : (a b : TileMesh) (side : ℕ) → HasFewLinks a → HasFewLinks b → length (border_links a b side) ≤ length a.free.cells
few_between a b side few_a few_b =
    few_over_border a b side (length a.free.cells) (few_a.positions side)
    (λ position pair. met_once (along_side (opposite side) b.rim) position pair (λ level. few_b.once (opposite side) position level (omega arith)))

few_over_side : (setting : Setting) (tiles : List TileMesh) (tile : TileMesh) (side : ℕ) → All HasFewLinks tiles → HasFewLinks tile
    → length (links_over setting tiles tile side) ≤ length tile.free.cells
few_over_side setting tiles tile side each few = by_across (tile_across setting tile.tile side)
  where
    by_tile : (place : ℕ) (found : Option TileMesh) → slice_get tiles place ≡ found
        → length (option_map_or (λ (other : TileMesh). border_links tile other side) found []) ≤ length tile.free.cells
    by_tile place None at = omega arith
    by_tile place (Some other) at =
        few_between tile other side few
        (subst HasFewLinks (get_or_from_slice_get tiles place other other at) (each place other (slice_get_within tiles place other at)))

    by_across : (found : Option ℕ)
        → length (option_map_or (λ (other : TileMesh). border_links tile other side) (option_and_then (slice_get tiles) found) []) ≤ length tile.free.cells
    by_across None = omega arith
    by_across (Some place) = by_tile place (slice_get tiles place) refl

few_cross : (setting : Setting) (tiles : List TileMesh) (tile : TileMesh) → All HasFewLinks tiles → HasFewLinks tile
    → length (cross_links setting tiles tile) ≤ 4 * length tile.free.cells
few_cross setting tiles tile each few =
    let over : ℕ → List Link = links_over setting tiles tile in
    let four : sum_by (λ side. length (over side)) (range_with_len 0 4) ≤ 4 * length tile.free.cells =
    sum_by-le (λ side. length (over side)) (length tile.free.cells) (range_with_len 0 4)
    (λ k d there. few_over_side setting tiles tile (get_or (range_with_len 0 4) k d) each few) in
    omega (arith, length-ordered_links (flat_map over (range_with_len 0 4)), length-flat_map over (range_with_len 0 4), four)

-- so all tiles together have at most 28 times as many links as free cells
pub few_links : (setting : Setting) (tiles : List TileMesh) → All HasFewLinks tiles
    → link_count (mesh_of setting tiles) ≤ 28 * sum_by (λ (tile : TileMesh). length tile.free.cells) tiles
unfolding mesh_of
few_links setting tiles each =
    let inside : TileMesh → ℕ = λ (tile : TileMesh). length tile.links in
    let over : TileMesh → ℕ = λ (tile : TileMesh). length (cross_links setting tiles tile) in
    omega (
      arith,
      sum_by-map (λ (links : List Link). length links) (cross_links setting tiles) tiles,
      sum_by-plus inside over tiles,
      sum_by-no_more (λ tile. inside tile + over tile) (λ (tile : TileMesh). 28 * length tile.free.cells) tiles
          (λ k d there.
          let tile : TileMesh = get_or tiles k d in
          omega (arith, (each k d there).inner, few_cross setting tiles tile each (each k d there))),
      sum_by-times 28 (λ (tile : TileMesh). length tile.free.cells) tiles,
    )

-- and at most four times as many polygons
pub few_polygons : (tiles : List TileMesh) → All IsSmall tiles → polygon_count tiles ≤ 4 * sum_by (λ (tile : TileMesh). length tile.free.cells) tiles
few_polygons tiles each =
    omega (
      arith,
      sum_by-no_more (λ (tile : TileMesh). length tile.polys) (λ (tile : TileMesh). 4 * length tile.free.cells) tiles (λ k d there. (each k d there).polys),
      sum_by-times 4 (λ (tile : TileMesh). length tile.free.cells) tiles,
    )
