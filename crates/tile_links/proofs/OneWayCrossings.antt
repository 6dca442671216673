-- Of the links over borders, two that leave a polygon over one edge and overlap there enter the same polygon.
use Rattle.std.proofs.Common.{◌≡◌, ℕ, zero, suc, ◌+◌, ◌-◌, ◌<◌, ◌≤◌, ℤ, Bool, true, false, cond, List, map, length, get_or, Option, ap, ◌∙◌, sym, refl, subst, arith, inl, inr}
use Rattle.std.specs.Prelude.{All, Contains, Some, None, slice_get, option_and_then, max, ◌==◌}
use Rattle.std.specs.List.{sum_by, flat_map, range_with_len}
use Rattle.std.specs.Option.{option_map_or}
use Rattle.std.proofs.lemmas.Bool.{and_parts, cases_order, eq-eqb, eqb-true}
use Rattle.std.proofs.lemmas.Int.{ints}
use Rattle.std.proofs.lemmas.List.{get_or_default}
use Rattle.std.proofs.lemmas.List.Elements.{All-contains, All-map}
use Rattle.std.proofs.lemmas.List.FromFn.{get_or-range_with_len}
use Rattle.std.proofs.lemmas.Option.{same_Some, slice_get_within, get_or_from_slice_get}
use Rattle.nav_base.specs.declared.point.Point.{Point}
use Rattle.nav_base.specs.Convex.{corner_at, place_after}
use Rattle.nav_ground.specs.declared.cell.Window.{Window}
use Rattle.nav_ground.specs.declared.setting.Setting.{Setting}
use Rattle.nav_ground.specs.Cells.{opposite}
use Rattle.nav_ground.specs.Tiling.{tile_window}
use Rattle.mesh_types.specs.declared.region.LabelRun.{LabelRun}
use Rattle.mesh_types.specs.declared.links.Link.{Link}
use Rattle.mesh_types.specs.declared.links.PolyRef.{PolyRef}
use Rattle.mesh_types.specs.declared.polygon.Polygon.{Polygon}
use Rattle.mesh_types.specs.declared.mesh.LevelPair.{LevelPair}
use Rattle.mesh_types.specs.declared.mesh.RimEdge.{RimEdge}
use Rattle.mesh_types.specs.declared.mesh.TileMesh.{TileMesh}
use Rattle.mesh_types.specs.Runs.{runs_of}
use Rattle.mesh_types.specs.BorderLinks.{HasOnePair, along_side, are_meeting, border_link, line_of, meetings, pair_at, side_portal}
use Rattle.mesh_types.specs.Soundness.{AreTiles}
use Rattle.mesh_types.specs.FitTiles.{IsRimOf, LiesOnSide, RunsOver}
use Rattle.mesh_types.specs.Portals.{edge_begin, edge_end}
use Rattle.mesh_types.specs.WholeMesh.{cross_links, tile_across}
use Rattle.mesh_types.proofs.Counted.{once_apart}
use Rattle.mesh_types.proofs.Gathered.{Contains-filter}
use Rattle.mesh_types.proofs.LinksInOrder.{All-ordered_links}
use Rattle.mesh_types.proofs.LinkTotals.{HasFewLinks, is_named}
use Rattle.mesh_types.proofs.Opposites.{opposite_small}
use Rattle.mesh_types.proofs.RunLaws.{IsRunOf, labelled_true, runs_are_runs}
use Rattle.tile_links.specs.Loose.{loose_over}
use Rattle.tile_links.proofs.AxisOrders.{Overlaps, common_position}
use Rattle.tile_links.proofs.LooseLinks.{All-flat_map, cross_links_found, loose_all, loose_over_all}
use Rattle.tile_links.proofs.MeetingPlaces.{length-meetings, meeting_at}
use Rattle.tile_links.proofs.TilesAcross.{tile_at}
use Rattle.tile_links.proofs.TwoWayMeshes.{IsEntry, entries, links_of_tile}

-- ---- links over borders, taken apart

-- a link over a border, along a run where two rim entries meet
pub record IsCrossing (setting : Setting) (tiles : List TileMesh) (link : Link) : Type 0 where
  pub a : TileMesh
  pub b : TileMesh
  pub side : ℕ
  pub entry : RimEdge
  pub other : RimEdge
  pub run : LabelRun
  pub is : border_link a b side entry other run ≡ link
  pub small : side < 4
  pub across : tile_across setting a.tile side ≡ Some b.tile
  pub here : slice_get tiles a.tile ≡ Some a
  pub there : slice_get tiles b.tile ≡ Some b
  pub held : Contains a.rim entry
  pub rim : IsRimOf setting a entry
  pub along : entry.side ≡ side
  pub held' : Contains b.rim other
  pub along' : other.side ≡ opposite side
  pub range : IsRunOf (meetings entry other) run

crossings : (setting : Setting) (tiles : List TileMesh) (tile : TileMesh) (t : ℕ) → AreTiles setting tiles → slice_get tiles t ≡ Some tile
    → All (IsCrossing setting tiles) (cross_links setting tiles tile)
crossings setting tiles tile t are there =
    let P : Link → Type 0 = IsCrossing setting tiles in
    let facts = tile_at setting tiles t tile are (slice_get_within tiles t tile there) (sym (get_or_from_slice_get tiles t tile tile there)) in
    let here : slice_get tiles tile.tile ≡ Some tile = ap (slice_get tiles) facts.0 ∙ there in
    subst (All P) (cross_links_found setting tiles tile)
    (All-ordered_links P (flat_map (loose_over setting tiles tile) (range_with_len 0 4))
    (All-flat_map P (loose_over setting tiles tile) (range_with_len 0 4)
    (λ k d in_four.
    let side : ℕ = get_or (range_with_len 0 4) k d in
    let small : side < 4 = omega (arith, in_four, get_or-range_with_len 0 4 k d (omega (arith, in_four))) in
    loose_over_all P setting tiles tile side
    (λ place other across found.
    let facts' = tile_at setting tiles place other are (slice_get_within tiles place other found) (sym (get_or_from_slice_get tiles place other other found)) in
    loose_all P (IsEntry setting tile) (IsEntry setting other) tile other side (entries setting tile facts.1) (entries setting other facts'.1)
    (λ entry across' is along is' along'.
    All-map P (border_link tile other side entry across') (runs_of (meetings entry across'))
    (λ j e inside. record {
      a = tile;
      b = other;
      side = side;
      entry = entry;
      other = across';
      run = get_or (runs_of (meetings entry across')) j e;
      is = refl;
      small = small;
      across = across ∙ ap (λ (n : ℕ). Some n) (sym facts'.0);
      here = here;
      there = ap (slice_get tiles) facts'.0 ∙ found;
      held = is.held;
      rim = is.rim;
      along = along;
      held' = is'.held;
      along' = along';
      range = runs_are_runs (meetings entry across') j e inside;
    }))))))

-- each of the links that leave a tile is one
pub crossing_of : (setting : Setting) (tiles : List TileMesh) (link : Link) (links : List Link) → AreTiles setting tiles
    → slice_get (map (cross_links setting tiles) tiles) link.from.tile ≡ Some links → Contains links link → IsCrossing setting tiles link
crossing_of setting tiles link links are there held =
    let found = links_of_tile setting tiles link.from.tile links there in
    All-contains (IsCrossing setting tiles) (cross_links setting tiles found.0) link (crossings setting tiles found.0 link.from.tile are found.1)
    (subst (λ ls. Contains ls link) found.2 held)

-- ---- where entries meet

-- two entries meet at each position of a run
run_meets : (entry other : RimEdge) (run : LabelRun) (position : ℕ) → IsRunOf (meetings entry other) run → entry.first + run.first ≤ position
    → position ≤ entry.first + run.last → are_meeting (pair_at entry position) (pair_at other position) ≡ true
run_meets entry other run position range least most =
    let k : ℕ = position - entry.first in
    let at : entry.first + k ≡ position = omega (arith, least) in
    let inside : k < length entry.pairs = omega (arith, at, most, range.inside, length-meetings entry other) in
    ap (λ p. are_meeting (pair_at entry p) (pair_at other p)) (sym at)
    ∙ labelled_true (are_meeting (pair_at entry (entry.first + k)) (pair_at other (entry.first + k))) run.label
    (sym (meeting_at entry other k inside) ∙ range.labelled k (omega (arith, at, least)) (omega (arith, at, most)))

-- the pairs of two entries that meet
record IsMeeting (x y : Option LevelPair) : Type 0 where
  own : LevelPair
  is_own : x ≡ Some own
  other : LevelPair
  is_other : y ≡ Some other
  level : own.other ≡ other.own

meeting : (x y : Option LevelPair) → are_meeting x y ≡ true → IsMeeting x y
meeting None y is = absurd cc
meeting (Some a) None is = absurd cc
meeting (Some a) (Some b) is =
    let parts = and_parts (a.own == b.other) (a.other == b.own) is in
    record { own = a; is_own = refl; other = b; is_other = refl; level = eqb-true a.other b.own parts.1 }

-- an entry with a pair at a position is named there by the pair's level
named_there : (entry : RimEdge) (position level : ℕ) (pair : LevelPair) → pair_at entry position ≡ Some pair → level ≡ pair.own
    → is_named entry position level ≡ true
named_there entry position level pair there same =
    ap (λ (o : Option LevelPair). option_map_or (λ (p : LevelPair). level == p.own) o false) there ∙ eq-eqb level pair.own same

-- ---- two links over one edge

-- an edge lies on one side of a tile at most
one_side : (window : Window) (s t : ℕ) (u v : Point) (first end first' end' : ℕ) → s < 4 → t < 4 → first < end → first' < end'
    → LiesOnSide window s u v → RunsOver s u v first end → LiesOnSide window t u v → RunsOver t u v first' end' → s ≡ t
one_side window zero zero u v f e f' e' small small' some some' l r l' r' = refl
one_side window zero (suc zero) u v f e f' e' small small' some some' l r l' r' = absurd (omega (arith, ints, some, some', l.0, l.1, r'.0, r'.1))
one_side window zero (suc (suc zero)) u v f e f' e' small small' some some' l r l' r' = absurd (omega (arith, ints, some, some', r.0, r.1, r'.0, r'.1))
one_side window zero (suc (suc (suc zero))) u v f e f' e' small small' some some' l r l' r' = absurd (omega (arith, ints, some, some', l.0, l.1, r'.0, r'.1))
one_side window (suc zero) zero u v f e f' e' small small' some some' l r l' r' = absurd (omega (arith, ints, some, some', l'.0, l'.1, r.0, r.1))
one_side window (suc zero) (suc zero) u v f e f' e' small small' some some' l r l' r' = refl
one_side window (suc zero) (suc (suc zero)) u v f e f' e' small small' some some' l r l' r' = absurd (omega (arith, ints, some, some', l'.0, l'.1, r.0, r.1))
one_side window (suc zero) (suc (suc (suc zero))) u v f e f' e' small small' some some' l r l' r' = absurd (omega (arith, ints, some, some', r.0, r.1, r'.0, r'.1))
one_side window (suc (suc zero)) zero u v f e f' e' small small' some some' l r l' r' = absurd (omega (arith, ints, some, some', r.0, r.1, r'.0, r'.1))
one_side window (suc (suc zero)) (suc zero) u v f e f' e' small small' some some' l r l' r' = absurd (omega (arith, ints, some, some', l.0, l.1, r'.0, r'.1))
one_side window (suc (suc zero)) (suc (suc zero)) u v f e f' e' small small' some some' l r l' r' = refl
one_side window (suc (suc zero)) (suc (suc (suc zero))) u v f e f' e' small small' some some' l r l' r' = absurd (omega (arith, ints, some, some', l.0, l.1, r'.0, r'.1))
one_side window (suc (suc (suc zero))) zero u v f e f' e' small small' some some' l r l' r' = absurd (omega (arith, ints, some, some', l'.0, l'.1, r.0, r.1))
one_side window (suc (suc (suc zero))) (suc zero) u v f e f' e' small small' some some' l r l' r' = absurd (omega (arith, ints, some, some', r.0, r.1, r'.0, r'.1))
one_side window (suc (suc (suc zero))) (suc (suc zero)) u v f e f' e' small small' some some' l r l' r' = absurd (omega (arith, ints, some, some', l'.0, l'.1, r.0, r.1))
one_side window (suc (suc (suc zero))) (suc (suc (suc zero))) u v f e f' e' small small' some some' l r l' r' = refl
one_side window (suc (suc (suc (suc s)))) t u v f e f' e' small small' some some' l r l' r' = absurd (omega (arith, small))
one_side window zero (suc (suc (suc (suc t)))) u v f e f' e' small small' some some' l r l' r' = absurd (omega (arith, small'))
one_side window (suc zero) (suc (suc (suc (suc t)))) u v f e f' e' small small' some some' l r l' r' = absurd (omega (arith, small'))
one_side window (suc (suc zero)) (suc (suc (suc (suc t)))) u v f e f' e' small small' some some' l r l' r' = absurd (omega (arith, small'))
one_side window (suc (suc (suc zero))) (suc (suc (suc (suc t)))) u v f e f' e' small small' some some' l r l' r' = absurd (omega (arith, small'))

-- what passes once at most is one element
only_one : {X : Type 0} (p : X → Bool) (xs : List X) (x y : X) → sum_by (λ (z : X). cond (p z) 1 0) xs ≤ 1 → Contains xs x → p x ≡ true → Contains xs y
    → p y ≡ true → x ≡ y
only_one p xs x y most (i, there, at) passes (j, there', at') passes' = elim (cases_order i j) [
  | inl same ↦ sym at ∙ ap (λ n. get_or xs n x) same ∙ get_or_default xs j x y there' ∙ at'
  | inr (inl less) ↦ absurd (once_apart p xs i j x most less there' (ap p at ∙ passes) (ap p (get_or_default xs j x y there' ∙ at') ∙ passes'))
  | inr (inr more) ↦ absurd (once_apart p xs j i y most more there (ap p at' ∙ passes') (ap p (get_or_default xs i y x there ∙ at) ∙ passes))
]

module _ (setting : Setting) (tiles : List TileMesh) (few : All HasFewLinks tiles) (pairs : All HasOnePair tiles) (link link' : Link)
    (c : IsCrossing setting tiles link) (c' : IsCrossing setting tiles link') (from : link.from ≡ link'.from) (edge : link.edge ≡ link'.edge) (polygon : Polygon)
    (there : option_and_then (λ (tile : TileMesh). slice_get tile.polys link.from.index) (slice_get tiles link.from.tile) ≡ Some polygon)
    (over : Overlaps (edge_begin polygon link.edge) (edge_end polygon link.edge) link.portal.right link.portal.left link'.portal.right link'.portal.left) where
  -- both leave one tile, over one edge of one polygon
  first_tile : c.a.tile ≡ c'.a.tile
  first_tile = ap (λ (l : Link). l.from.tile) c.is ∙ ap (λ (at : PolyRef). at.tile) from ∙ sym (ap (λ (l : Link). l.from.tile) c'.is)

  first_same : c.a ≡ c'.a
  first_same = same_Some c.a c'.a (sym c.here ∙ ap (slice_get tiles) first_tile ∙ c'.here)

  poly_same : c.entry.poly ≡ c'.entry.poly
  poly_same = ap (λ (l : Link). l.from.index) c.is ∙ ap (λ (at : PolyRef). at.index) from ∙ sym (ap (λ (l : Link). l.from.index) c'.is)

  edge_same : c.entry.edge ≡ c'.entry.edge
  edge_same = ap (λ (l : Link). l.edge) c.is ∙ edge ∙ sym (ap (λ (l : Link). l.edge) c'.is)

  -- the polygon of the first is the one given
  polygon_is : c.rim.polygon ≡ polygon
  polygon_is =
      same_Some c.rim.polygon polygon
      (sym c.rim.is_there
      ∙ ap (λ n. slice_get c.a.polys n) (ap (λ (l : Link). l.from.index) c.is)
      ∙ ap (option_and_then (λ (tile : TileMesh). slice_get tile.polys link.from.index)) (sym c.here ∙ ap (slice_get tiles) (ap (λ (l : Link). l.from.tile) c.is))
      ∙ there)

  polygon_is' : c'.rim.polygon ≡ polygon
  polygon_is' =
      same_Some c'.rim.polygon polygon
      (sym c'.rim.is_there
      ∙ (λ i. slice_get (sym first_same i).polys (sym poly_same i))
      ∙ c.rim.is_there
      ∙ ap (λ (p : Polygon). Some p) polygon_is)

  abbrev u : Point
  u = corner_at polygon.corners c.entry.edge

  abbrev v : Point
  v = corner_at polygon.corners (place_after (length polygon.corners) c.entry.edge)

  abbrev window : Window
  window = tile_window setting c.a.tile

  -- a run has positions of its entry
  some : 0 < length c.entry.pairs
  some = omega (arith, c.range.inside, length-meetings c.entry c.other)

  some' : 0 < length c'.entry.pairs
  some' = omega (arith, c'.range.inside, length-meetings c'.entry c'.other)

  -- so both lie on one side
  lies : LiesOnSide window c.side u v
  lies =
      subst (λ n. LiesOnSide window n u v) c.along
      (subst (λ (p : Polygon). LiesOnSide window c.entry.side (corner_at p.corners c.entry.edge) (corner_at p.corners (place_after (length p.corners) c.entry.edge))) polygon_is c.rim.lies)

  runs : RunsOver c.side u v c.entry.first (c.entry.first + length c.entry.pairs)
  runs =
      subst (λ n. RunsOver n u v c.entry.first (c.entry.first + length c.entry.pairs)) c.along
      (subst (λ (p : Polygon). RunsOver c.entry.side (corner_at p.corners c.entry.edge) (corner_at p.corners (place_after (length p.corners) c.entry.edge))
      c.entry.first (c.entry.first + length c.entry.pairs)) polygon_is (c.rim.runs some))

  lies' : LiesOnSide window c'.side u v
  lies' =
      subst (λ n. LiesOnSide window n u v) c'.along
      (subst (λ n. LiesOnSide (tile_window setting n) c'.entry.side u v) (sym first_tile)
      (subst (λ n. LiesOnSide (tile_window setting c'.a.tile) c'.entry.side (corner_at polygon.corners n) (corner_at polygon.corners (place_after (length polygon.corners) n))) (sym edge_same)
      (subst (λ (p : Polygon). LiesOnSide (tile_window setting c'.a.tile) c'.entry.side (corner_at p.corners c'.entry.edge)
      (corner_at p.corners (place_after (length p.corners) c'.entry.edge))) polygon_is' c'.rim.lies)))

  runs' : RunsOver c'.side u v c'.entry.first (c'.entry.first + length c'.entry.pairs)
  runs' =
      subst (λ n. RunsOver n u v c'.entry.first (c'.entry.first + length c'.entry.pairs)) c'.along
      (subst (λ n. RunsOver c'.entry.side (corner_at polygon.corners n) (corner_at polygon.corners (place_after (length polygon.corners) n))
      c'.entry.first (c'.entry.first + length c'.entry.pairs)) (sym edge_same)
      (subst (λ (p : Polygon). RunsOver c'.entry.side (corner_at p.corners c'.entry.edge) (corner_at p.corners (place_after (length p.corners) c'.entry.edge))
      c'.entry.first (c'.entry.first + length c'.entry.pairs)) polygon_is' (c'.rim.runs some')))

  side_same : c.side ≡ c'.side
  side_same =
      one_side window c.side c'.side u v c.entry.first (c.entry.first + length c.entry.pairs) c'.entry.first (c'.entry.first + length c'.entry.pairs)
      c.small c'.small (omega (arith, some)) (omega (arith, some')) lies runs lies' runs'

  -- both lead into one tile
  second_tile : c.b.tile ≡ c'.b.tile
  second_tile = same_Some c.b.tile c'.b.tile (sym c.across ∙ (λ i. tile_across setting (first_tile i) (side_same i)) ∙ c'.across)

  second_same : c.b ≡ c'.b
  second_same = same_Some c.b c'.b (sym c.there ∙ ap (slice_get tiles) second_tile ∙ c'.there)

  -- they have a common position
  abbrev first : ℕ
  first = c.entry.first + c.run.first

  abbrev last : ℕ
  last = c.entry.first + c.run.last

  abbrev first' : ℕ
  first' = c'.entry.first + c'.run.first

  abbrev last' : ℕ
  last' = c'.entry.first + c'.run.last

  abbrev line' : ℤ
  line' = line_of c'.side c'.a.polys c'.entry

  overlap : Overlaps (edge_begin polygon c.entry.edge) (edge_end polygon c.entry.edge)
      (side_portal c.side (line_of c.side c.a.polys c.entry) first last).right (side_portal c.side (line_of c.side c.a.polys c.entry) first last).left
      (side_portal c.side line' first' last').right (side_portal c.side line' first' last').left
  overlap =
      let P : Link → Link → Type 0 = λ l m. Overlaps (edge_begin polygon l.edge) (edge_end polygon l.edge) l.portal.right l.portal.left m.portal.right m.portal.left in
      subst (λ n. Overlaps (edge_begin polygon c.entry.edge) (edge_end polygon c.entry.edge)
      (side_portal c.side (line_of c.side c.a.polys c.entry) first last).right (side_portal c.side (line_of c.side c.a.polys c.entry) first last).left
      (side_portal n line' first' last').right (side_portal n line' first' last').left) (sym side_same)
      (subst (λ l. P l (border_link c'.a c'.b c'.side c'.entry c'.other c'.run)) (sym c.is) (subst (P link) (sym c'.is) over))

  -- a position of both runs
  abbrev position : ℕ
  position = max first first'

  meets : IsMeeting (pair_at c.entry position) (pair_at c.other position)
  meets =
      let common = common_position c.side window u v (line_of c.side c.a.polys c.entry) line' first last first' last' c.entry.first
      (c.entry.first + length c.entry.pairs) c.small (omega (arith, some)) lies runs overlap in
      meeting (pair_at c.entry position) (pair_at c.other position)
      (run_meets c.entry c.other c.run position c.range (omega arith) (omega (arith, common.one, common.other, c.range.order)))

  meets' : IsMeeting (pair_at c'.entry position) (pair_at c'.other position)
  meets' =
      let common = common_position c.side window u v (line_of c.side c.a.polys c.entry) line' first last first' last' c.entry.first
      (c.entry.first + length c.entry.pairs) c.small (omega (arith, some)) lies runs overlap in
      meeting (pair_at c'.entry position) (pair_at c'.other position)
      (run_meets c'.entry c'.other c'.run position c'.range (omega arith) (omega (arith, common.one, common.other, c'.range.order)))

  -- where the entries name one pair
  at_tile : (P : TileMesh → Type 0) → All P tiles → (tile : TileMesh) → slice_get tiles tile.tile ≡ Some tile → P tile
  at_tile P each tile at = subst P (get_or_from_slice_get tiles tile.tile tile tile at) (each tile.tile tile (slice_get_within tiles tile.tile tile at))

  pair_same : meets.own ≡ meets'.own
  pair_same =
      let one = at_tile HasOnePair pairs c.a c.here in
      let Q : RimEdge → Type 0 = λ entry. (position : ℕ) (found : LevelPair) → pair_at entry position ≡ Some found
      → found ≡ one.0 entry.poly entry.edge entry.side position in
      let own = All-contains Q c.a.rim c.entry one.1 c.held position meets.own meets.is_own in
      let own' = All-contains Q c.a.rim c'.entry one.1 (subst (λ (tile : TileMesh). Contains tile.rim c'.entry) (sym first_same) c'.held) position meets'.own meets'.is_own in
      let sides : c.entry.side ≡ c'.entry.side = c.along ∙ side_same ∙ sym c'.along in
      own ∙ (λ i. one.0 (poly_same i) (edge_same i) (sides i) position) ∙ sym own'

  -- and so one entry across meets both
  other_same : c.other ≡ c'.other
  other_same =
      let level : ℕ = meets.own.other in
      let far : List RimEdge = along_side (opposite c.side) c.b.rim in
      let named = named_there c.other position level meets.other meets.is_other meets.level in
      let named' = named_there c'.other position level meets'.other meets'.is_other (ap (λ (p : LevelPair). p.other) pair_same ∙ meets'.level) in
      let held' : Contains c.b.rim c'.other = subst (λ (tile : TileMesh). Contains tile.rim c'.other) (sym second_same) c'.held' in
      let along' : c'.other.side ≡ opposite c.side = c'.along' ∙ ap opposite (sym side_same) in
      only_one (λ (entry : RimEdge). is_named entry position level) far c.other c'.other
      ((at_tile HasFewLinks few c.b c.there).once (opposite c.side) position level (opposite_small c.side c.small))
      (Contains-filter (λ (entry : RimEdge). entry.side == opposite c.side) c.b.rim c.other c.held' (eq-eqb c.other.side (opposite c.side) c.along')) named
      (Contains-filter (λ (entry : RimEdge). entry.side == opposite c.side) c.b.rim c'.other held' (eq-eqb c'.other.side (opposite c.side) along')) named'

  pub crossings_one_way : link.to ≡ link'.to
  crossings_one_way =
      sym (ap (λ (l : Link). l.to) c.is)
      ∙ (λ i. record { tile = second_tile i; index = (other_same i).poly })
      ∙ ap (λ (l : Link). l.to) c'.is
