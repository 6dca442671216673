-- Links as they are found: what holds of each, and that they are those of the definition, put in order.
use Rattle.std.proofs.Common.{◌≡◌, ℕ, ◌+◌, ◌<◌, List, [], ◌∷◌, ◌++◌, map, length, take, drop, get_or, ap, ◌∙◌, sym, refl, arith}
use Rattle.std.specs.Prelude.{All, Some, None, Option, slice_get, ◌==◌, option_and_then}
use Rattle.std.specs.Option.{option_map_or}
use Rattle.std.specs.List.{flat_map, range_with_len}
use Rattle.std.proofs.lemmas.Bool.{eqb-true}
use Rattle.std.proofs.Math.Seq.{take-append_seam}
use Rattle.std.proofs.lemmas.List.{append_assoc, flat_map_more, take_more}
use Rattle.std.proofs.lemmas.List.FromFn.{map-range_with_len_more}
use Rattle.std.proofs.lemmas.Option.{slice_get_within}
use Rattle.std.proofs.lemmas.List.Elements.{All-head, All-tail, All-append, All-map, All-filter, All-nil, filter_passes}
use Rattle.nav_ground.specs.declared.setting.Setting.{Setting}
use Rattle.nav_ground.specs.Cells.{opposite}
use Rattle.nav_ground.proofs.Selections.{range-push}
use Rattle.mesh_types.specs.declared.links.Link.{Link}
use Rattle.mesh_types.specs.declared.mesh.RimEdge.{RimEdge}
use Rattle.mesh_types.specs.declared.mesh.TileMesh.{TileMesh}
use Rattle.mesh_types.specs.Runs.{runs_of}
use Rattle.mesh_types.specs.LinkOrder.{ordered_links}
use Rattle.mesh_types.specs.BorderLinks.{along_side, border_link, border_links, meetings}
use Rattle.mesh_types.specs.WholeMesh.{tile_across, links_over, cross_links}
use Rattle.mesh_types.specs.FitTiles.{IsFit, IsRimOf}
use Rattle.mesh_types.proofs.LinksInOrder.{ordered_links-parts, ordered_links-same}
use Rattle.tile_links.specs.Loose.{pair_links, entry_links, loose_links, loose_over, HasGained}

-- what holds of all parts holds of the whole
pub All-flat_map : {X Y : Type 0} (P : Y → Type 0) (f : X → List Y) (xs : List X) → All (λ x. All P (f x)) xs → All P (flat_map f xs)
All-flat_map P f [] each = All-nil P
All-flat_map P f (x ∷ xs) each =
    All-append P (f x) (flat_map f xs) (All-head (λ y. All P (f y)) x xs each)
    (All-flat_map P f xs (All-tail (λ y. All P (f y)) x xs each))

-- entries along a side are entries of that side
pub along_all : (Q : RimEdge → Type 0) (side : ℕ) (rim : List RimEdge) → All Q rim
    → All (λ (entry : RimEdge). Q entry × (entry.side ≡ side)) (along_side side rim)
along_all Q side rim each k d there = (
  All-filter (λ (entry : RimEdge). entry.side == side) Q rim each k d there,
  eqb-true _ side (filter_passes (λ (entry : RimEdge). entry.side == side) rim k d there),
)

-- what holds of each link of two entries holds of the links over a border
pub loose_all : (P : Link → Type 0) (Q R : RimEdge → Type 0) (a b : TileMesh) (side : ℕ) → All Q a.rim → All R b.rim
    → ((entry other : RimEdge) → Q entry → entry.side ≡ side → R other → other.side ≡ opposite side → All P (pair_links a b side entry other))
    → All P (loose_links a b side)
loose_all P Q R a b side ones others made =
    All-flat_map P (λ (entry : RimEdge). entry_links a b side entry (along_side (opposite side) b.rim)) (along_side side a.rim)
    (λ k d there.
    let one = along_all Q side a.rim ones k d there in
    All-flat_map P (pair_links a b side (get_or (along_side side a.rim) k d)) (along_side (opposite side) b.rim)
    (λ j e in_other.
    let other = along_all R (opposite side) b.rim others j e in_other in
    made _ _ one.0 one.1 other.0 other.1))

-- the same over a side of a tile
pub loose_over_all : (P : Link → Type 0) (setting : Setting) (tiles : List TileMesh) (tile : TileMesh) (side : ℕ)
    → ((place : ℕ) (other : TileMesh) → tile_across setting tile.tile side ≡ Some place → slice_get tiles place ≡ Some other → All P (loose_links tile other side))
    → All P (loose_over setting tiles tile side)
loose_over_all P setting tiles tile side each = by_across (tile_across setting tile.tile side) refl
  where
    by_tile : (place : ℕ) → tile_across setting tile.tile side ≡ Some place → (found : Option TileMesh) → slice_get tiles place ≡ found
        → All P (option_map_or (λ (other : TileMesh). loose_links tile other side) found [])
    by_tile place is None none = All-nil P
    by_tile place is (Some other) there = each place other is there

    by_across : (found : Option ℕ) → tile_across setting tile.tile side ≡ found
        → All P (option_map_or (λ (other : TileMesh). loose_links tile other side) (option_and_then (slice_get tiles) found) [])
    by_across None none = All-nil P
    by_across (Some place) is = by_tile place is (slice_get tiles place) refl

-- each link of a tile leaves one of its polygons
pub leaves_tile : (setting : Setting) (tile other : TileMesh) (side : ℕ) → IsFit setting tile
    → All (λ (link : Link). (link.from.tile ≡ tile.tile) × (link.from.index < length tile.polys)) (loose_links tile other side)
leaves_tile setting tile other side fit =
    loose_all (λ (link : Link). (link.from.tile ≡ tile.tile) × (link.from.index < length tile.polys)) (IsRimOf setting tile) (λ entry. ℕ) tile other side
    fit.rim (λ k d there. 0)
    (λ entry across rim on other' opposite'.
    All-map (λ (link : Link). (link.from.tile ≡ tile.tile) × (link.from.index < length tile.polys)) (border_link tile other side entry across)
    (runs_of (meetings entry across)) (λ k d there. (refl, slice_get_within tile.polys entry.poly rim.polygon rim.is_there)))

pub all_leave_tile : (setting : Setting) (tiles : List TileMesh) (tile : TileMesh) (sides : List ℕ) → IsFit setting tile
    → All (λ (link : Link). (link.from.tile ≡ tile.tile) × (link.from.index < length tile.polys)) (flat_map (loose_over setting tiles tile) sides)
all_leave_tile setting tiles tile sides fit =
    All-flat_map (λ (link : Link). (link.from.tile ≡ tile.tile) × (link.from.index < length tile.polys)) (loose_over setting tiles tile) sides
    (λ k d there. loose_over_all (λ (link : Link). (link.from.tile ≡ tile.tile) × (link.from.index < length tile.polys)) setting tiles tile (get_or sides k d)
    (λ place other is at. leaves_tile setting tile other (get_or sides k d) fit))

-- the links over a side are those found, put in order
links_over_ordered : (setting : Setting) (tiles : List TileMesh) (tile : TileMesh) (side : ℕ)
    → ordered_links (loose_over setting tiles tile side) ≡ links_over setting tiles tile side
unfolding border_links ordered_links
links_over_ordered setting tiles tile side = by_case (option_and_then (slice_get tiles) (tile_across setting tile.tile side))
  where
    by_case : (found : Option TileMesh) → ordered_links (option_map_or (λ (other : TileMesh). loose_links tile other side) found [])
        ≡ option_map_or (λ (other : TileMesh). border_links tile other side) found []
    by_case None = refl
    by_case (Some other) = refl

flat_map-same : {X Y : Type 0} (f g : X → List Y) (xs : List X) → ((x : X) → f x ≡ g x) → flat_map f xs ≡ flat_map g xs
flat_map-same f g [] same = refl
flat_map-same f g (x ∷ xs) same =
    ap (λ ys. ys ++ flat_map f xs) (same x) ∙ ap (λ ys. g x ++ ys) (flat_map-same f g xs same)

-- the links that leave a tile are those found over its sides, put in order
pub cross_links_found : (setting : Setting) (tiles : List TileMesh) (tile : TileMesh)
    → ordered_links (flat_map (loose_over setting tiles tile) (range_with_len 0 4)) ≡ cross_links setting tiles tile
cross_links_found setting tiles tile =
    ordered_links-parts (loose_over setting tiles tile) (range_with_len 0 4)
    ∙ ap ordered_links (flat_map-same (λ side. ordered_links (loose_over setting tiles tile side)) (links_over setting tiles tile) (range_with_len 0 4)
    (links_over_ordered setting tiles tile))

-- what is found over a side where there is a tile across
pub found_over : (setting : Setting) (tiles : List TileMesh) (tile other : TileMesh) (side place : ℕ) → tile_across setting tile.tile side ≡ Some place
    → slice_get tiles place ≡ Some other → loose_links tile other side ≡ loose_over setting tiles tile side
found_over setting tiles tile other side place is there =
    sym (ap (λ (found : Option TileMesh). option_map_or (λ (t : TileMesh). loose_links tile t side) found [])
    (ap (option_and_then (slice_get tiles)) is ∙ there))

-- what one number more gives, and one element more
pub one_more_gathered : {X : Type 0} (f : ℕ → List X) (n : ℕ) (start made new : List X) → made ≡ start ++ flat_map f (range_with_len 0 n) → new ≡ made ++ f n
    → new ≡ start ++ flat_map f (range_with_len 0 (n + 1))
one_more_gathered f n start made new before pushed =
    pushed
    ∙ ap (λ xs. xs ++ f n) before
    ∙ flat_map_more f start (range_with_len 0 n) n
    ∙ ap (λ k. start ++ flat_map f (range_with_len 0 n ++ k ∷ [])) {x = n} {y = 0 + n} (omega arith)
    ∙ ap (λ ks. start ++ flat_map f ks) (sym (range-push 0 n))

pub one_more_taken : {X Y : Type 0} (f : X → List Y) (xs : List X) (i : ℕ) (d : X) (start made new : List Y) → i < length xs
    → made ≡ start ++ flat_map f (take i xs) → new ≡ made ++ f (get_or xs i d) → new ≡ start ++ flat_map f (take (i + 1) xs)
one_more_taken f xs i d start made new there before pushed =
    pushed
    ∙ ap (λ ys. ys ++ f (get_or xs i d)) before
    ∙ flat_map_more f start (take i xs) (get_or xs i d)
    ∙ ap (λ ys. start ++ flat_map f ys) (sym (take_more xs i d there))

pub one_more_mapped : {X : Type 0} (f : ℕ → X) (n : ℕ) (x : X) (start made new : List X) → made ≡ start ++ map f (range_with_len 0 n) → new ≡ made ++ x ∷ []
    → x ≡ f n → new ≡ start ++ map f (range_with_len 0 (n + 1))
one_more_mapped {X = X} f n x start made new before pushed is =
    pushed
    ∙ ap (λ (y : X). made ++ y ∷ []) is
    ∙ ap (λ (xs : List X). xs ++ f n ∷ []) before
    ∙ append_assoc start (map f (range_with_len 0 n)) (f n ∷ [])
    ∙ ap (λ (xs : List X). start ++ xs) (sym (map-range_with_len_more f 0 n n (omega arith)))

-- a vector that was written through a slice as a whole
pub written_back : {X : Type 0} (len : ℕ) (items lent new : List X) → len ≡ length items → lent ≡ items → length new ≡ length lent
    → take len (new ++ drop (length new) items) ≡ new
written_back len items lent new count same kept =
    ap (λ i. take i (new ++ drop (length new) items)) (count ∙ sym (ap length same) ∙ sym kept)
    ∙ take-append_seam new (drop (length new) items)

-- the same of links that were put in order
pub ordered_back : (len : ℕ) (items lent new links : List Link) → len ≡ length items → lent ≡ items → length new ≡ length lent → new ≡ ordered_links lent
    → HasGained [] links items → take len (new ++ drop (length new) items) ≡ ordered_links links
ordered_back len items lent new links count same kept order gained =
    written_back len items lent new count same kept
    ∙ order
    ∙ ap ordered_links same
    ∙ ordered_links-same items links gained
