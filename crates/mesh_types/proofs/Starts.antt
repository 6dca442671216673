-- Where the links of each polygon begin.
use Rattle.std.proofs.Common.{◌≡◌, ℕ, ◌+◌, ◌<◌, ◌≤◌, List, [], ◌∷◌, ◌++◌, length, map, get_or, ap, ◌∙◌, sym, arith, inl, inr}
use Rattle.std.specs.Prelude.{◌==◌, slice_range}
use Rattle.std.specs.List.{count_by, range_with_len}
use Rattle.std.proofs.lemmas.Bool.{cases_lt, ne_eqb, both_ways, ltb-true, lt-ltb}
use Rattle.std.proofs.lemmas.List.FromFn.{get_or-map-range_with_len, length-map-range_with_len, map-range_with_len_more}
use Rattle.std.proofs.lemmas.List.Sums.{count_by-le-length}
use Rattle.nav_ground.proofs.Selections.{filter_none}
use Rattle.mesh_types.specs.declared.links.Link.{Link}
use Rattle.mesh_types.specs.LinkIndex.{AreOrderedLinks, IsIndexed, is_before_polygon, kept_start, leaving_of}
use Rattle.mesh_types.proofs.Keyed.{before_first, at_key, first_passes, later_fails, fewer_before}

-- one link more leaves an earlier polygon
pub one_more_before : (links : List Link) (polygon start : ℕ) (d : Link) → AreOrderedLinks links → start ≤ count_by (is_before_polygon polygon) links
    → start < length links → (get_or links start d).from.index < polygon → start + 1 ≤ count_by (is_before_polygon polygon) links
one_more_before links polygon start d order known there early =
    elim (cases_lt start (count_by (is_before_polygon polygon) links)) [
      | inl less ↦ omega (arith, less)
      | inr more ↦ absurd (both_ways _ (later_fails (is_before_polygon polygon) links start d
          (before_first (λ (link : Link). link.from.index) polygon links order) more there) (lt-ltb _ _ early))
    ]

-- the links so far are all that leave earlier polygons
pub all_before : (links : List Link) (polygon start : ℕ) (d : Link) → AreOrderedLinks links → start ≤ count_by (is_before_polygon polygon) links
    → (start < length links → polygon ≤ (get_or links start d).from.index)
    → start ≡ count_by (is_before_polygon polygon) links
all_before links polygon start d order known late =
    elim (cases_lt start (count_by (is_before_polygon polygon) links)) [
      | inl less ↦
          let early = first_passes (is_before_polygon polygon) links start d (before_first (λ (link : Link). link.from.index) polygon links order) less in
          let early' = ltb-true (get_or links start d).from.index polygon early in
          absurd (omega (arith, early', late (omega (arith, less, count_by-le-length (is_before_polygon polygon) links))))
      | inr more ↦ omega (arith, known, more)
    ]

-- how many starts there are
starts_count : (links : List Link) (starts : List ℕ) (indexed : IsIndexed links starts) → length starts ≡ indexed.polygons + 1
starts_count links starts indexed =
    ap length indexed.starts_are
    ∙ length-map-range_with_len (λ polygon. kept_start (count_by (is_before_polygon polygon) links)) 0 (indexed.polygons + 1)

-- no link leaves a polygon past the last
pub none_leave : (links : List Link) (starts : List ℕ) (polygon : ℕ) → IsIndexed links starts → length starts ≤ polygon + 1 → [] ≡ leaving_of polygon links
none_leave links starts polygon indexed past =
    sym (filter_none (λ (link : Link). link.from.index == polygon) links (λ k d there.
    let below = indexed.within k d there in
    ne_eqb _ _ (λ same. omega (arith, below, past, same, starts_count links starts indexed))))

-- what is kept of the start of a polygon that is there
pub kept_at : (links : List Link) (starts : List ℕ) (polygon d : ℕ) → IsIndexed links starts → polygon < length starts
    → get_or starts polygon d ≡ kept_start (count_by (is_before_polygon polygon) links)
kept_at links starts polygon d indexed there =
    ap (λ xs. get_or xs polygon d) indexed.starts_are
    ∙ get_or-map-range_with_len (λ p. kept_start (count_by (is_before_polygon p) links)) 0 (indexed.polygons + 1) polygon polygon d
    (omega (arith, there, starts_count links starts indexed)) (omega arith)

-- a start that is less than the greatest number is kept as it is
pub kept_whole : (start count : ℕ) → start ≡ kept_start count → start < 4294967295 → start ≡ count
kept_whole start count is less = omega (arith, is, less)

-- no start is less than what is kept of it
pub kept_most : (start count : ℕ) → start ≡ kept_start count → start ≤ count
kept_most start count is = omega (arith, is)

-- starts rise, and none is past the last link
pub starts_rise : (links : List Link) (polygon first end : ℕ) → first ≡ count_by (is_before_polygon polygon) links
    → end ≡ count_by (is_before_polygon (polygon + 1)) links → (first ≤ end) × (end ≤ length links)
starts_rise links polygon first end first_is end_is = (
  omega (arith, first_is, end_is, fewer_before (λ (link : Link). link.from.index) polygon links),
  omega (arith, end_is, count_by-le-length (is_before_polygon (polygon + 1)) links),
)

-- the links of a polygon are those between its start and the next
pub leaving_between : (links : List Link) (polygon first end : ℕ) → AreOrderedLinks links → first ≡ count_by (is_before_polygon polygon) links
    → end ≡ count_by (is_before_polygon (polygon + 1)) links → slice_range links first end ≡ leaving_of polygon links
leaving_between links polygon first end order first_is end_is =
    ap (λ a. slice_range links a end) first_is
    ∙ ap (slice_range links (count_by (is_before_polygon polygon) links)) end_is
    ∙ at_key (λ (link : Link). link.from.index) polygon links order

-- a start more
pub one_more_start : (links : List Link) (starts : List ℕ) (polygon : ℕ)
    → starts ≡ map (λ p. kept_start (count_by (is_before_polygon p) links)) (range_with_len 0 polygon)
    → starts ++ kept_start (count_by (is_before_polygon polygon) links) ∷ [] ≡ map (λ p. kept_start (count_by (is_before_polygon p) links)) (range_with_len 0 (polygon + 1))
one_more_start links starts polygon before =
    ap (λ (xs : List ℕ). xs ++ kept_start (count_by (is_before_polygon polygon) links) ∷ []) before
    ∙ sym (map-range_with_len_more (λ p. kept_start (count_by (is_before_polygon p) links)) 0 polygon polygon (omega arith))

-- what leaves before a polygon leaves before the next
pub known_before : (links : List Link) (polygon : ℕ) → count_by (is_before_polygon polygon) links ≤ count_by (is_before_polygon (polygon + 1)) links
known_before links polygon = fewer_before (λ (link : Link). link.from.index) polygon links
