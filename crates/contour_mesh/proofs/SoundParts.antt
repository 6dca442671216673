-- The parts of a tile's regions: the corners of an outline are different points, and its pieces have each edge once and keep the outline.
use Rattle.std.proofs.Common.{◌≡◌, ℕ, ◌<◌, ◌≤◌, Bool, true, false, List, length, get_or, filter, refl, sym, subst, ◌∙◌, arith, Some, None, Result, Ok, Err}
use Rattle.std.specs.Prelude.{All, AllPairs, nat_lt, is_some, if◌then◌else◌}
use Rattle.std.specs.List.{filter_map, list_all}
use Rattle.std.proofs.lemmas.Bool.{ltb-false}
use Rattle.std.proofs.lemmas.List.{get_or-map, length-map}
use Rattle.std.proofs.lemmas.List.Kept.{AllPairs-filter}
use Rattle.std.proofs.lemmas.List.FromFn.{get_or-range_with_len, length-range_with_len}
use Rattle.nav_ground.specs.declared.cell.Cell.{Cell}
use Rattle.nav_ground.specs.declared.cell.Window.{Window}
use Rattle.nav_ground.specs.Cells.{IsCells}
use Rattle.nav_ground.proofs.Kept.{AllPairs-map}
use Rattle.mesh_types.specs.declared.region.Regions.{Regions}
use Rattle.mesh_types.specs.declared.region.UnitEdge.{UnitEdge}
use Rattle.mesh_types.specs.declared.region.Outline as outlines
use Rattle.mesh_types.specs.declared.region.Triangle.{Triangle}
use Rattle.mesh_types.specs.declared.region.Simplified.TheVariants.{Flat, Outline}
use Rattle.mesh_types.specs.declared.region.RegionPart.{RegionPart}
use Rattle.mesh_types.specs.Regions.{AreRegionsOf}
use Rattle.mesh_types.specs.Rings.{AreApart, IsRing, beginnings}
use Rattle.mesh_types.specs.Simplified.{begins_among, kept_corners, kept_edges, simplified_of}
use Rattle.mesh_types.specs.Words.{codes_of}
use Rattle.mesh_types.specs.Ears.{ears_of}
use Rattle.mesh_types.specs.Edges.{HaveEdgesOnce, KeepOutline}
use Rattle.mesh_types.specs.Merging.{merged}
use Rattle.mesh_types.specs.Contours.{contour_of}
use Rattle.mesh_types.specs.Parts.{cut_part, part_of, parts_of, region_numbers, region_part}
use Rattle.mesh_types.proofs.RunLaws.{All-found}
use Rattle.mesh_types.proofs.UnionEdges.{merged-once, merged-outline}
use Rattle.contour_walk.proofs.ContourRings.{contour_ring}

-- an outline of different corners, and its pieces
pub record IsSoundPart (part : RegionPart) : Type 0 where
  pub apart : AllPairs AreApart part.outline.corners
  pub once : HaveEdgesOnce part.pieces
  pub outline : KeepOutline part.outline.corners part.pieces

cut_sound : (outline : outlines.Outline) → AllPairs AreApart outline.corners → 3 ≤ length outline.corners → (r : Result (List Triangle) (List ℕ)) → ears_of outline.corners ≡ r
    → (part : RegionPart) → cut_part outline r ≡ Some part → IsSoundPart part
cut_sound outline apart enough (Ok triangles) is part same =
    let at : record { outline = outline; pieces = merged outline.corners triangles } ≡ part = cc in
    subst IsSoundPart at (record {
      apart = apart;
      once = merged-once outline.corners triangles enough (record { cut = is });
      outline = merged-outline outline.corners triangles enough (record { cut = is });
    })
cut_sound outline apart enough (Err left) is part same = absurd cc

-- the edges of a ring begin at different corners
begin_apart : (edges : List UnitEdge) → IsRing edges → AllPairs (λ (a b : UnitEdge). AreApart a.from b.from) edges
begin_apart edges ring i j d less there same =
    let at : (k : ℕ) → k < length edges → get_or (beginnings edges) k d.from ≡ (get_or edges k d).from =
    λ k below. get_or-map (λ (edge : UnitEdge). edge.from) edges k d d.from below in
    ring.apart i j d.from less (omega (arith, there, length-map edges (λ (edge : UnitEdge). edge.from))) (at i (omega (arith, less, there)) ∙ same ∙ sym (at j there))

simplified_sound : (error : ℕ) (edges : List UnitEdge) → IsRing edges → (part : RegionPart) → part_of (simplified_of error edges) ≡ Some part → IsSoundPart part
unfolding simplified_of kept_edges
simplified_sound error edges ring part is = by_case (nat_lt (length kept) 3) refl is
  where
    kept : List UnitEdge
    kept = filter (begins_among (kept_corners error edges)) edges

    by_case : (test : Bool) → nat_lt (length kept) 3 ≡ test
        → part_of (if test then Flat else Outline (record { corners = beginnings kept; codes = codes_of kept })) ≡ Some part → IsSoundPart part
    by_case true few same = absurd cc
    by_case false many same =
        let R : UnitEdge → UnitEdge → Type 0 = λ a b. AreApart a.from b.from in
        cut_sound (record { corners = beginnings kept; codes = codes_of kept })
        (AllPairs-map AreApart (λ (edge : UnitEdge). edge.from) kept (AllPairs-filter R (begins_among (kept_corners error edges)) edges (begin_apart edges ring)))
        (omega (arith, ltb-false (length kept) 3 many, length-map kept (λ (edge : UnitEdge). edge.from)))
        (ears_of (beginnings kept)) refl part same

-- the parts of all regions
pub parts_sound : (window : Window) (error : ℕ) (cells : List Cell) → IsCells cells → (regions : Regions) → AreRegionsOf cells regions → (parts : List RegionPart)
    → parts_of window error cells regions ≡ Some parts → All IsSoundPart parts
unfolding parts_of
parts_sound window error cells rules' regions are parts is = by_case (list_all (λ id. is_some (region_part window error cells regions id)) (region_numbers regions)) is
  where
    count : length (region_numbers regions) ≡ length regions.regions
    count = length-range_with_len 0 (length regions.regions)

    found : List RegionPart
    found = filter_map (region_part window error cells regions) (region_numbers regions)

    each : All IsSoundPart found
    each =
        All-found (region_part window error cells regions) IsSoundPart (region_numbers regions)
        (λ k d there part same.
        let there' : k < length regions.regions = omega (arith, there, count) in
        let id : ℕ = get_or (region_numbers regions) k d in
        let inside : id < length regions.regions = omega (arith, get_or-range_with_len 0 (length regions.regions) k d there', there') in
        simplified_sound error (contour_of window cells regions id) (contour_ring window cells rules' regions are id inside).ring part same)

    by_case : (b : Bool) → (if b then Some found else None) ≡ Some parts → All IsSoundPart parts
    by_case true same =
        let at : found ≡ parts = cc in
        subst (All IsSoundPart) at each
    by_case false same = absurd cc
