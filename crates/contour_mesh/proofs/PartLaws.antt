-- The parts of regions, one after the other.
use Rattle.std.proofs.Common.{◌≡◌, ℕ, zero, suc, ◌+◌, ◌<◌, ◌≤◌, Bool, true, length, List, [], ◌∷◌, ◌++◌, get_or, Option, Some, None, ap, ◌∙◌, sym, refl, arith, inl, inr}
use Rattle.std.specs.Prelude.{All, is_some}
use Rattle.std.specs.List.{cons_option, filter_map, list_all, range_with_len}
use Rattle.std.proofs.lemmas.Bool.{and_from, cases_lt, cond-false, cond-true}
use Rattle.std.proofs.lemmas.List.Elements.{All-append, All-cons, All-nil, filter_map-append}
use Rattle.std.proofs.lemmas.List.Folds.{list_all_at}
use Rattle.std.proofs.lemmas.List.FromFn.{get_or-range_with_len, length-range_with_len}
use Rattle.nav_ground.specs.declared.cell.Cell.{Cell}
use Rattle.nav_ground.specs.declared.cell.Window.{Window}
use Rattle.nav_ground.proofs.Selections.{range-push}
use Rattle.mesh_types.specs.declared.region.Regions.{Regions}
use Rattle.mesh_types.specs.declared.region.RegionPart.{RegionPart}
use Rattle.mesh_types.specs.declared.region.UnitEdge.{UnitEdge}
use Rattle.mesh_types.specs.declared.region.Outline as outlines
use Rattle.mesh_types.specs.declared.region.Simplified.{Simplified}
use Rattle.mesh_types.specs.declared.region.Simplified.TheVariants.{Flat, Outline}
use Rattle.mesh_types.specs.Contours.{IsContour, contour_of}
use Rattle.mesh_types.specs.Rings.{IsRing}
use Rattle.mesh_types.specs.Simplified.{simplified_of}
use Rattle.mesh_types.specs.Ears.{ears_of}
use Rattle.mesh_types.specs.Parts.{cut_part, part_of, parts_of, region_part, region_numbers}
use Rattle.mesh_types.proofs.ContourLaws.{contour_is}
use Rattle.contour_mesh.specs.Parts.{IsCutPart}

-- the parts of the first regions, each of which has one
pub record ArePartsSoFar (part : ℕ → Option RegionPart) (n : ℕ) (parts : List RegionPart) : Type 0 where
  pub are : parts ≡ filter_map part (range_with_len 0 n)
  pub some : (k : ℕ) → k < n → is_some (part k) ≡ true
  pub each : All IsCutPart parts

pub parts_none : (part : ℕ → Option RegionPart) → ArePartsSoFar part 0 []
parts_none part = record { are = refl; some = λ k below. absurd (omega (arith, below)); each = All-nil IsCutPart }

pub parts_more : (part : ℕ → Option RegionPart) (n : ℕ) (parts next : List RegionPart) (p : RegionPart) → ArePartsSoFar part n parts → Some p ≡ part n → IsCutPart p
    → next ≡ parts ++ p ∷ [] → ArePartsSoFar part (n + 1) next
parts_more part n parts next p so_far found fit is = record {
  are = is ∙ ap (λ (ps : List RegionPart). ps ++ p ∷ []) so_far.are
      ∙ ap (λ (o : Option RegionPart). filter_map part (range_with_len 0 n) ++ cons_option o []) found
      ∙ sym (filter_map-append part (range_with_len 0 n) (n ∷ []))
      ∙ ap (filter_map part) (ap (λ m. range_with_len 0 n ++ m ∷ []) {x = n} {y = 0 + n} (omega arith) ∙ sym (range-push 0 n));
  some = λ k below. elim (cases_lt k n) [
    | inl less ↦ so_far.some k less
    | inr past ↦ ap (λ j. is_some (part j)) {x = k} {y = n} (omega (arith, below, past)) ∙ ap is_some (sym found)
  ];
  each = rw is (All-append IsCutPart parts (p ∷ []) so_far.each (All-cons IsCutPart p [] fit (All-nil IsCutPart)));
}

all_some : (p : ℕ → Bool) (first count : ℕ) → ((k : ℕ) → first ≤ k → k < first + count → p k ≡ true) → list_all p (range_with_len first count) ≡ true
all_some p first zero each = refl
all_some p first (suc count) each =
    and_from (p first) (list_all p (range_with_len (first + 1) count)) (each first (omega arith) (omega arith))
    (all_some p (first + 1) count (λ k least most. each k (omega (arith, least)) (omega (arith, most))))

pub parts_all : (window : Window) (error : ℕ) (cells : List Cell) (regions : Regions) (n : ℕ) (parts : List RegionPart) → n ≡ length regions.regions
    → ArePartsSoFar (region_part window error cells regions) n parts → Some parts ≡ parts_of window error cells regions
unfolding parts_of
parts_all window error cells regions n parts all so_far =
    let part : ℕ → Option RegionPart = region_part window error cells regions in
    let numbers : List ℕ = region_numbers regions in
    let same : parts ≡ filter_map part numbers = so_far.are ∙ ap (λ k. filter_map part (range_with_len 0 k)) all in
    ap (λ (ps : List RegionPart). Some ps) same
    ∙ sym (cond-true (list_all (λ id. is_some (part id)) numbers) (Some (filter_map part numbers)) None
    (all_some (λ id. is_some (part id)) 0 (length regions.regions) (λ k least most. so_far.some k (omega (arith, most, all)))))

pub parts_stop : (window : Window) (error : ℕ) (cells : List Cell) (regions : Regions) (n : ℕ) → n < length regions.regions
    → None ≡ region_part window error cells regions n → None ≡ parts_of window error cells regions
unfolding parts_of
parts_stop window error cells regions n there none =
    let part : ℕ → Option RegionPart = region_part window error cells regions in
    let numbers : List ℕ = region_numbers regions in
    let at : get_or numbers n 0 ≡ n = get_or-range_with_len 0 (length regions.regions) n 0 there ∙ omega arith in
    sym (cond-false (list_all (λ id. is_some (part id)) numbers) (Some (filter_map part numbers)) None
    (list_all_at (λ id. is_some (part id)) numbers n 0 (omega (arith, there, length-range_with_len 0 (length regions.regions)))
    (ap (λ k. is_some (part k)) at ∙ ap is_some (sym none))))

-- the part of a region from a contour of it that is a ring
simplified_is : (window : Window) (error : ℕ) (cells : List Cell) (regions : Regions) (id : ℕ) (edges lent : List UnitEdge) (s : Simplified)
    → IsContour window cells regions id edges → IsRing edges → lent ≡ edges → s ≡ simplified_of error lent
    → s ≡ simplified_of error (contour_of window cells regions id)
simplified_is window error cells regions id edges lent s contour ring lent_is is =
    is ∙ ap (simplified_of error) (lent_is ∙ contour_is window cells regions id edges contour ring)

pub part_flat : (window : Window) (error : ℕ) (cells : List Cell) (regions : Regions) (id : ℕ) (edges lent : List UnitEdge) (s : Simplified)
    → IsContour window cells regions id edges → IsRing edges → lent ≡ edges → s ≡ simplified_of error lent → s ≡ Flat
    → None ≡ region_part window error cells regions id
part_flat window error cells regions id edges lent s contour ring lent_is is flat =
    ap part_of (sym flat ∙ simplified_is window error cells regions id edges lent s contour ring lent_is is)

pub part_outline : (window : Window) (error : ℕ) (cells : List Cell) (regions : Regions) (id : ℕ) (edges lent : List UnitEdge) (s : Simplified) (outline : outlines.Outline)
    → IsContour window cells regions id edges → IsRing edges → lent ≡ edges → s ≡ simplified_of error lent → s ≡ Outline outline
    → cut_part outline (ears_of outline.corners) ≡ region_part window error cells regions id
part_outline window error cells regions id edges lent s outline contour ring lent_is is outlined =
    ap part_of (sym outlined ∙ simplified_is window error cells regions id edges lent s contour ring lent_is is)
