-- Simplified: contours with fewer corners.
use Rattle.std.specs.Prelude.{◌≡◌, All, ℕ, zero, suc, pos, ◌+◌, ◌*◌, Bool, true, false, not, nat_lt, ◌==◌, if◌then◌else◌, List, [], ◌∷◌, ◌++◌, length, map, take, drop, get_or, filter, reverse, min, max}
use Rattle.std.specs.List.{list_any, range_with_len, flat_map, slice_range, zip}
use Rattle.std.specs.Ordering.{is_eq}
use Rattle.nav_base.specs.declared.point.Point.{Point}
use Rattle.nav_base.specs.Point.{IsCellCorner}
use Rattle.nav_base.specs.Deviation.{deviation_of}
use Rattle.mesh_types.specs.declared.region.Code.{Code}
use Rattle.mesh_types.specs.declared.region.Code.TheVariants.{Wall, Region, Side}
use Rattle.mesh_types.specs.declared.region.UnitEdge.{UnitEdge}
use Rattle.mesh_types.specs.declared.region.Outline as outlines
use Rattle.mesh_types.specs.declared.region.Simplified.{Simplified}
use Rattle.mesh_types.specs.declared.region.Simplified.TheVariants.{Flat, Outline}
use Rattle.mesh_types.specs.LinkOrder.{point_cmp, is_point_before}
use Rattle.mesh_types.specs.Rings.{beginnings, place_before}
use Rattle.mesh_types.specs.Choices.{first_best_place}
use Rattle.mesh_types.specs.Ears.{CanBeCut}

-- p deviates more than q from the segment from a to b
abbrev pub deviates_more : Point → Point → Point → Point → Bool
deviates_more a b p q = nat_lt ((deviation_of a b q).num * (deviation_of a b p).den) ((deviation_of a b p).num * (deviation_of a b q).den)

-- a hundred times the deviation of p from the segment from a to b is greater than the error
abbrev pub deviates_over : ℕ → Point → Point → Point → Bool
deviates_over error a b p = nat_lt (error * (deviation_of a b p).den) (100 * (deviation_of a b p).num)

-- The inner corners that are kept of a run that is walked from a to b. Where one of them deviates over the error, the first of greatest deviation is
-- kept, and both halves are treated alike; otherwise none is. Each half has fewer inner corners, so a depth of their number is enough.
unfoldable pub kept_walking : ℕ → ℕ → Point → List Point → Point → List Point
kept_walking zero error a inner b = []
kept_walking (suc depth) error a inner b =
    let place = first_best_place (deviates_more a b) inner in
    let at = get_or inner place a in
    if list_any (deviates_over error a b) inner
    then kept_walking depth error a (take place inner) at ++ at ∷ kept_walking depth error at (drop (place + 1) inner) b
    else []

-- the inner corners that are kept of a run from a to b, in its order: it is walked from its lesser end
unfoldable pub kept_inside : ℕ → Point → List Point → Point → List Point
kept_inside error a inner b =
    if is_point_before a b then kept_walking (length inner) error a inner b else reverse (kept_walking (length inner) error b (reverse inner) a)

-- two codes are the same
abbrev pub is_same : Code → Code → Bool
is_same Wall Wall = true
is_same (Region a) (Region b) = a == b
is_same (Side a) (Side b) = a == b
is_same _ _ = false

-- the point read past the end of a list of corners, and the code past the end of a list of edges
abbrev pub origin : Point
origin = record { x = pos 0; z = pos 0 }

-- the code of the edge at a place
abbrev pub code_at : List UnitEdge → ℕ → Code
code_at edges place = (get_or edges place (record { from = origin; to = origin; code = Wall })).code

-- the edge that ends at a place and the edge that begins there have different codes
abbrev pub does_change : List UnitEdge → ℕ → Bool
does_change edges place = not (is_same (code_at edges (place_before (length edges) place)) (code_at edges place))

-- the places where the code changes
abbrev pub changes : List UnitEdge → List ℕ
changes edges = filter (does_change edges) (range_with_len 0 (length edges))

-- the places of the least and of the greatest corner, in order
abbrev pub extremes : List Point → List ℕ
extremes corners =
    let least = first_best_place is_point_before corners in
    let greatest = first_best_place (λ p q. is_point_before q p) corners in
    min least greatest ∷ max least greatest ∷ []

-- the places that are kept at first: where the code changes, and those of the least and the greatest corner where it never does
unfoldable pub kept_places : List UnitEdge → List ℕ
kept_places edges = if length (changes edges) == 0 then extremes (beginnings edges) else changes edges

-- the kept places, and the first of them again, a round later
unfoldable pub kept_round : List UnitEdge → List ℕ
kept_round edges = kept_places edges ++ map (λ place. place + length edges) (take 1 (kept_places edges))

-- the corners that are kept of the run from one kept place to the next, without its last
unfoldable pub left_of_run : ℕ → List Point → ℕ × ℕ → List Point
left_of_run error corners run =
    let a = get_or corners run.0 origin in
    let b = get_or corners run.1 origin in
    a ∷ kept_inside error a (slice_range corners (run.0 + 1) run.1) b

-- all corners that are kept: those that the runs leave, from each kept place to the next, in the corners twice round
unfoldable pub kept_corners : ℕ → List UnitEdge → List Point
kept_corners error edges = flat_map (left_of_run error (beginnings edges ++ beginnings edges)) (zip (kept_round edges) (drop 1 (kept_round edges)))

-- the edge begins at one of these corners
abbrev pub begins_among : List Point → UnitEdge → Bool
begins_among corners edge = list_any (λ other. is_eq (point_cmp other edge.from)) corners

-- the edges that begin at kept corners, in the contour's order; the corners of a ring differ, so that a point tells its place
unfoldable pub kept_edges : ℕ → List UnitEdge → List UnitEdge
kept_edges error edges = filter (begins_among (kept_corners error edges)) edges

-- The simplified contour: the kept corners in the contour's order, each with the code of the edge that begins there; flat where there are fewer than three.
unfoldable pub simplified_of : ℕ → List UnitEdge → Simplified
simplified_of error edges =
    let kept = kept_edges error edges in
    if nat_lt (length kept) 3 then Flat
    else Outline (record { corners = beginnings kept; codes = map (λ (edge : UnitEdge). edge.code) kept })

-- an outline can be cut: it has at least three corners and not too many; they are corners of cells, and each has a code
pub record IsOutline (outline : outlines.Outline) : Type 0 where
  pub cut : CanBeCut outline.corners
  pub coded : length outline.codes ≡ length outline.corners
  pub inside : All IsCellCorner outline.corners

-- P of the outline, where it is not flat
abbrev pub IfOutline : Simplified → (outlines.Outline → Type 0) → Type 0
IfOutline Flat P = Unit {0}
IfOutline (Outline outline) P = P outline
