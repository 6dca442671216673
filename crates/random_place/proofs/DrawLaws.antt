-- The polygons over spots; the places over them stand; one answer alone is right.
use Rattle.std.proofs.Common.{◌≡◌, ℕ, ◌*◌, ◌/◌, ◌≤◌, ◌<◌, ◌⊎◌, inl, inr, Bool, false, List, [], length, get_or, refl, sym, ap, subst, ◌∙◌, arith}
use Rattle.std.specs.Prelude.{All, IsTrue, ◌↔◌, Option, Some, None, option_and_then, slice_get}
use Rattle.std.proofs.lemmas.Bool.{cases_lt, true≢false}
use Rattle.std.proofs.lemmas.List.Sums.{get_or-le-sum_by}
use Rattle.std.proofs.lemmas.Option.{none-some, same_Some, slice_get_within, get_or_from_slice_get}
use Rattle.nav_base.specs.declared.point.Point.{Point}
use Rattle.mesh_types.specs.declared.links.PolyRef.{PolyRef}
use Rattle.mesh_types.specs.declared.mesh.Mesh.{Mesh}
use Rattle.mesh_types.specs.declared.mesh.TileMesh.{TileMesh}
use Rattle.mesh_types.specs.declared.storeys.MeshPlace.{MeshPlace}
use Rattle.mesh_types.specs.declared.extent.Extent.{Extent}
use Rattle.mesh_types.specs.declared.polygon.Polygon.{Polygon}
use Rattle.mesh_types.specs.Extents.{extent_of}
use Rattle.mesh_types.specs.FitTiles.{IsPolygon}
use Rattle.mesh_types.specs.Located.{Holds}
use Rattle.mesh_types.specs.Places.{Stands, column_gap, storey_in}
use Rattle.mesh_types.specs.Rays.{IsHeldAt}
use Rattle.mesh_types.specs.Soundness.{IsSound}
use Rattle.mesh_types.specs.Storeys.{HasFloor}
use Rattle.mesh_locate.specs.Nearest.{IsInBox}
use Rattle.mesh_locate.proofs.Reached.{held_in_box}
use Rattle.mesh_place.proofs.Squares.{gap_of_point}
use Rattle.random_place.specs.declared.draws.DrawPlace.{DrawPlace}
use Rattle.random_place.specs.declared.draws.DrawAnswer.{DrawAnswer}
use Rattle.random_place.specs.declared.draws.DrawAnswer.TheVariants.{Drawn, Cut, Nowhere}
use Rattle.random_place.specs.declared.spots.StoreyCell.{StoreyCell}
use Rattle.random_place.specs.Draws.{spot_drawn, IsOver, IsFirstOver, IsPlaceOver, IsRightDraw, TellsStanding, IsAnswerAt, IsOverIn, middle_of}
use Rattle.random_place.specs.Spots.{spots_of}
use Rattle.random_place.proofs.NumberLaws.{none_there}
use Rattle.random_place.proofs.SpotLaws.{cell_of}

-- ---- the polygons of a spot's tile

pub few_polygons : (mesh : Mesh) (t : ℕ) (tile : TileMesh) → IsSound mesh → slice_get mesh.tiles t ≡ Some tile → length tile.polys ≤ 8000000
few_polygons mesh t tile sound there =
    let few = sound.tiles.few in
    omega (
      arith,
      few,
      get_or-le-sum_by (λ (one : TileMesh). length one.polys) mesh.tiles t tile (slice_get_within mesh.tiles t tile there),
      ap (λ (one : TileMesh). length one.polys) (get_or_from_slice_get mesh.tiles t tile tile there),
    )

module _ (mesh : Mesh) (spot : StoreyCell) (tile : TileMesh) (there : slice_get mesh.tiles spot.tile ≡ Some tile) where
  pub over_in : (at : PolyRef) → IsOver mesh spot at → IsOverIn tile at.index spot
  over_in at over =
      let there' : slice_get mesh.tiles at.tile ≡ Some tile = ap (slice_get mesh.tiles) over.tile ∙ there in
      record {
        home = sym (ap (option_and_then (λ (one : TileMesh). slice_get one.storeys.homes at.index)) there') ∙ over.home;
        polygon = over.held.polygon;
        there = sym (ap (option_and_then (λ (one : TileMesh). slice_get one.polys at.index)) there') ∙ over.held.there;
        holds = over.held.holds;
      }

  pub in_over : (index : ℕ) → IsOverIn tile index spot → IsOver mesh spot (record { tile = spot.tile; index = index })
  in_over index over = record {
    tile = refl;
    home = ap (option_and_then (λ (one : TileMesh). slice_get one.storeys.homes index)) there ∙ over.home;
    held = record {
      polygon = over.polygon;
      there = ap (option_and_then (λ (one : TileMesh). slice_get one.polys index)) there ∙ over.there;
      holds = over.holds;
    };
  }

  pub first_over : (index : ℕ) → ((k : ℕ) → k < index → IsOverIn tile k spot → ⊥) → IsOverIn tile index spot
      → IsFirstOver mesh spot (Some (record { tile = spot.tile; index = index }))
  first_over index before over = (in_over index over, λ other over'. by other over' (cases_lt other.index index))
    where
      by : (other : PolyRef) → IsOver mesh spot other → (other.index < index) ⊎ (index ≤ other.index) → index ≤ other.index
      by other over' (inl less) = absurd (before other.index less (over_in other over'))
      by other over' (inr least) = least

  pub none_over : (end : ℕ) → length tile.polys ≤ end → ((k : ℕ) → k < end → IsOverIn tile k spot → ⊥) → IsFirstOver mesh spot None
  none_over end all before =
      λ at over.
      let inside = over_in at over in
      let within = slice_get_within tile.polys at.index inside.polygon inside.there in
      before at.index (omega (arith, all, within)) inside

-- a polygon of another storey, and one whose box leaves a spot's cell out, is not over the spot
pub not_over : {P : Type 0} (b : Bool) → b ≡ false → (P → ⊥) → IsTrue b ↔ P
not_over b is none = (λ so. absurd (true≢false (sym so ∙ is)), λ p. absurd (none p))

pub other_box : (tile : TileMesh) (index : ℕ) (spot : StoreyCell) (box : Extent) → All IsPolygon tile.polys
    → ((d : Polygon) → box ≡ extent_of (get_or tile.polys index d)) → (IsInBox box (middle_of spot) → ⊥) → IsOverIn tile index spot → ⊥
other_box tile index spot box rules is none over =
    let polygon = over.polygon in
    let within = slice_get_within tile.polys index polygon over.there in
    let same : get_or tile.polys index polygon ≡ polygon = get_or_from_slice_get tile.polys index polygon polygon over.there in
    none
    (subst (λ (e : Extent). IsInBox e (middle_of spot)) (sym (is polygon ∙ ap extent_of same))
    (held_in_box polygon (middle_of spot) (subst IsPolygon same (rules index polygon within)) over.holds))

pub over_where : (tile : TileMesh) (index : ℕ) (spot : StoreyCell) (polygon : Polygon) (p : Point) (b : Bool)
    → slice_get tile.storeys.homes index ≡ Some spot.storey → slice_get tile.polys index ≡ Some polygon → p ≡ middle_of spot → (IsTrue b ↔ Holds polygon p)
    → IsTrue b ↔ IsOverIn tile index spot
over_where tile index spot polygon p b home there at holds = (
  λ so. record { home = home; polygon = polygon; there = there; holds = subst (Holds polygon) at (holds.0 so) },
  λ over.
      holds.1
      (subst (Holds polygon) (sym at)
      (subst (λ (one : Polygon). Holds one (middle_of spot)) (same_Some over.polygon polygon (sym over.there ∙ there)) over.holds)),
)

pub no_tile : (mesh : Mesh) (spot : StoreyCell) → slice_get mesh.tiles spot.tile ≡ None → IsFirstOver mesh spot None
no_tile mesh spot none =
    λ at over.
    none-some spot.storey
    (sym (ap (option_and_then (λ (one : TileMesh). slice_get one.storeys.homes at.index)) (ap (slice_get mesh.tiles) over.tile ∙ none)) ∙ over.home)

-- ---- right answers

pub drawn_at : (mesh : Mesh) (asked : DrawPlace) (count number : ℕ) (found : Option StoreyCell) → count ≡ length (spots_of mesh asked.areas)
    → number ≡ asked.draw * count / 18446744073709551616 → found ≡ slice_get (spots_of mesh asked.areas) number → found ≡ spot_drawn mesh asked
drawn_at mesh asked count number found count_is number_is found_is =
    found_is ∙ ap (slice_get (spots_of mesh asked.areas)) (number_is ∙ ap (λ n. asked.draw * n / 18446744073709551616) count_is)

pub right_at : (mesh : Mesh) (asked : DrawPlace) (spot : StoreyCell) (answer : DrawAnswer) → spot_drawn mesh asked ≡ Some spot → IsAnswerAt mesh spot answer
    → IsRightDraw mesh asked answer
right_at mesh asked spot (Drawn place) is over = (spot, is, over)
right_at mesh asked spot Cut is none = (spot, is, none)
right_at mesh asked spot Nowhere is never = absurd never

pub right_nowhere : (mesh : Mesh) (asked : DrawPlace) (count number : ℕ) → count ≡ length (spots_of mesh asked.areas) → (0 < count → number < count)
    → slice_get (spots_of mesh asked.areas) number ≡ None → IsRightDraw mesh asked Nowhere
right_nowhere mesh asked count number count_is below none =
    none_there (spots_of mesh asked.areas) number (λ some. let less = below (omega (arith, some, count_is)) in omega (arith, less, count_is)) none

-- ---- places over spots stand

stands : (mesh : Mesh) (asked : DrawPlace) (spot : StoreyCell) (place : MeshPlace) → spot_drawn mesh asked ≡ Some spot → IsPlaceOver mesh spot place → Stands mesh place
stands mesh asked spot place is over =
    let cell = cell_of mesh asked.areas (asked.draw * length (spots_of mesh asked.areas) / 18446744073709551616) spot is in
    let at = place.polygon in
    let first = over.first.0 in
    let there : slice_get mesh.tiles at.tile ≡ Some cell.tile = ap (slice_get mesh.tiles) first.tile ∙ cell.there in
    let inside = over_in mesh spot cell.tile cell.there at first in
    record {
      held = subst (λ (p : Point). IsHeldAt mesh p at) (sym over.middle) first.held;
      storey = cell.storey;
      home = ap (option_and_then (λ (one : TileMesh). storey_in one.storeys at.index)) there ∙ ap (option_and_then (slice_get cell.tile.storeys.list)) inside.home
          ∙ cell.home;
      floor = record {
        x = spot.x;
        z = spot.z;
        has = subst (HasFloor cell.storey spot.x spot.z) (sym over.floor) cell.has;
        gap = gap_of_point spot.x spot.z 8 8 (omega arith) (omega arith) ∙ ap (column_gap spot.x spot.z) (sym over.middle);
        nearest = λ x' z' y' has. omega arith;
      };
    }

pub tells : (mesh : Mesh) (asked : DrawPlace) (answer : DrawAnswer) → IsRightDraw mesh asked answer → TellsStanding mesh answer
tells mesh asked (Drawn place) right = stands mesh asked right.0 place right.1 right.2
tells mesh asked Cut right = tt
tells mesh asked Nowhere right = tt

-- ---- one alone is right

one_place : (mesh : Mesh) (spot : StoreyCell) (a b : MeshPlace) → IsPlaceOver mesh spot a → IsPlaceOver mesh spot b → b ≡ a
one_place mesh spot a b over over' =
    let tile : b.polygon.tile ≡ a.polygon.tile = over'.first.0.tile ∙ sym over.first.0.tile in
    let before = over.first.1 b.polygon over'.first.0 in
    let after = over'.first.1 a.polygon over.first.0 in
    let index : b.polygon.index ≡ a.polygon.index = omega (arith, before, after) in
    let point : b.point ≡ a.point = over'.middle ∙ sym over.middle in
    let y : b.y ≡ a.y = over'.floor ∙ sym over.floor in
    λ i. record { polygon = record { tile = tile i; index = index i }; point = point i; y = y i }

one_spot : (mesh : Mesh) (asked : DrawPlace) (a b : StoreyCell) → spot_drawn mesh asked ≡ Some a → spot_drawn mesh asked ≡ Some b → b ≡ a
one_spot mesh asked a b is is' = same_Some b a (sym is' ∙ is)

no_spot : (mesh : Mesh) (asked : DrawPlace) (spot : StoreyCell) → spots_of mesh asked.areas ≡ [] → spot_drawn mesh asked ≡ Some spot → ⊥
no_spot mesh asked spot none is =
    none-some spot (sym (ap (λ (all : List StoreyCell). slice_get all (asked.draw * length all / 18446744073709551616)) none) ∙ is)

pub one_only : (mesh : Mesh) (asked : DrawPlace) (answer : DrawAnswer) → IsRightDraw mesh asked answer → (other : DrawAnswer) → IsRightDraw mesh asked other
    → other ≡ answer
one_only mesh asked (Drawn a) (spot, is, over) (Drawn b) (spot', is', over') =
    ap Drawn
    (one_place mesh spot a b over (subst (λ (s : StoreyCell). IsPlaceOver mesh s b) (one_spot mesh asked spot spot' is is') over'))
one_only mesh asked (Drawn a) (spot, is, over) Cut (spot', is', none) =
    absurd (none a.polygon (subst (λ (s : StoreyCell). IsOver mesh s a.polygon) (sym (one_spot mesh asked spot spot' is is')) over.first.0))
one_only mesh asked (Drawn a) (spot, is, over) Nowhere none = absurd (no_spot mesh asked spot none is)
one_only mesh asked Cut (spot, is, none) (Drawn b) (spot', is', over) =
    absurd (none b.polygon (subst (λ (s : StoreyCell). IsOver mesh s b.polygon) (one_spot mesh asked spot spot' is is') over.first.0))
one_only mesh asked Cut right Cut right' = refl
one_only mesh asked Cut (spot, is, none) Nowhere none' = absurd (no_spot mesh asked spot none' is)
one_only mesh asked Nowhere none (Drawn b) (spot, is, over) = absurd (no_spot mesh asked spot none is)
one_only mesh asked Nowhere none Cut (spot, is, over) = absurd (no_spot mesh asked spot none is)
one_only mesh asked Nowhere none Nowhere none' = refl
