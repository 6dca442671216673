-- The contour of each region is a ring of the edges of its rim.
use Rattle.std.proofs.Common.{◌≡◌, ℕ, zero, suc, ◌<◌, ◌≤◌, List, ◌++◌, length, get_or, take, drop, refl, subst, sym, arith, inl, inr}
use Rattle.std.specs.Prelude.{Contains}
use Rattle.std.specs.List.Sorted.{IsPermutation}
use Rattle.std.proofs.lemmas.Bool.{cases_Bool}
use Rattle.std.proofs.lemmas.List.{take-append-drop}
use Rattle.std.proofs.lemmas.List.Elements.{Contains-append_cases, Contains-append_left, Contains-append_right}
use Rattle.nav_ground.specs.declared.cell.Cell.{Cell}
use Rattle.nav_ground.specs.declared.cell.Window.{Window}
use Rattle.nav_ground.specs.Cells.{IsCells}
use Rattle.mesh_types.specs.declared.region.Code.TheVariants.{Wall}
use Rattle.mesh_types.specs.declared.region.Regions.{Regions}
use Rattle.mesh_types.specs.declared.region.UnitEdge.{UnitEdge}
use Rattle.mesh_types.specs.Regions.{AreRegionsOf}
use Rattle.mesh_types.specs.Rings.{IsRing}
use Rattle.mesh_types.specs.Simplified.{origin}
use Rattle.mesh_types.specs.Contours.{IsContour, rim_of, strips_in, contour_of}
use Rattle.mesh_types.specs.LinkOrder.{is_point_before}
use Rattle.mesh_types.proofs.ContourLaws.{contour_is}
use Rattle.contour_walk.specs.Walk.{edge_at, round}
use Rattle.contour_walk.proofs.Contoured.{walk_contour, walk_ring}
use Rattle.contour_walk.proofs.Earliest.{IsNoLater, earlier_found, earliest_stays}

-- of the first edges one begins no later than the others
record HasEarliest (edges : List UnitEdge) (k : ℕ) : Type 0 where
  pub place : ℕ
  pub inside : 0 < length edges → place < length edges
  pub least : (j : ℕ) (d : UnitEdge) → j < k → IsNoLater (get_or edges place d).from (get_or edges j d).from

earliest : (edges : List UnitEdge) (k : ℕ) → k ≤ length edges → HasEarliest edges k
earliest edges zero most = record { place = 0; inside = λ some. some; least = λ j d less. absurd (omega (arith, less)) }
earliest edges (suc k) most =
    let so_far = earliest edges k (omega (arith, most)) in
    let e : UnitEdge = record { from = origin; to = origin; code = Wall } in
    elim (cases_Bool (is_point_before (get_or edges k e).from (get_or edges so_far.place e).from)) [
      | inl before ↦
          let is = earlier_found edges so_far.place k k e refl (omega (arith, most)) so_far.inside before so_far.least in
          record { place = k; inside = is.0; least = λ j d less. is.1 j d (omega (arith, less)) }
      | inr after ↦
          let is = earliest_stays edges so_far.place so_far.place k e refl (omega (arith, most)) so_far.inside after so_far.least in
          record { place = so_far.place; inside = is.0; least = λ j d less. is.1 j d (omega (arith, less)) }
    ]

module _ (window : Window) (cells : List Cell) (rules' : IsCells cells) (regions : Regions) (are : AreRegionsOf cells regions) (id : ℕ)
    (there : id < length regions.regions) where
  -- the contour of a region is a ring of the edges of its rim, which are those of the walk round its strips
  pub record IsContourRing : Type 0 where
    pub ring : IsRing (contour_of window cells regions id)
    pub rim : IsPermutation (rim_of window cells regions id) (contour_of window cells regions id)
    pub walked : (edge : UnitEdge) → Contains (round (edge_at window cells regions) (strips_in regions id)) edge → Contains (contour_of window cells regions id) edge

  pub contour_ring : IsContourRing
  contour_ring =
      let walk : List UnitEdge = round (edge_at window cells regions) (strips_in regions id) in
      let first = earliest walk (length walk) (omega arith) in
      let m : ℕ = first.place in
      let edges : List UnitEdge = drop m walk ++ take m walk in
      let ring : IsRing edges = walk_ring cells rules' regions are id there window walk edges m refl refl in
      let contour : IsContour window cells regions id edges = walk_contour cells rules' regions are id there window walk edges m refl refl first.inside first.least in
      let same : edges ≡ contour_of window cells regions id = contour_is window cells regions id edges contour ring in
      record {
        ring = subst IsRing same ring;
        rim = subst (IsPermutation (rim_of window cells regions id)) same contour.rim;
        walked = λ edge held.
            let P : List UnitEdge → Type 0 = λ es. Contains es edge in
            subst P same
            (elim (Contains-append_cases (take m walk) (drop m walk) edge (subst P (sym (take-append-drop m walk)) held)) [
              | inl early ↦ Contains-append_right (drop m walk) (take m walk) edge early
              | inr late ↦ Contains-append_left (drop m walk) (take m walk) edge late
            ]);
      }
