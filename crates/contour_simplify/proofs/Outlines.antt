-- Outlines: what the runs leave, one after the other.
use Rattle.std.proofs.Common.{◌≡◌, ℕ, ◌+◌, ◌-◌, ◌<◌, ◌≤◌, Bool, true, false, List, [], ◌∷◌, ◌++◌, length, get_or, map, take, drop, arith, refl, sym, subst, ap, ◌∙◌}
use Rattle.std.specs.Prelude.{All, nat_lt, if◌then◌else◌, ◌↔◌, filter}
use Rattle.std.specs.List.Sorted.{IsPermutation}
use Rattle.std.specs.Ordering.{is_eq}
use Rattle.std.specs.List.{flat_map}
use Rattle.std.proofs.lemmas.Bool.{ltb-true, ltb-false}
use Rattle.std.proofs.lemmas.List.{get_or-map, map-append, take_more, take_all, length-drop, length-map, get_or-drop, append-nil}
use Rattle.std.proofs.lemmas.List.Concat.{flat_map-append}
use Rattle.std.proofs.lemmas.List.Elements.{All-append, All-map, All-filter, filter-append, filter_agree}
use Rattle.std.proofs.lemmas.List.Sorted.{list_any-IsPermutation}
use Rattle.std.proofs.lemmas.List.Sums.{length-filter, count_by-le-length}
use Rattle.std.proofs.lemmas.Slice.Zip.{length-zip, get_or-zip}
use Rattle.nav_base.specs.declared.point.Point.{Point}
use Rattle.nav_base.specs.Point.{IsCellCorner}
use Rattle.nav_base.proofs.Sizes.{HasCoordinates-corner}
use Rattle.mesh_types.specs.declared.region.UnitEdge.{UnitEdge}
use Rattle.mesh_types.specs.declared.region.Code.{Code}
use Rattle.mesh_types.specs.declared.region.Simplified.{Simplified}
use Rattle.mesh_types.specs.declared.region.Outline as outlines
use Rattle.mesh_types.specs.declared.region.Simplified.TheVariants.{Flat, Outline}
use Rattle.mesh_types.specs.Rings.{IsRing, beginnings}
use Rattle.mesh_types.specs.LinkOrder.{point_cmp}
use Rattle.mesh_types.specs.Simplified.{kept_corners, kept_edges, begins_among, simplified_of, IsOutline, IfOutline}
use Rattle.mesh_types.specs.Words.{runs_between, twice_round, codes_of}
use Rattle.mesh_types.proofs.RingLaws.{few_edges}

-- what the kept edges of a list give, where one edge more is kept, and where it is left
module _ {B : Type 0} (f : UnitEdge → B) (p : UnitEdge → Bool) (edges : List UnitEdge) (k : ℕ) (d : UnitEdge) (made : List B) (there : k < length edges)
    (before : made ≡ map f (filter p (take k edges))) where
  one_more : map f (filter p (take k edges)) ++ map f (filter p (get_or edges k d ∷ [])) ≡ map f (filter p (take (k + 1) edges))
  one_more =
      sym (map-append f (filter p (take k edges)) (filter p (get_or edges k d ∷ [])))
      ∙ ap (map f) (sym (filter-append p (take k edges) (get_or edges k d ∷ [])))
      ∙ ap (λ (es : List UnitEdge). map f (filter p es)) (sym (take_more edges k d there))

  alone : (b : Bool) → p (get_or edges k d) ≡ b → map f (filter p (get_or edges k d ∷ [])) ≡ map f (if b then get_or edges k d ∷ [] else [])
  alone b is = ap (λ (b : Bool). map f (if b then get_or edges k d ∷ [] else [])) is

  pub kept_more : p (get_or edges k d) ≡ true → made ++ f (get_or edges k d) ∷ [] ≡ map f (filter p (take (k + 1) edges))
  kept_more passes =
      ap (λ (ys : List B). ys ++ f (get_or edges k d) ∷ []) before
      ∙ ap (λ (ys : List B). map f (filter p (take k edges)) ++ ys) (sym (alone true passes)) ∙ one_more

  pub left_more : p (get_or edges k d) ≡ false → made ≡ map f (filter p (take (k + 1) edges))
  left_more fails =
      before ∙ sym (append-nil (map f (filter p (take k edges))))
      ∙ ap (λ (ys : List B). map f (filter p (take k edges)) ++ ys) (sym (alone false fails)) ∙ one_more

runs_count : (kept_round : List ℕ) → length (runs_between kept_round) ≡ length kept_round - 1
runs_count kept_round = omega (arith, length-zip kept_round (drop 1 kept_round), length-drop 1 kept_round)

-- one run more
pub runs_more : {Y : Type 0} (f : ℕ × ℕ → List Y) (kept_round : List ℕ) (run : ℕ) (done next : List Y) → run + 1 < length kept_round
    → done ≡ flat_map f (take run (runs_between kept_round)) → next ≡ done ++ f (get_or kept_round run 0, get_or kept_round (run + 1) 0)
    → next ≡ flat_map f (take (run + 1) (runs_between kept_round))
runs_more f kept_round run done next there before is =
    let rest : get_or (drop 1 kept_round) run 0 ≡ get_or kept_round (run + 1) 0 = get_or-drop 1 kept_round run 0 ∙ ap (λ (k : ℕ). get_or kept_round k 0) {x = 1 + run} {y = run + 1} (omega arith) in
    let pair : get_or (runs_between kept_round) run (0, 0) ≡ (get_or kept_round run 0, get_or kept_round (run + 1) 0) =
    get_or-zip kept_round (drop 1 kept_round) run (0, 0) (omega (arith, there)) (omega (arith, there, length-drop 1 kept_round)) ∙ ap (λ (k : ℕ). (get_or kept_round run 0, k)) rest in
    is
    ∙ rw (
      before,
      take_more (runs_between kept_round) run (0, 0) (omega (arith, there, runs_count kept_round)),
      pair,
      flat_map-append f (take run (runs_between kept_round)) ((get_or kept_round run 0, get_or kept_round (run + 1) 0) ∷ []),
      append-nil (f (get_or kept_round run 0, get_or kept_round (run + 1) 0)),
    ) refl

-- all runs
pub runs_all : (kept_round : List ℕ) (run : ℕ) → length kept_round - 1 ≤ run → take run (runs_between kept_round) ≡ runs_between kept_round
runs_all kept_round run end = take_all run (runs_between kept_round) (omega (arith, end, runs_count kept_round))

-- nothing is left of no contour
pub nothing_left : (error : ℕ) (edges : List UnitEdge) → length edges ≡ 0 → Flat ≡ simplified_of error edges
unfolding simplified_of kept_edges
nothing_left error [] none = refl
nothing_left error (edge ∷ edges) none = absurd (omega (arith, none))

-- flat exactly where fewer than three corners are left
flat_exactly : (error : ℕ) (edges : List UnitEdge) → (simplified_of error edges ≡ Flat) ↔ (length (kept_edges error edges) < 3)
unfolding simplified_of
flat_exactly error edges =
    by_case (nat_lt (length (kept_edges error edges)) 3) refl
  where
    by_case : (test : Bool) → nat_lt (length (kept_edges error edges)) 3 ≡ test
        → ((if test then Flat else Outline (record { corners = beginnings (kept_edges error edges); codes = codes_of (kept_edges error edges) })) ≡ Flat) ↔ (length (kept_edges error edges) < 3)
    by_case true is = ((λ _. ltb-true (length (kept_edges error edges)) 3 is), (λ _. refl))
    by_case false is = ((λ same. absurd cc), (λ few. absurd (omega (arith, few, ltb-false (length (kept_edges error edges)) 3 is))))

pub flat_if : (error : ℕ) (edges : List UnitEdge) (simplified : Simplified) → simplified ≡ simplified_of error edges
    → (simplified ≡ Flat) ↔ (length (kept_edges error edges) < 3)
flat_if error edges simplified is = (λ flat. (flat_exactly error edges).0 (sym is ∙ flat), λ few. is ∙ (flat_exactly error edges).1 few)

-- what is made of the outline's parts
pub simplified_is : (error : ℕ) (edges : List UnitEdge) (outline : outlines.Outline) → outline.corners ≡ beginnings (kept_edges error edges) → outline.codes ≡ codes_of (kept_edges error edges)
    → (if nat_lt (length outline.corners) 3 then Flat else Outline outline) ≡ simplified_of error edges
unfolding simplified_of
simplified_is error edges outline corners codes =
    ap (λ (ps : List Point). if nat_lt (length ps) 3 then Flat else Outline (record { corners = ps; codes = outline.codes })) corners
    ∙ ap (λ (cs : List Code). if nat_lt (length (beginnings (kept_edges error edges))) 3 then Flat else Outline (record { corners = beginnings (kept_edges error edges); codes = cs })) codes
    ∙ ap (λ (n : ℕ). if nat_lt n 3 then Flat else Outline (record { corners = beginnings (kept_edges error edges); codes = codes_of (kept_edges error edges) }))
    (length-map (kept_edges error edges) (λ (edge : UnitEdge). edge.from))

-- the kept corners in another order
pub same_among : (error : ℕ) (edges : List UnitEdge) (sorted : List Point) → IsPermutation (kept_corners error edges) sorted
    → filter (begins_among sorted) edges ≡ kept_edges error edges
unfolding kept_edges
same_among error edges sorted same =
    filter_agree (begins_among sorted) (begins_among (kept_corners error edges))
    (λ (edge : UnitEdge). sym (list_any-IsPermutation (λ (other : Point). is_eq (point_cmp other edge.from)) (kept_corners error edges) sorted same)) edges

pub corners_inside : (edges : List UnitEdge) → IsRing edges → All IsCellCorner (twice_round edges)
corners_inside edges ring = All-append IsCellCorner (beginnings edges) (beginnings edges) ring.inside ring.inside

-- what every outline is
pub outline_is : (error : ℕ) (edges : List UnitEdge) (simplified : Simplified) → IsRing edges → simplified ≡ simplified_of error edges → IfOutline simplified IsOutline
unfolding simplified_of kept_edges
outline_is error edges simplified ring is = subst (λ (s : Simplified). IfOutline s IsOutline) (sym is) (by_case (nat_lt (length (kept_edges error edges)) 3) refl)
  where
    corners : List Point
    corners = beginnings (kept_edges error edges)

    edges_inside : All (λ (edge : UnitEdge). IsCellCorner edge.from) edges
    edges_inside k d there =
        subst IsCellCorner (get_or-map (λ (edge : UnitEdge). edge.from) edges k d (get_or edges k d).from there)
        (ring.inside k (get_or edges k d).from (omega (arith, there, length-map edges (λ (edge : UnitEdge). edge.from))))

    inside : All IsCellCorner corners
    inside =
        All-map IsCellCorner (λ (edge : UnitEdge). edge.from) (kept_edges error edges)
        (All-filter (begins_among (kept_corners error edges)) (λ (edge : UnitEdge). IsCellCorner edge.from) edges edges_inside)

    by_case : (test : Bool) → nat_lt (length (kept_edges error edges)) 3 ≡ test
        → IfOutline (if test then Flat else Outline (record { corners = corners; codes = codes_of (kept_edges error edges) })) IsOutline
    by_case true few = tt
    by_case false many = record {
      cut = record {
        enough = omega (arith, ltb-false (length (kept_edges error edges)) 3 many, length-map (kept_edges error edges) (λ (edge : UnitEdge). edge.from));
        few = omega (
          arith,
          length-map (kept_edges error edges) (λ (edge : UnitEdge). edge.from),
          length-filter (begins_among (kept_corners error edges)) edges,
          count_by-le-length (begins_among (kept_corners error edges)) edges,
          few_edges edges ring,
        );
        points = λ k d there. HasCoordinates-corner (get_or corners k d) (inside k d there);
      };
      coded = omega (arith, length-map (kept_edges error edges) (λ (edge : UnitEdge). edge.from), length-map (kept_edges error edges) (λ (edge : UnitEdge). edge.code));
      inside = inside;
    }
