-- Ends of slides: the start, a nearer one in a polygon, and the nearest in all polygons that a slide looks at.
use Rattle.std.proofs.Common.{◌≡◌, ℕ, ◌+◌, ◌*◌, ◌≤◌, ◌<◌, ◌↔◌, inl, inr, ℤ, ◌-ℤ◌, List, [], ◌∷◌, length, take, get_or, refl, sym, ap, subst, ◌∙◌, arith}
use Rattle.std.specs.Prelude.{Contains, Some, unsigned_abs}
use Rattle.std.proofs.lemmas.Int.{ints}
use Rattle.std.proofs.lemmas.Option.{same_Some}
use Rattle.std.proofs.lemmas.List.{take_more}
use Rattle.std.proofs.lemmas.List.Elements.{Contains-push_cases}
use Rattle.nav_base.specs.declared.point.Point.{Point}
use Rattle.nav_base.specs.Deviation.{square_of}
use Rattle.nav_base.specs.Point.{HasCoordinates, IsInField, from_to}
use Rattle.nav_base.proofs.Sizes.{HasCoordinates-field}
use Rattle.mesh_types.specs.declared.links.Link.{Link}
use Rattle.mesh_types.specs.declared.links.PolyRef.{PolyRef}
use Rattle.mesh_types.specs.declared.mesh.Mesh.{Mesh}
use Rattle.mesh_types.specs.declared.polygon.Polygon.{Polygon}
use Rattle.mesh_types.specs.declared.storeys.MeshPlace.{MeshPlace}
use Rattle.mesh_types.specs.Located.{Holds}
use Rattle.mesh_types.specs.Places.{IsPlace}
use Rattle.mesh_types.specs.Rays.{IsHeldAt}
use Rattle.mesh_types.specs.Soundness.{IsSound}
use Rattle.mesh_types.specs.WholeMesh.{poly_at}
use Rattle.mesh_types.proofs.MeshPolygons.{placed}
use Rattle.mesh_place.proofs.Squares.{square_parts}
use Rattle.wall_slide.specs.declared.discs.Motion.{Motion}
use Rattle.wall_slide.specs.declared.questions.Slide.{Slide}
use Rattle.wall_slide.specs.declared.slides.SlideEnd.{SlideEnd}
use Rattle.wall_slide.specs.Around.{WalksBy}
use Rattle.wall_slide.specs.Ends.{IsEnd, IsNearerEnd, IsNearestEnd, IsNearestIn, IsThere}
use Rattle.wall_slide.specs.Feet.{IsAnywhere, IsNearer}
use Rattle.wall_slide.specs.Slides.{IsFloorTold, IsInReach, IsMotion, IsPassed, IsSlide, LooksAt, StartsIn}
use Rattle.wall_slide.proofs.FootLaws.{held_in_field}

-- a point is not away from itself
pub no_way : (p : Point) → square_of (from_to p p) ≡ 0
no_way p = square_parts (from_to p p) ∙ (λ i. nothing p.x i * nothing p.x i + nothing p.z i * nothing p.z i)
  where
    nothing : (n : ℤ) → unsigned_abs (n -ℤ n) ≡ 0
    nothing n = omega (arith, ints)

module _ (mesh : Mesh) (asked : Slide) (sound : IsSound mesh) (starts : StartsIn mesh asked) where
  abbrev pub motion_of : Motion
  motion_of = record { from = asked.from.point; to = asked.to }

  -- a point that a polygon of the mesh holds lies in the field
  pub in_field : (at : PolyRef) (p : Point) → IsHeldAt mesh p at → IsInField p
  in_field at p held = held_in_field held.polygon p (placed mesh at held.polygon sound held.there).rules held.holds

  pub is_motion : IsMotion motion_of
  is_motion = record { from = in_field asked.from.polygon asked.from.point starts.held; to = starts.to }

  -- the mesh has each polygon that a slide looks at
  there_after : (from at : PolyRef) (links : List Link) → IsThere mesh from → WalksBy (IsPassed mesh asked) mesh from links at → IsThere mesh at
  there_after from at [] there walk = subst (IsThere mesh) walk there
  there_after from at (link ∷ links) there walk = there_after link.to at links (record { polygon = walk.1.0.polygon; is = walk.1.0.there }) walk.3

  pub start_there : IsThere mesh asked.from.polygon
  start_there = record { polygon = starts.held.polygon; is = starts.held.there }

  pub looks_there : (at : PolyRef) → LooksAt mesh asked at → IsThere mesh at
  looks_there at looks = there_after asked.from.polygon at looks.0 start_there looks.1

  pub end_coordinates : (end : SlideEnd) → IsEnd mesh asked end → HasCoordinates end.point
  end_coordinates end is = HasCoordinates-field end.point (in_field end.polygon end.point is.held)

  -- a slide can end where it starts
  pub start_is : IsEnd mesh asked (record { polygon = asked.from.polygon; point = asked.from.point })
  start_is = record { looks = ([], refl); held = starts.held; within = omega (arith, no_way asked.from.point) }

  -- and at its target, where a polygon holds that which it looks at: no end is nearer
  pub target_in : (at : PolyRef) → LooksAt mesh asked at → IsHeldAt mesh asked.to at
      → IsNearestEnd mesh asked (LooksAt mesh asked) (record { polygon = at; point = asked.to })
  target_in at looks held = record {
    is = record { looks = looks; held = held; within = omega arith };
    nearest = λ at' looks' q held' within. omega (arith, no_way asked.to);
  }

  pub target_is : (polygon : Polygon) → poly_at mesh asked.from.polygon ≡ Some polygon → Holds polygon asked.to
      → IsNearestEnd mesh asked (LooksAt mesh asked) (record { polygon = asked.from.polygon; point = asked.to })
  target_is polygon there holds = target_in asked.from.polygon ([], refl) (record { polygon = polygon; there = there; holds = holds })

  -- ---- polygon after polygon

  pub none_yet : (end : SlideEnd) → IsEnd mesh asked end → IsNearestEnd mesh asked (Contains []) end
  none_yet end is = record { is = is; nearest = λ at listed. absurd (omega (arith, listed.1)) }

  pub one_more : (list : List PolyRef) (i : ℕ) (d : PolyRef) (old new : SlideEnd) → i < length list → IsNearestEnd mesh asked (Contains (take i list)) old
      → IsNearerEnd mesh asked (get_or list i d) old new → IsNearestEnd mesh asked (Contains (take (i + 1) list)) new
  one_more list i d old new there so_far more =
      subst (λ (seen : List PolyRef). IsNearestEnd mesh asked (Contains seen) new) (sym (take_more list i d there)) (record {
        is = more.is;
        nearest = λ at listed q held within. elim (Contains-push_cases (take i list) (get_or list i d) at listed) [
          | inl earlier ↦ omega (arith, so_far.nearest at earlier q held within, more.kept)
          | inr same ↦ more.nearest q (subst (IsHeldAt mesh q) (sym same) held) within
        ];
      })

  module _ (at : PolyRef) (polygon : Polygon) (there : poly_at mesh at ≡ Some polygon) (old : SlideEnd) (point : Point)
      (is : IsNearer polygon motion_of old.point point IsAnywhere) where
    nearest : (end : SlideEnd) → end.point ≡ point → IsNearestIn mesh asked end at
    nearest end same q held within =
        let holds : Holds polygon q = subst (λ (p : Polygon). Holds p q) (same_Some held.polygon polygon (sym held.there ∙ there)) held.holds in
        let e : square_of (from_to asked.to end.point) ≡ square_of (from_to asked.to point) = ap (λ (p : Point). square_of (from_to asked.to p)) same in
        omega (arith, e, is.all q (record { holds = holds; within = within }) tt)

    -- what was found stays
    pub stays : IsEnd mesh asked old → point ≡ old.point → IsNearerEnd mesh asked at old old
    stays end same = record { is = end; kept = omega arith; nearest = nearest old (sym same) }

    -- a nearer one is found
    pub found : LooksAt mesh asked at → (point ≡ old.point → ⊥) → IsNearerEnd mesh asked at old (record { polygon = at; point = point })
    found looks apart = record { is = end; kept = is.kept; nearest = nearest (record { polygon = at; point = point }) refl }
      where
        end : IsEnd mesh asked (record { polygon = at; point = point })
        end = elim is.either [
          | inl same ↦ absurd (apart same)
          | inr foot ↦ record { looks = looks; held = record { polygon = polygon; there = there; holds = foot.holds }; within = foot.within }
        ]

  pub among_all : (list : List PolyRef) (end : SlideEnd) → ((at : PolyRef) → Contains list at ↔ LooksAt mesh asked at)
      → IsNearestEnd mesh asked (Contains list) end → IsNearestEnd mesh asked (LooksAt mesh asked) end
  among_all list end all is = record { is = is.is; nearest = λ at looks. is.nearest at ((all at).1 looks) }

  -- the end as a place
  pub is_slide : (end : SlideEnd) (place : MeshPlace) → IsPlace mesh asked.from → IsNearestEnd mesh asked (LooksAt mesh asked) end
      → place.polygon ≡ end.polygon → place.point ≡ end.point → IsFloorTold mesh place → IsSlide mesh asked place
  is_slide end place start is polygon point floor = record {
    start = start;
    looks = subst (LooksAt mesh asked) (sym polygon) is.is.looks;
    held = subst (λ (p : Point). IsHeldAt mesh p place.polygon) (sym point) (subst (IsHeldAt mesh end.point) (sym polygon) is.is.held);
    floor = floor;
    within = subst (IsInReach asked) (sym point) is.is.within;
    nearest = λ at q looks held within.
        subst (λ (p : Point). square_of (from_to asked.to p) ≤ square_of (from_to asked.to q)) (sym point) (is.nearest at looks q held within);
  }

  -- it is no farther from the target than the start
  pub no_farther : (place : MeshPlace) → IsSlide mesh asked place → square_of (from_to asked.to place.point) ≤ square_of (from_to asked.to asked.from.point)
  no_farther place is = is.nearest asked.from.polygon asked.from.point ([], refl) starts.held start_is.within
