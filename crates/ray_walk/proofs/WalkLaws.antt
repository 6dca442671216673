-- A walk on its way: what was visited, and what the rest of the walk answers the whole does.
use Rattle.std.proofs.Common.{◌≡◌, ℕ, ◌<◌, ◌↔◌, ◌⊎◌, Bool, true, false, cond, List, [], ◌∷◌, refl, sym, subst, ap, ◌∙◌, inl, inr}
use Rattle.std.specs.Prelude.{Contains, IsTrue, Some, None, not}
use Rattle.std.specs.BTreeMap.{is_at}
use Rattle.std.specs.BTreeSet.{BTreeSet, Updates}
use Rattle.std.specs.List.{count_by}
use Rattle.std.specs.Ordering.{nat_cmp}
use Rattle.std.proofs.lemmas.Bool.{both_ways}
use Rattle.std.proofs.lemmas.Map.Lookups.{exact_pairs, exact_unsigned}
use Rattle.std.proofs.lemmas.Map.Views.{tells_apart}
use Rattle.std.proofs.lemmas.Option.{same_Some}
use Rattle.nav_base.specs.Point.{HasCoordinates}
use Rattle.mesh_types.specs.declared.answers.RayAnswer.{RayAnswer}
use Rattle.mesh_types.specs.declared.answers.RayAnswer.TheVariants.{Reached}
use Rattle.mesh_types.specs.declared.links.Link.{Link}
use Rattle.mesh_types.specs.declared.links.PolyRef.{PolyRef}
use Rattle.mesh_types.specs.declared.mesh.Mesh.{Mesh}
use Rattle.mesh_types.specs.declared.polygon.Polygon.{Polygon}
use Rattle.mesh_types.specs.Located.{Holds}
use Rattle.mesh_types.specs.Rays.{IsHeldAt, IsLeastExit, LeadsOn, GoesOn, IsRayWalk}
use Rattle.mesh_types.specs.Soundness.{IsSound}
use Rattle.mesh_types.specs.WholeMesh.{poly_at}
use Rattle.mesh_types.proofs.WalkChains.{held_in_coordinates}
use Rattle.ray_walk.specs.declared.raycast.Ray.{Ray}
use Rattle.ray_walk.specs.declared.raycast.Exit.{Exit}
use Rattle.ray_walk.specs.Walking.{HasEnds, IsEntered, IsFirstOf, IsFirstAmong, IsOnward, links_from, is_visited, pair_cmp, wall_of}
use Rattle.ray_walk.proofs.Entering.{IsEnteredAt, begun, next_entered}
use Rattle.ray_walk.proofs.LeavingLinks.{leaving, leaving_listed}
use Rattle.ray_walk.proofs.Members.{contains_cases, contains_first, contains_later, contains_none}
use Rattle.ray_walk.proofs.Visits.{polygons_of, is_one, one_less}

-- ---- what was visited

-- the set n has one polygon more than s
abbrev pub IsAdded : BTreeSet (ℕ × ℕ) → BTreeSet (ℕ × ℕ) → PolyRef → Type 0
IsAdded s n new = (p : PolyRef) → IsTrue (is_visited n p) ↔ ((new ≡ p) ⊎ IsTrue (is_visited s p))

pub added : (s n : BTreeSet (ℕ × ℕ)) (new : PolyRef) → Updates pair_cmp s n (new.tile, new.index) true → IsAdded s n new
added s n new updates p = by_case (is_at (pair_cmp (new.tile, new.index)) (p.tile, p.index)) refl (updates.0 (p.tile, p.index))
  where
    by_case : (b : Bool) → is_at (pair_cmp (new.tile, new.index)) (p.tile, p.index) ≡ b → is_visited n p ≡ cond b true (is_visited s p)
        → IsTrue (is_visited n p) ↔ ((new ≡ p) ⊎ IsTrue (is_visited s p))
    by_case true is there = (
      λ h. inl (ap (λ (at : ℕ × ℕ). record { tile = at.0; index = at.1 })
          (tells_apart (exact_pairs nat_cmp nat_cmp exact_unsigned exact_unsigned) (new.tile, new.index) (p.tile, p.index) is)),
      λ h. there,
    )
    by_case false is there = (
      λ h. inr (sym there ∙ h),
      λ either. elim either [ inl same ↦ subst (λ (q : PolyRef). IsTrue (is_visited n q)) same updates.1 | inr earlier ↦ there ∙ earlier ],
    )

-- the set has these polygons
abbrev pub HasThese : BTreeSet (ℕ × ℕ) → List PolyRef → Type 0
HasThese s polygons = (p : PolyRef) → IsTrue (is_visited s p) ↔ Contains polygons p

one_visited : (s n : BTreeSet (ℕ × ℕ)) (new : PolyRef) (polygons : List PolyRef) → IsAdded s n new → HasThese s polygons → HasThese n (new ∷ polygons)
one_visited s n new polygons more has p = (
  λ there. elim ((more p).0 there) [
    | inl same ↦ subst (Contains (new ∷ polygons)) same (contains_first new polygons)
    | inr earlier ↦ contains_later new p polygons ((has p).0 earlier)
  ],
  λ held. (more p).1 (elim (contains_cases new p polygons held) [ inl same ↦ inl same | inr earlier ↦ inr ((has p).1 earlier) ]),
)

-- ---- links that lead on

-- a ray from a point that a polygon holds has ends with coordinates
pub has_ends : (mesh : Mesh) (first : PolyRef) (ray : Ray) → IsSound mesh → IsHeldAt mesh ray.from first → HasCoordinates ray.to → HasEnds ray
has_ends mesh first ray sound held to = record {
  from = held_in_coordinates mesh first ray.from sound (record { polygon = held.polygon; there = held.there; holds = held.holds });
  to = to;
}

module _ (mesh : Mesh) (ray : Ray) (here : PolyRef) (polygon : Polygon) (s : BTreeSet (ℕ × ℕ)) (visited : List PolyRef) (sound : IsSound mesh)
    (there : poly_at mesh here ≡ Some polygon) (has : HasThese s visited) where
  abbrev on : (link : Link) → Contains (links_from mesh here) link × IsOnward polygon ray s link → LeadsOn mesh ray.from ray.to here visited link
  on link is =
      let listed = leaving mesh here link sound is.0 in
      record {
        listed = listed.listed;
        leaves = listed.leaves;
        polygon = polygon;
        there = there;
        over = is.1.over;
        meets = is.1.meets;
        fresh = λ held. both_ways _ is.1.fresh ((has link.to).1 held);
      }

  from_on : (link : Link) → LeadsOn mesh ray.from ray.to here visited link → Contains (links_from mesh here) link × IsOnward polygon ray s link
  from_on link is = (
    leaving_listed mesh here link is.listed is.leaves,
    record {
      over = subst (λ (p : Polygon). IsLeastExit p ray.from ray.to link.edge) (same_Some is.polygon polygon (sym is.there ∙ there)) is.over;
      meets = is.meets;
      fresh = untrue _ (λ held. is.fresh ((has link.to).0 held));
    },
  )
    where
      untrue : (b : Bool) → (IsTrue b → ⊥) → b ≡ false
      untrue true h = absurd (h refl)
      untrue false h = refl

-- ---- the way

-- a walk begun in a polygon has come to another, which it has not noted yet
pub record IsOnWay (mesh : Mesh) (first : PolyRef) (ray : Ray) (s : BTreeSet (ℕ × ℕ)) (here : PolyRef) : Type 0 where
  pub before : List PolyRef
  pub has : HasThese s before
  pub fresh : is_visited s here ≡ false
  pub entered : IsEnteredAt mesh ray here
  pub rest : (links : List Link) (answer : RayAnswer) → GoesOn mesh ray.from ray.to here (here ∷ before) links answer → IsRayWalk mesh first ray.from ray.to answer

pub sets_out : (mesh : Mesh) (first : PolyRef) (ray : Ray) (s : BTreeSet (ℕ × ℕ)) → s.keys ≡ [] → IsHeldAt mesh ray.from first → IsOnWay mesh first ray s first
sets_out mesh first ray s none held = record {
  before = [];
  has = λ p. (λ is. absurd (both_ways _ (nothing p) is), λ is. absurd (contains_none p is));
  fresh = nothing first;
  entered = begun mesh ray first held;
  rest = λ links answer goes. record { links = links; goes = goes };
}
  where
    nothing : (p : PolyRef) → is_visited s p ≡ false
    nothing p = ap (λ (keys : List (ℕ × ℕ)). is_visited (record { keys = keys }) p) none

module _ (mesh : Mesh) (first : PolyRef) (ray : Ray) (s n : BTreeSet (ℕ × ℕ)) (here : PolyRef) (polygon : Polygon) (sound : IsSound mesh)
    (way : IsOnWay mesh first ray s here) (there : poly_at mesh here ≡ Some polygon) (more : IsAdded s n here) where
  pub still_entered : IsEntered polygon ray
  still_entered = subst (λ (p : Polygon). IsEntered p ray) (same_Some way.entered.polygon polygon (sym way.entered.there ∙ there)) way.entered.entered

  -- it ends where the polygon holds the point
  pub arrives : Holds polygon ray.to → IsRayWalk mesh first ray.from ray.to (Reached here)
  arrives holds = way.rest [] (Reached here) (refl, record { polygon = polygon; there = there; holds = holds })

  noted : HasThese n (here ∷ way.before)
  noted = one_visited s n here way.before more way.has

  -- or at a wall
  pub is_stopped : (exit : Exit) → IsFirstOf polygon ray exit → IsFirstAmong (λ link. Contains (links_from mesh here) link × IsOnward polygon ray n link) None
      → IsRayWalk mesh first ray.from ray.to (wall_of polygon exit)
  is_stopped exit is none =
      way.rest [] (wall_of polygon exit) (record {
        polygon = polygon;
        there = there;
        edge = exit.edge;
        exit = is.is;
        begins = refl;
        ends = refl;
        num_is = is.over.num;
        den_is = is.over.den;
        closed = λ link on. none link (from_on mesh ray here polygon n (here ∷ way.before) sound there noted link on);
      })

  -- or goes on over the next link
  pub goes_on : (link : Link) → IsFirstAmong (λ link. Contains (links_from mesh here) link × IsOnward polygon ray n link) (Some link)
      → IsOnWay mesh first ray n link.to
  goes_on link next =
      let leads_on = on mesh ray here polygon n (here ∷ way.before) sound there noted link next.0 in
      record {
        before = here ∷ way.before;
        has = noted;
        fresh = next.0.1.fresh;
        entered =
            next_entered mesh ray link polygon sound leads_on.listed (ap (poly_at mesh) leads_on.leaves ∙ there) still_entered leads_on.over.exit leads_on.meets;
        rest = λ links answer goes. way.rest (link ∷ links) answer (
          record {
            leads_on = leads_on;
            first = λ other is. next.1 other (from_on mesh ray here polygon n (here ∷ way.before) sound there noted other is);
          },
          goes,
        );
      }

  -- fewer polygons are left
  pub fewer_left : count_by (λ p. not (is_visited n p)) (polygons_of mesh) < count_by (λ p. not (is_visited s p)) (polygons_of mesh)
  fewer_left =
      one_less (λ p. not (is_visited s p)) (λ p. not (is_visited n p)) (polygons_of mesh) here still (ap not way.fresh) (ap not ((more here).1 (inl refl)))
      (is_one mesh here sound (record { polygon = polygon; is = there }))
    where
      unseen : (b c : Bool) → (IsTrue c → IsTrue b) → not b ≡ true → not c ≡ true
      unseen true c h is = absurd cc
      unseen false true h is = absurd (both_ways false refl (h refl))
      unseen false false h is = refl

      still : (p : PolyRef) → not (is_visited n p) ≡ true → not (is_visited s p) ≡ true
      still p is = unseen (is_visited n p) (is_visited s p) (λ seen. (more p).1 (inr seen)) is
