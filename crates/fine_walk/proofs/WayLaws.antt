-- A straight way as far as it has come: what was visited, what goes on from there is the whole, and the whole goes on from there.
use Rattle.std.proofs.Common.{◌≡◌, ℕ, ◌+◌, ◌<◌, ◌≤◌, ◌↔◌, List, [], ◌∷◌, ◌++◌, length, refl, sym, subst, ap, ◌∙◌, inl, inr, arith, append_assoc, append-nil, length-append}
use Rattle.std.specs.Prelude.{Contains, Some, None, min, max}
use Rattle.std.proofs.lemmas.Option.{same_Some}
use Rattle.std.proofs.lemmas.List.Elements.{Contains-append_left, Contains-push, Contains-push_cases}
use Rattle.mesh_types.specs.declared.links.Link.{Link}
use Rattle.mesh_types.specs.declared.links.PolyRef.{PolyRef}
use Rattle.mesh_types.specs.declared.mesh.Mesh.{Mesh}
use Rattle.mesh_types.specs.declared.polygon.Polygon.{Polygon}
use Rattle.mesh_types.specs.FitTiles.{IsPolygon}
use Rattle.mesh_types.specs.Soundness.{IsSound}
use Rattle.mesh_types.specs.WholeMesh.{poly_at}
use Rattle.mesh_types.proofs.MeshPolygons.{placed}
use Rattle.fine_walk.specs.declared.exits.FineRay.{FineRay}
use Rattle.fine_walk.specs.declared.exits.FineExit.{FineExit}
use Rattle.fine_walk.specs.declared.passing.FineWay.{FineWay}
use Rattle.fine_walk.specs.FineRays.{FineHolds, IsFineHeld, IsLeastFineExit, LeadsFine, IsNextFine, GoesFine, HasFineWay, low_at, high_at, low_over, high_over}
use Rattle.fine_walk.specs.Laws.{IsToldWay}
use Rattle.fine_walk.specs.Passing.{IsEntered, IsFirstIn, IsLeastOf, IsOnward, links_from, passed_over}
use Rattle.fine_walk.proofs.Entering.{IsEnteredAt, begun, next_entered}
use Rattle.fine_walk.proofs.LeavingLinks.{leaving, leaving_listed}
use Rattle.fine_walk.proofs.Members.{contains_cases, contains_first, contains_later}
use Rattle.fine_walk.proofs.OneWay.{next_once, held_no_exit}

-- ---- what was visited

-- two lists have the same elements
abbrev pub HasThese : List PolyRef → List PolyRef → Type 0
HasThese xs ys = (p : PolyRef) → Contains xs p ↔ Contains ys p

one_visited : (xs ys : List PolyRef) (new : PolyRef) → HasThese xs ys → HasThese (xs ++ new ∷ []) (new ∷ ys)
one_visited xs ys new same p = (
  λ held. elim (Contains-push_cases xs new p held) [
    | inl earlier ↦ contains_later new p ys ((same p).0 earlier)
    | inr is ↦ subst (Contains (new ∷ ys)) is (contains_first new ys)
  ],
  λ held. elim (contains_cases new p ys held) [
    | inl is ↦ subst (Contains (xs ++ new ∷ [])) is (Contains-push xs new)
    | inr earlier ↦ Contains-append_left xs (new ∷ []) p ((same p).1 earlier)
  ],
)

-- ---- links that lead on

module _ (mesh : Mesh) (areas : ℕ) (ray : FineRay) (here : PolyRef) (polygon : Polygon) (seen visited : List PolyRef) (sound : IsSound mesh)
    (there : poly_at mesh here ≡ Some polygon) (has : HasThese seen visited) where
  abbrev on : (link : Link) → Contains (links_from mesh here) link → IsOnward mesh areas polygon ray seen link → LeadsFine mesh areas ray.from ray.to here visited link
  on link listed is =
      let leaves = leaving mesh here link sound listed in
      record {
        listed = leaves.listed;
        leaves = leaves.leaves;
        polygon = polygon;
        there = there;
        over = is.over;
        meets = is.meets;
        fresh = λ held. is.fresh ((has link.to).1 held);
        enters = is.enters;
      }

  listed_on : (link : Link) → LeadsFine mesh areas ray.from ray.to here visited link → Contains (links_from mesh here) link
  listed_on link is = leaving_listed mesh here link is.listed is.leaves

  from_on : (link : Link) → LeadsFine mesh areas ray.from ray.to here visited link → IsOnward mesh areas polygon ray seen link
  from_on link is = record {
    over = subst (λ (p : Polygon). IsLeastFineExit p ray.from ray.to link.edge) (same_Some is.polygon polygon (sym is.there ∙ there)) is.over;
    meets = is.meets;
    fresh = λ held. is.fresh ((has link.to).0 held);
    enters = is.enters;
  }

-- ---- the way

-- what is left of a whole way, behind the links so far
pub record IsLeft (mesh : Mesh) (areas : ℕ) (ray : FineRay) (here : PolyRef) (visited : List PolyRef) (links all : List Link) (last : PolyRef) : Type 0 where
  pub more : List Link
  pub is : all ≡ links ++ more
  pub goes : GoesFine mesh areas ray.from ray.to here visited more last

-- a way begun in a polygon has come to another, which it has not noted yet
pub record IsOnWay (mesh : Mesh) (areas : ℕ) (first : PolyRef) (ray : FineRay) (seen : List PolyRef) (way : FineWay) (count : ℕ) : Type 0 where
  pub before : List PolyRef
  pub links : List Link
  pub has : HasThese seen before
  pub passed : length links ≡ count
  pub entered : IsEnteredAt mesh ray way.last
  pub rest : (more : List Link) (last : PolyRef) → GoesFine mesh areas ray.from ray.to way.last (way.last ∷ before) more last
      → GoesFine mesh areas ray.from ray.to first (first ∷ []) (links ++ more) last
  pub only : (all : List Link) (last : PolyRef) → GoesFine mesh areas ray.from ray.to first (first ∷ []) all last
      → IsLeft mesh areas ray way.last (way.last ∷ before) links all last
  pub low : (more : List Link) → low_over mesh first (links ++ more) ≡ min way.low (low_over mesh way.last more)
  pub high : (more : List Link) → high_over mesh first (links ++ more) ≡ max way.high (high_over mesh way.last more)

-- the floors of a polygon that is there
low_is : (mesh : Mesh) (at : PolyRef) (polygon : Polygon) → poly_at mesh at ≡ Some polygon → low_at mesh at ≡ polygon.low
low_is mesh at polygon there = rw there refl

high_is : (mesh : Mesh) (at : PolyRef) (polygon : Polygon) → poly_at mesh at ≡ Some polygon → high_at mesh at ≡ polygon.high
high_is mesh at polygon there = rw there refl

-- no floor that is passed over is above that of the first polygon
low_at_most : (mesh : Mesh) (at : PolyRef) (links : List Link) → low_over mesh at links ≤ low_at mesh at
low_at_most mesh at [] = omega arith
low_at_most mesh at (link ∷ links) = least (low_at mesh at) (low_over mesh link.to links)
  where
    least : (m n : ℕ) → min m n ≤ m
    least m n = omega arith

pub sets_out : (mesh : Mesh) (areas : ℕ) (first : PolyRef) (ray : FineRay) → IsSound mesh → IsFineHeld mesh ray.from first
    → IsOnWay mesh areas first ray [] (record { last = first; low = 4294967295; high = 0 }) 0
sets_out mesh areas first ray sound held = record {
  before = [];
  links = [];
  has = λ p. (λ h. h, λ h. h);
  passed = refl;
  entered = begun mesh ray first held;
  rest = λ more last goes. goes;
  only = λ all last goes. record { more = all; is = refl; goes = goes };
  low = λ more. small (low_over mesh first more) (low_at mesh first) held.polygon.low held.polygon.high (low_at_most mesh first more)
      (low_is mesh first held.polygon held.there) rules.floors rules.high;
  high = λ more. most (high_over mesh first more);
}
  where
    rules : IsPolygon held.polygon
    rules = (placed mesh first held.polygon sound held.there).rules

    small : (n m l h : ℕ) → n ≤ m → m ≡ l → l ≤ h → h ≤ 8191 → n ≡ min 4294967295 n
    small n m l h p e q r = omega arith

    most : (n : ℕ) → n ≡ max 0 n
    most n = omega arith

module _ (mesh : Mesh) (areas : ℕ) (first : PolyRef) (ray : FineRay) (seen : List PolyRef) (way : FineWay) (count : ℕ) (polygon : Polygon) (sound : IsSound mesh)
    (come : IsOnWay mesh areas first ray seen way count) (there : poly_at mesh way.last ≡ Some polygon) where
  pub still_entered : IsEntered polygon ray
  still_entered = subst (λ (p : Polygon). IsEntered p ray) (same_Some come.entered.polygon polygon (sym come.entered.there ∙ there)) come.entered.entered

  abbrev noted : HasThese (seen ++ way.last ∷ []) (way.last ∷ come.before)
  noted = one_visited seen come.before way.last come.has

  -- a link that is the next leads on
  abbrev leads_on : (link : Link) → IsFirstIn (IsOnward mesh areas polygon ray (seen ++ way.last ∷ [])) (links_from mesh way.last) (Some link)
      → LeadsFine mesh areas ray.from ray.to way.last (way.last ∷ come.before) link
  leads_on link next = on mesh areas ray way.last polygon (seen ++ way.last ∷ []) (way.last ∷ come.before) sound there noted link next.0 next.1

  -- it ends where the polygon holds the point
  pub arrives : count < 24 → FineHolds polygon ray.to → IsToldWay mesh areas first ray.from ray.to (passed_over way polygon)
  arrives few holds = record {
    links = come.links;
    way = record {
      goes = subst (λ (all : List Link). GoesFine mesh areas ray.from ray.to first (first ∷ []) all way.last) (append-nil come.links)
          (come.rest [] way.last (refl, record { polygon = polygon; there = there; holds = holds }));
      few = omega (arith, come.passed, few);
    };
    low = sym (ap (low_over mesh first) (sym (append-nil come.links)) ∙ come.low [] ∙ ap (min way.low) (low_is mesh way.last polygon there));
    high = sym (ap (high_over mesh first) (sym (append-nil come.links)) ∙ come.high [] ∙ ap (max way.high) (high_is mesh way.last polygon there));
  }

  -- it goes on over the next link
  pub goes_on : (link : Link) → IsFirstIn (IsOnward mesh areas polygon ray (seen ++ way.last ∷ [])) (links_from mesh way.last) (Some link)
      → IsOnWay mesh areas first ray (seen ++ way.last ∷ []) (record { last = link.to; low = min way.low polygon.low; high = max way.high polygon.high }) (count + 1)
  goes_on link next = record {
    before = way.last ∷ come.before;
    links = come.links ++ link ∷ [];
    has = noted;
    passed = omega (arith, come.passed, length-append come.links (link ∷ []));
    entered =
        let leads = leads_on link next in
        next_entered mesh ray link polygon sound leads.listed (ap (poly_at mesh) leads.leaves ∙ there) still_entered leads.over.exit leads.meets;
    rest = λ more last goes. subst (λ (all : List Link). GoesFine mesh areas ray.from ray.to first (first ∷ []) all last) (sym (append_assoc come.links (link ∷ []) more))
        (come.rest (link ∷ more) last (is_next, goes));
    only = λ all last goes. left all last (come.only all last goes);
    low = λ more. ap (low_over mesh first) (append_assoc come.links (link ∷ []) more) ∙ come.low (link ∷ more)
        ∙ least way.low (low_at mesh way.last) polygon.low (low_over mesh link.to more) (low_is mesh way.last polygon there);
    high = λ more. ap (high_over mesh first) (append_assoc come.links (link ∷ []) more) ∙ come.high (link ∷ more)
        ∙ most way.high (high_at mesh way.last) polygon.high (high_over mesh link.to more) (high_is mesh way.last polygon there);
  }
    where
      is_next : IsNextFine mesh areas ray.from ray.to way.last (way.last ∷ come.before) link
      is_next = record {
        leads_on = leads_on link next;
        first = λ other is. next.2 other (listed_on mesh areas ray way.last polygon (seen ++ way.last ∷ []) (way.last ∷ come.before) sound there noted other is)
            (from_on mesh areas ray way.last polygon (seen ++ way.last ∷ []) (way.last ∷ come.before) sound there noted other is);
      }

      least : (b m l n : ℕ) → m ≡ l → min b (min m n) ≡ min (min b l) n
      least b m l n r = omega arith

      most : (b m l n : ℕ) → m ≡ l → max b (max m n) ≡ max (max b l) n
      most b m l n r = omega arith

      left : (all : List Link) (last : PolyRef) → IsLeft mesh areas ray way.last (way.last ∷ come.before) come.links all last
          → IsLeft mesh areas ray link.to (link.to ∷ way.last ∷ come.before) (come.links ++ link ∷ []) all last
      left all last is = by_rest is.more is.is is.goes
        where
          by_rest : (more : List Link) → all ≡ come.links ++ more → GoesFine mesh areas ray.from ray.to way.last (way.last ∷ come.before) more last
              → IsLeft mesh areas ray link.to (link.to ∷ way.last ∷ come.before) (come.links ++ link ∷ []) all last
          by_rest [] same goes = absurd (held_no_exit mesh way.last polygon ray.from ray.to link.edge goes.1 there (leads_on link next).over)
          by_rest (other ∷ more) same goes =
              let one = next_once mesh areas ray.from ray.to way.last (way.last ∷ come.before) other link goes.0 is_next in
              record {
                more = more;
                is = same ∙ ap (λ (l : Link). come.links ++ l ∷ more) one ∙ sym (append_assoc come.links (link ∷ []) more);
                goes = subst (λ (l : Link). GoesFine mesh areas ray.from ray.to l.to (l.to ∷ way.last ∷ come.before) more last) one goes.1;
              }

  -- or stops at a wall, and there is no way
  pub is_stopped : (exit : FineExit) → IsLeastOf polygon ray exit → IsFirstIn (IsOnward mesh areas polygon ray (seen ++ way.last ∷ [])) (links_from mesh way.last) None
      → HasFineWay mesh areas first ray.from ray.to → ⊥
  is_stopped exit is none has = by_left (come.only has.links has.last has.way.goes)
    where
      by_rest : (more : List Link) (last : PolyRef) → GoesFine mesh areas ray.from ray.to way.last (way.last ∷ come.before) more last → ⊥
      by_rest [] last goes = held_no_exit mesh way.last polygon ray.from ray.to exit.edge goes.1 there is.is
      by_rest (link ∷ more) last goes =
          none link (listed_on mesh areas ray way.last polygon (seen ++ way.last ∷ []) (way.last ∷ come.before) sound there noted link goes.0.leads_on)
          (from_on mesh areas ray way.last polygon (seen ++ way.last ∷ []) (way.last ∷ come.before) sound there noted link goes.0.leads_on)

      by_left : IsLeft mesh areas ray way.last (way.last ∷ come.before) come.links has.links has.last → ⊥
      by_left left = by_rest left.more has.last left.goes

-- or has come over as many polygons as it may, and there is none
pub too_many : (mesh : Mesh) (areas : ℕ) (first : PolyRef) (ray : FineRay) (seen : List PolyRef) (way : FineWay) (count : ℕ)
    → IsOnWay mesh areas first ray seen way count → 24 ≤ count → HasFineWay mesh areas first ray.from ray.to → ⊥
too_many mesh areas first ray seen way count come many has =
    let left = come.only has.links has.last has.way.goes in
    omega (arith, come.passed, many, has.way.few, ap length left.is, length-append come.links left.more)
