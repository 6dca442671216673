-- There is one straight way at most between two points, begun in a polygon.
use Rattle.std.proofs.Common.{◌≡◌, ◌≢◌, ℕ, ℤ, pos, ◌≤ℤ◌, ◌<ℤ◌, false, List, [], ◌∷◌, refl, sym, subst, ◌∙◌, arith}
use Rattle.std.specs.Prelude.{Some}
use Rattle.std.specs.Ordering.{is_lt}
use Rattle.std.specs.declared.cmp.Ordering.{Ordering}
use Rattle.std.specs.declared.cmp.Ordering.TheVariants.{Less, Equal, Greater}
use Rattle.std.proofs.lemmas.Int.{ints}
use Rattle.std.proofs.lemmas.Option.{same_Some}
use Rattle.nav_base.specs.declared.point.Point.{Point}
use Rattle.mesh_types.specs.declared.links.Link.{Link}
use Rattle.mesh_types.specs.declared.links.PolyRef.{PolyRef}
use Rattle.mesh_types.specs.declared.mesh.Mesh.{Mesh}
use Rattle.mesh_types.specs.declared.polygon.Polygon.{Polygon}
use Rattle.mesh_types.specs.LinkOrder.{link_cmp}
use Rattle.mesh_types.specs.WholeMesh.{poly_at}
use Rattle.mesh_types.proofs.LinkOrderLaws.{links_tie}
use Rattle.fine_walk.specs.FineRays.{fine_side, FineHolds, IsFineHeld, IsFineExit, IsLeastFineExit, IsNextFine, GoesFine}
use Rattle.fine_walk.specs.Laws.{IsOneWay, AreEndsHeld}

not_before : (o : Ordering) → o ≢ Less → is_lt o ≡ false
not_before Less h = absurd (h refl)
not_before Equal h = refl
not_before Greater h = refl

-- one link at most is the next
pub next_once : (mesh : Mesh) (areas : ℕ) (from to : Point) (at : PolyRef) (visited : List PolyRef) (a b : Link) → IsNextFine mesh areas from to at visited a
    → IsNextFine mesh areas from to at visited b → a ≡ b
next_once mesh areas from to at visited a b is is' =
    links_tie a b (not_before (link_cmp a b) (is'.first a is.leads_on)) (not_before (link_cmp b a) (is.first b is'.leads_on))

-- a polygon that holds a point has no exit toward it
no_exit : (polygon : Polygon) (to : Point) (edge : ℕ) → FineHolds polygon to → IsFineExit polygon to edge → ⊥
no_exit polygon to edge holds exit = apart (fine_side polygon edge to) (holds edge exit.there) exit.beyond
  where
    apart : (n : ℤ) → pos 0 ≤ℤ n → n <ℤ pos 0 → ⊥
    apart n h k = omega (arith, ints)

pub held_no_exit : (mesh : Mesh) (at : PolyRef) (polygon : Polygon) (from to : Point) (edge : ℕ) → IsFineHeld mesh to at → poly_at mesh at ≡ Some polygon
    → IsLeastFineExit polygon from to edge → ⊥
held_no_exit mesh at polygon from to edge held there least =
    no_exit polygon to edge (subst (λ (p : Polygon). FineHolds p to) (same_Some held.polygon polygon (sym held.there ∙ there)) held.holds) least.exit

-- a way goes on over the same links
goes_once : (mesh : Mesh) (areas : ℕ) (from to : Point) (at : PolyRef) (visited : List PolyRef) (links links' : List Link) (last last' : PolyRef)
    → GoesFine mesh areas from to at visited links last → GoesFine mesh areas from to at visited links' last' → links ≡ links'
goes_once mesh areas from to at visited [] [] last last' is is' = refl
goes_once mesh areas from to at visited [] (link ∷ links) last last' is is' =
    absurd (held_no_exit mesh at is'.0.leads_on.polygon from to link.edge is.1 is'.0.leads_on.there is'.0.leads_on.over)
goes_once mesh areas from to at visited (link ∷ links) [] last last' is is' =
    absurd (held_no_exit mesh at is.0.leads_on.polygon from to link.edge is'.1 is.0.leads_on.there is.0.leads_on.over)
goes_once mesh areas from to at visited (link ∷ links) (other ∷ others) last last' is is' =
    let same = next_once mesh areas from to at visited link other is.0 is'.0 in
    let rest =
    goes_once mesh areas from to other.to (other.to ∷ visited) links others last last'
    (subst (λ (l : Link). GoesFine mesh areas from to l.to (l.to ∷ visited) links last) same is.1) is'.1 in
    λ i. same i ∷ rest i

pub one_way : IsOneWay
one_way mesh areas first from to links links' last last' is is' = goes_once mesh areas from to first (first ∷ []) links links' last last' is.goes is'.goes

-- and its end is held
ends_held : (mesh : Mesh) (areas : ℕ) (from to : Point) (at : PolyRef) (visited : List PolyRef) (links : List Link) (last : PolyRef)
    → GoesFine mesh areas from to at visited links last → IsFineHeld mesh to last
ends_held mesh areas from to at visited [] last goes = subst (IsFineHeld mesh to) goes.0 goes.1
ends_held mesh areas from to at visited (link ∷ links) last goes = ends_held mesh areas from to link.to (link.to ∷ visited) links last goes.1

pub end_held : AreEndsHeld
end_held mesh areas first from to links last way = ends_held mesh areas from to first (first ∷ []) links last way.goes
