-- The ray walk begun in a polygon is determined: any two of its answers are equal.
use Rattle.std.proofs.Common.{◌≡◌, ◌≢◌, ℕ, ℤ, pos, ◌≤ℤ◌, ◌<ℤ◌, false, List, [], ◌∷◌, refl, sym, ap, subst, ◌∙◌, arith}
use Rattle.std.specs.Prelude.{Some}
use Rattle.std.specs.Ordering.{is_lt}
use Rattle.std.specs.declared.cmp.Ordering.{Ordering}
use Rattle.std.specs.declared.cmp.Ordering.TheVariants.{Less, Equal, Greater}
use Rattle.std.proofs.lemmas.Int.{ints}
use Rattle.std.proofs.lemmas.Option.{same_Some}
use Rattle.nav_base.specs.declared.point.Point.{Point}
use Rattle.mesh_types.specs.declared.answers.RayAnswer.{RayAnswer}
use Rattle.mesh_types.specs.declared.answers.RayAnswer.TheVariants.{Reached, Wall}
use Rattle.mesh_types.specs.declared.links.Link.{Link}
use Rattle.mesh_types.specs.declared.links.PolyRef.{PolyRef}
use Rattle.mesh_types.specs.declared.mesh.Mesh.{Mesh}
use Rattle.mesh_types.specs.declared.polygon.Polygon.{Polygon}
use Rattle.mesh_types.specs.LinkOrder.{link_cmp}
use Rattle.mesh_types.specs.Located.{Holds}
use Rattle.mesh_types.specs.Rays.{IsHeldAt, side_of, exit_den, IsExit, IsLeastExit, IsFirstExit, IsNext, EndsIn, GoesOn, IsRayWalk}
use Rattle.mesh_types.specs.Portals.{edge_begin, edge_end}
use Rattle.mesh_types.specs.WholeMesh.{poly_at}
use Rattle.mesh_types.proofs.LinkOrderLaws.{links_tie}

not_before : (o : Ordering) → o ≢ Less → is_lt o ≡ false
not_before Less h = absurd (h refl)
not_before Equal h = refl
not_before Greater h = refl

-- one link at most is the next
next_once : (mesh : Mesh) (from to : Point) (at : PolyRef) (visited : List PolyRef) (a b : Link) → IsNext mesh from to at visited a
    → IsNext mesh from to at visited b → a ≡ b
next_once mesh from to at visited a b is is' =
    links_tie a b (not_before (link_cmp a b) (is'.first a is.leads_on)) (not_before (link_cmp b a) (is.first b is'.leads_on))

-- a polygon that holds a point has no exit toward it
pub no_exit : (polygon : Polygon) (to : Point) (edge : ℕ) → Holds polygon to → IsExit polygon to edge → ⊥
no_exit polygon to edge holds exit = apart (side_of polygon edge to) (holds edge exit.there) exit.beyond
  where
    apart : (n : ℤ) → pos 0 ≤ℤ n → n <ℤ pos 0 → ⊥
    apart n h k = omega (arith, ints)

pub held_no_exit : (mesh : Mesh) (at : PolyRef) (polygon : Polygon) (from to : Point) (edge : ℕ) → IsHeldAt mesh to at → poly_at mesh at ≡ Some polygon
    → IsLeastExit polygon from to edge → ⊥
held_no_exit mesh at polygon from to edge held there least =
    no_exit polygon to edge (subst (λ (p : Polygon). Holds p to) (same_Some held.polygon polygon (sym held.there ∙ there)) held.holds) least.exit

-- one edge at most is the first exit of least fraction
first_once : (polygon : Polygon) (from to : Point) (edge edge' : ℕ) → IsFirstExit polygon from to edge → IsFirstExit polygon from to edge' → edge ≡ edge'
first_once polygon from to edge edge' is is' =
    let up = is.first edge' is'.is_least in
    let down = is'.first edge is.is_least in
    omega (arith, up, down)

-- a walk ends in one way at most
ends_once : (mesh : Mesh) (from to : Point) (at : PolyRef) (visited : List PolyRef) (a b : RayAnswer) → EndsIn mesh from to at visited a
    → EndsIn mesh from to at visited b → a ≡ b
ends_once mesh from to at visited (Reached p) (Reached q) is is' = ap Reached (is.0 ∙ sym is'.0)
ends_once mesh from to at visited (Reached p) (Wall u v m n) is is' = absurd (held_no_exit mesh at is'.polygon from to is'.edge is.1 is'.there is'.exit.is_least)
ends_once mesh from to at visited (Wall u v m n) (Reached p) is is' = absurd (held_no_exit mesh at is.polygon from to is.edge is'.1 is.there is.exit.is_least)
ends_once mesh from to at visited (Wall u v m n) (Wall u' v' m' n') is is' = by_edge
  where
    polygon : is.polygon ≡ is'.polygon
    polygon = same_Some is.polygon is'.polygon (sym is.there ∙ is'.there)

    edge : is.edge ≡ is'.edge
    edge =
        first_once is'.polygon from to is.edge is'.edge (subst (λ (p : Polygon). IsFirstExit p from to is.edge) polygon is.exit) is'.exit

    by_edge : Wall u v m n ≡ Wall u' v' m' n'
    by_edge =
        let begins : u ≡ u' = is.begins ∙ (λ i. edge_begin (polygon i) (edge i)) ∙ sym is'.begins in
        let ends : v ≡ v' = is.ends ∙ (λ i. edge_end (polygon i) (edge i)) ∙ sym is'.ends in
        let num : m ≡ m' = is.num_is ∙ (λ i. side_of (polygon i) (edge i) from) ∙ sym is'.num_is in
        let den : n ≡ n' = is.den_is ∙ (λ i. exit_den (polygon i) from to (edge i)) ∙ sym is'.den_is in
        λ i. Wall (begins i) (ends i) (num i) (den i)

-- where it ends, no link is the next
no_next : (mesh : Mesh) (from to : Point) (at : PolyRef) (visited : List PolyRef) (answer : RayAnswer) (link : Link) → EndsIn mesh from to at visited answer
    → IsNext mesh from to at visited link → ⊥
no_next mesh from to at visited (Reached p) link is next =
    held_no_exit mesh at next.leads_on.polygon from to link.edge is.1 next.leads_on.there next.leads_on.over
no_next mesh from to at visited (Wall u v m n) link is next = is.closed link next.leads_on

-- a walk goes on in one way at most
goes_once : (mesh : Mesh) (from to : Point) (at : PolyRef) (visited : List PolyRef) (links links' : List Link) (a b : RayAnswer)
    → GoesOn mesh from to at visited links a → GoesOn mesh from to at visited links' b → a ≡ b
goes_once mesh from to at visited [] [] a b is is' = ends_once mesh from to at visited a b is is'
goes_once mesh from to at visited [] (link ∷ links) a b is is' = absurd (no_next mesh from to at visited a link is is'.0)
goes_once mesh from to at visited (link ∷ links) [] a b is is' = absurd (no_next mesh from to at visited b link is' is.0)
goes_once mesh from to at visited (link ∷ links) (other ∷ others) a b is is' =
    goes_once mesh from to other.to (other.to ∷ visited) links others a b
    (subst (λ (l : Link). GoesOn mesh from to l.to (l.to ∷ visited) links a) (next_once mesh from to at visited link other is.0 is'.0) is.1) is'.1

pub one_ray_walk : (mesh : Mesh) (first : PolyRef) (from to : Point) (a b : RayAnswer) → IsRayWalk mesh first from to a → IsRayWalk mesh first from to b → a ≡ b
one_ray_walk mesh first from to a b is is' = goes_once mesh from to first (first ∷ []) is.links is'.links a b is.goes is'.goes
