-- The mesh as a space: who stands may stand, and by one vector there is one move.
use Rattle.std.proofs.Common.{◌≡◌, ℕ, ◌^◌, false, ℤ, pos, ◌+ℤ◌, List, [], ◌∷◌, refl, sym, subst, ap, ◌∙◌, arith}
use Rattle.std.specs.Prelude.{Option, Some}
use Rattle.std.specs.Option.{option_map_or}
use Rattle.std.proofs.lemmas.Int.{ints}
use Rattle.nav_base.specs.declared.point.Point.{Point}
use Rattle.nav_base.specs.Point.{IsWithin}
use Rattle.mesh_types.specs.declared.links.Link.{Link}
use Rattle.mesh_types.specs.declared.links.PolyRef.{PolyRef}
use Rattle.mesh_types.specs.declared.mesh.Mesh.{Mesh}
use Rattle.mesh_types.specs.declared.polygon.Polygon.{Polygon}
use Rattle.mesh_types.specs.WholeMesh.{poly_at}
use Rattle.fine_walk.specs.declared.passing.FineWay.{FineWay}
use Rattle.fine_walk.specs.FineRays.{FineHolds, GoesFine, low_at, high_at, low_over, high_over}
use Rattle.fine_walk.specs.Laws.{DoesEndInside, IsOneWay, IsToldWay}
use Rattle.crowd_moves.specs.declared.agents.CrowdAgent.{CrowdAgent}
use Rattle.crowd_moves.specs.declared.agents.CrowdMove.{CrowdMove}
use Rattle.crowd_moves.specs.Pairs.{standing}
use Rattle.crowd_filter.specs.CrowdAgents.{added, way_of, IsCrowdAgent, MayWalk}

abbrev pub no_vector : Point
no_vector = record { x = pos 0; z = pos 0 }

-- no vector leads to the same point
pub stays_put : (p : Point) → added p no_vector ≡ p
stays_put p = λ i. record { x = none p.x i; z = none p.z i }
  where
    none : (n : ℤ) → n +ℤ pos 0 ≡ n
    none n = omega (arith, ints)

pub low_there : (mesh : Mesh) (at : PolyRef) (polygon : Polygon) → poly_at mesh at ≡ Some polygon → low_at mesh at ≡ polygon.low
low_there mesh at polygon there = ap (λ (found : Option Polygon). option_map_or (λ (d : Polygon). d.low) found 0) there

pub high_there : (mesh : Mesh) (at : PolyRef) (polygon : Polygon) → poly_at mesh at ≡ Some polygon → high_at mesh at ≡ polygon.high
high_there mesh at polygon there = ap (λ (found : Option Polygon). option_map_or (λ (d : Polygon). d.high) found 0) there

pub may_stand : (mesh : Mesh) (a : CrowdAgent) → DoesEndInside → IsCrowdAgent mesh a → MayWalk mesh a (standing a)
may_stand mesh a inside agent = record {
  stands = λ _. refl;
  walks = λ walks.
      let held = agent.held walks in
      record {
        links = [];
        way = inside mesh a.areas a.polygon a.at (added a.at no_vector) (record {
          polygon = held.polygon;
          there = held.there;
          holds = subst (FineHolds held.polygon) (sym (stays_put a.at)) held.holds;
        });
        low = held.low ∙ sym (low_there mesh a.polygon held.polygon held.there);
        high = held.high ∙ sym (high_there mesh a.polygon held.polygon held.there);
      };
  fits = subst (IsWithin (2 ^ 20)) (sym (stays_put a.at)) agent.sizes.at;
}

-- where a way ends is told by its links
same_end : (mesh : Mesh) (areas : ℕ) (from to : Point) (at : PolyRef) (visited : List PolyRef) (links : List Link) (last last' : PolyRef)
    → GoesFine mesh areas from to at visited links last → GoesFine mesh areas from to at visited links last' → last ≡ last'
same_end mesh areas from to at visited [] last last' g h = sym g.0 ∙ h.0
same_end mesh areas from to at visited (link ∷ links) last last' g h = same_end mesh areas from to link.to (link.to ∷ visited) links last last' g.1 h.1

same_told : (mesh : Mesh) (areas : ℕ) (at : PolyRef) (from to : Point) (told told' : FineWay) → IsOneWay → IsToldWay mesh areas at from to told
    → IsToldWay mesh areas at from to told' → told ≡ told'
same_told mesh areas at from to told told' one way way' =
    let links = one mesh areas at from to way.links way'.links told.last told'.last way.way way'.way in
    let last = same_end mesh areas from to at (at ∷ []) way'.links told.last told'.last
    (subst (λ (l : List Link). GoesFine mesh areas from to at (at ∷ []) l told.last) links way.way.goes) way'.way.goes in
    let low = way.low ∙ ap (low_over mesh at) links ∙ sym way'.low in
    let high = way.high ∙ ap (high_over mesh at) links ∙ sym way'.high in
    (λ i. record { last = last i; low = low i; high = high i })

pub one_move : (mesh : Mesh) (a : CrowdAgent) (by to : Point) (way : FineWay) (other : CrowdMove) → IsOneWay → to ≡ added a.at by
    → IsToldWay mesh a.areas a.polygon a.at to way → a.stranded ≡ false → other.by ≡ by → MayWalk mesh a other
    → other ≡ record { by = by; to = way.last; low = way.low; high = way.high }
one_move mesh a by to way other one is_to told walks is other_may =
    let same = same_told mesh a.areas a.polygon a.at to (way_of other) way one
    (subst (λ (p : Point). IsToldWay mesh a.areas a.polygon a.at p (way_of other)) (ap (added a.at) is ∙ sym is_to) (other_may.walks walks)) told in
    (λ i. record { by = is i; to = (same i).last; low = (same i).low; high = (same i).high })
