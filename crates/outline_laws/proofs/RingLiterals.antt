-- Rings that are written out: tests by computation show that they are rings of unit steps.
use Rattle.std.proofs.Common.{◌≡◌, ◌≤◌, Bool, true, List, [], ◌∷◌, length, arith, ap, ◌∙◌, sym, pos}
use Rattle.std.specs.Prelude.{All, not, ◌&&◌, ◌==◌}
use Rattle.std.specs.List.{AllPairs, list_all}
use Rattle.std.specs.Ordering.{is_eq}
use Rattle.std.specs.Int.Signed.{le_z, le_z_yes}
use Rattle.std.proofs.lemmas.Bool.{and_parts, both_ways, eqb-true, not-true}
use Rattle.std.proofs.lemmas.Cmp.{tied_itself}
use Rattle.std.proofs.lemmas.Float.{T_from_true}
use Rattle.std.proofs.lemmas.List.Elements.{All-nil, All-cons}
use Rattle.std.proofs.lemmas.List.Kept.{AllPairs-cons}
use Rattle.nav_base.specs.declared.point.Point.{Point}
use Rattle.nav_base.specs.Deviation.{square_of}
use Rattle.nav_base.specs.Point.{IsCellCorner, from_to}
use Rattle.mesh_types.specs.declared.region.UnitEdge.{UnitEdge}
use Rattle.mesh_types.specs.LinkOrder.{point_cmp}
use Rattle.mesh_types.specs.Rings.{AreApart, IsClosed, beginnings}
use Rattle.mesh_types.proofs.LinkOrderLaws.{point_total}
use Rattle.outline_laws.specs.UnitRings.{IsUnitRing, IsUnitStep}

abbrev are_apart : Point → Point → Bool
are_apart a b = not (is_eq (point_cmp a b))

apart_shown : (a b : Point) → are_apart a b ≡ true → AreApart a b
apart_shown a b test same = both_ways (is_eq (point_cmp a b)) (not-true (is_eq (point_cmp a b)) test) (ap is_eq (ap (point_cmp a) (sym same) ∙ tied_itself point_total a))

all_shown : {X : Type 0} (p : X → Bool) (P : X → Type 0) → ((x : X) → p x ≡ true → P x) → (xs : List X) → list_all p xs ≡ true → All P xs
all_shown p P shown [] test = All-nil P
all_shown p P shown (x ∷ xs) test =
    let parts = and_parts (p x) (list_all p xs) test in
    All-cons P x xs (shown x parts.0) (all_shown p P shown xs parts.1)

abbrev all_apart : List Point → Bool
all_apart [] = true
all_apart (p ∷ ps) = list_all (are_apart p) ps && all_apart ps

all_apart_shown : (ps : List Point) → all_apart ps ≡ true → AllPairs AreApart ps
all_apart_shown [] test = λ i j d before there. absurd (omega (arith, there))
all_apart_shown (p ∷ ps) test =
    let parts = and_parts (list_all (are_apart p) ps) (all_apart ps) test in
    AllPairs-cons AreApart p ps (all_shown (are_apart p) (AreApart p) (apart_shown p) ps parts.0) (all_apart_shown ps parts.1)

abbrev is_inside : Point → Bool
is_inside p = (le_z (pos 0) p.x && le_z p.x (pos 1024)) && (le_z (pos 0) p.z && le_z p.z (pos 1024))

inside_shown : (p : Point) → is_inside p ≡ true → IsCellCorner p
inside_shown p test =
    let parts = and_parts (le_z (pos 0) p.x && le_z p.x (pos 1024)) (le_z (pos 0) p.z && le_z p.z (pos 1024)) test in
    let across = and_parts (le_z (pos 0) p.x) (le_z p.x (pos 1024)) parts.0 in
    let along = and_parts (le_z (pos 0) p.z) (le_z p.z (pos 1024)) parts.1 in
    record {
      left = le_z_yes (T_from_true (le_z (pos 0) p.x) across.0);
      right = le_z_yes (T_from_true (le_z p.x (pos 1024)) across.1);
      bottom = le_z_yes (T_from_true (le_z (pos 0) p.z) along.0);
      top = le_z_yes (T_from_true (le_z p.z (pos 1024)) along.1);
    }

pub ring_shown : (edges : List UnitEdge) → IsClosed edges → all_apart (beginnings edges) ≡ true
    → list_all (λ (edge : UnitEdge). are_apart edge.from edge.to) edges ≡ true → list_all is_inside (beginnings edges) ≡ true
    → list_all (λ (edge : UnitEdge). square_of (from_to edge.from edge.to) == 1) edges ≡ true → 3 ≤ length edges → IsUnitRing edges
ring_shown edges closed apart moving inside steps enough = record {
  ring = record {
    closed = closed;
    apart = all_apart_shown (beginnings edges) apart;
    moving = all_shown (λ (edge : UnitEdge). are_apart edge.from edge.to) (λ (edge : UnitEdge). AreApart edge.from edge.to)
        (λ (edge : UnitEdge) test. apart_shown edge.from edge.to test) edges moving;
    inside = all_shown is_inside IsCellCorner inside_shown (beginnings edges) inside;
  };
  steps = all_shown (λ (edge : UnitEdge). square_of (from_to edge.from edge.to) == 1) IsUnitStep
      (λ (edge : UnitEdge) test. record { one = eqb-true (square_of (from_to edge.from edge.to)) 1 test }) edges steps;
  enough = enough;
}
