-- Lists over which every sum is the same hold the same elements; for lists of unit edges, which can be told apart.
use Rattle.std.proofs.Common.{◌≡◌, ℕ, ◌+◌, ◌<◌, ◌≤◌, Bool, true, false, cond, List, [], ◌∷◌, ◌++◌, length, get_or, ap, ◌∙◌, sym, refl, subst, arith, suc, inl, inr}
use Rattle.std.specs.Prelude.{◌==◌, ◌&&◌, Decides, take, drop}
use Rattle.std.specs.List.{sum_by}
use Rattle.std.specs.List.Sorted.{IsPermutation}
use Rattle.std.specs.Ordering.{int_eq}
use Rattle.std.proofs.lemmas.Bool.{cases_Bool, cond-true, cond-false, both_ways, and_parts, and_from, eqb-true, eq-eqb}
use Rattle.std.proofs.lemmas.Bool.Decides.{Decides-int_eq}
use Rattle.std.proofs.lemmas.List.{take-append-drop, drop_more}
use Rattle.std.proofs.lemmas.List.Sums.{sum_by-cons, sum_by-append}
use Rattle.std.proofs.lemmas.List.Sorted.{IsPermutation-refl, IsPermutation-sym, IsPermutation-trans, IsPermutation-cons, IsPermutation-middle}
use Rattle.nav_base.specs.declared.point.Point.{Point}
use Rattle.mesh_types.specs.declared.region.UnitEdge.{UnitEdge}
use Rattle.mesh_types.specs.declared.region.Code.{Code}
use Rattle.mesh_types.specs.declared.region.Code.TheVariants.{Wall, Side, Region}
use Rattle.mesh_types.proofs.Counted.{counted, counted_more}

-- where something is counted an element passes
pub counted_some : {X : Type 0} (p : X → Bool) (xs : List X) → 1 ≤ counted p xs → (k : ℕ) × (k < length xs) × ((d : X) → p (get_or xs k d) ≡ true)
counted_some p [] some = absurd (omega (arith, some))
counted_some p (x ∷ xs) some =
    elim (cases_Bool (p x)) [
      | inl here ↦ (0, omega arith, λ d. here)
      | inr not ↦
          let rest = counted_some p xs (omega (arith, some, counted_more p x xs, cond-false {A = ℕ} (p x) 1 0 not)) in
          (suc rest.0, omega (arith, rest.1), rest.2)
    ]

module _ {X : Type 0} (same : X → X → Bool) (tells : (a b : X) → Decides (same a b) (a ≡ b)) where
  pub permuted : (xs ys : List X) → ((g : X → ℕ) → sum_by g xs ≡ sum_by g ys) → IsPermutation xs ys
  permuted [] [] sums = IsPermutation-refl []
  permuted [] (y ∷ ys) sums = absurd (omega (arith, sums (λ x. 1), sum_by-cons (λ x. 1) y ys))
  permuted (x ∷ xs) ys sums =
      let found = counted_some (same x) ys
      (omega (arith, sums (λ y. cond (same x y) 1 0), counted_more (same x) x xs, cond-true {A = ℕ} (same x x) 1 0 ((tells x x).1 refl))) in
      let k = found.0 in
      let is : x ≡ get_or ys k x = (tells x (get_or ys k x)).0 (found.2 x) in
      let front = take k ys in
      let back = drop (k + 1) ys in
      let parts : ys ≡ front ++ x ∷ back =
      sym (take-append-drop k ys) ∙ ap (λ (zs : List X). take k ys ++ zs) (drop_more ys k x found.1) ∙ ap (λ z. front ++ z ∷ back) (sym is) in
      let rest : (g : X → ℕ) → sum_by g xs ≡ sum_by g (front ++ back) = λ g.
      omega (
        arith,
        sums g,
        ap (sum_by g) parts,
        sum_by-cons g x xs,
        sum_by-append g front (x ∷ back),
        sum_by-cons g x back,
        sum_by-append g front back,
      ) in
      let P : List X → Type 0 = λ zs. IsPermutation (x ∷ xs) zs in
      subst P (sym parts)
      (IsPermutation-trans (x ∷ xs) (x ∷ (front ++ back)) (front ++ x ∷ back) (IsPermutation-cons x xs (front ++ back) (permuted xs (front ++ back) rest))
      (IsPermutation-sym (front ++ x ∷ back) (x ∷ (front ++ back)) (IsPermutation-middle front x back)))

-- unit edges can be told apart
abbrev same_code : Code → Code → Bool
same_code Wall Wall = true
same_code (Region a) (Region b) = a == b
same_code (Side a) (Side b) = a == b
same_code a b = false

abbrev number_of : Code → ℕ
number_of Wall = 0
number_of (Region n) = n
number_of (Side n) = n

abbrev kind_of : Code → ℕ
kind_of Wall = 0
kind_of (Region n) = 1
kind_of (Side n) = 2

tells_code : (a b : Code) → Decides (same_code a b) (a ≡ b)
tells_code Wall Wall = (λ h. refl, λ e. refl)
tells_code Wall (Region b) = (λ h. absurd (both_ways false refl h), λ e. absurd (omega (arith, ap kind_of e)))
tells_code Wall (Side b) = (λ h. absurd (both_ways false refl h), λ e. absurd (omega (arith, ap kind_of e)))
tells_code (Region a) Wall = (λ h. absurd (both_ways false refl h), λ e. absurd (omega (arith, ap kind_of e)))
tells_code (Region a) (Region b) = (λ h. ap (λ n. Region n) (eqb-true a b h), λ e. eq-eqb a b (ap number_of e))
tells_code (Region a) (Side b) = (λ h. absurd (both_ways false refl h), λ e. absurd (omega (arith, ap kind_of e)))
tells_code (Side a) Wall = (λ h. absurd (both_ways false refl h), λ e. absurd (omega (arith, ap kind_of e)))
tells_code (Side a) (Region b) = (λ h. absurd (both_ways false refl h), λ e. absurd (omega (arith, ap kind_of e)))
tells_code (Side a) (Side b) = (λ h. ap (λ n. Side n) (eqb-true a b h), λ e. eq-eqb a b (ap number_of e))

abbrev same_point : Point → Point → Bool
same_point p q = int_eq p.x q.x && int_eq p.z q.z

tells_point : (p q : Point) → Decides (same_point p q) (p ≡ q)
tells_point p q = (
  λ h.
      let parts = and_parts (int_eq p.x q.x) (int_eq p.z q.z) h in
      let x = (Decides-int_eq p.x q.x).0 parts.0 in
      let z = (Decides-int_eq p.z q.z).0 parts.1 in
      ap (λ k. record { x = k; z = p.z }) x ∙ ap (λ k. record { x = q.x; z = k }) z,
  λ e. and_from (int_eq p.x q.x) (int_eq p.z q.z) ((Decides-int_eq p.x q.x).1 (ap (λ (r : Point). r.x) e)) ((Decides-int_eq p.z q.z).1 (ap (λ (r : Point). r.z) e)),
)

abbrev same_edge : UnitEdge → UnitEdge → Bool
same_edge a b = same_point a.from b.from && (same_point a.to b.to && same_code a.code b.code)

tells_edge : (a b : UnitEdge) → Decides (same_edge a b) (a ≡ b)
tells_edge a b = (
  λ h.
      let first = and_parts (same_point a.from b.from) (same_point a.to b.to && same_code a.code b.code) h in
      let more = and_parts (same_point a.to b.to) (same_code a.code b.code) first.1 in
      ap (λ p. record { from = p; to = a.to; code = a.code }) ((tells_point a.from b.from).0 first.0)
      ∙ ap (λ p. record { from = b.from; to = p; code = a.code }) ((tells_point a.to b.to).0 more.0)
      ∙ ap (λ c. record { from = b.from; to = b.to; code = c }) ((tells_code a.code b.code).0 more.1),
  λ e.
      and_from (same_point a.from b.from) (same_point a.to b.to && same_code a.code b.code)
      ((tells_point a.from b.from).1 (ap (λ (r : UnitEdge). r.from) e))
      (and_from (same_point a.to b.to) (same_code a.code b.code)
      ((tells_point a.to b.to).1 (ap (λ (r : UnitEdge). r.to) e))
      ((tells_code a.code b.code).1 (ap (λ (r : UnitEdge). r.code) e))),
)

pub edges_permuted : (xs ys : List UnitEdge) → ((g : UnitEdge → ℕ) → sum_by g xs ≡ sum_by g ys) → IsPermutation xs ys
edges_permuted xs ys sums = permuted same_edge tells_edge xs ys sums
