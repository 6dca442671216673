-- Exits of least fraction: the order of exit fractions, and what a pass over the edges keeps.
use Rattle.std.proofs.Common.{◌≡◌, ℕ, ◌+◌, ◌<◌, ℤ, pos, ◌+ℤ◌, ◌-ℤ◌, ◌*ℤ◌, ◌≤ℤ◌, ◌<ℤ◌, [], ◌∷◌, length, refl, sym, subst, inl, inr, arith}
use Rattle.std.specs.Prelude.{Option, Some, None}
use Rattle.std.proofs.lemmas.Bool.{cases_lt}
use Rattle.std.proofs.lemmas.Int.{ints, by_lt_z}
use Rattle.nav_base.proofs.Polynomials.{at, sum, difference, product, equal}
use Rattle.nav_base.proofs.Signs.{product-not_negative, product-positive, factor-not_negative, factor-positive}
use Rattle.mesh_types.specs.declared.polygon.Polygon.{Polygon}
use Rattle.fine_walk.specs.FineRays.{fine_side, fine_den, FineHolds, IsFineExit, IsLeastFineExit}
use Rattle.fine_walk.specs.declared.exits.FineRay.{FineRay}
use Rattle.fine_walk.specs.declared.exits.FineExit.{FineExit}
use Rattle.fine_walk.specs.Passing.{IsEntered, IsExitOver, IsEarliest, IsFirstBefore, IsLeastOf}

-- ---- fractions a / p, b / q and c / r, whose denominators are above 0

-- the order of the first two and the order of the last two give that of the first and the last
crosswise : (a p b q c r : ℤ) → r *ℤ (b *ℤ p -ℤ a *ℤ q) +ℤ p *ℤ (c *ℤ q -ℤ b *ℤ r) ≡ q *ℤ (c *ℤ p -ℤ a *ℤ r)
crosswise a p b q c r =
    equal (a ∷ p ∷ b ∷ q ∷ c ∷ r ∷ [])
    (sum (product (at 5) (difference (product (at 2) (at 1)) (product (at 0) (at 3)))) (product (at 1) (difference (product (at 4) (at 3)) (product (at 2) (at 5)))))
    (product (at 3) (difference (product (at 4) (at 1)) (product (at 0) (at 5)))) refl

weak : (x : ℤ) → pos 0 <ℤ x → pos 0 ≤ℤ x
weak x h = omega (arith, ints)

apart : (x y : ℤ) → x ≤ℤ y → pos 0 ≤ℤ (y -ℤ x)
apart x y h = omega (arith, ints)

apart_lt : (x y : ℤ) → x <ℤ y → pos 0 <ℤ (y -ℤ x)
apart_lt x y h = omega (arith, ints)

together : (x y : ℤ) → pos 0 ≤ℤ (y -ℤ x) → x ≤ℤ y
together x y h = omega (arith, ints)

together_lt : (x y : ℤ) → pos 0 <ℤ (y -ℤ x) → x <ℤ y
together_lt x y h = omega (arith, ints)

both : (x y : ℤ) → pos 0 ≤ℤ x → pos 0 ≤ℤ y → pos 0 ≤ℤ (x +ℤ y)
both x y h k = omega (arith, ints)

both_lt : (x y : ℤ) → pos 0 <ℤ x → pos 0 ≤ℤ y → pos 0 <ℤ (x +ℤ y)
both_lt x y h k = omega (arith, ints)

pub chain_le : (a p b q c r : ℤ) → pos 0 <ℤ p → pos 0 <ℤ q → pos 0 <ℤ r → (a *ℤ q) ≤ℤ (b *ℤ p) → (b *ℤ r) ≤ℤ (c *ℤ q) → (a *ℤ r) ≤ℤ (c *ℤ p)
chain_le a p b q c r hp hq hr h k =
    together (a *ℤ r) (c *ℤ p) (factor-not_negative q _ hq (subst (λ (n : ℤ). pos 0 ≤ℤ n) (crosswise a p b q c r)
    (both _ _ (product-not_negative r _ (weak r hr) (apart _ _ h)) (product-not_negative p _ (weak p hp) (apart _ _ k)))))

pub chain_lt : (a p b q c r : ℤ) → pos 0 <ℤ p → pos 0 <ℤ q → pos 0 <ℤ r → (a *ℤ q) <ℤ (b *ℤ p) → (b *ℤ r) ≤ℤ (c *ℤ q) → (a *ℤ r) <ℤ (c *ℤ p)
chain_lt a p b q c r hp hq hr h k =
    together_lt (a *ℤ r) (c *ℤ p) (factor-positive q _ hq (subst (λ (n : ℤ). pos 0 <ℤ n) (crosswise a p b q c r)
    (both_lt _ _ (product-positive r _ hr (apart_lt _ _ h)) (product-not_negative p _ (weak p hp) (apart _ _ k)))))

moved_le : (x y x' y' : ℤ) → x ≡ x' → y ≡ y' → x ≤ℤ y → x' ≤ℤ y'
moved_le x y x' y' e f h = omega (arith, ints)

not_less : (x y : ℤ) → (x <ℤ y → ⊥) → y ≤ℤ x
not_less x y h = by_lt_z x y (λ less. absurd (h less)) (λ most. most)

at_most : (x y : ℤ) → x <ℤ y → x ≤ℤ y
at_most x y h = omega (arith, ints)

clash : (x y : ℤ) → x <ℤ y → y ≤ℤ x → ⊥
clash x y h k = omega (arith, ints)

-- ---- a pass over the edges of a polygon that is entered

module _ (polygon : Polygon) (ray : FineRay) (entered : IsEntered polygon ray) where
  -- the denominator of an exit's fraction is above 0
  positive : (edge : ℕ) → IsFineExit polygon ray.to edge → pos 0 <ℤ fine_den polygon ray.from ray.to edge
  positive edge exit = above (fine_side polygon edge ray.from) (fine_side polygon edge ray.to) (entered edge exit) exit.beyond
    where
      above : (a b : ℤ) → pos 0 ≤ℤ a → b <ℤ pos 0 → pos 0 <ℤ (a -ℤ b)
      above a b h k = omega (arith, ints)

  -- of the edges before the next one, this is the last or an earlier one
  last_or_before : (P : ℕ → Type 0) (edge other : ℕ) → other < edge + 1 → (other < edge → P other) → P edge → P other
  last_or_before P edge other there before last =
      elim (cases_lt other edge) [ inl less ↦ before less | inr most ↦ subst P (omega (arith, most, there)) last ]

  -- an edge that is no exit changes nothing
  pub not_exit : (edge : ℕ) (first : Option FineExit) → IsFirstBefore polygon ray edge first → (IsFineExit polygon ray.to edge → ⊥)
      → IsFirstBefore polygon ray (edge + 1) first
  not_exit edge None found never = λ other there. last_or_before (λ e. IsFineExit polygon ray.to e → ⊥) edge other there (found other) never
  not_exit edge (Some exit) found never = record {
    over = found.over;
    least = λ other there.
        last_or_before (λ e. IsFineExit polygon ray.to e → (exit.num *ℤ fine_den polygon ray.from ray.to e) ≤ℤ (fine_side polygon e ray.from *ℤ exit.den)) edge other
        there (found.least other) (λ is. absurd (never is));
  }

  own : (edge : ℕ) (exit : FineExit) → IsExitOver polygon ray edge exit → IsExitOver polygon ray exit.edge exit
  own edge exit over = subst (λ (e : ℕ). IsExitOver polygon ray e exit) (sym over.place) over

  exit_positive : (edge : ℕ) (exit : FineExit) → IsExitOver polygon ray edge exit → pos 0 <ℤ exit.den
  exit_positive edge exit over = subst (λ (n : ℤ). pos 0 <ℤ n) (sym over.den) (positive edge over.is)

  -- an exit is not later than an edge
  abbrev NotLater : FineExit → ℕ → Type 0
  NotLater exit edge = (exit.num *ℤ fine_den polygon ray.from ray.to edge) ≤ℤ (fine_side polygon edge ray.from *ℤ exit.den)

  -- nor than its own
  itself : (edge : ℕ) (exit : FineExit) → IsExitOver polygon ray edge exit → NotLater exit edge
  itself edge exit over = same _ _ (λ i. over.num i *ℤ sym over.den i)
    where
      same : (a b : ℤ) → a ≡ b → a ≤ℤ b
      same a b e = omega (arith, ints)

  -- the first exit of all
  pub first_found : (edge : ℕ) (exit : FineExit) → IsFirstBefore polygon ray edge None → IsExitOver polygon ray edge exit → IsEarliest polygon ray (edge + 1) exit
  first_found edge exit none over = record {
    over = own edge exit over;
    least = λ other there.
        last_or_before (λ e. IsFineExit polygon ray.to e → NotLater exit e) edge other there (λ before is. absurd (none other before is)) (λ is. itself edge exit over);
  }

  -- an exit of lesser fraction takes the place of the one before
  pub taken : (edge : ℕ) (exit before : FineExit) → IsEarliest polygon ray edge before → IsExitOver polygon ray edge exit
      → (exit.num *ℤ before.den) <ℤ (before.num *ℤ exit.den) → IsEarliest polygon ray (edge + 1) exit
  taken edge exit before found over less = record {
    over = own edge exit over;
    least = λ other there.
        last_or_before (λ e. IsFineExit polygon ray.to e → NotLater exit e) edge other there (λ earlier is. at_most _ _ (beats other earlier is))
        (λ is. itself edge exit over);
  }
    where
      beats : (other : ℕ) → other < edge → IsFineExit polygon ray.to other
          → (exit.num *ℤ fine_den polygon ray.from ray.to other) <ℤ (fine_side polygon other ray.from *ℤ exit.den)
      beats other earlier is =
          chain_lt exit.num exit.den before.num before.den (fine_side polygon other ray.from) (fine_den polygon ray.from ray.to other) (exit_positive edge exit over)
          (exit_positive before.edge before found.over) (positive other is) less (found.least other earlier is)

  -- any other leaves it
  pub left : (edge : ℕ) (exit before : FineExit) → IsEarliest polygon ray edge before → IsExitOver polygon ray edge exit
      → ((exit.num *ℤ before.den) <ℤ (before.num *ℤ exit.den) → ⊥) → IsEarliest polygon ray (edge + 1) before
  left edge exit before found over never = record {
    over = found.over;
    least = λ other there.
        last_or_before (λ e. IsFineExit polygon ray.to e → NotLater before e) edge other there (found.least other)
        (λ is. moved_le _ _ _ _ (λ i. before.num *ℤ over.den i) (λ i. over.num i *ℤ before.den) (not_less _ _ never));
  }

  -- after the last edge
  pub none_left : IsFirstBefore polygon ray (length polygon.corners) None → FineHolds polygon ray.to
  none_left none edge there =
      by_lt_z (fine_side polygon edge ray.to) (pos 0) (λ beyond. absurd (none edge there (record { there = there; beyond = beyond }))) (λ held. held)

  pub found_least : (exit : FineExit) → IsEarliest polygon ray (length polygon.corners) exit → IsLeastOf polygon ray exit
  found_least exit found = record {
    over = found.over;
    is = record {
      exit = found.over.is;
      least = λ other is.
          moved_le _ _ _ _ (λ i. found.over.num i *ℤ fine_den polygon ray.from ray.to other) (λ i. fine_side polygon other ray.from *ℤ found.over.den i)
          (found.least other is.there is);
    };
  }

  -- ---- an exit beside the first of least fraction

  -- one that is not greater is of least fraction too
  pub as_low : (edge : ℕ) (exit known : FineExit) → IsLeastOf polygon ray known → IsExitOver polygon ray edge exit
      → ((known.num *ℤ exit.den) <ℤ (exit.num *ℤ known.den) → ⊥) → IsLeastFineExit polygon ray.from ray.to edge
  as_low edge exit known first over never = record {
    exit = over.is;
    least = λ other is.
        chain_le (fine_side polygon edge ray.from) (fine_den polygon ray.from ray.to edge) (fine_side polygon known.edge ray.from)
        (fine_den polygon ray.from ray.to known.edge) (fine_side polygon other ray.from) (fine_den polygon ray.from ray.to other) (positive edge over.is)
        (positive known.edge first.over.is) (positive other is)
        (moved_le _ _ _ _ (λ i. over.num i *ℤ first.over.den i) (λ i. first.over.num i *ℤ over.den i) (not_less _ _ never)) (first.is.least other is);
  }

  -- and one of least fraction is not greater
  pub not_above : (edge : ℕ) (exit known : FineExit) → IsLeastOf polygon ray known → IsExitOver polygon ray edge exit → IsLeastFineExit polygon ray.from ray.to edge
      → (known.num *ℤ exit.den) <ℤ (exit.num *ℤ known.den) → ⊥
  not_above edge exit known first over least less =
      clash _ _ less
      (moved_le _ _ _ _ (λ i. sym over.num i *ℤ sym first.over.den i) (λ i. sym first.over.num i *ℤ sym over.den i) (least.least known.edge first.over.is))
