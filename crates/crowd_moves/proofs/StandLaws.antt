-- Who stands is clear of all who stand: the moves with which a step begins.
use Rattle.std.proofs.Common.{◌≡◌, ℕ, ◌*◌, ◌≤◌, Bool, true, false, pos, ◌+ℤ◌, ◌*ℤ◌, List, [], ◌∷◌, ◌++◌, map, take, length, get_or, ◌+◌, ◌<◌, refl, sym, subst, ap, ◌∙◌, inl, inr, arith}
use Rattle.std.specs.Prelude.{All, unsigned_abs, nat_le, ◌||◌, if◌then◌else◌, slice_get, Some}
use Rattle.std.proofs.lemmas.Int.{unsigned_abs-mul}
use Rattle.std.proofs.lemmas.Bool.{cases_lt}
use Rattle.std.proofs.lemmas.List.{length-map, get_or-map, map_more, take_all}
use Rattle.std.proofs.lemmas.Nat.{mul-le}
use Rattle.std.proofs.lemmas.Option.{slice_get_within, get_or_from_slice_get}
use Rattle.nav_base.specs.declared.point.Point.{Point}
use Rattle.nav_base.specs.Point.{dot_of, from_to}
use Rattle.nav_base.specs.Deviation.{square_of}
use Rattle.nav_base.proofs.Polynomials.{Term, at, number, sum, difference, product, equal}
use Rattle.crowd_moves.specs.declared.agents.CrowdAgent.{CrowdAgent}
use Rattle.crowd_moves.specs.declared.agents.CrowdMove.{CrowdMove}
use Rattle.crowd_moves.specs.Beyond.{place_along}
use Rattle.crowd_moves.specs.Pairs.{are_storeys_apart, gap_of, touching_square, square_between, standing, HasSizes, IsClear}
use Rattle.crowd_moves.specs.Steps.{AreMoves, MayMove}

-- the distance of two that stand is the same all the while
same_distance : (p : Point) (num den : ℕ) → square_of (place_along p (from_to (record { x = pos 0; z = pos 0 }) (record { x = pos 0; z = pos 0 })) num den) ≡ square_of p * (den * den)
unfolding dot_of
same_distance p num den =
    ap unsigned_abs (equal (p.x ∷ p.z ∷ pos num ∷ pos den ∷ [])
    (sum (product (part 0) (part 0)) (product (part 1) (part 1)))
    (product (sum (product (at 0) (at 0)) (product (at 1) (at 1))) (product (at 3) (at 3))) refl)
    ∙ unsigned_abs-mul (p.x *ℤ p.x +ℤ p.z *ℤ p.z) (pos den *ℤ pos den)
    ∙ ap (λ (n : ℕ). unsigned_abs (p.x *ℤ p.x +ℤ p.z *ℤ p.z) * n) (unsigned_abs-mul (pos den) (pos den))
  where
    part : ℕ → Term
    part k = sum (product (at 3) (at k)) (product (at 2) (difference (number (pos 0)) (number (pos 0))))

standing_clear : (height : ℕ) (a b : CrowdAgent) → IsClear height a b (standing a) (standing b)
standing_clear height a b = by_storeys (are_storeys_apart height a.low a.high b.low b.high) refl
  where
    most : (m n : ℕ) → nat_le m n ≡ true → m ≤ n
    most m n is = grind arith

    chosen : (v : Bool) → nat_le (touching_square a b) (square_between a b) ≡ v → (if v then touching_square a b else square_between a b) ≤ square_between a b
    chosen true is = most (touching_square a b) (square_between a b) is
    chosen false is = omega arith

    gap_is : (v : Bool) → are_storeys_apart height a.low a.high b.low b.high ≡ false → nat_le (touching_square a b) (square_between a b) ≡ v
        → gap_of height a b ≡ (if v then touching_square a b else square_between a b)
    gap_is v storeys is = λ i. if storeys i || is i then touching_square a b else square_between a b

    within : are_storeys_apart height a.low a.high b.low b.high ≡ false → gap_of height a b ≤ square_between a b
    within storeys =
        subst (λ (gap : ℕ). gap ≤ square_between a b) (sym (gap_is _ storeys refl)) (chosen (nat_le (touching_square a b) (square_between a b)) refl)

    by_storeys : (v : Bool) → are_storeys_apart height a.low a.high b.low b.high ≡ v → IsClear height a b (standing a) (standing b)
    by_storeys true is = inl is
    by_storeys false is = inr (λ num den some most'.
        subst (λ (square : ℕ). gap_of height a b * (den * den) ≤ square) (sym (same_distance (from_to a.at b.at) num den))
        (mul-le (gap_of height a b) (den * den) (square_between a b) (den * den) (within is) (omega arith)))

no_way : (speed : ℕ) → square_of (record { x = pos 0; z = pos 0 }) ≤ speed * speed
unfolding dot_of
no_way speed = omega arith

pub stands_clear : (lets : CrowdAgent → CrowdMove → Type 0) (height : ℕ) (agents : List CrowdAgent) → All HasSizes agents
    → ((i : ℕ) (a : CrowdAgent) → slice_get agents i ≡ Some a → lets a (standing a)) → AreMoves lets height agents (map standing agents)
stands_clear lets height agents sizes let_stand = record {
  one_each = length-map agents standing;
  may = λ i m is_m a is_a. subst (MayMove lets a) (sym (stands i a m is_a is_m)) (record {
    mover = record {
      sizes = subst HasSizes (get_or_from_slice_get agents i a a is_a) (sizes i a (slice_get_within agents i a is_a));
      slow = no_way a.speed;
    };
    way = let_stand i a is_a;
  });
  clear = λ i m is_m j a b n apart is_a is_b is_n.
      subst (λ (x : CrowdMove). IsClear height a b x n) (sym (stands i a m is_a is_m))
      (subst (λ (x : CrowdMove). IsClear height a b (standing a) x) (sym (stands j b n is_b is_n)) (standing_clear height a b));
}
  where
    stands : (i : ℕ) (a : CrowdAgent) (m : CrowdMove) → slice_get agents i ≡ Some a → slice_get (map standing agents) i ≡ Some m → m ≡ standing a
    stands i a m is_a is_m =
        sym (get_or_from_slice_get (map standing agents) i m m is_m) ∙ get_or-map standing agents i a m (slice_get_within agents i a is_a)
        ∙ ap standing (get_or_from_slice_get agents i a a is_a)

-- what the loop has: the moves so far stand, and are let
pub record AreStanding (lets : CrowdAgent → CrowdMove → Type 0) (agents : List CrowdAgent) (count : ℕ) (moves : List CrowdMove) : Type 0 where
  pub made : moves ≡ map standing (take count agents)
  pub let_stand : (i : ℕ) (a : CrowdAgent) → i < count → slice_get agents i ≡ Some a → lets a (standing a)

pub stands_more : (lets : CrowdAgent → CrowdMove → Type 0) (agents : List CrowdAgent) (count : ℕ) (moves new : List CrowdMove) (m : CrowdMove) (d : CrowdAgent)
    → AreStanding lets agents count moves → count < length agents → m ≡ standing (get_or agents count d) → lets (get_or agents count d) m
    → new ≡ moves ++ m ∷ [] → AreStanding lets agents (count + 1) new
stands_more lets agents count moves new m d before there is lent is_new = record {
  made = is_new ∙ (λ i. before.made i ++ is i ∷ []) ∙ sym (map_more standing agents count d there);
  let_stand = λ k a below is_a. elim (cases_lt k count) [
    | inl less ↦ before.let_stand k a less is_a
    | inr most ↦
        let last : k ≡ count = omega (arith, most, below) in
        let own : get_or agents count d ≡ a = get_or_from_slice_get agents count a d (subst (λ (n : ℕ). slice_get agents n ≡ Some a) last is_a) in
        subst (λ (x : CrowdAgent). lets x (standing x)) own (subst (lets (get_or agents count d)) is lent)
  ];
}

pub stands_all : (lets : CrowdAgent → CrowdMove → Type 0) (agents : List CrowdAgent) (count : ℕ) (moves : List CrowdMove) → AreStanding lets agents count moves
    → length agents ≤ count → moves ≡ map standing agents
stands_all lets agents count moves standing' all = standing'.made ∙ ap (map standing) (take_all count agents all)
