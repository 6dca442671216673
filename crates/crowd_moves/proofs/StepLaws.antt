-- The moves of a step: who stands is right, and a move that is free may take the place of the one before it.
use Rattle.std.proofs.Common.{◌≡◌, ◌≢◌, ℕ, ◌+◌, ◌*◌, ◌<◌, ◌≤◌, ◌↔◌, Bool, true, false, pos, IsTrue, List, [], ◌∷◌, length, set, get_or, refl, sym, subst, ap, ◌∙◌, inl, inr, arith, length-set}
use Rattle.std.specs.Prelude.{unsigned_abs, nat_le, ◌||◌, if◌then◌else◌, slice_get, Some}
use Rattle.std.proofs.lemmas.Bool.{cases_lt}
use Rattle.std.proofs.lemmas.List.{get_or-set_same, get_or-set_other}
use Rattle.std.proofs.lemmas.Option.{slice_get_within, slice_get-get_or, get_or_from_slice_get}
use Rattle.nav_base.specs.declared.point.Point.{Point}
use Rattle.nav_base.specs.Point.{dot_of, from_to}
use Rattle.nav_base.specs.Deviation.{square_of}
use Rattle.nav_base.proofs.Polynomials.{Term, at, sum, difference, product, equal}
use Rattle.crowd_moves.specs.declared.agents.CrowdAgent.{CrowdAgent}
use Rattle.crowd_moves.specs.declared.agents.CrowdMove.{CrowdMove}
use Rattle.crowd_moves.specs.Beyond.{place_along}
use Rattle.crowd_moves.specs.Pairs.{gap_of, is_apart, touching_square, IsClear, IsMover, IsNear}
use Rattle.crowd_moves.specs.Steps.{MayMove, MayMoveAt, IsFree, AreMovers, AreMoves, IsMoverAt, IsAlone, IsClearBeside}
use Rattle.crowd_moves.specs.Contacts.{begin_at, end_at, AreContacts}
use Rattle.crowd_moves.proofs.PairLaws.{far_clear, near_or_far}

-- ---- seen from the other

or_turned : (x y : Bool) → (x || y) ≡ (y || x)
or_turned true true = refl
or_turned true false = refl
or_turned false true = refl
or_turned false false = refl

square_turned : (p q : Point) → square_of (from_to p q) ≡ square_of (from_to q p)
unfolding dot_of
square_turned p q =
    ap unsigned_abs (equal (p.x ∷ p.z ∷ q.x ∷ q.z ∷ [])
    (sum (product (difference (at 2) (at 0)) (difference (at 2) (at 0))) (product (difference (at 3) (at 1)) (difference (at 3) (at 1))))
    (sum (product (difference (at 0) (at 2)) (difference (at 0) (at 2))) (product (difference (at 1) (at 3)) (difference (at 1) (at 3)))) refl)

along_turned : (p q u v : Point) (num den : ℕ)
    → square_of (place_along (from_to p q) (from_to u v) num den) ≡ square_of (place_along (from_to q p) (from_to v u) num den)
unfolding dot_of
along_turned p q u v num den =
    ap unsigned_abs (equal (p.x ∷ p.z ∷ q.x ∷ q.z ∷ u.x ∷ u.z ∷ v.x ∷ v.z ∷ pos num ∷ pos den ∷ [])
    (sum (product (part 2 0 6 4) (part 2 0 6 4)) (product (part 3 1 7 5) (part 3 1 7 5)))
    (sum (product (part 0 2 4 6) (part 0 2 4 6)) (product (part 1 3 5 7) (part 1 3 5 7))) refl)
  where
    part : ℕ → ℕ → ℕ → ℕ → Term
    part a b c d = sum (product (at 9) (difference (at a) (at b))) (product (at 8) (difference (at c) (at d)))

touching_turned : (a b : CrowdAgent) → touching_square a b ≡ touching_square b a
touching_turned a b = ap (λ (n : ℕ). n * n) (added a.radius b.radius)
  where
    added : (m n : ℕ) → m + n ≡ n + m
    added m n = omega arith

apart_turned : (height : ℕ) (a b : CrowdAgent) → is_apart height a b ≡ is_apart height b a
apart_turned height a b =
    λ i. or_turned (nat_le (a.high + height) b.low) (nat_le (b.high + height) a.low) i || nat_le (touching_turned a b i) (square_turned a.at b.at i)

gap_turned : (height : ℕ) (a b : CrowdAgent) → gap_of height a b ≡ gap_of height b a
gap_turned height a b = λ i. if apart_turned height a b i then touching_turned a b i else square_turned a.at b.at i

pub clear_turned : (height : ℕ) (a b : CrowdAgent) (m n : CrowdMove) → IsClear height a b m n → IsClear height b a n m
clear_turned height a b m n clear = elim clear [
  | inl passes ↦ inl (sym (or_turned (nat_le (m.high + height) n.low) (nat_le (n.high + height) m.low)) ∙ passes)
  | inr keeps ↦ inr (λ num den some within.
      subst (λ (square : ℕ). gap_of height b a * (den * den) ≤ square) (along_turned a.at b.at m.by n.by num den)
      (subst (λ (gap : ℕ). gap * (den * den) ≤ square_of (place_along (from_to a.at b.at) (from_to m.by n.by) num den)) (gap_turned height a b)
      (keeps num den some within)))
]

-- ---- one move in place of another

pub same_or_other : (P : Type 0) (j i : ℕ) → (j ≡ i → P) → (j ≢ i → P) → P
same_or_other P j i same other =
    elim (cases_lt j i) [
      | inl less ↦ other (λ is. omega (arith, less, is))
      | inr most ↦ elim (cases_lt i j) [ inl more ↦ other (λ is. omega (arith, more, is)) | inr least ↦ same (omega (arith, most, least)) ]
    ]

-- what stands there afterwards
pub there_now : (moves : List CrowdMove) (i : ℕ) (made n : CrowdMove) → i < length moves → slice_get (set moves i made) i ≡ Some n → n ≡ made
there_now moves i made n there is = sym (get_or_from_slice_get (set moves i made) i n made is) ∙ get_or-set_same moves i made made there

pub there_still : (moves : List CrowdMove) (i j : ℕ) (made n : CrowdMove) → j ≢ i → slice_get (set moves i made) j ≡ Some n → slice_get moves j ≡ Some n
there_still moves i j made n other is =
    let within : j < length moves = omega (arith, slice_get_within (set moves i made) j n is, length-set moves i made) in
    slice_get-get_or moves j n within ∙ ap Some (sym (get_or-set_other moves i j made n other) ∙ get_or_from_slice_get (set moves i made) j n n is)

pub granted : (lets : CrowdAgent → CrowdMove → Type 0) (height : ℕ) (agents : List CrowdAgent) (moves : List CrowdMove) (i : ℕ) (made : CrowdMove)
    → AreMoves lets height agents moves → i < length agents → MayMoveAt lets agents i made → IsFree height agents moves i made
    → AreMoves lets height agents (set moves i made)
granted lets height agents moves i made right there may free = record {
  one_each = length-set moves i made ∙ right.one_each;
  may = λ k m is_m a is_a. same_or_other (MayMove lets a m) k i
      (λ same. subst (λ (x : CrowdMove). MayMove lets a x) (sym (now k m same is_m)) (may a (subst (λ (p : ℕ). slice_get agents p ≡ Some a) same is_a)))
      (λ other. right.may k m (there_still moves i k made m other is_m) a is_a);
  clear = λ k m is_m j a b n apart is_a is_b is_n. same_or_other (IsClear height a b m n) k i
      (λ same. subst (λ (x : CrowdMove). IsClear height a b x n) (sym (now k m same is_m))
      (free j a b n (λ is. apart (is ∙ sym same)) (subst (λ (p : ℕ). slice_get agents p ≡ Some a) same is_a) is_b
      (there_still moves i j made n (λ is. apart (is ∙ sym same)) is_n)))
      (λ other. same_or_other (IsClear height a b m n) j i
      (λ same. subst (λ (x : CrowdMove). IsClear height a b m x) (sym (now j n same is_n))
      (clear_turned height b a made m
      (free k b a m other (subst (λ (p : ℕ). slice_get agents p ≡ Some b) same is_b) is_a (there_still moves i k made m other is_m))))
      (λ other'. right.clear k m (there_still moves i k made m other is_m) j a b n apart is_a is_b (there_still moves i j made n other' is_n)));
}
  where
    room : i < length moves
    room = omega (arith, there, right.one_each)

    now : (k : ℕ) (m : CrowdMove) → k ≡ i → slice_get (set moves i made) k ≡ Some m → m ≡ made
    now k m same is = there_now moves i made m room (subst (λ (p : ℕ). slice_get (set moves i made) p ≡ Some m) same is)

-- ---- what is asked of pairs

pub as_movers : (lets : CrowdAgent → CrowdMove → Type 0) (height : ℕ) (agents : List CrowdAgent) (moves : List CrowdMove)
    → AreMoves lets height agents moves → AreMovers agents moves
as_movers lets height agents moves right = record { one_each = right.one_each; each = λ i a m is_a is_m. (right.may i m is_m a is_a).mover }

-- who is not near is clear, and so is each agent's move where those near are
far_beside : (height : ℕ) (agents : List CrowdAgent) (moves : List CrowdMove) (i : ℕ) (made : CrowdMove) → AreMovers agents moves → IsMoverAt agents i made
    → (j : ℕ) (a b : CrowdAgent) (n : CrowdMove) → slice_get agents i ≡ Some a → slice_get agents j ≡ Some b → slice_get moves j ≡ Some n
    → (IsNear a b → IsClear height a b made n) → IsClear height a b made n
far_beside height agents moves i made movers mover j a b n is_a is_b is_n near =
    elim (near_or_far a b) [ inl close ↦ near close | inr far ↦ inr (far_clear height a b made n (mover a is_a) (movers.each j b n is_b is_n) far) ]

pub lone_free : (height : ℕ) (agents : List CrowdAgent) (moves : List CrowdMove) (i : ℕ) (made : CrowdMove) → AreMovers agents moves → IsMoverAt agents i made
    → IsAlone agents i → IsFree height agents moves i made
lone_free height agents moves i made movers mover alone = λ j a b n other is_a is_b is_n.
    far_beside height agents moves i made movers mover j a b n is_a is_b is_n (λ near. absurd (alone j a b other is_a is_b near))

pub free_of_contacts : (height : ℕ) (agents : List CrowdAgent) (moves : List CrowdMove) (first others : List ℕ) (i : ℕ) (made : CrowdMove)
    → AreMovers agents moves → IsMoverAt agents i made → i < length agents → AreContacts agents first others
    → ((k j : ℕ) → begin_at first i ≤ k → k < end_at first i (length others) → slice_get others k ≡ Some j → IsClearBeside height agents moves i made j)
    → IsFree height agents moves i made
free_of_contacts height agents moves first others i made movers mover there contacts clear = λ j a b n other is_a is_b is_n.
    far_beside height agents moves i made movers mover j a b n is_a is_b is_n
    (λ near. let contact = (contacts i there).each j a b other is_a is_b near in
    (clear contact.place j contact.listed.from contact.listed.below contact.listed.is).clear a b n other is_a is_b is_n)

-- ---- what the code reads

abbrev pub no_agent : CrowdAgent
no_agent = record {
  polygon = record { tile = 0; index = 0 };
  at = record { x = pos 0; z = pos 0 };
  low = 0;
  high = 0;
  stranded = false;
  areas = 0;
  radius = 0;
  speed = 0;
}

abbrev pub no_move : CrowdMove
no_move = record { by = record { x = pos 0; z = pos 0 }; to = record { tile = 0; index = 0 }; low = 0; high = 0 }

pub mover_there : (agents : List CrowdAgent) (i : ℕ) (made : CrowdMove) (d : CrowdAgent) → i < length agents → IsMoverAt agents i made
    → IsMover (get_or agents i d) made
mover_there agents i made d there mover = mover (get_or agents i d) (slice_get-get_or agents i d there)

pub other_mover : (agents : List CrowdAgent) (moves : List CrowdMove) (j : ℕ) (d : CrowdAgent) (e : CrowdMove) → AreMovers agents moves
    → j < length agents → IsMover (get_or agents j d) (get_or moves j e)
other_mover agents moves j d e movers there =
    movers.each j (get_or agents j d) (get_or moves j e) (slice_get-get_or agents j d there) (slice_get-get_or moves j e (omega (arith, there, movers.one_each)))

pub clear_beside : (height : ℕ) (agents : List CrowdAgent) (moves : List CrowdMove) (i j : ℕ) (made : CrowdMove) (d : CrowdAgent) (e : CrowdMove) (r : Bool)
    → AreMovers agents moves → i < length agents → j < length agents → j ≢ i
    → (IsTrue r ↔ IsClear height (get_or agents i d) (get_or agents j d) made (get_or moves j e)) → IsTrue r ↔ IsClearBeside height agents moves i made j
clear_beside height agents moves i j made d e r movers there other apart iff = (
  λ true. record {
    clear = λ a b n _ is_a is_b is_n.
        subst (λ (x : CrowdAgent). IsClear height x b made n) (get_or_from_slice_get agents i a d is_a)
        (subst (λ (x : CrowdAgent). IsClear height (get_or agents i d) x made n) (get_or_from_slice_get agents j b d is_b)
        (subst (λ (x : CrowdMove). IsClear height (get_or agents i d) (get_or agents j d) made x) (get_or_from_slice_get moves j n e is_n) (iff.0 true)));
  },
  λ beside. iff.1 (beside.clear (get_or agents i d) (get_or agents j d) (get_or moves j e) apart (slice_get-get_or agents i d there) (slice_get-get_or agents j d other)
      (slice_get-get_or moves j e (omega (arith, other, movers.one_each)))),
)
