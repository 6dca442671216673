-- Slim: what agents come to that have their radii anew, one after the other.
use Rattle.std.proofs.Common.{◌≡◌, ◌≢◌, pos, ℕ, ◌+◌, ◌-◌, ◌*◌, ◌<◌, ◌≤◌, ◌↔◌, Bool, true, false, List, [], ◌∷◌, ◌++◌, length, take, drop, set, get_or, refl, sym, subst, ap, ◌∙◌, inl, inr, arith, length-set, length-drop, length-take}
use Rattle.std.specs.Prelude.{All, IsTrue, min, max, ◌/◌, ◌⊎◌, if◌then◌else◌, unsigned_abs, nat_le, ◌||◌, ◌&&◌, slice_get, Some}
use Rattle.std.specs.List.{list_all}
use Rattle.std.proofs.Math.Bool.{or_comm}
use Rattle.std.proofs.lemmas.Bool.{cases_lt}
use Rattle.std.proofs.lemmas.Nat.{mul-le}
use Rattle.std.proofs.lemmas.List.{get_or-set_same, get_or-set_other, take_all, take-set-le, drop-set-lt, drop_more, get_or-take, get_or-drop}
use Rattle.std.proofs.lemmas.List.Folds.{list_all-append}
use Rattle.std.proofs.lemmas.List.Sums.{AllPass-from_list_all, list_all-from_AllPass}
use Rattle.std.proofs.lemmas.Option.{slice_get_within, slice_get-get_or, get_or_from_slice_get, same_Some}
use Rattle.nav_base.specs.declared.point.Point.{Point}
use Rattle.nav_base.specs.Point.{dot_of, from_to}
use Rattle.nav_base.specs.Deviation.{square_of}
use Rattle.nav_base.proofs.Polynomials.{at, sum, difference, product, equal}
use Rattle.crowd_moves.specs.declared.agents.CrowdAgent.{CrowdAgent}
use Rattle.crowd_moves.specs.Pairs.{HasSizes, are_storeys_apart, is_apart, square_between, touching_square}
use Rattle.crowd_moves.proofs.Elements.{slice_get-set_other}
use Rattle.crowd_moves.proofs.StepLaws.{same_or_other}
use Rattle.crowd_step.specs.declared.steering.Steering.{Steering}
use Rattle.crowd_step.specs.Slim.{AreAllApart, AreSlimmed, did_wait_long, does_grow, has_room_with, next_radius, others_of, slim_radius, with_radius}

-- ---- room among the others of a list

-- a test that tells whether all pass
tells_all : {X : Type 0} (p : X → Bool) (xs : List X) (r : Bool) → (IsTrue r ↔ All (λ x. IsTrue (p x)) xs) → r ≡ list_all p xs
tells_all p xs true tells = sym (list_all-from_AllPass p xs (tells.0 refl))
tells_all p xs false tells = by_case (list_all p xs) refl
  where
    by_case : (v : Bool) → list_all p xs ≡ v → false ≡ list_all p xs
    by_case true is = absurd (differ (tells.1 (AllPass-from_list_all p xs is)))
      where
        differ : false ≡ true → ⊥
        differ e = absurd cc
    by_case false is = sym is

-- the rest of a list from a place on
pub rest_is : (i : ℕ) (agents : List CrowdAgent) → take (length agents - i) (drop i agents) ≡ drop i agents
rest_is i agents = take_all (length agents - i) (drop i agents) (omega (arith, length-drop i agents))

module _ (height radius i : ℕ) (agents rest : List CrowdAgent) (a : CrowdAgent) (before behind : Bool) (is : rest ≡ drop (i + 1) agents)
    (tells : IsTrue before ↔ All (λ other. IsTrue (is_apart height (with_radius a radius) other)) (take i agents))
    (tells' : IsTrue behind ↔ All (λ other. IsTrue (is_apart height (with_radius a radius) other)) rest) where
  pub room_of_both : (before && behind) ≡ has_room_with height radius a (others_of i agents)
  room_of_both =
      (λ k. tells_all (is_apart height (with_radius a radius)) (take i agents) before tells k
      && tells_all (is_apart height (with_radius a radius)) rest behind tells' k)
      ∙ ap (λ (xs : List CrowdAgent). list_all (is_apart height (with_radius a radius)) (take i agents) && list_all (is_apart height (with_radius a radius)) xs) is
      ∙ sym (list_all-append (is_apart height (with_radius a radius)) (take i agents) (drop (i + 1) agents))

-- ---- two that are apart

square_turned : (p q : Point) → square_of (from_to p q) ≡ square_of (from_to q p)
unfolding dot_of
square_turned p q =
    ap unsigned_abs (equal (p.x ∷ p.z ∷ q.x ∷ q.z ∷ [])
    (sum (product (difference (at 2) (at 0)) (difference (at 2) (at 0))) (product (difference (at 3) (at 1)) (difference (at 3) (at 1))))
    (sum (product (difference (at 0) (at 2)) (difference (at 0) (at 2))) (product (difference (at 1) (at 3)) (difference (at 1) (at 3)))) refl)

pub apart_turned : (height : ℕ) (a b : CrowdAgent) → is_apart height a b ≡ is_apart height b a
apart_turned height a b =
    λ i. or_comm (nat_le (a.high + height) b.low) (nat_le (b.high + height) a.low) i || nat_le (touching i) (square_turned a.at b.at i)
  where
    added : (m n : ℕ) → m + n ≡ n + m
    added m n = omega arith

    touching : touching_square a b ≡ touching_square b a
    touching = ap (λ (n : ℕ). n * n) (added a.radius b.radius)

-- one that is smaller is apart from those from which it was
pub apart_smaller : (height radius : ℕ) (a b : CrowdAgent) → radius ≤ a.radius → is_apart height a b ≡ true → is_apart height (with_radius a radius) b ≡ true
apart_smaller height radius a b less =
    by_storeys (are_storeys_apart height a.low a.high b.low b.high) (touching_square (with_radius a radius) b) (touching_square a b) (square_between a b)
    (mul-le (radius + b.radius) (radius + b.radius) (a.radius + b.radius) (a.radius + b.radius) (more less) (more less))
  where
    more : radius ≤ a.radius → radius + b.radius ≤ a.radius + b.radius
    more h = omega (arith, h)

    most : (m n : ℕ) → nat_le m n ≡ true → m ≤ n
    most m n is = grind arith

    below : (m n : ℕ) → m ≤ n → nat_le m n ≡ true
    below m n h = grind arith

    by_storeys : (storeys : Bool) (m n d : ℕ) → m ≤ n → (storeys || nat_le n d) ≡ true → (storeys || nat_le m d) ≡ true
    by_storeys true m n d h is = refl
    by_storeys false m n d h is = below m d (omega (arith, h, most n d is))

and_both : (x y : Bool) → (x && y) ≡ true → (x ≡ true) × (y ≡ true)
and_both true true is = (refl, refl)
and_both true false is = absurd cc
and_both false y is = absurd cc

-- ---- one agent after the other

-- an agent has sizes with another radius
pub sized_with : (a : CrowdAgent) (radius : ℕ) → HasSizes a → radius ≤ 8191 → HasSizes (with_radius a radius)
sized_with a radius sizes small = record { at = sizes.at; radius = small; speed = sizes.speed }

abbrev pub no_steering : Steering
no_steering = record {
  wish = record { x = pos 0; z = pos 0 };
  left = 0;
  idle = false;
  last = record { x = pos 0; z = pos 0 };
  meant = record { x = pos 0; z = pos 0 };
  waited = 0;
  tired = 0;
}

-- the agents so far have their radii anew
pub record AreSlimmedSo (height hz : ℕ) (full : List ℕ) (steering : List Steering) (before now : List CrowdAgent) (count : ℕ) : Type 0 where
  pub one_each : length now ≡ length before
  pub rest : drop count now ≡ drop count before
  pub each : (i n : ℕ) (own : Steering) (a b : CrowdAgent) → i < count → slice_get full i ≡ Some n → slice_get steering i ≡ Some own → slice_get before i ≡ Some a
      → slice_get now i ≡ Some b → b ≡ with_radius a (next_radius height hz n own a (take i now ++ drop (i + 1) before))

module _ (height hz : ℕ) (full : List ℕ) (steering : List Steering) (before now : List CrowdAgent) (count n : ℕ) (own : Steering) (a d : CrowdAgent) (radius : ℕ)
    (so : AreSlimmedSo height hz full steering before now count) (inside : count < length now) (is_a : a ≡ get_or now count d)
    (is_n : slice_get full count ≡ Some n) (is_own : slice_get steering count ≡ Some own)
    (is : radius ≡ next_radius height hz n own a (others_of count now)) where
  abbrev longer : List CrowdAgent
  longer = set now count (with_radius a radius)

  both : get_or now count d ∷ drop (count + 1) now ≡ get_or before count d ∷ drop (count + 1) before
  both = sym (drop_more now count d inside) ∙ so.rest ∙ drop_more before count d (omega (arith, inside, so.one_each))

  next : drop (count + 1) now ≡ drop (count + 1) before
  next = ap (λ (xs : List CrowdAgent). drop 1 xs) both

  was : (b : CrowdAgent) → slice_get before count ≡ Some b → a ≡ b
  was b is_b = is_a ∙ ap (λ (xs : List CrowdAgent). get_or xs 0 d) both ∙ get_or_from_slice_get before count b d is_b

  there : slice_get longer count ≡ Some (with_radius a radius)
  there =
      slice_get-get_or longer count d (omega (arith, inside, length-set now count (with_radius a radius)))
      ∙ ap Some (get_or-set_same now count (with_radius a radius) d inside)

  same_before : (i : ℕ) → i ≤ count → take i longer ≡ take i now
  same_before i within = take-set-le i now count (with_radius a radius) within

  last : (n' : ℕ) (own' : Steering) (b x : CrowdAgent) → slice_get full count ≡ Some n' → slice_get steering count ≡ Some own' → slice_get before count ≡ Some b
      → slice_get longer count ≡ Some x → x ≡ with_radius b (next_radius height hz n' own' b (take count longer ++ drop (count + 1) before))
  last n' own' b x is_n' is_own' is_b is_x =
      same_Some x (with_radius a radius) (sym is_x ∙ there) ∙ ap (with_radius a) is
      ∙ (λ k. with_radius (was b is_b k) (next_radius height hz (same_Some n n' (sym is_n ∙ is_n') k) (same_Some own own' (sym is_own ∙ is_own') k) (was b is_b k)
      (sym (same_before count (omega arith)) k ++ next k)))

  front : (i n' : ℕ) (own' : Steering) (b x : CrowdAgent) → i < count → slice_get full i ≡ Some n' → slice_get steering i ≡ Some own' → slice_get before i ≡ Some b
      → slice_get longer i ≡ Some x → x ≡ with_radius b (next_radius height hz n' own' b (take i longer ++ drop (i + 1) before))
  front i n' own' b x less is_n' is_own' is_b is_x =
      so.each i n' own' b x less is_n' is_own' is_b (sym (slice_get-set_other now count i (with_radius a radius) (λ at. omega (arith, at, less))) ∙ is_x)
      ∙ (λ k. with_radius b (next_radius height hz n' own' b (sym (same_before i (omega (arith, less))) k ++ drop (i + 1) before)))

  pub slimmed_more : AreSlimmedSo height hz full steering before longer (count + 1)
  slimmed_more = record {
    one_each = length-set now count (with_radius a radius) ∙ so.one_each;
    rest = drop-set-lt (count + 1) now count (with_radius a radius) (omega arith) ∙ next;
    each = λ i n' own' b x within is_n' is_own' is_b is_x.
        same_or_other (x ≡ with_radius b (next_radius height hz n' own' b (take i longer ++ drop (i + 1) before))) i count
        (λ at.
        subst (λ (k : ℕ). slice_get full k ≡ Some n' → slice_get steering k ≡ Some own' → slice_get before k ≡ Some b → slice_get longer k ≡ Some x
        → x ≡ with_radius b (next_radius height hz n' own' b (take k longer ++ drop (k + 1) before))) (sym at) (last n' own' b x) is_n' is_own' is_b is_x)
        (λ other. front i n' own' b x (omega (arith, within, other)) is_n' is_own' is_b is_x);
  }

  -- ---- who was apart is so then

  passes : (j : ℕ) (b : CrowdAgent) → j ≢ count → slice_get now j ≡ Some b → has_room_with height n a (others_of count now) ≡ true
      → is_apart height (with_radius a n) b ≡ true
  passes j b other is_b room = elim (cases_lt j count) [
    | inl less ↦
        subst (λ (x : CrowdAgent). is_apart height (with_radius a n) x ≡ true)
        (get_or-take count now j d less ∙ get_or_from_slice_get now j b d is_b)
        (AllPass-from_list_all (is_apart height (with_radius a n)) (take count now) (split room).0 j d (omega (arith, less, within, length-take count now)))
    | inr past ↦
        subst (λ (x : CrowdAgent). is_apart height (with_radius a n) x ≡ true)
        (get_or-drop (count + 1) now (j - (count + 1)) d ∙ ap (λ (k : ℕ). get_or now k d) (place past) ∙ get_or_from_slice_get now j b d is_b)
        (AllPass-from_list_all (is_apart height (with_radius a n)) (drop (count + 1) now) (split room).1 (j - (count + 1)) d
        (omega (arith, past, other, within, length-drop (count + 1) now)))
  ]
    where
      within : j < length now
      within = slice_get_within now j b is_b

      place : count ≤ j → count + 1 + (j - (count + 1)) ≡ j
      place past = omega (arith, past, other)

      split : has_room_with height n a (others_of count now) ≡ true
          → (list_all (is_apart height (with_radius a n)) (take count now) ≡ true) × (list_all (is_apart height (with_radius a n)) (drop (count + 1) now) ≡ true)
      split all = and_both _ _ (sym (list_all-append (is_apart height (with_radius a n)) (take count now) (drop (count + 1) now)) ∙ all)

  -- the radius is no greater, or the agent grows
  smaller_or_grown : (radius ≤ a.radius) ⊎ ((radius ≡ n) × (does_grow height n own a (others_of count now) ≡ true))
  smaller_or_grown = by_case (did_wait_long hz own) (does_grow height n own a (others_of count now)) refl is
    where
      least : (m r : ℕ) → min r m ≤ r
      least m r = omega arith

      by_case : (waits grows : Bool) → does_grow height n own a (others_of count now) ≡ grows
          → radius ≡ (if waits then slim_radius n a.radius else (if grows then n else a.radius))
          → (radius ≤ a.radius) ⊎ ((radius ≡ n) × (does_grow height n own a (others_of count now) ≡ true))
      by_case true grows so_grows r = inl (subst (λ (k : ℕ). k ≤ a.radius) (sym r) (least (max 1 (n / 4)) a.radius))
      by_case false true so_grows r = inr (r, so_grows)
      by_case false false so_grows r = inl (omega (arith, r))

  is_apart_still : (b : CrowdAgent) (j : ℕ) → j ≢ count → slice_get now j ≡ Some b → is_apart height a b ≡ true → is_apart height (with_radius a radius) b ≡ true
  is_apart_still b j other is_b before_so = elim smaller_or_grown [
    | inl less ↦ apart_smaller height radius a b less before_so
    | inr grown ↦
        subst (λ (r : ℕ). is_apart height (with_radius a r) b ≡ true) (sym grown.0)
        (passes j b other is_b (and_both _ _ (and_both _ _ grown.1).1).1)
  ]

  here : slice_get now count ≡ Some a
  here = slice_get-get_or now count d inside ∙ ap Some (sym is_a)

  elsewhere : (j : ℕ) (b : CrowdAgent) → j ≢ count → slice_get longer j ≡ Some b → slice_get now j ≡ Some b
  elsewhere j b other is_b = sym (slice_get-set_other now count j (with_radius a radius) other) ∙ is_b

  -- beside the agent at the place
  beside : (j : ℕ) (x b : CrowdAgent) → AreAllApart height now → j ≢ count → slice_get longer count ≡ Some x → slice_get longer j ≡ Some b
      → is_apart height x b ≡ true
  beside j x b apart other is_x is_b =
      subst (λ (y : CrowdAgent). is_apart height y b ≡ true) (same_Some (with_radius a radius) x (sym there ∙ is_x))
      (is_apart_still b j other (elsewhere j b other is_b) (apart count j a b other here (elsewhere j b other is_b)))

  pub apart_more : AreAllApart height now → AreAllApart height longer
  apart_more apart i j x y other is_x is_y =
      same_or_other (is_apart height x y ≡ true) i count
      (λ at. beside j x y apart (λ e. other (e ∙ sym at)) (subst (λ (k : ℕ). slice_get longer k ≡ Some x) at is_x) is_y)
      (λ first. same_or_other (is_apart height x y ≡ true) j count
      (λ at. apart_turned height x y ∙ beside i y x apart first (subst (λ (k : ℕ). slice_get longer k ≡ Some y) at is_y) is_x)
      (λ second. apart i j x y other (elsewhere i x first is_x) (elsewhere j y second is_y)))

-- no agent is tried yet, and all are
pub slimmed_none : (height hz : ℕ) (full : List ℕ) (steering : List Steering) (agents : List CrowdAgent) → AreSlimmedSo height hz full steering agents agents 0
slimmed_none height hz full steering agents = record { one_each = refl; rest = refl; each = λ i n own a b none is_n is_own is_a is_b. absurd (omega (arith, none)) }

pub slimmed_all : (height hz : ℕ) (full : List ℕ) (steering : List Steering) (before now : List CrowdAgent) (count : ℕ) → length now ≤ count
    → AreSlimmedSo height hz full steering before now count → AreSlimmed height hz full steering before now
slimmed_all height hz full steering before now count all so = record {
  one_each = so.one_each;
  each = λ i n own a b is_n is_own is_a is_b. so.each i n own a b (omega (arith, all, slice_get_within now i b is_b)) is_n is_own is_a is_b;
}

-- all have sizes
pub sized_more : (now : List CrowdAgent) (count : ℕ) (x : CrowdAgent) → All HasSizes now → HasSizes x → All HasSizes (set now count x)
sized_more now count x all sizes i d within =
    same_or_other (HasSizes (get_or (set now count x) i d)) i count
    (λ at. subst HasSizes (sym (ap (λ (k : ℕ). get_or (set now count x) k d) at ∙ get_or-set_same now count x d (inside at))) sizes)
    (λ other. subst HasSizes (sym (get_or-set_other now count i x d other)) (all i d (omega (arith, within, length-set now count x))))
  where
    inside : i ≡ count → count < length now
    inside same = omega (arith, same, within, length-set now count x)
