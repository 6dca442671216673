-- Cones of a fan: which cones of the next portal come of one, and the lengths of the lines that they tell.
use Rattle.std.proofs.Common.{◌≡◌, ℕ, zero, suc, ◌+◌, ◌-◌, ◌*◌, ◌≤◌, ◌⊎◌, Bool, true, false, ℤ, pos, ◌≤ℤ◌, ◌<ℤ◌, List, [], ◌∷◌, ◌++◌, refl, sym, ap, subst, inl, inr, arith}
use Rattle.std.specs.Prelude.{◌&&◌, ◌||◌, not, if◌then◌else◌}
use Rattle.std.specs.List.{Contains, flat_map}
use Rattle.std.specs.Int.Signed.{le_z}
use Rattle.std.proofs.lemmas.Int.{ints}
use Rattle.std.proofs.lemmas.Bool.{cases_lt}
use Rattle.std.proofs.lemmas.List.Elements.{Contains-append_left, Contains-append_right, Contains-append_cases, Contains-push, Contains-push_cases}
use Rattle.nav_base.specs.declared.point.Point.{Point}
use Rattle.nav_base.specs.Point.{from_to, dot_of, orient_of}
use Rattle.nav_base.specs.Deviation.{square_of}
use Rattle.nav_base.specs.Root.{ceil_sqrt_of}
use Rattle.nav_base.proofs.RootLaws.{ceil_sqrt_of-least}
use Rattle.mesh_types.specs.declared.links.Portal.{Portal}
use Rattle.line_fans.specs.Fans.{Cone, whole_cone, cone_through, settled, turned_left, turned_right, straight_on, over, fan_on, is_left, is_right, is_straight, beyond, nearer_end, down_of, lowered_of}
use Rattle.line_fans.proofs.HeldLines.{IsWithin}

-- ---- members of lists of lists

flat_in : {X A : Type 0} (f : X → List A) (xs : List X) (x : X) (y : A) → Contains xs x → Contains (f x) y → Contains (flat_map f xs) y
flat_in f [] x y (k, h, e) has = absurd (omega (arith, h))
flat_in {X} {A} f (z ∷ xs) x y has has' = by (λ h. flat_in f xs x y h has') (Contains-append_cases (z ∷ []) xs x has)
  where
    by : (Contains xs x → Contains (flat_map f xs) y) → Contains (z ∷ []) x ⊎ Contains xs x → Contains (flat_map f (z ∷ xs)) y
    by below (inl one) = first (Contains-push_cases [] z x one)
      where
        first : Contains [] x ⊎ (z ≡ x) → Contains (flat_map f (z ∷ xs)) y
        first (inl (k, h, e)) = absurd (omega (arith, h))
        first (inr same) = Contains-append_left (f z) (flat_map f xs) y (subst (λ (v : X). Contains (f v) y) (sym same) has')
    by below (inr later) = Contains-append_right (f z) (flat_map f xs) y (below later)

record IsOf {X A : Type 0} (f : X → List A) (xs : List X) (y : A) : Type 0 where
  x : X
  of_list : Contains xs x
  in_part : Contains (f x) y

flat_of : {X A : Type 0} (f : X → List A) (xs : List X) (y : A) → Contains (flat_map f xs) y → IsOf f xs y
flat_of f [] y (k, h, e) = absurd (omega (arith, h))
flat_of f (z ∷ xs) y has = by (λ h. flat_of f xs y h) (Contains-append_cases (f z) (flat_map f xs) y has)
  where
    by : (Contains (flat_map f xs) y → IsOf f xs y) → Contains (f z) y ⊎ Contains (flat_map f xs) y → IsOf f (z ∷ xs) y
    by below (inl first) = record { x = z; of_list = Contains-append_left (z ∷ []) xs z (Contains-push [] z); in_part = first }
    by below (inr later) = let of = below later in record { x = of.x; of_list = Contains-append_right (z ∷ []) xs of.x of.of_list; in_part = of.in_part }

-- ---- more cones have a greater fan

fan_more : (portal : Portal) (more : List Portal) (cs ds : List Cone) → ((c : Cone) → Contains cs c → Contains ds c) → (e : Cone) → Contains (fan_on portal more cs) e → Contains (fan_on portal more ds) e
unfolding fan_on
fan_more portal [] cs ds sub e has = sub e has
fan_more portal (next ∷ more) cs ds sub e has =
    fan_more next more (flat_map (over portal next) cs) (flat_map (over portal next) ds)
    (λ c h. let of = flat_of (over portal next) cs c h in flat_in (over portal next) ds of.x c (sub of.x of.of_list) of.in_part) e has

-- a cone of the fan of a cone that comes of another is one of the other's fan
pub fan_step : (portal next : Portal) (more : List Portal) (c child e : Cone) → Contains (over portal next c) child → Contains (fan_on next more (child ∷ [])) e → Contains (fan_on portal (next ∷ more) (c ∷ [])) e
unfolding fan_on
fan_step portal next more c child e has has' =
    fan_more next more (child ∷ []) (flat_map (over portal next) (c ∷ [])) (λ d h. flat_in (over portal next) (c ∷ []) c d (Contains-push [] c) (same d (Contains-push_cases [] child d h))) e has'
  where
    same : (d : Cone) → Contains [] d ⊎ (child ≡ d) → Contains (over portal next c) d
    same d (inl (k, h, e)) = absurd (omega (arith, h))
    same d (inr is) = subst (λ (x : Cone). Contains (over portal next c) x) is has

pub fan_end : (portal : Portal) (c : Cone) → Contains (fan_on portal [] (c ∷ [])) c
unfolding fan_on
fan_end portal c = Contains-push [] c

-- ---- tests of signs

pub at_most : (a b : ℤ) → a ≤ℤ b → le_z a b ≡ true
at_most a b h = by (le_z a b) refl
  where
    by : (t : Bool) → le_z a b ≡ t → le_z a b ≡ true
    by true e = e
    by false e = absurd (grind (arith, ints))

pub not_at_most : (a b : ℤ) → b <ℤ a → le_z a b ≡ false
not_at_most a b h = by (le_z a b) refl
  where
    by : (t : Bool) → le_z a b ≡ t → le_z a b ≡ false
    by true e = absurd (grind (arith, ints))
    by false e = e

or_true : (a b : Bool) → b ≡ true → (a || b) ≡ true
or_true true b e = refl
or_true false b e = e

or_first : (a b : Bool) → a ≡ true → (a || b) ≡ true
or_first a b e = ap (λ (x : Bool). x || b) e

-- ---- which cones come of one

pub whole_over : (portal next : Portal) (c : Cone) → c.whole ≡ true → Contains (over portal next c) (cone_through c.before c.root next)
whole_over portal next c whole = subst (λ (cs : List Cone). Contains cs (cone_through c.before c.root next)) (λ i. if sym whole i then cone_through c.before c.root next ∷ [] else turned_left portal next c ++ straight_on next c ++ turned_right portal next c) (Contains-push [] (cone_through c.before c.root next))

narrow_over : (portal next : Portal) (c d : Cone) → c.whole ≡ false → Contains (turned_left portal next c ++ straight_on next c ++ turned_right portal next c) d → Contains (over portal next c) d
narrow_over portal next c d narrow has = subst (λ (cs : List Cone). Contains cs d) (λ i. if sym narrow i then cone_through c.before c.root next ∷ [] else turned_left portal next c ++ straight_on next c ++ turned_right portal next c) has

-- behind a turn to the left, where the next portal's right end is not to the right of the left ray
pub left_over_all : (portal next : Portal) (c : Cone) → c.whole ≡ false → c.through_left ≡ true → pos 0 ≤ℤ orient_of c.root c.left next.right
    → Contains (over portal next c) (cone_through (c.before ++ c.root ∷ []) portal.left next)
left_over_all portal next c narrow through closed =
    narrow_over portal next c (cone_through (c.before ++ c.root ∷ []) portal.left next) narrow
    (Contains-append_left (turned_left portal next c ++ straight_on next c) (turned_right portal next c) (cone_through (c.before ++ c.root ∷ []) portal.left next)
    (Contains-append_left (turned_left portal next c) (straight_on next c) (cone_through (c.before ++ c.root ∷ []) portal.left next)
    (subst (λ (cs : List Cone). Contains cs (cone_through (c.before ++ c.root ∷ []) portal.left next)) made (Contains-push [] (cone_through (c.before ++ c.root ∷ []) portal.left next)))))
  where
    all : le_z (pos 0) (orient_of c.root c.left next.right) ≡ true
    all = at_most (pos 0) (orient_of c.root c.left next.right) closed

    any : (is_left (orient_of c.root c.left next.left) || le_z (pos 0) (orient_of c.root c.left next.right)) ≡ true
    any = or_true (is_left (orient_of c.root c.left next.left)) (le_z (pos 0) (orient_of c.root c.left next.right)) all

    made : cone_through (c.before ++ c.root ∷ []) portal.left next ∷ [] ≡ turned_left portal next c
    made = λ i.
        if sym through i && sym any i
        then settled next (record {
          before = c.before ++ c.root ∷ [];
          root = portal.left;
          left = next.left;
          right = if sym all i then next.right else beyond c.root portal.left;
          through_left = true;
          through_right = sym all i;
          whole = false;
        }) ∷ []
        else []

-- behind a turn to the left, where the next portal has its left end to the left of the left ray, and its right end to the right
abbrev pub left_part : Portal → Portal → Cone → Cone
left_part portal next c =
    record { before = c.before ++ c.root ∷ []; root = portal.left; left = next.left; right = beyond c.root portal.left; through_left = true; through_right = false; whole = false }

pub left_over_part : (portal next : Portal) (c : Cone) → c.whole ≡ false → c.through_left ≡ true → pos 0 <ℤ orient_of c.root c.left next.left → orient_of c.root c.left next.right <ℤ pos 0
    → Contains (over portal next c) (settled next (left_part portal next c))
left_over_part portal next c narrow through open_left open_right =
    narrow_over portal next c (settled next (left_part portal next c)) narrow
    (Contains-append_left (turned_left portal next c ++ straight_on next c) (turned_right portal next c) (settled next (left_part portal next c))
    (Contains-append_left (turned_left portal next c) (straight_on next c) (settled next (left_part portal next c))
    (subst (λ (cs : List Cone). Contains cs (settled next (left_part portal next c))) made (Contains-push [] (settled next (left_part portal next c))))))
  where
    part : le_z (pos 0) (orient_of c.root c.left next.right) ≡ false
    part = not_at_most (pos 0) (orient_of c.root c.left next.right) open_right

    any : (is_left (orient_of c.root c.left next.left) || le_z (pos 0) (orient_of c.root c.left next.right)) ≡ true
    any = or_first (is_left (orient_of c.root c.left next.left)) (le_z (pos 0) (orient_of c.root c.left next.right)) (ap not (not_at_most (orient_of c.root c.left next.left) (pos 0) open_left))

    made : settled next (left_part portal next c) ∷ [] ≡ turned_left portal next c
    made = λ i.
        if sym through i && sym any i
        then settled next (record {
          before = c.before ++ c.root ∷ [];
          root = portal.left;
          left = next.left;
          right = if sym part i then next.right else beyond c.root portal.left;
          through_left = true;
          through_right = sym part i;
          whole = false;
        }) ∷ []
        else []

-- behind a turn to the right, where the next portal's left end is not to the left of the right ray
pub right_over_all : (portal next : Portal) (c : Cone) → c.whole ≡ false → c.through_right ≡ true → orient_of c.root c.right next.left ≤ℤ pos 0
    → Contains (over portal next c) (cone_through (c.before ++ c.root ∷ []) portal.right next)
right_over_all portal next c narrow through closed =
    narrow_over portal next c (cone_through (c.before ++ c.root ∷ []) portal.right next) narrow
    (Contains-append_right (turned_left portal next c ++ straight_on next c) (turned_right portal next c) (cone_through (c.before ++ c.root ∷ []) portal.right next)
    (subst (λ (cs : List Cone). Contains cs (cone_through (c.before ++ c.root ∷ []) portal.right next)) made (Contains-push [] (cone_through (c.before ++ c.root ∷ []) portal.right next))))
  where
    all : le_z (orient_of c.root c.right next.left) (pos 0) ≡ true
    all = at_most (orient_of c.root c.right next.left) (pos 0) closed

    any : (is_right (orient_of c.root c.right next.right) || le_z (orient_of c.root c.right next.left) (pos 0)) ≡ true
    any = or_true (is_right (orient_of c.root c.right next.right)) (le_z (orient_of c.root c.right next.left) (pos 0)) all

    made : cone_through (c.before ++ c.root ∷ []) portal.right next ∷ [] ≡ turned_right portal next c
    made = λ i.
        if sym through i && sym any i
        then settled next (record {
          before = c.before ++ c.root ∷ [];
          root = portal.right;
          left = if sym all i then next.left else beyond c.root portal.right;
          right = next.right;
          through_left = sym all i;
          through_right = true;
          whole = false;
        }) ∷ []
        else []

-- behind a turn to the right, where the next portal has its ends on both sides of the right ray
abbrev pub right_part : Portal → Portal → Cone → Cone
right_part portal next c =
    record { before = c.before ++ c.root ∷ []; root = portal.right; left = beyond c.root portal.right; right = next.right; through_left = false; through_right = true; whole = false }

pub right_over_part : (portal next : Portal) (c : Cone) → c.whole ≡ false → c.through_right ≡ true → pos 0 <ℤ orient_of c.root c.right next.left → orient_of c.root c.right next.right <ℤ pos 0
    → Contains (over portal next c) (settled next (right_part portal next c))
right_over_part portal next c narrow through open_left open_right =
    narrow_over portal next c (settled next (right_part portal next c)) narrow
    (Contains-append_right (turned_left portal next c ++ straight_on next c) (turned_right portal next c) (settled next (right_part portal next c))
    (subst (λ (cs : List Cone). Contains cs (settled next (right_part portal next c))) made (Contains-push [] (settled next (right_part portal next c)))))
  where
    part : le_z (orient_of c.root c.right next.left) (pos 0) ≡ false
    part = not_at_most (orient_of c.root c.right next.left) (pos 0) open_left

    any : (is_right (orient_of c.root c.right next.right) || le_z (orient_of c.root c.right next.left) (pos 0)) ≡ true
    any = or_first (is_right (orient_of c.root c.right next.right)) (le_z (orient_of c.root c.right next.left) (pos 0)) (ap not (not_at_most (pos 0) (orient_of c.root c.right next.right) open_right))

    made : settled next (right_part portal next c) ∷ [] ≡ turned_right portal next c
    made = λ i.
        if sym through i && sym any i
        then settled next (record {
          before = c.before ++ c.root ∷ [];
          root = portal.right;
          left = if sym part i then next.left else beyond c.root portal.right;
          right = next.right;
          through_left = sym part i;
          through_right = true;
          whole = false;
        }) ∷ []
        else []

-- straight on, where more than one point is seen between the rays; each ray stays, or goes through the next portal's end
abbrev pub straight_with : Bool → Bool → Portal → Cone → Cone
straight_with stays_left stays_right next c = record {
  before = c.before;
  root = c.root;
  left = if stays_left then c.left else next.left;
  right = if stays_right then c.right else next.right;
  through_left = not stays_left;
  through_right = not stays_right;
  whole = false;
}

abbrev pub straight_cone : Portal → Cone → Cone
straight_cone next c = straight_with (is_left (orient_of c.root c.left next.left)) (is_right (orient_of c.root c.right next.right)) next c

pub straight_over : (portal next : Portal) (c : Cone) → c.whole ≡ false → pos 0 <ℤ orient_of c.root c.right next.left → orient_of c.root c.left next.right <ℤ pos 0
    → Contains (over portal next c) (straight_cone next c)
straight_over portal next c narrow open_left open_right =
    narrow_over portal next c (straight_cone next c) narrow
    (Contains-append_left (turned_left portal next c ++ straight_on next c) (turned_right portal next c) (straight_cone next c)
    (Contains-append_right (turned_left portal next c) (straight_on next c) (straight_cone next c)
    (subst (λ (cs : List Cone). Contains cs (straight_cone next c)) made (Contains-push [] (straight_cone next c)))))
  where
    first : is_left (orient_of c.root c.right next.left) ≡ true
    first = ap not (not_at_most (orient_of c.root c.right next.left) (pos 0) open_left)

    second : is_right (orient_of c.root c.left next.right) ≡ true
    second = ap not (not_at_most (pos 0) (orient_of c.root c.left next.right) open_right)

    made : straight_cone next c ∷ [] ≡ straight_on next c
    made = λ i. if sym first i && sym second i then straight_cone next c ∷ [] else []

-- ---- cones that are settled

-- a root that does not lie on the portal's line
pub settled_behind : (portal : Portal) (c : Cone) → pos 0 <ℤ orient_of portal.right portal.left c.root → settled portal c ≡ c
settled_behind portal c behind = λ i.
    if none i
    then (if le_z (dot_of (from_to c.root portal.left) (from_to c.root portal.right)) (pos 0)
    then whole_cone c.before c.root portal
    else whole_cone (c.before ++ c.root ∷ []) (nearer_end c.root portal) portal)
    else c
  where
    none : is_straight (orient_of portal.right portal.left c.root) ≡ false
    none = ap (λ (b : Bool). b && le_z (pos 0) (orient_of portal.right portal.left c.root)) (not_at_most (orient_of portal.right portal.left c.root) (pos 0) behind)

straight : (n : ℤ) → n ≡ pos 0 → is_straight n ≡ true
straight n none = ap is_straight none

pub settled_on : (portal : Portal) (c : Cone) → orient_of portal.right portal.left c.root ≡ pos 0 → dot_of (from_to c.root portal.left) (from_to c.root portal.right) ≤ℤ pos 0
    → settled portal c ≡ whole_cone c.before c.root portal
settled_on portal c on between = λ i.
    if straight (orient_of portal.right portal.left c.root) on i
    then (if at_most (dot_of (from_to c.root portal.left) (from_to c.root portal.right)) (pos 0) between i
    then whole_cone c.before c.root portal
    else whole_cone (c.before ++ c.root ∷ []) (nearer_end c.root portal) portal)
    else c

pub settled_beside : (portal : Portal) (c : Cone) → orient_of portal.right portal.left c.root ≡ pos 0 → pos 0 <ℤ dot_of (from_to c.root portal.left) (from_to c.root portal.right)
    → settled portal c ≡ whole_cone (c.before ++ c.root ∷ []) (nearer_end c.root portal) portal
settled_beside portal c on outside = λ i.
    if straight (orient_of portal.right portal.left c.root) on i
    then (if not_at_most (dot_of (from_to c.root portal.left) (from_to c.root portal.right)) (pos 0) outside i
    then whole_cone c.before c.root portal
    else whole_cone (c.before ++ c.root ∷ []) (nearer_end c.root portal) portal)
    else c

-- ---- lengths

pub down_within : (a b : Point) → IsWithin (down_of a b) a b
down_within a b = by (4096 * 4096 * square_of (from_to a b)) (ceil_sqrt_of (4096 * 4096 * square_of (from_to a b) + 1)) (ceil_sqrt_of-least (4096 * 4096 * square_of (from_to a b) + 1)).least
  where
    by : (q c : ℕ) → ((r : ℕ) → q + 1 ≤ r * r → c ≤ r) → (c - 1) * (c - 1) ≤ q
    by q zero least = omega arith
    by q (suc n) least = elim (cases_lt q ((suc n - 1) * (suc n - 1))) [ inl above ↦ absurd (omega (arith, least (suc n - 1) (omega (arith, above)))) | inr below ↦ below ]

pub lowered_of-more : (a b : Point) (more : List Point) → lowered_of (a ∷ b ∷ more) ≡ down_of a b + lowered_of (b ∷ more)
unfolding lowered_of
lowered_of-more a b more = refl

pub lowered_of-last : (a b : Point) → lowered_of (a ∷ b ∷ []) ≡ down_of a b
unfolding lowered_of
lowered_of-last a b = omega arith

-- the points before a corner, the corner, and what follows
pub one_more : (xs : List Point) (x : Point) (ys : List Point) → (xs ++ x ∷ []) ++ ys ≡ xs ++ x ∷ ys
one_more [] x ys = refl
one_more (y ∷ xs) x ys = ap (λ (zs : List Point). y ∷ zs) (one_more xs x ys)
