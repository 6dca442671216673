-- A row of upright portals is a chain from any point on its left to any point on its right, and grows to the right.
use Rattle.std.proofs.Common.{◌≡◌, ℕ, zero, suc, ◌+◌, ◌-◌, ◌≤◌, ◌<◌, ℤ, pos, negsuc, ◌-ℤ◌, ◌*ℤ◌, ◌≤ℤ◌, ◌<ℤ◌, inl, inr, false, List, [], ◌∷◌, ◌++◌, length, get_or, refl, sym, subst, ap, ◌∙◌, arith, Vec, Global}
use Rattle.std.specs.Prelude.{All, AllPairs, ◌==◌, if◌then◌else◌}
use Rattle.std.proofs.lemmas.Bool.{cases_lt, lt-ltb, le-ltb, ne_eqb}
use Rattle.std.proofs.lemmas.Int.{ints}
use Rattle.std.proofs.lemmas.List.{get_or_append_left, length-append}
use Rattle.std.proofs.lemmas.List.Elements.{All-nil, All-push}
use Rattle.std.proofs.Math.Seq.{get_or-append_seam}
use Rattle.nav_base.specs.declared.point.Point.{Point}
use Rattle.nav_base.specs.Point.{HasCoordinates, IsCoordinate, cross_of, orient_of}
use Rattle.nav_base.proofs.Polynomials.{at, difference, product, equal}
use Rattle.nav_base.proofs.PointTerms.{orient_term}
use Rattle.nav_base.proofs.Signs.{product-not_negative, product-not_positive}
use Rattle.mesh_types.specs.declared.links.Portal.{Portal}
use Rattle.mesh_types.specs.Chains.{IsAhead, IsBehind, IsChain, points_after, points_before, portal_at}
use Rattle.mesh_types.proofs.Words.{some_portal}
use Rattle.bench_calls.specs.Rows.{CanBePulled, IsNotRight, IsRow, IsUpright, upright_at}

-- ---- one portal

-- the side of an upright portal on which a point lies is that of its column
side_of_column : (x high low : ℤ) (p : Point) → orient_of (record { x = x; z = low }) (record { x = x; z = high }) p ≡ (high -ℤ low) *ℤ (x -ℤ p.x)
unfolding cross_of orient_of
side_of_column x high low p =
    equal (x ∷ high ∷ low ∷ p.x ∷ p.z ∷ [])
    (orient_term (record { x = at 0; z = at 2 }) (record { x = at 0; z = at 1 }) (record { x = at 3; z = at 4 }))
    (product (difference (at 1) (at 2)) (difference (at 0) (at 3))) refl

side_of_upright : (portal : Portal) (p : Point) → portal.right.x ≡ portal.left.x
    → orient_of portal.right portal.left p ≡ (portal.left.z -ℤ portal.right.z) *ℤ (portal.left.x -ℤ p.x)
side_of_upright portal p straight =
    (λ i. orient_of (record { x = straight i; z = portal.right.z }) portal.left p) ∙ side_of_column portal.left.x portal.left.z portal.right.z p

-- what stands to the left of it lies behind it
left_is_behind : (first last : ℤ) (portal : Portal) (p : Point) → IsUpright first last portal → p.x ≤ℤ portal.left.x → IsBehind portal p
left_is_behind first last portal p upright left =
    subst (λ (n : ℤ). pos 0 ≤ℤ n) (sym (side_of_upright portal p upright.straight))
    (product-not_negative (portal.left.z -ℤ portal.right.z) (portal.left.x -ℤ p.x) (tall upright.below) (omega (arith, ints)))
  where
    tall : portal.right.z <ℤ portal.left.z → pos 0 ≤ℤ (portal.left.z -ℤ portal.right.z)
    tall below = omega (arith, ints)

-- and what stands to the right of it ahead
right_is_ahead : (first last : ℤ) (portal : Portal) (p : Point) → IsUpright first last portal → portal.left.x ≤ℤ p.x → IsAhead portal p
right_is_ahead first last portal p upright right =
    subst (λ (n : ℤ). n ≤ℤ pos 0) (sym (side_of_upright portal p upright.straight))
    (product-not_positive (portal.left.z -ℤ portal.right.z) (portal.left.x -ℤ p.x) (tall upright.below) (omega (arith, ints)))
  where
    tall : portal.right.z <ℤ portal.left.z → pos 0 ≤ℤ (portal.left.z -ℤ portal.right.z)
    tall below = omega (arith, ints)

-- its ends differ
wide : (first last : ℤ) (portal : Portal) → IsUpright first last portal → portal.left ≡ portal.right → ⊥
wide first last portal upright same = apart upright.below (ap (λ (p : Point). p.z) same)
  where
    apart : portal.right.z <ℤ portal.left.z → portal.left.z ≡ portal.right.z → ⊥
    apart below level = omega (arith, ints)

-- a column of the field, and a portal that stands in it
column : (across : ℕ) → across ≤ 131072 → IsCoordinate (pos across -ℤ pos 65536)
column across near = record { low = omega (arith, ints); high = omega (arith, ints) }

height : (high : ℕ) → high ≤ 65536 → IsCoordinate (pos high)
height high flat = record { low = omega (arith, ints); high = omega (arith, ints) }

upright_made : (across high further : ℕ) (low : ℤ) → across ≤ 131072 → high ≤ 65536 → IsCoordinate low → low <ℤ pos high → across ≤ further
    → IsUpright (negsuc 65535) (pos further -ℤ pos 65536) (upright_at across high low)
upright_made across high further low near flat deep below beyond =
    record {
      from = omega (arith, ints);
      to = omega (arith, ints);
      straight = refl;
      below = below;
      coordinates =
          record {
            left = record { across = column across near; along = height high flat };
            right = record { across = column across near; along = deep };
          };
    }

-- ---- a row

-- no portal yet
pub row_start : (first last : ℤ) → IsRow first last []
row_start first last = record { upright = All-nil (IsUpright first last); order = λ i j d less there. absurd (omega arith) }

-- a portal stands between columns further apart
upright_wider : (first last further : ℤ) (portal : Portal) → last ≤ℤ further → IsUpright first last portal → IsUpright first further portal
upright_wider first last further portal more upright =
    record { from = upright.from; to = beyond upright.to; straight = upright.straight; below = upright.below; coordinates = upright.coordinates }
  where
    beyond : portal.left.x ≤ℤ last → portal.left.x ≤ℤ further
    beyond to = omega (arith, ints)

-- one more portal, not to the left of the last column so far
row_more : (first last further : ℤ) (portals : List Portal) (portal : Portal) → IsRow first last portals → last ≤ℤ portal.left.x → IsUpright first further portal
    → IsRow first further (portals ++ portal ∷ [])
row_more first last further portals portal row right upright =
    record {
      upright = All-push (IsUpright first further) portals portal (λ k d there. upright_wider first last further (get_or portals k d) (beyond upright.to) (row.upright k d there)) upright;
      order = pairs;
    }
  where
    beyond : portal.left.x ≤ℤ further → last ≤ℤ further
    beyond to = omega (arith, ints)

    not_right : (a : Portal) → IsUpright first last a → IsNotRight a portal
    not_right a stands = beside stands.to
      where
        beside : a.left.x ≤ℤ last → a.left.x ≤ℤ portal.left.x
        beside to = omega (arith, ints)

    pairs : AllPairs IsNotRight (portals ++ portal ∷ [])
    pairs i j d less there =
        elim (cases_lt j (length portals)) [
          | inl earlier ↦
              subst (λ (p : Portal). IsNotRight p (get_or (portals ++ portal ∷ []) j d)) (sym (get_or_append_left portals (portal ∷ []) d i (omega arith)))
              (subst (IsNotRight (get_or portals i d)) (sym (get_or_append_left portals (portal ∷ []) d j earlier)) (row.order i j d less earlier))
          | inr past ↦
              subst (λ (p : Portal). IsNotRight p (get_or (portals ++ portal ∷ []) j d)) (sym (get_or_append_left portals (portal ∷ []) d i (before past)))
              (subst (λ (n : ℕ). IsNotRight (get_or portals i d) (get_or (portals ++ portal ∷ []) n d)) (at_end past)
              (subst (IsNotRight (get_or portals i d)) (sym (get_or-append_seam portals portal [] d)) (not_right (get_or portals i d) (row.upright i d (before past)))))
        ]
      where
        at_end : length portals ≤ j → length portals ≡ j
        at_end past = omega (arith, there, length-append portals (portal ∷ []))

        before : length portals ≤ j → i < length portals
        before past = omega (arith, at_end past)

-- one more portal that the code makes
pub row_grown : (before across high further : ℕ) (low : ℤ) (portals grown : List Portal) (portal : Portal) → before ≤ across → across ≤ further → across ≤ 131072 → high ≤ 65536
    → IsCoordinate low → low <ℤ pos high → portal ≡ upright_at across high low → grown ≡ portals ++ portal ∷ [] → IsRow (negsuc 65535) (pos before -ℤ pos 65536) portals
    → IsRow (negsuc 65535) (pos further -ℤ pos 65536) grown
row_grown before across high further low portals grown portal later beyond near flat deep below made added row =
    subst (IsRow (negsuc 65535) (pos further -ℤ pos 65536)) (sym added)
    (subst (λ (p : Portal). IsRow (negsuc 65535) (pos further -ℤ pos 65536) (portals ++ p ∷ [])) (sym made)
    (row_more (negsuc 65535) (pos before -ℤ pos 65536) (pos further -ℤ pos 65536) portals (upright_at across high low) row (omega (arith, ints))
    (upright_made across high further low near flat deep below beyond)))

-- ---- the chain

one : (P : Point → Type 0) (p : Point) → P p → All P (p ∷ [])
one P p here = All-push P [] p (All-nil P) here

both : (P : Point → Type 0) (p q : Point) → P p → P q → All P (p ∷ q ∷ [])
both P p q first second = All-push P (p ∷ []) q (one P p first) second

-- both ends of an upright portal to the left of another lie behind it
ends_behind : (first last : ℤ) (a b : Portal) → IsUpright first last a → IsUpright first last b → IsNotRight a b → All (IsBehind b) (a.left ∷ a.right ∷ [])
ends_behind first last a b before after order =
    both (IsBehind b) a.left a.right (left_is_behind first last b a.left after order)
    (left_is_behind first last b a.right after (subst (λ (x : ℤ). x ≤ℤ b.left.x) (sym before.straight) order))

ends_ahead : (first last : ℤ) (a b : Portal) → IsUpright first last a → IsUpright first last b → IsNotRight a b → All (IsAhead a) (b.left ∷ b.right ∷ [])
ends_ahead first last a b before after order =
    both (IsAhead a) b.left b.right (right_is_ahead first last a b.left before order)
    (right_is_ahead first last a b.right before (subst (λ (x : ℤ). a.left.x ≤ℤ x) (sym after.straight) order))

row_chain : (start : Point) (portals : List Portal) (goal : Point) → IsRow start.x goal.x portals → IsChain start portals goal
row_chain start portals goal row = record { wide = λ m there. wide start.x goal.x (portal_at portals m) (upright m there); behind = behind; ahead = ahead }
  where
    upright : (m : ℕ) → m < length portals → IsUpright start.x goal.x (portal_at portals m)
    upright m there = row.upright m some_portal there

    order : (m : ℕ) → m + 1 < length portals → IsNotRight (portal_at portals m) (portal_at portals (m + 1))
    order m there = row.order m (m + 1) some_portal (omega arith) there

    behind : (m : ℕ) → m < length portals → All (IsBehind (portal_at portals m)) (points_before start portals m)
    behind zero there = one (IsBehind (portal_at portals 0)) start (left_is_behind start.x goal.x (portal_at portals 0) start (upright 0 there) (upright 0 there).from)
    behind (suc m) there =
        subst (λ (points : List Point). All (IsBehind (portal_at portals (suc m))) points) (sym before)
        (ends_behind start.x goal.x (portal_at portals m) (portal_at portals (suc m)) (upright m (omega arith)) (upright (suc m) there) (row.order m (suc m) some_portal (omega arith) there))
      where
        later : ((suc m) == 0) ≡ false
        later = ne_eqb (suc m) 0 (λ e. omega arith)

        less : suc m - 1 ≡ m
        less = omega arith

        before : points_before start portals (suc m) ≡ (portal_at portals m).left ∷ (portal_at portals m).right ∷ []
        before = λ i. if (later i) then start ∷ [] else (portal_at portals (less i)).left ∷ (portal_at portals (less i)).right ∷ []

    ahead : (m : ℕ) → m < length portals → All (IsAhead (portal_at portals m)) (points_after portals goal m)
    ahead m there =
        elim (cases_lt (m + 1) (length portals)) [
          | inl inner ↦
              subst (λ (points : List Point). All (IsAhead (portal_at portals m)) points)
              (λ i. if (sym (lt-ltb (m + 1) (length portals) inner) i) then (portal_at portals (m + 1)).left ∷ (portal_at portals (m + 1)).right ∷ [] else goal ∷ [])
              (ends_ahead start.x goal.x (portal_at portals m) (portal_at portals (m + 1)) (upright m there) (upright (m + 1) inner) (order m inner))
          | inr outer ↦
              subst (λ (points : List Point). All (IsAhead (portal_at portals m)) points)
              (λ i. if (sym (le-ltb (m + 1) (length portals) outer) i) then (portal_at portals (m + 1)).left ∷ (portal_at portals (m + 1)).right ∷ [] else goal ∷ [])
              (one (IsAhead (portal_at portals m)) goal (right_is_ahead start.x goal.x (portal_at portals m) goal (upright m there) (upright m there).to))
        ]

-- a path can be pulled from the left border through the row of portals that the code made
pub row_pulled : (z across high : ℕ) (portals : Vec Portal Global) (goal : Point) → z ≤ 65536 → across ≤ 131072 → high ≤ 65536 → goal ≡ (upright_at across high (pos 0)).left
    → length portals.items < 4294967295 → IsRow (negsuc 65535) (pos across -ℤ pos 65536) portals.items
    → CanBePulled (record { start = record { x = negsuc 65535; z = pos z }; portals = portals; goal = goal })
row_pulled z across high portals goal low near flat made few row =
    let start : Point = record { x = negsuc 65535; z = pos z } in
    record {
      chained = row_chain start portals.items goal (subst (λ (p : Point). IsRow (negsuc 65535) p.x portals.items) (sym made) row);
      few = few;
      coordinates =
          record {
            at_start = record { across = record { low = omega (arith, ints); high = omega (arith, ints) }; along = height z low };
            at_ends = λ k d there. (row.upright k d there).coordinates;
            at_goal = subst HasCoordinates (sym made) (record { across = column across near; along = height high flat });
          };
    }
