-- What each answer of the cone comes to: the portals passed over end, or the wedge closes.
use Rattle.std.proofs.Common.{◌≡◌, ◌≢◌, ℕ, ◌+◌, ◌-◌, ◌≤◌, ◌<◌, ℤ, pos, ◌≤ℤ◌, ◌<ℤ◌, inl, inr, List, length, Bool, false, refl, sym, ap, subst, ◌∙◌, arith}
use Rattle.std.specs.Prelude.{Option, None, Some, IsTrue, ◌↔◌}
use Rattle.std.proofs.lemmas.Bool.{false≢true}
use Rattle.std.proofs.lemmas.Int.{ints}
use Rattle.nav_base.specs.declared.point.Point.{Point}
use Rattle.nav_base.specs.Point.{dot_of, from_to, orient_of}
use Rattle.mesh_types.specs.declared.links.Portal.{Portal}
use Rattle.mesh_types.specs.declared.answers.Side.TheVariants.{L}
use Rattle.mesh_types.specs.declared.answers.Corner.{Corner}
use Rattle.mesh_types.specs.Chains.{IsBehind, IsChain, portal_at, end_of}
use Rattle.funnel_path.specs.declared.funnel.Funnel.{Funnel}
use Rattle.funnel_path.specs.Corners.{IsNearerCorner, IsNearerEnd, corner_at_end}
use Rattle.funnel_path.specs.PassedOver.{ArePassed, IsInside, LookOpposite}
use Rattle.funnel_path.specs.Looks.{GoesThroughAll, IsLook, portal_or_goal}
use Rattle.funnel_path.specs.NextCorners.{IsAheadOf, IsNear, IsNext, IsTurnedBack, in_wedge, through}
use Rattle.funnel_path.specs.Closings.{IsCornerThrough, IsFoldedBack, IsInWedge, IsThrough, folded_back, left_turn, right_turn}
use Rattle.funnel_path.specs.Wedges.{ClosesFront, ClosesLeft, ClosesRight, IsMet, IsMetBeforeGoal, IsNarrowed, StaysOpen, wedge_of}
use Rattle.funnel_path.proofs.SideRules.{negative-weak, positive-weak, signs, zero-at_most}
use Rattle.funnel_path.proofs.PointLaws.{exchanged-negative, faces, order_in_half_plane}
use Rattle.funnel_path.proofs.FoldLaws.{FoldsBack, folds_back}
use Rattle.funnel_path.proofs.ChainLaws.{AreAhead, AreBehind, chain_ahead, chain_behind, portal_or_goal-end, portal_or_goal-there}
use Rattle.funnel_path.proofs.PassedLaws.{passed_behind, passed_fold}
use Rattle.funnel_path.proofs.WedgeLaws.{inside_rays, not_in_front, right_beyond, stays_behind, wedge_first, wedge_more}

-- ---- the portals passed over end

-- at a portal on whose line the apex does not lie
pub ahead_of : (start : Point) (portals : List Portal) (goal apex : Point) (first place : ℕ) → IsChain start portals goal → first ≤ place → place < length portals
    → (first < length portals → IsBehind (portal_at portals first) apex) → ArePassed apex portals first place → orient_of (portal_at portals place).right (portal_at portals place).left apex ≢ pos 0
    → IsAheadOf apex portals first place
ahead_of start portals goal apex first place chain from there behind passed aside =
    record {
      from = from;
      there = there;
      passed = passed;
      behind = strict (orient_of (portal_at portals place).right (portal_at portals place).left apex) (passed_behind start portals goal apex first place chain from there behind passed) aside;
    }
  where
    strict : (n : ℤ) → pos 0 ≤ℤ n → n ≢ pos 0 → pos 0 <ℤ n
    strict n h apart = elim (signs n) [ inl less ↦ absurd (omega (arith, ints)) | inr (inl none) ↦ absurd (apart none) | inr (inr more) ↦ more ]

-- at a portal that the apex does not lie inside
pub near_of : (portals : List Portal) (apex : Point) (first place : ℕ) (corner : Corner) → first ≤ place → place < length portals → ArePassed apex portals first place
    → orient_of (portal_at portals place).right (portal_at portals place).left apex ≡ pos 0 → pos 0 ≤ℤ dot_of (from_to apex (portal_at portals place).left) (from_to apex (portal_at portals place).right)
    → IsNearerCorner apex (portal_at portals place) place corner → IsNear apex portals first corner
near_of portals apex first place corner from there passed on_line outside nearer =
    record {
      from = subst (λ (n : ℕ). first ≤ n) same from;
      there = subst (λ (n : ℕ). n < length portals) same there;
      passed = subst (ArePassed apex portals first) same passed;
      beside = record {
        on_line = subst (λ (n : ℕ). orient_of (portal_at portals n).right (portal_at portals n).left apex ≡ pos 0) same on_line;
        outside = subst (λ (n : ℕ). pos 0 ≤ℤ dot_of (from_to apex (portal_at portals n).left) (from_to apex (portal_at portals n).right)) same outside;
      };
      at_end = ap (λ (c : Corner). c.at) nearer.is_end ∙ ap (λ (n : ℕ). end_of corner.side (portal_at portals n)) same;
      nearer = subst (λ (n : ℕ). IsNearerEnd apex (portal_at portals n) corner.side) same nearer.nearer;
    }
  where
    same : place ≡ corner.portal
    same = sym (ap (λ (c : Corner). c.portal) nearer.is_end)

-- at two portals that the apex lies inside and that look opposite ways
pub turned_back_of : (start : Point) (portals : List Portal) (goal apex : Point) (first m : ℕ) (corner : Corner) → IsChain start portals goal → first ≤ m → m + 1 < length portals → ArePassed apex portals first (m + 1)
    → IsInside apex (portal_at portals (m + 1)) → LookOpposite (portal_at portals m) (portal_at portals (m + 1)) → corner ≡ corner_at_end L (portal_at portals m) m → IsTurnedBack apex portals first corner
turned_back_of start portals goal apex first m corner chain from there passed inside opposite is =
    subst (IsTurnedBack apex portals first) (sym is) (record {
      from = from;
      there = there;
      passed = passed;
      inside = inside;
      sided = refl;
      at_end = refl;
      folds = passed_fold start portals goal apex m chain there (passed.inside m from (omega arith)) inside opposite;
    })

-- the same by the place of the second
pub turned_back_at : (start : Point) (portals : List Portal) (goal apex : Point) (first place : ℕ) (corner : Corner) → IsChain start portals goal → first < place → place < length portals → ArePassed apex portals first place
    → IsInside apex (portal_at portals place) → LookOpposite (portal_at portals (place - 1)) (portal_at portals place) → corner ≡ corner_at_end L (portal_at portals (place - 1)) (place - 1) → IsTurnedBack apex portals first corner
turned_back_at start portals goal apex first place corner chain from there passed inside opposite is =
    turned_back_of start portals goal apex first (place - 1) corner chain (omega arith) (omega arith) (subst (ArePassed apex portals first) back passed) (subst (λ (n : ℕ). IsInside apex (portal_at portals n)) back inside)
    (subst (λ (n : ℕ). LookOpposite (portal_at portals (place - 1)) (portal_at portals n)) back opposite) is
  where
    back : place ≡ place - 1 + 1
    back = omega arith

-- two portals that were found not to look opposite ways
pub not_opposite : (portals : List Portal) (place m : ℕ) (found : Bool) → (IsTrue found ↔ LookOpposite (portal_at portals (place - 1)) (portal_at portals place)) → found ≡ false → m + 1 ≡ place
    → LookOpposite (portal_at portals m) (portal_at portals (m + 1)) → ⊥
not_opposite portals place m found is none next opposite =
    false≢true (sym none ∙ is.1 (subst (λ (n : ℕ). LookOpposite (portal_at portals n) (portal_at portals place)) back (subst (λ (n : ℕ). LookOpposite (portal_at portals m) (portal_at portals n)) next opposite)))
  where
    back : m ≡ place - 1
    back = omega arith

-- ---- the wedge

-- it begins as the wedge through one portal
pub look_first : (portals : List Portal) (apex : Point) (ahead : ℕ) (wedge : Funnel) → ahead < length portals → pos 0 <ℤ orient_of (portal_at portals ahead).right (portal_at portals ahead).left apex
    → wedge ≡ wedge_of (portal_at portals ahead) ahead → IsLook apex portals ahead (ahead + 1) wedge
look_first portals apex ahead wedge there behind is =
    subst (IsLook apex portals ahead (ahead + 1)) (sym is) (record { some = omega arith; within = omega arith; seen = wedge_first apex portals ahead behind })

-- the portal before the next one has both its ends ahead
record IsNeighbour (portals : List Portal) (apex : Point) (wedge : Funnel) (place : ℕ) : Type 0 where
  goes : GoesThroughAll apex wedge (portal_at portals (place - 1))
  ahead : AreAhead (portal_at portals (place - 1)) (portal_at portals place)
  behind : AreBehind (portal_at portals place) (portal_at portals (place - 1))

neighbour : (start : Point) (portals : List Portal) (goal apex : Point) (ahead place : ℕ) (wedge : Funnel) → IsChain start portals goal → place < length portals → IsLook apex portals ahead place wedge
    → IsNeighbour portals apex wedge place
neighbour start portals goal apex ahead place wedge chain there look =
    record {
      goes = look.seen.through (place - 1) (omega (arith, look.some)) (omega (arith, look.some));
      ahead = subst (λ (n : ℕ). AreAhead (portal_at portals (place - 1)) (portal_at portals n)) next (chain_ahead start portals goal (place - 1) chain (omega (arith, look.some)));
      behind = subst (λ (n : ℕ). AreBehind (portal_at portals n) (portal_at portals (place - 1))) next (chain_behind start portals goal (place - 1) chain (omega (arith, look.some)));
    }
  where
    next : place - 1 + 1 ≡ place
    next = omega (arith, look.some)

-- it goes through one more portal, where it stays open
pub look_more : (start : Point) (portals : List Portal) (goal apex : Point) (ahead place : ℕ) (wedge narrower : Funnel) → IsChain start portals goal → place < length portals → IsLook apex portals ahead place wedge
    → StaysOpen apex wedge (portal_at portals place) → IsNarrowed apex wedge (portal_at portals place) place narrower → IsLook apex portals ahead (place + 1) narrower
look_more start portals goal apex ahead place wedge narrower chain there look stays is =
    let by = neighbour start portals goal apex ahead place wedge chain there look in
    record {
      some = omega (arith, look.some);
      within = omega arith;
      seen = wedge_more apex portals ahead place wedge narrower (omega (arith, look.some)) look.seen stays
          (stays_behind apex wedge (portal_at portals (place - 1)) (portal_at portals place) by.goes by.ahead.left by.ahead.right stays) is;
    }

-- ---- it closes

closes_left : (start : Point) (portals : List Portal) (goal apex : Point) (ahead place : ℕ) (wedge : Funnel) (corner : Corner) → IsLook apex portals ahead place wedge
    → ClosesLeft apex wedge (portal_or_goal portals goal place).right corner → IsCornerThrough apex portals goal ahead corner
closes_left start portals goal apex ahead place wedge corner look closes = left_turn (record { place = place; wedge = wedge; look = look; is_left = closes.is_left; closed = closes.closed })

-- a portal whose right end lies inside the wedge and that the apex does not lie behind folds back
front_folds : (start : Point) (portals : List Portal) (goal apex : Point) (ahead place : ℕ) (wedge : Funnel) (corner : Corner) → IsChain start portals goal → place < length portals → IsLook apex portals ahead place wedge
    → ClosesFront apex wedge (portal_at portals place) place corner → FoldsBack apex (portal_at portals (place - 1)) (portal_at portals place)
front_folds start portals goal apex ahead place wedge corner chain there look closes =
    let by = neighbour start portals goal apex ahead place wedge chain there look in
    let rays = inside_rays apex wedge (portal_at portals (place - 1)) (portal_at portals place).right look.seen.wide by.goes closes.right_of_left closes.in_front.left_of_right in
    folds_back apex (portal_at portals (place - 1)) (portal_at portals place) (chain.wide place there) (record {
      behind = by.goes.behind;
      inside_right = rays.0;
      inside_left = rays.1;
      front = closes.in_front.front;
      left_ahead = by.ahead.left;
      right_ahead = by.ahead.right;
      left_behind = by.behind.left;
      right_behind = by.behind.right;
    })

closes_front : (start : Point) (portals : List Portal) (goal apex : Point) (ahead place : ℕ) (wedge : Funnel) (corner : Corner) → IsChain start portals goal → place < length portals → IsLook apex portals ahead place wedge
    → ClosesFront apex wedge (portal_at portals place) place corner → IsCornerThrough apex portals goal ahead corner
closes_front start portals goal apex ahead place wedge corner chain there look closes =
    let back = front_folds start portals goal apex ahead place wedge corner chain there look closes in
    folded_back (subst (IsFoldedBack apex portals ahead) (sym closes.is_end) (record {
      wedge = wedge;
      look = look;
      there = there;
      sided = refl;
      at_end = refl;
      right_of_left = closes.right_of_left;
      left_of_right = closes.in_front.left_of_right;
      front = back.front;
      folds = back.folds;
    }))

-- a portal that closes the wedge on the right has its right end there too
right_outside : (start : Point) (portals : List Portal) (goal apex : Point) (ahead place : ℕ) (wedge : Funnel) (corner : Corner) → IsChain start portals goal → place < length portals → IsLook apex portals ahead place wedge
    → ClosesRight apex wedge (portal_at portals place) corner → orient_of apex wedge.right.at (portal_at portals place).right ≤ℤ pos 0
right_outside start portals goal apex ahead place wedge corner chain there look closes =
    elim (signs (orient_of apex wedge.right.at portal.right)) [
      | inl less ↦ negative-weak (orient_of apex wedge.right.at portal.right) less
      | inr (inl none) ↦ zero-at_most (orient_of apex wedge.right.at portal.right) none
      | inr (inr more) ↦ absurd (apart (orient_of apex portal.right portal.left) (faces apex portal.right portal.left (not_in_front apex wedge portal closes.behind more)) (exchanged-negative apex portal.right portal.left (turned more)))
    ]
  where
    portal : Portal
    portal = portal_at portals place

    before : Portal
    before = portal_at portals (place - 1)

    by : IsNeighbour portals apex wedge place
    by = neighbour start portals goal apex ahead place wedge chain there look

    apart : (n : ℤ) → pos 0 <ℤ n → n <ℤ pos 0 → ⊥
    apart n h k = omega (arith, ints)

    beyond : (m n : ℤ) → m ≤ℤ pos 0 → pos 0 <ℤ n → m <ℤ n
    beyond m n h k = omega (arith, ints)

    turned : pos 0 <ℤ orient_of apex wedge.right.at portal.right → pos 0 <ℤ orient_of apex portal.left portal.right
    turned more =
        order_in_half_plane before.right before.left apex wedge.right.at portal.left portal.right (right_beyond apex wedge before by.goes)
        (beyond (orient_of before.right before.left portal.left) (orient_of before.right before.left apex) by.ahead.left by.goes.behind) (beyond (orient_of before.right before.left portal.right) (orient_of before.right before.left apex) by.ahead.right by.goes.behind)
        closes.closed (positive-weak (orient_of apex wedge.right.at portal.right) more) (beyond (orient_of apex wedge.right.at portal.left) (orient_of apex wedge.right.at portal.right) closes.closed more)

closes_right : (start : Point) (portals : List Portal) (goal apex : Point) (ahead place : ℕ) (wedge : Funnel) (corner : Corner) → IsChain start portals goal → place < length portals → IsLook apex portals ahead place wedge
    → ClosesRight apex wedge (portal_at portals place) corner → IsCornerThrough apex portals goal ahead corner
closes_right start portals goal apex ahead place wedge corner chain there look closes =
    right_turn (record {
      place = place;
      wedge = wedge;
      look = look;
      is_right = closes.is_right;
      right_of_left = subst (λ (portal : Portal). orient_of apex wedge.left.at portal.right <ℤ pos 0) same closes.right_of_left;
      closed_left = subst (λ (portal : Portal). orient_of apex wedge.right.at portal.left ≤ℤ pos 0) same closes.closed;
      closed_right = subst (λ (portal : Portal). orient_of apex wedge.right.at portal.right ≤ℤ pos 0) same (right_outside start portals goal apex ahead place wedge corner chain there look closes);
    })
  where
    same : portal_at portals place ≡ portal_or_goal portals goal place
    same = sym (portal_or_goal-there portals goal place there)

-- at a portal
pub met_through : (start : Point) (portals : List Portal) (goal apex : Point) (ahead place : ℕ) (wedge : Funnel) (corner : Corner) → IsChain start portals goal → place < length portals → IsLook apex portals ahead place wedge
    → IsMet apex wedge (portal_at portals place) place (Some corner) → IsCornerThrough apex portals goal ahead corner
met_through start portals goal apex ahead place wedge corner chain there look (inl left) =
    closes_left start portals goal apex ahead place wedge corner look
    (record { is_left = left.is_left; closed = subst (λ (portal : Portal). pos 0 ≤ℤ orient_of apex wedge.left.at portal.right) (sym (portal_or_goal-there portals goal place there)) left.closed })
met_through start portals goal apex ahead place wedge corner chain there look (inr (inl front)) = closes_front start portals goal apex ahead place wedge corner chain there look front
met_through start portals goal apex ahead place wedge corner chain there look (inr (inr right)) = closes_right start portals goal apex ahead place wedge corner chain there look right

-- before the goal
met_before_goal : (portals : List Portal) (goal apex : Point) (ahead : ℕ) (wedge : Funnel) (corner : Corner) → IsLook apex portals ahead (length portals) wedge
    → IsMetBeforeGoal apex wedge goal (Some corner) → IsCornerThrough apex portals goal ahead corner
met_before_goal portals goal apex ahead wedge corner look (inl left) =
    left_turn (record {
      place = length portals;
      wedge = wedge;
      look = look;
      is_left = left.is_left;
      closed = subst (λ (portal : Portal). pos 0 ≤ℤ orient_of apex wedge.left.at portal.right) (sym (portal_or_goal-end portals goal (length portals) (omega arith))) left.closed;
    })
met_before_goal portals goal apex ahead wedge corner look (inr right) =
    right_turn (record {
      place = length portals;
      wedge = wedge;
      look = look;
      is_right = right.is_right;
      right_of_left = subst (λ (portal : Portal). orient_of apex wedge.left.at portal.right <ℤ pos 0) same right.right_of_left;
      closed_left = subst (λ (portal : Portal). orient_of apex wedge.right.at portal.left ≤ℤ pos 0) same right.closed;
      closed_right = subst (λ (portal : Portal). orient_of apex wedge.right.at portal.right ≤ℤ pos 0) same right.closed;
    })
  where
    same : record { left = goal; right = goal } ≡ portal_or_goal portals goal (length portals)
    same = sym (portal_or_goal-end portals goal (length portals) (omega arith))

-- the goal lies in it
goal_inside : (portals : List Portal) (goal apex : Point) (ahead : ℕ) (wedge : Funnel) → IsLook apex portals ahead (length portals) wedge → IsMetBeforeGoal apex wedge goal None → IsInWedge apex portals goal ahead
goal_inside portals goal apex ahead wedge look inside = record { wedge = wedge; look = look; right_of_left = inside.right_of_left; left_of_right = inside.left_of_right }

-- where the wedge goes through all portals from `ahead` on, it closes before the goal or the goal lies in it
pub through_all : (portals : List Portal) (goal apex : Point) (ahead place : ℕ) (wedge : Funnel) (found : Option Corner) → length portals ≤ place → IsLook apex portals ahead place wedge → IsMetBeforeGoal apex wedge goal found
    → IsThrough apex portals goal ahead found
through_all portals goal apex ahead place wedge found all look met = by found met
  where
    whole : IsLook apex portals ahead (length portals) wedge
    whole = subst (λ (n : ℕ). IsLook apex portals ahead n wedge) (omega (arith, look.within)) look

    by : (found : Option Corner) → IsMetBeforeGoal apex wedge goal found → IsThrough apex portals goal ahead found
    by None inside = goal_inside portals goal apex ahead wedge whole inside
    by (Some corner) closes = met_before_goal portals goal apex ahead wedge corner whole closes

-- what comes next where the apex lies behind a portal
pub next_through : (portals : List Portal) (goal apex : Point) (first ahead : ℕ) (found : Option Corner) → IsAheadOf apex portals first ahead → IsThrough apex portals goal ahead found → IsNext apex portals goal first found
next_through portals goal apex first ahead None begins seen = in_wedge ahead begins seen
next_through portals goal apex first ahead (Some corner) begins closes = through ahead begins closes
