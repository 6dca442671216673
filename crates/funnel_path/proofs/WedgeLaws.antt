-- How a wedge narrows: it goes on through all portals that it went through, and through one more.
use Rattle.std.proofs.Common.{◌≡◌, ◌≢◌, ℕ, ◌+◌, ◌≤◌, ◌<◌, ℤ, pos, ◌+ℤ◌, ◌≤ℤ◌, ◌<ℤ◌, ◌⊎◌, inl, inr, List, refl, sym, subst, arith}
use Rattle.std.proofs.lemmas.Int.{ints}
use Rattle.std.proofs.lemmas.Bool.{cases_eq}
use Rattle.nav_base.specs.declared.point.Point.{Point}
use Rattle.nav_base.specs.Point.{orient_of}
use Rattle.nav_base.proofs.OrientLaws.{orient_of-end, orient_of-parts}
use Rattle.mesh_types.specs.declared.links.Portal.{Portal}
use Rattle.mesh_types.specs.declared.answers.Side.TheVariants.{L, R}
use Rattle.mesh_types.specs.declared.answers.Corner.{Corner}
use Rattle.mesh_types.specs.Chains.{portal_at}
use Rattle.funnel_path.specs.declared.funnel.Funnel.{Funnel}
use Rattle.funnel_path.specs.Corners.{corner_at_end}
use Rattle.funnel_path.specs.Looks.{GoesThroughAll, IsEndFrom, IsWedge}
use Rattle.funnel_path.specs.Wedges.{IsInFront, IsLeftRay, IsNarrowed, IsRightRay, StaysOpen, wedge_of}
use Rattle.funnel_path.proofs.SideRules.{signs, positive-weak, negative-weak, zero-at_least, zero-at_most}
use Rattle.funnel_path.proofs.PointLaws.{LiesBetweenRays, exchanged-negative, exchanged-not_negative, exchanged-not_positive, exchanged-positive, faces, faces_back, order_in_half_plane, ray-left, ray-left_strictly, ray-right, ray-right_strictly, turn-second, turn-third}

-- ---- the rays in the wedge

-- a point lies in the closed wedge
pub record IsInClosed (apex : Point) (wedge : Funnel) (q : Point) : Type 0 where
  pub from_right : pos 0 ≤ℤ orient_of apex wedge.right.at q
  pub from_left : pos 0 ≤ℤ orient_of apex q wedge.left.at

-- the corners on its rays lie in it, and each point strictly inside; they differ from the apex
pub left_closed : (apex : Point) (wedge : Funnel) → pos 0 <ℤ orient_of apex wedge.right.at wedge.left.at → IsInClosed apex wedge wedge.left.at
left_closed apex wedge wide =
    record { from_right = positive-weak (orient_of apex wedge.right.at wedge.left.at) wide; from_left = zero-at_least (orient_of apex wedge.left.at wedge.left.at) (orient_of-end apex wedge.left.at) }

pub left_apart : (apex : Point) (wedge : Funnel) → pos 0 <ℤ orient_of apex wedge.right.at wedge.left.at → apex ≢ wedge.left.at
left_apart apex wedge wide = turn-third apex wedge.right.at wedge.left.at wide

pub right_closed : (apex : Point) (wedge : Funnel) → pos 0 <ℤ orient_of apex wedge.right.at wedge.left.at → IsInClosed apex wedge wedge.right.at
right_closed apex wedge wide =
    record { from_right = zero-at_least (orient_of apex wedge.right.at wedge.right.at) (orient_of-end apex wedge.right.at); from_left = positive-weak (orient_of apex wedge.right.at wedge.left.at) wide }

pub right_apart : (apex : Point) (wedge : Funnel) → pos 0 <ℤ orient_of apex wedge.right.at wedge.left.at → apex ≢ wedge.right.at
right_apart apex wedge wide = turn-second apex wedge.right.at wedge.left.at wide

pub inside_closed : (apex : Point) (wedge : Funnel) (q : Point) → orient_of apex wedge.left.at q <ℤ pos 0 → pos 0 <ℤ orient_of apex wedge.right.at q → IsInClosed apex wedge q
inside_closed apex wedge q of_left of_right =
    record { from_right = positive-weak (orient_of apex wedge.right.at q) of_right; from_left = positive-weak (orient_of apex q wedge.left.at) (exchanged-positive apex q wedge.left.at of_left) }

pub inside_apart : (apex : Point) (wedge : Funnel) (q : Point) → pos 0 <ℤ orient_of apex wedge.right.at q → apex ≢ q
inside_apart apex wedge q of_right = turn-third apex wedge.right.at q of_right

between : (apex : Point) (wedge : Funnel) (q : Point) → pos 0 <ℤ orient_of apex wedge.right.at wedge.left.at → IsInClosed apex wedge q → LiesBetweenRays apex wedge.right.at wedge.left.at q
between apex wedge q wide closed = record { wide = wide; from_right = closed.from_right; from_left = closed.from_left }

-- then it lies between the rays to the ends of each portal that the wedge goes through
pub between_ends : (apex : Point) (wedge : Funnel) (portal : Portal) (q : Point) → pos 0 <ℤ orient_of apex wedge.right.at wedge.left.at → GoesThroughAll apex wedge portal → IsInClosed apex wedge q
    → LiesBetweenRays apex portal.right portal.left q
between_ends apex wedge portal q wide through closed =
    let rays = between apex wedge q wide closed in
    record {
      wide = faces apex portal.right portal.left through.behind;
      from_right = ray-right apex wedge.right.at wedge.left.at q portal.right rays through.right_of_right (negative-weak (orient_of apex wedge.left.at portal.right) through.right_of_left);
      from_left = ray-left apex wedge.right.at wedge.left.at q portal.left rays through.left_of_left (positive-weak (orient_of apex wedge.right.at portal.left) through.left_of_right);
    }

-- and a point strictly inside the wedge lies strictly between them
pub inside_rays : (apex : Point) (wedge : Funnel) (portal : Portal) (q : Point) → pos 0 <ℤ orient_of apex wedge.right.at wedge.left.at → GoesThroughAll apex wedge portal
    → orient_of apex wedge.left.at q <ℤ pos 0 → pos 0 <ℤ orient_of apex wedge.right.at q → (pos 0 <ℤ orient_of apex portal.right q) × (pos 0 <ℤ orient_of apex q portal.left)
inside_rays apex wedge portal q wide through of_left of_right =
    let inside = exchanged-positive apex q wedge.left.at of_left in
    let rays : LiesBetweenRays apex wedge.right.at wedge.left.at q =
    record { wide = wide; from_right = positive-weak (orient_of apex wedge.right.at q) of_right; from_left = positive-weak (orient_of apex q wedge.left.at) inside } in (
      ray-right_strictly apex wedge.right.at wedge.left.at q portal.right rays of_right through.right_of_right through.right_of_left,
      ray-left_strictly apex wedge.right.at wedge.left.at q portal.left rays inside through.left_of_left through.left_of_right,
    )

-- the right ray's corner is seen beyond the apex by each portal that the wedge goes through
pub right_beyond : (apex : Point) (wedge : Funnel) (portal : Portal) → GoesThroughAll apex wedge portal → orient_of portal.right portal.left wedge.right.at <ℤ orient_of portal.right portal.left apex
right_beyond apex wedge portal through =
    less (orient_of portal.right portal.left apex) (orient_of portal.right portal.left wedge.right.at) (orient_of apex portal.right wedge.right.at) (orient_of apex wedge.right.at portal.left)
    (orient_of-parts apex portal.right portal.left wedge.right.at) (exchanged-not_negative apex portal.right wedge.right.at through.right_of_right) through.left_of_right
  where
    less : (e m n o : ℤ) → e ≡ m +ℤ n +ℤ o → pos 0 ≤ℤ n → pos 0 <ℤ o → m <ℤ e
    less e m n o is p q = omega (arith, ints)

-- and so is the left ray's
pub left_beyond : (apex : Point) (wedge : Funnel) (portal : Portal) → GoesThroughAll apex wedge portal → orient_of portal.right portal.left wedge.left.at <ℤ orient_of portal.right portal.left apex
left_beyond apex wedge portal through =
    less (orient_of portal.right portal.left apex) (orient_of portal.right portal.left wedge.left.at) (orient_of apex portal.right wedge.left.at) (orient_of apex wedge.left.at portal.left)
    (orient_of-parts apex portal.right portal.left wedge.left.at) (exchanged-positive apex portal.right wedge.left.at through.right_of_left) through.left_of_left
  where
    less : (e m n o : ℤ) → e ≡ m +ℤ n +ℤ o → pos 0 <ℤ n → pos 0 ≤ℤ o → m <ℤ e
    less e m n o is p q = omega (arith, ints)

-- ---- one ray after the other

-- the left ray moves to a point that is not to its left and to the left of the right ray
moved_left : (apex : Point) (wedge : Funnel) (corner : Corner) (portal : Portal) → pos 0 <ℤ orient_of apex wedge.right.at wedge.left.at → GoesThroughAll apex wedge portal
    → orient_of apex wedge.left.at corner.at ≤ℤ pos 0 → pos 0 <ℤ orient_of apex wedge.right.at corner.at → GoesThroughAll apex (record { left = corner; right = wedge.right }) portal
moved_left apex wedge corner portal wide through at_left at_right =
    let rays : LiesBetweenRays apex wedge.right.at wedge.left.at corner.at =
    record { wide = wide; from_right = positive-weak (orient_of apex wedge.right.at corner.at) at_right; from_left = exchanged-not_negative apex corner.at wedge.left.at at_left } in
    record {
      behind = through.behind;
      left_of_left = ray-left apex wedge.right.at wedge.left.at corner.at portal.left rays through.left_of_left (positive-weak (orient_of apex wedge.right.at portal.left) through.left_of_right);
      right_of_left = exchanged-negative apex corner.at portal.right (ray-right_strictly apex wedge.right.at wedge.left.at corner.at portal.right rays at_right through.right_of_right through.right_of_left);
      right_of_right = through.right_of_right;
      left_of_right = through.left_of_right;
    }

-- the right ray moves to a point that is not to its right and to the right of the left ray
moved_right : (apex : Point) (wedge : Funnel) (corner : Corner) (portal : Portal) → pos 0 <ℤ orient_of apex wedge.right.at wedge.left.at → GoesThroughAll apex wedge portal
    → pos 0 ≤ℤ orient_of apex wedge.right.at corner.at → pos 0 <ℤ orient_of apex corner.at wedge.left.at → GoesThroughAll apex (record { left = wedge.left; right = corner }) portal
moved_right apex wedge corner portal wide through at_right at_left =
    let rays : LiesBetweenRays apex wedge.right.at wedge.left.at corner.at =
    record { wide = wide; from_right = at_right; from_left = positive-weak (orient_of apex corner.at wedge.left.at) at_left } in
    record {
      behind = through.behind;
      left_of_left = through.left_of_left;
      right_of_left = through.right_of_left;
      right_of_right = exchanged-not_positive apex corner.at portal.right (ray-right apex wedge.right.at wedge.left.at corner.at portal.right rays through.right_of_right (negative-weak (orient_of apex wedge.left.at portal.right) through.right_of_left));
      left_of_right = ray-left_strictly apex wedge.right.at wedge.left.at corner.at portal.left rays at_left through.left_of_left through.left_of_right;
    }

-- what is known once the left ray has moved to one more portal and the right ray has not: the wedge is open, and the portal's right end is
-- to the right of the left ray
record IsHalfNarrowed (apex : Point) (wedge : Funnel) (portal : Portal) (left : Corner) : Type 0 where
  wide : pos 0 <ℤ orient_of apex wedge.right.at left.at
  before : pos 0 <ℤ orient_of apex portal.right left.at
  left_of_left : pos 0 ≤ℤ orient_of apex left.at portal.left
  keeps : (other : Portal) → GoesThroughAll apex wedge other → GoesThroughAll apex (record { left = left; right = wedge.right }) other

half_narrowed : (apex : Point) (wedge : Funnel) (portal : Portal) (place : ℕ) (left : Corner) → pos 0 <ℤ orient_of apex wedge.right.at wedge.left.at → StaysOpen apex wedge portal
    → pos 0 <ℤ orient_of portal.right portal.left apex → IsLeftRay apex wedge portal place left → IsHalfNarrowed apex wedge portal left
half_narrowed apex wedge portal place left wide stays behind (inr (further, same)) =
    subst (IsHalfNarrowed apex wedge portal) (sym same) (record {
      wide = wide;
      before = exchanged-positive apex portal.right wedge.left.at stays.right_of_left;
      left_of_left = positive-weak (orient_of apex wedge.left.at portal.left) further;
      keeps = λ other through. through;
    })
half_narrowed apex wedge portal place left wide stays behind (inl (nearer, same)) =
    subst (IsHalfNarrowed apex wedge portal) (sym same) (record {
      wide = stays.left_of_right;
      before = faces apex portal.right portal.left behind;
      left_of_left = zero-at_least (orient_of apex portal.left portal.left) (orient_of-end apex portal.left);
      keeps = λ other through. moved_left apex wedge (corner_at_end L portal place) other wide through nearer stays.left_of_right;
    })

-- what is known once both rays have moved
pub record IsFullyNarrowed (apex : Point) (portal : Portal) (wedge narrower : Funnel) : Type 0 where
  pub wide : pos 0 <ℤ orient_of apex narrower.right.at narrower.left.at
  pub goes : GoesThroughAll apex narrower portal
  pub keeps : (other : Portal) → GoesThroughAll apex wedge other → GoesThroughAll apex narrower other

fully : (apex : Point) (wedge : Funnel) (portal : Portal) (place : ℕ) (left right : Corner) → StaysOpen apex wedge portal → pos 0 <ℤ orient_of portal.right portal.left apex
    → IsHalfNarrowed apex wedge portal left → IsRightRay apex wedge portal place right → IsFullyNarrowed apex portal wedge (record { left = left; right = right })
fully apex wedge portal place left right stays behind half (inr (further, same)) =
    subst (λ (corner : Corner). IsFullyNarrowed apex portal wedge (record { left = left; right = corner })) (sym same) (record {
      wide = half.wide;
      goes = record {
        behind = behind;
        left_of_left = half.left_of_left;
        right_of_left = exchanged-negative apex left.at portal.right half.before;
        right_of_right = negative-weak (orient_of apex wedge.right.at portal.right) further;
        left_of_right = stays.left_of_right;
      };
      keeps = half.keeps;
    })
fully apex wedge portal place left right stays behind half (inl (nearer, same)) =
    subst (λ (corner : Corner). IsFullyNarrowed apex portal wedge (record { left = left; right = corner })) (sym same) (record {
      wide = half.before;
      goes = record {
        behind = behind;
        left_of_left = half.left_of_left;
        right_of_left = exchanged-negative apex left.at portal.right half.before;
        right_of_right = zero-at_most (orient_of apex portal.right portal.right) (orient_of-end apex portal.right);
        left_of_right = faces apex portal.right portal.left behind;
      };
      keeps = λ other through. moved_right apex (record { left = left; right = wedge.right }) (corner_at_end R portal place) other half.wide (half.keeps other through) nearer half.before;
    })

-- a wedge that stays open at a portal that the apex lies behind
pub narrowed_through : (apex : Point) (wedge narrower : Funnel) (portal : Portal) (place : ℕ) → pos 0 <ℤ orient_of apex wedge.right.at wedge.left.at → StaysOpen apex wedge portal
    → pos 0 <ℤ orient_of portal.right portal.left apex → IsNarrowed apex wedge portal place narrower → IsFullyNarrowed apex portal wedge narrower
narrowed_through apex wedge narrower portal place wide stays behind is =
    fully apex wedge portal place narrower.left narrower.right stays behind (half_narrowed apex wedge portal place narrower.left wide stays behind is.left) is.right

-- ---- the portal at which the wedge stays open

-- the apex lies behind a portal that has its right end to the left of the right ray and is not seen from its front
pub not_in_front : (apex : Point) (wedge : Funnel) (portal : Portal) → (IsInFront apex wedge portal → ⊥) → pos 0 <ℤ orient_of apex wedge.right.at portal.right → pos 0 <ℤ orient_of portal.right portal.left apex
not_in_front apex wedge portal not inside =
    elim (signs (orient_of portal.right portal.left apex)) [
      | inl less ↦ absurd (not (record { left_of_right = inside; front = negative-weak (orient_of portal.right portal.left apex) less }))
      | inr (inl none) ↦ absurd (not (record { left_of_right = inside; front = zero-at_most (orient_of portal.right portal.left apex) none }))
      | inr (inr more) ↦ more
    ]

-- the apex lies behind it, where the portal before it has both its ends ahead
pub stays_behind : (apex : Point) (wedge : Funnel) (before portal : Portal) → GoesThroughAll apex wedge before → orient_of before.right before.left portal.left ≤ℤ pos 0
    → orient_of before.right before.left portal.right ≤ℤ pos 0 → StaysOpen apex wedge portal → pos 0 <ℤ orient_of portal.right portal.left apex
stays_behind apex wedge before portal through at_left at_right stays =
    elim (signs (orient_of apex wedge.right.at portal.right)) [
      | inl less ↦ outside (negative-weak (orient_of apex wedge.right.at portal.right) less)
      | inr (inl none) ↦ outside (zero-at_most (orient_of apex wedge.right.at portal.right) none)
      | inr (inr more) ↦ not_in_front apex wedge portal stays.behind more
    ]
  where
    beyond : (m n : ℤ) → m ≤ℤ pos 0 → pos 0 <ℤ n → m <ℤ n
    beyond m n h k = omega (arith, ints)

    outside : orient_of apex wedge.right.at portal.right ≤ℤ pos 0 → pos 0 <ℤ orient_of portal.right portal.left apex
    outside h =
        faces_back apex portal.right portal.left (order_in_half_plane before.right before.left apex wedge.right.at portal.right portal.left (right_beyond apex wedge before through)
        (beyond (orient_of before.right before.left portal.right) (orient_of before.right before.left apex) at_right through.behind) (beyond (orient_of before.right before.left portal.left) (orient_of before.right before.left apex) at_left through.behind)
        h (positive-weak (orient_of apex wedge.right.at portal.left) stays.left_of_right) (beyond (orient_of apex wedge.right.at portal.right) (orient_of apex wedge.right.at portal.left) h stays.left_of_right))

-- ---- the wedge through portals of a list

-- the wedge through one portal
pub wedge_first : (apex : Point) (portals : List Portal) (ahead : ℕ) → pos 0 <ℤ orient_of (portal_at portals ahead).right (portal_at portals ahead).left apex
    → IsWedge apex portals ahead (ahead + 1) (wedge_of (portal_at portals ahead) ahead)
wedge_first apex portals ahead behind =
    record {
      left = record { sided = refl; from = omega arith; before = omega arith; at_end = refl };
      right = record { sided = refl; from = omega arith; before = omega arith; at_end = refl };
      wide = wide;
      through = λ m from before. subst (λ (n : ℕ). GoesThroughAll apex (wedge_of portal ahead) (portal_at portals n)) (same m from before) goes;
    }
  where
    portal : Portal
    portal = portal_at portals ahead

    wide : pos 0 <ℤ orient_of apex portal.right portal.left
    wide = faces apex portal.right portal.left behind

    same : (m : ℕ) → ahead ≤ m → m < ahead + 1 → ahead ≡ m
    same m from before = omega arith

    goes : GoesThroughAll apex (wedge_of portal ahead) portal
    goes = record {
      behind = behind;
      left_of_left = zero-at_least (orient_of apex portal.left portal.left) (orient_of-end apex portal.left);
      right_of_left = exchanged-negative apex portal.left portal.right wide;
      right_of_right = zero-at_most (orient_of apex portal.right portal.right) (orient_of-end apex portal.right);
      left_of_right = wide;
    }

-- an end of a portal up to a place is one up to the next place
later_left : (apex : Point) (portals : List Portal) (ahead place : ℕ) (wedge : Funnel) (corner : Corner) → ahead ≤ place → IsEndFrom portals ahead place L wedge.left
    → IsLeftRay apex wedge (portal_at portals place) place corner → IsEndFrom portals ahead (place + 1) L corner
later_left apex portals ahead place wedge corner from is (inl (nearer, same)) =
    subst (IsEndFrom portals ahead (place + 1) L) (sym same) (record { sided = refl; from = from; before = omega arith; at_end = refl })
later_left apex portals ahead place wedge corner from is (inr (further, same)) =
    subst (IsEndFrom portals ahead (place + 1) L) (sym same) (record { sided = is.sided; from = is.from; before = omega (arith, is.before); at_end = is.at_end })

later_right : (apex : Point) (portals : List Portal) (ahead place : ℕ) (wedge : Funnel) (corner : Corner) → ahead ≤ place → IsEndFrom portals ahead place R wedge.right
    → IsRightRay apex wedge (portal_at portals place) place corner → IsEndFrom portals ahead (place + 1) R corner
later_right apex portals ahead place wedge corner from is (inl (nearer, same)) =
    subst (IsEndFrom portals ahead (place + 1) R) (sym same) (record { sided = refl; from = from; before = omega arith; at_end = refl })
later_right apex portals ahead place wedge corner from is (inr (further, same)) =
    subst (IsEndFrom portals ahead (place + 1) R) (sym same) (record { sided = is.sided; from = is.from; before = omega (arith, is.before); at_end = is.at_end })

-- the wedge through one portal more
pub wedge_more : (apex : Point) (portals : List Portal) (ahead place : ℕ) (wedge narrower : Funnel) → ahead ≤ place → IsWedge apex portals ahead place wedge → StaysOpen apex wedge (portal_at portals place)
    → pos 0 <ℤ orient_of (portal_at portals place).right (portal_at portals place).left apex → IsNarrowed apex wedge (portal_at portals place) place narrower
    → IsWedge apex portals ahead (place + 1) narrower
wedge_more apex portals ahead place wedge narrower from seen stays behind is =
    let full = narrowed_through apex wedge narrower (portal_at portals place) place seen.wide stays behind is in
    record {
      left = later_left apex portals ahead place wedge narrower.left from seen.left is.left;
      right = later_right apex portals ahead place wedge narrower.right from seen.right is.right;
      wide = full.wide;
      through = λ m low high. through full m low (cases_eq m place) high;
    }
  where
    through : IsFullyNarrowed apex (portal_at portals place) wedge narrower → (m : ℕ) → ahead ≤ m → (m ≡ place) ⊎ (m ≡ place → ⊥) → m < place + 1 → GoesThroughAll apex narrower (portal_at portals m)
    through full m low (inl same) high = subst (λ (n : ℕ). GoesThroughAll apex narrower (portal_at portals n)) (sym same) full.goes
    through full m low (inr other) high = full.keeps (portal_at portals m) (seen.through m low (omega arith))
