-- What one sees from the apex: a segment to the next corner or the goal goes through the portals between in the right way.
use Rattle.std.proofs.Common.{◌≡◌, ◌≢◌, ℕ, zero, suc, ◌+◌, ◌-◌, ◌≤◌, ◌<◌, ℤ, pos, ◌≤ℤ◌, ◌<ℤ◌, ◌⊎◌, inl, inr, List, length, arith}
use Rattle.std.proofs.lemmas.Int.{ints}
use Rattle.std.proofs.lemmas.Bool.{cases_lt}
use Rattle.nav_base.specs.declared.point.Point.{Point}
use Rattle.nav_base.specs.Point.{orient_of, from_to}
use Rattle.mesh_types.specs.declared.links.Portal.{Portal}
use Rattle.mesh_types.specs.declared.answers.Side.{Side}
use Rattle.mesh_types.specs.declared.answers.Side.TheVariants.{L, R}
use Rattle.mesh_types.specs.Portals.{along}
use Rattle.mesh_types.specs.Chains.{IsAhead, IsBehind, IsChain, portal_at, end_of}
use Rattle.mesh_types.specs.Segments.{GoesThrough, IsNoFurther, IsReached, LiesOnLine, LiesOn}
use Rattle.funnel_path.specs.PassedOver.{ArePassed}
use Rattle.funnel_path.proofs.SideRules.{positive-weak}
use Rattle.funnel_path.proofs.PointLaws.{LiesBetweenRays, ahead-between, exchanged-not_positive, exchanged-zero, faces_back, length-not_negative, rays-meet}
use Rattle.funnel_path.proofs.LineLaws.{alike-ahead, inside-left, inside-right, inside_parts}
use Rattle.funnel_path.proofs.InsideLaws.{inside_along, inside_lies}
use Rattle.funnel_path.proofs.ChainLaws.{chain_ahead}

-- a point is seen from the apex through the portals from `first` up to before `end`: those before `ahead` are passed over, the point lies
-- between the rays to the ends of each of the others, and ahead of the last
pub record IsSeen (apex q : Point) (portals : List Portal) (first ahead end : ℕ) : Type 0 where
  pub within : end ≤ length portals
  pub passed : ArePassed apex portals first ahead
  pub between : (m : ℕ) → ahead ≤ m → m < end → LiesBetweenRays apex (portal_at portals m).right (portal_at portals m).left q
  pub apart : ahead < end → apex ≢ q
  pub last : (m : ℕ) → m + 1 ≡ end → IsAhead (portal_at portals m) q

-- the apex lies behind each of those portals
seen_behind : (apex q : Point) (portals : List Portal) (first ahead end m : ℕ) → IsSeen apex q portals first ahead end → first ≤ m → m < end → IsBehind (portal_at portals m) apex
seen_behind apex q portals first ahead end m seen low high =
    elim (cases_lt m ahead) [
      | inl passed ↦ on_line (orient_of (portal_at portals m).right (portal_at portals m).left apex) (seen.passed.inside m low passed).on_line
      | inr from ↦ positive-weak (orient_of (portal_at portals m).right (portal_at portals m).left apex) (faces_back apex (portal_at portals m).right (portal_at portals m).left (seen.between m from high).wide)
    ]
  where
    on_line : (n : ℤ) → n ≡ pos 0 → pos 0 ≤ℤ n
    on_line n e = omega (arith, ints)

-- the point lies ahead of each, from the last one back
seen_ahead : (start : Point) (portals : List Portal) (goal apex q : Point) (first ahead end : ℕ) → IsChain start portals goal → IsSeen apex q portals first ahead end
    → (d m : ℕ) → m + d + 1 ≡ end → first ≤ m → IsAhead (portal_at portals m) q
seen_ahead start portals goal apex q first ahead end chain seen zero m e low = seen.last m (omega arith)
seen_ahead start portals goal apex q first ahead end chain seen (suc d) m e low =
    step (seen_ahead start portals goal apex q first ahead end chain seen d (m + 1) (omega arith) (omega arith)) (cases_lt (m + 1) ahead)
  where
    step : IsAhead (portal_at portals (m + 1)) q → (m + 1 < ahead) ⊎ (ahead ≤ m + 1) → IsAhead (portal_at portals m) q
    step next (inl passed) = alike-ahead (portal_at portals m) (portal_at portals (m + 1)) q (seen.passed.in_line m low passed) (seen.passed.alike m low passed) next
    step next (inr from) =
        let ends = chain_ahead start portals goal m chain (omega (arith, seen.within)) in
        ahead-between (portal_at portals m).right (portal_at portals m).left apex (portal_at portals (m + 1)).right (portal_at portals (m + 1)).left q (seen.between (m + 1) from (omega arith)) next
        (seen_behind apex q portals first ahead end m seen low (omega arith)) ends.left ends.right

-- the segment goes through each of them
pub seen_through : (start : Point) (portals : List Portal) (goal apex q : Point) (first ahead end m : ℕ) → IsChain start portals goal → IsSeen apex q portals first ahead end
    → first ≤ m → m < end → GoesThrough apex q (portal_at portals m)
seen_through start portals goal apex q first ahead end m chain seen low high = by (cases_lt m ahead)
  where
    portal : Portal
    portal = portal_at portals m

    to : IsAhead portal q
    to = seen_ahead start portals goal apex q first ahead end chain seen (end - (m + 1)) m (omega arith) low

    from : IsBehind portal apex
    from = seen_behind apex q portals first ahead end m seen low high

    by : (m < ahead) ⊎ (ahead ≤ m) → GoesThrough apex q portal
    by (inl passed) =
        let parts = inside_parts apex portal (seen.passed.inside m low passed) in
        record { left = inside-left apex portal.right portal.left q parts to; right = inside-right apex portal.right portal.left q parts to; from = from; to = to }
    by (inr beyond) =
        let rays = seen.between m beyond high in
        record { left = rays.from_left; right = exchanged-not_positive apex q portal.right rays.from_right; from = from; to = to }

-- a segment of no length lies on each
pub seen_lies : (apex q : Point) (portals : List Portal) (first ahead end m : ℕ) → IsSeen apex q portals first ahead end → first ≤ m → m < end → apex ≡ q → LiesOn apex (portal_at portals m)
seen_lies apex q portals first ahead end m seen low high same =
    elim (cases_lt m ahead) [
      | inl passed ↦ inside_lies apex (portal_at portals m) (seen.passed.inside m low passed)
      | inr from ↦ absurd (seen.apart (omega arith) same)
    ]

-- one end of a portal on the segment's line comes before the apex and the other after it
seen_along : (apex q : Point) (portals : List Portal) (first ahead end m : ℕ) → IsSeen apex q portals first ahead end → first ≤ m → m < end → apex ≢ q → LiesOnLine apex q (portal_at portals m)
    → ((along apex q (portal_at portals m).left <ℤ pos 0) × (pos 0 <ℤ along apex q (portal_at portals m).right)) ⊎ ((along apex q (portal_at portals m).right <ℤ pos 0) × (pos 0 <ℤ along apex q (portal_at portals m).left))
seen_along apex q portals first ahead end m seen low high apart on = by (cases_lt m ahead)
  where
    portal : Portal
    portal = portal_at portals m

    by : (m < ahead) ⊎ (ahead ≤ m) → ((along apex q portal.left <ℤ pos 0) × (pos 0 <ℤ along apex q portal.right)) ⊎ ((along apex q portal.right <ℤ pos 0) × (pos 0 <ℤ along apex q portal.left))
    by (inl passed) = inside_along apex q portal (seen.passed.inside m low passed) apart on.left
    by (inr beyond) = absurd (apart (rays-meet apex portal.right portal.left q (seen.between m beyond high).wide (exchanged-zero apex portal.right q on.right) on.left))

pub record HasEndsAround (apex q : Point) (portal : Portal) : Type 0 where
  pub first : Side
  pub before : along apex q (end_of first portal) <ℤ pos 0
  pub last : Side
  pub after : pos 0 <ℤ along apex q (end_of last portal)

seen_around : (apex q : Point) (portals : List Portal) (first ahead end m : ℕ) → IsSeen apex q portals first ahead end → first ≤ m → m < end → apex ≢ q → LiesOnLine apex q (portal_at portals m)
    → HasEndsAround apex q (portal_at portals m)
seen_around apex q portals first ahead end m seen low high apart on =
    elim (seen_along apex q portals first ahead end m seen low high apart on) [
      | inl ends ↦ record { first = L; before = ends.0; last = R; after = ends.1 }
      | inr ends ↦ record { first = R; before = ends.0; last = L; after = ends.1 }
    ]

pub seen_reached : (apex q : Point) (portals : List Portal) (first ahead end m : ℕ) → IsSeen apex q portals first ahead end → first ≤ m → m < end → apex ≢ q → LiesOnLine apex q (portal_at portals m)
    → IsReached apex q (portal_at portals m)
seen_reached apex q portals first ahead end m seen low high apart on =
    let around = seen_around apex q portals first ahead end m seen low high apart on in
    record { begin = begins around.last around.after; end = ends around.first around.before }
  where
    portal : Portal
    portal = portal_at portals m

    begins : (side : Side) → pos 0 <ℤ along apex q (end_of side portal) → (pos 0 ≤ℤ along apex q portal.left) ⊎ (pos 0 ≤ℤ along apex q portal.right)
    begins L h = inl (positive-weak (along apex q portal.left) h)
    begins R h = inr (positive-weak (along apex q portal.right) h)

    below : (n k : ℤ) → n <ℤ pos 0 → pos 0 ≤ℤ k → n ≤ℤ k
    below n k h j = omega (arith, ints)

    ends : (side : Side) → along apex q (end_of side portal) <ℤ pos 0 → (along apex q portal.left ≤ℤ along apex q q) ⊎ (along apex q portal.right ≤ℤ along apex q q)
    ends L h = inl (below (along apex q portal.left) (along apex q q) h (length-not_negative (from_to apex q)))
    ends R h = inr (below (along apex q portal.right) (along apex q q) h (length-not_negative (from_to apex q)))

-- the earlier of two such portals has an end before the apex, and the later one an end after it
pub seen_in_turn : (apex q : Point) (portals : List Portal) (first ahead end m m' : ℕ) → IsSeen apex q portals first ahead end → first ≤ m → m < end → first ≤ m' → m' < end → apex ≢ q
    → LiesOnLine apex q (portal_at portals m) → LiesOnLine apex q (portal_at portals m') → IsNoFurther apex q (portal_at portals m) (portal_at portals m')
seen_in_turn apex q portals first ahead end m m' seen low high low' high' apart on on' =
    let around = seen_around apex q portals first ahead end m seen low high apart on in
    let around' = seen_around apex q portals first ahead end m' seen low' high' apart on' in
    (around.first, around'.last, less (along apex q (end_of around.first (portal_at portals m))) (along apex q (end_of around'.last (portal_at portals m'))) around.before around'.after)
  where
    less : (n k : ℤ) → n <ℤ pos 0 → pos 0 <ℤ k → n ≤ℤ k
    less n k h j = omega (arith, ints)
