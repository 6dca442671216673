-- Tight segments, by the two stops at their ends.
use Rattle.std.proofs.Common.{◌≡◌, ◌≢◌, ℕ, ◌+◌, ◌≤◌, ◌<◌, List, sym, subst, arith}
use Rattle.nav_base.specs.declared.point.Point.{Point}
use Rattle.mesh_types.specs.declared.links.Portal.{Portal}
use Rattle.mesh_types.specs.Chains.{IsChain, portal_at}
use Rattle.mesh_types.specs.Segments.{GoesThrough, IsNoFurther, IsReached, IsTight, LiesOnLine, TautCorner, taut_corner_at, LiesOn}
use Rattle.funnel_path.proofs.SightLaws.{IsSeen, seen_in_turn, seen_lies, seen_reached, seen_through}

-- a portal's place lies strictly between the numbers of two stops
pub record StandsBetween (from to : TautCorner) (m : ℕ) : Type 0 where
  pub after : from.number < m + 1
  pub before : m + 1 < to.number

-- the segment from one stop to the next is tight
pub record IsTightFrom (portals : List Portal) (from to : TautCorner) : Type 0 where
  pub through : (m : ℕ) → StandsBetween from to m → GoesThrough from.at to.at (portal_at portals m)
  pub lies : (m : ℕ) → StandsBetween from to m → from.at ≡ to.at → LiesOn from.at (portal_at portals m)
  pub reached : (m : ℕ) → StandsBetween from to m → from.at ≢ to.at → LiesOnLine from.at to.at (portal_at portals m) → IsReached from.at to.at (portal_at portals m)
  pub in_turn : (m m' : ℕ) → m < m' → StandsBetween from to m → StandsBetween from to m' → from.at ≢ to.at
      → LiesOnLine from.at to.at (portal_at portals m) → LiesOnLine from.at to.at (portal_at portals m') → IsNoFurther from.at to.at (portal_at portals m) (portal_at portals m')

-- then the segment from that place in a list of stops is
pub tight_at : (portals : List Portal) (taut : List TautCorner) (k : ℕ) (from to : TautCorner) → taut_corner_at taut k ≡ from → taut_corner_at taut (k + 1) ≡ to → IsTightFrom portals from to → IsTight portals taut k
tight_at portals taut k from to is_from is_to tight =
    here (subst (λ (stop : TautCorner). IsTightFrom portals stop (taut_corner_at taut (k + 1))) (sym is_from) (subst (IsTightFrom portals from) (sym is_to) tight))
  where
    here : IsTightFrom portals (taut_corner_at taut k) (taut_corner_at taut (k + 1)) → IsTight portals taut k
    here is = record {
      through = λ m spanned. is.through m (record { after = spanned.after; before = spanned.before });
      lies = λ m spanned. is.lies m (record { after = spanned.after; before = spanned.before });
      reached = λ m spanned. is.reached m (record { after = spanned.after; before = spanned.before });
      in_turn = λ m m' less spanned spanned'. is.in_turn m m' less (record { after = spanned.after; before = spanned.before }) (record { after = spanned'.after; before = spanned'.before });
    }

-- the segment to a point that is seen is tight
pub tight_seen : (start : Point) (portals : List Portal) (goal apex q : Point) (first ahead end : ℕ) → IsChain start portals goal → IsSeen apex q portals first ahead end
    → IsTightFrom portals (record { at = apex; number = first }) (record { at = q; number = end + 1 })
tight_seen start portals goal apex q first ahead end chain seen =
    record {
      through = λ m between. seen_through start portals goal apex q first ahead end m chain seen (low m between) (high m between);
      lies = λ m between. seen_lies apex q portals first ahead end m seen (low m between) (high m between);
      reached = λ m between. seen_reached apex q portals first ahead end m seen (low m between) (high m between);
      in_turn = λ m m' less between between'. seen_in_turn apex q portals first ahead end m m' seen (low m between) (high m between) (low m' between') (high m' between');
    }
  where
    low : (m : ℕ) → StandsBetween (record { at = apex; number = first }) (record { at = q; number = end + 1 }) m → first ≤ m
    low m between = omega (arith, between.after)

    high : (m : ℕ) → StandsBetween (record { at = apex; number = first }) (record { at = q; number = end + 1 }) m → m < end
    high m between = omega (arith, between.before)
