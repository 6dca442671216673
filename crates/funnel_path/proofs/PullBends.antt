-- The bends of the path so far: those that are closed are held, and what is known of the last run of stops at one point.
use Rattle.std.proofs.Common.{◌≡◌, ℕ, ◌+◌, ◌-◌, ◌≤◌, ◌<◌, ◌⊎◌, inl, inr, List, length, sym, ap, subst, ◌∙◌, arith}
use Rattle.nav_base.specs.declared.point.Point.{Point}
use Rattle.mesh_types.specs.declared.links.Portal.{Portal}
use Rattle.mesh_types.specs.declared.answers.Side.{Side}
use Rattle.mesh_types.specs.declared.answers.Corner.{Corner}
use Rattle.mesh_types.specs.Chains.{IsFold, portal_at, other_end_of}
use Rattle.mesh_types.specs.Bends.{HasSide, IsBend, IsFoldedOn, IsHolding, corner_of}
use Rattle.mesh_types.specs.Segments.{TautCorner, taut_corner_at}
use Rattle.mesh_types.proofs.Words.{IsHeld}

-- ---- stops and corners that two paths have in common

-- the stops up to a number, and the corners at them, are the same
pub record AreAlike (taut taut' : List TautCorner) (corners corners' : List Corner) (last : ℕ) : Type 0 where
  pub same_stops : (k : ℕ) → k ≤ last → taut_corner_at taut k ≡ taut_corner_at taut' k
  pub same_corners : (k : ℕ) → 1 ≤ k → k ≤ last → corner_of corners k ≡ corner_of corners' k

-- why a bend at c is held, for one who comes from b and goes on to a
pub data IsHeldFor (portals : List Portal) (corners : List Corner) (b c a : Point) (first last : ℕ) : Type 0 where
  by_next : (side : Side) (k : ℕ) → HasSide corners first last side k → IsHolding side b c a → IsHeldFor portals corners b c a first last
  by_end : (side : Side) (k : ℕ) → HasSide corners first last side k → IsHolding side b c (other_end_of side (portal_at portals (corner_of corners k).portal))
      → IsHeldFor portals corners b c a first last
  by_fold : IsFoldedOn portals corners first last → IsHeldFor portals corners b c a first last

has_side_alike : (taut taut' : List TautCorner) (corners corners' : List Corner) (last first end k : ℕ) (side : Side) → AreAlike taut taut' corners corners' last → 1 ≤ first → end ≤ last
    → HasSide corners first end side k → HasSide corners' first end side k
has_side_alike taut taut' corners corners' last first end k side alike some within has =
    record { from = has.from; to = has.to; sided = ap (λ (c : Corner). c.side) (sym (alike.same_corners k (omega (arith, has.from)) (omega (arith, has.to)))) ∙ has.sided }

folded_alike : (portals : List Portal) (taut taut' : List TautCorner) (corners corners' : List Corner) (last first end : ℕ) → AreAlike taut taut' corners corners' last → 1 ≤ first → end ≤ last
    → IsFoldedOn portals corners first end → IsFoldedOn portals corners' first end
folded_alike portals taut taut' corners corners' last first end alike some within folded =
    let same = alike.same_corners folded.corner (omega (arith, folded.from)) (omega (arith, folded.to)) in
    record {
      corner = folded.corner;
      from = folded.from;
      to = folded.to;
      next = subst (λ (c : Corner). c.portal + 1 < length portals) same folded.next;
      folds = subst (λ (c : Corner). IsFold (portal_at portals c.portal) (portal_at portals (c.portal + 1))) same folded.folds;
    }

pub held_for_alike : (portals : List Portal) (taut taut' : List TautCorner) (corners corners' : List Corner) (last first end : ℕ) (b c a : Point) → AreAlike taut taut' corners corners' last → 1 ≤ first → end ≤ last
    → IsHeldFor portals corners b c a first end → IsHeldFor portals corners' b c a first end
held_for_alike portals taut taut' corners corners' last first end b c a alike some within (by_next side k has holds) =
    by_next side k (has_side_alike taut taut' corners corners' last first end k side alike some within has) holds
held_for_alike portals taut taut' corners corners' last first end b c a alike some within (by_end side k has holds) =
    by_end side k (has_side_alike taut taut' corners corners' last first end k side alike some within has)
    (subst (λ (corner : Corner). IsHolding side b c (other_end_of side (portal_at portals corner.portal))) (alike.same_corners k (omega (arith, has.from)) (omega (arith, has.to))) holds)
held_for_alike portals taut taut' corners corners' last first end b c a alike some within (by_fold folded) =
    by_fold (folded_alike portals taut taut' corners corners' last first end alike some within folded)

-- a bend is held where it is held for the stops before and after it
pub held_of : (portals : List Portal) (taut : List TautCorner) (corners : List Corner) (first last : ℕ)
    → IsHeldFor portals corners (taut_corner_at taut (first - 1)).at (taut_corner_at taut first).at (taut_corner_at taut (last + 1)).at first last → IsHeld portals taut corners first last
held_of portals taut corners first last (by_next side k has holds) = inl (side, record { corner = k; has = has; held = inl holds })
held_of portals taut corners first last (by_end side k has holds) = inl (side, record { corner = k; has = has; held = inr (k, has, holds) })
held_of portals taut corners first last (by_fold folded) = inr folded

pub held_as : (portals : List Portal) (taut : List TautCorner) (corners : List Corner) (first last : ℕ) → IsHeld portals taut corners first last
    → IsHeldFor portals corners (taut_corner_at taut (first - 1)).at (taut_corner_at taut first).at (taut_corner_at taut (last + 1)).at first last
held_as portals taut corners first last (inr folded) = by_fold folded
held_as portals taut corners first last (inl (side, on)) = by on.held
  where
    by : IsHolding side (taut_corner_at taut (first - 1)).at (taut_corner_at taut first).at (taut_corner_at taut (last + 1)).at
        ⊎ ((k : ℕ) × HasSide corners first last side k × IsHolding side (taut_corner_at taut (first - 1)).at (taut_corner_at taut first).at (other_end_of side (portal_at portals (corner_of corners k).portal)))
        → IsHeldFor portals corners (taut_corner_at taut (first - 1)).at (taut_corner_at taut first).at (taut_corner_at taut (last + 1)).at first last
    by (inl holds) = by_next side on.corner on.has holds
    by (inr found) = by_end side found.0 found.1 found.2

-- the same at other points
pub held_at : (portals : List Portal) (corners : List Corner) (b b' c c' a a' : Point) (first last : ℕ) → b ≡ b' → c ≡ c' → a ≡ a' → IsHeldFor portals corners b c a first last → IsHeldFor portals corners b' c' a' first last
held_at portals corners b b' c c' a a' first last is_b is_c is_a held =
    subst (λ (p : Point). IsHeldFor portals corners p c' a' first last) is_b (subst (λ (p : Point). IsHeldFor portals corners b p a' first last) is_c (subst (λ (p : Point). IsHeldFor portals corners b c p first last) is_a held))

-- a bend among the common stops is a bend of both paths, and is held in the one where it is in the other
pub bend_alike : (taut taut' : List TautCorner) (corners corners' : List Corner) (last first end : ℕ) → AreAlike taut taut' corners corners' last → end + 1 ≤ last → end + 1 < length taut → IsBend taut' first end → IsBend taut first end
bend_alike taut taut' corners corners' last first end alike within there bend =
    record {
      some = bend.some;
      not_start = bend.not_start;
      not_goal = there;
      equal = λ k low high. at k (omega arith) ∙ bend.equal k low high ∙ sym (at first (omega (arith, bend.some)));
      not_before = λ same. bend.not_before (sym (at (first - 1) (omega (arith, bend.some))) ∙ same ∙ at first (omega (arith, bend.some)));
      not_after = λ same. bend.not_after (sym (at (end + 1) within) ∙ same ∙ at first (omega (arith, bend.some)));
    }
  where
    at : (k : ℕ) → k ≤ last → (taut_corner_at taut k).at ≡ (taut_corner_at taut' k).at
    at k h = ap (λ (stop : TautCorner). stop.at) (alike.same_stops k h)

pub held_alike : (portals : List Portal) (taut taut' : List TautCorner) (corners corners' : List Corner) (last first end : ℕ) → AreAlike taut taut' corners corners' last → 1 ≤ first → first ≤ end → end + 1 ≤ last
    → IsHeld portals taut corners first end → IsHeld portals taut' corners' first end
held_alike portals taut taut' corners corners' last first end alike some order within held =
    held_of portals taut' corners' first end
    (held_at portals corners' (taut_corner_at taut (first - 1)).at (taut_corner_at taut' (first - 1)).at (taut_corner_at taut first).at (taut_corner_at taut' first).at (taut_corner_at taut (end + 1)).at (taut_corner_at taut' (end + 1)).at first end
    (at (first - 1) (omega arith)) (at first (omega arith)) (at (end + 1) within)
    (held_for_alike portals taut taut' corners corners' last first end (taut_corner_at taut (first - 1)).at (taut_corner_at taut first).at (taut_corner_at taut (end + 1)).at alike some (omega arith) (held_as portals taut corners first end held)))
  where
    at : (k : ℕ) → k ≤ last → (taut_corner_at taut k).at ≡ (taut_corner_at taut' k).at
    at k h = ap (λ (stop : TautCorner). stop.at) (alike.same_stops k h)
