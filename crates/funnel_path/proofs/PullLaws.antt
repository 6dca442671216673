-- What `pull` keeps: the path so far is tight, its closed bends are held, and the last run's state is known; and the taut path that it comes to.
use Rattle.std.proofs.Common.{◌≡◌, ◌≢◌, ℕ, ◌+◌, ◌≤◌, ℤ, pos, ◌<ℤ◌, ◌⊎◌, inl, inr, List, [], ◌∷◌, ◌++◌, length, refl, sym, ap, subst, ◌∙◌, arith}
use Rattle.std.proofs.lemmas.Int.{ints}
use Rattle.nav_base.specs.declared.point.Point.{Point}
use Rattle.nav_base.specs.Point.{dot_of, from_to}
use Rattle.mesh_types.specs.declared.links.Portal.{Portal}
use Rattle.mesh_types.specs.declared.answers.Corner.{Corner}
use Rattle.mesh_types.specs.Chains.{IsChain}
use Rattle.mesh_types.specs.Taut.{IsTaut}
use Rattle.mesh_types.specs.Segments.{TautCorner, taut_corner_at}
use Rattle.funnel_path.specs.NextCorners.{IsCornerNext, IsGoalNext}
use Rattle.funnel_path.proofs.SideRules.{not_negative-signs}
use Rattle.funnel_path.proofs.PointLaws.{dot_of-still, length-not_negative, length-zero}
use Rattle.funnel_path.proofs.StopLaws.{stops_so_far}
use Rattle.funnel_path.proofs.NextLaws.{next_goal, next_step}
use Rattle.funnel_path.proofs.PathLaws.{IsThreaded, threaded_more, threaded_start, threaded_taut}
use Rattle.funnel_path.proofs.PullRuns.{AreHeld, held_goal, held_more, held_none, held_same}
use Rattle.funnel_path.proofs.PullStates.{RunState, at_start, state_arrives, state_begins, state_grows, state_leaves}

pub record IsPulled (start : Point) (portals : List Portal) (goal : Point) (corners : List Corner) (apex : Point) (first : ℕ) : Type 0 where
  pub threaded : IsThreaded start portals corners apex first
  pub held : AreHeld start portals corners
  pub state : RunState start portals goal corners apex first

pub pulled_start : (start : Point) (portals : List Portal) (goal : Point) → IsPulled start portals goal [] start 0
pulled_start start portals goal =
    record { threaded = threaded_start start portals; held = held_none start portals; state = at_start (record { equal = λ k h. subst (λ (n : ℕ). (taut_corner_at (stops_so_far start []) n).at ≡ start) (first k h) refl }) }
  where
    first : (k : ℕ) → k ≤ 0 → 0 ≡ k
    first k h = omega arith

-- two points are one or not
same_or_apart : (p q : Point) → (p ≡ q) ⊎ (p ≢ q)
same_or_apart p q =
    elim (not_negative-signs (dot_of (from_to p q) (from_to p q)) (length-not_negative (from_to p q))) [
      | inl none ↦ inl (length-zero p q none)
      | inr some ↦ inr (λ same. apart (dot_of (from_to p q) (from_to p q)) (ap (λ (r : Point). dot_of (from_to p r) (from_to p r)) (sym same) ∙ dot_of-still (from_to p p) p) some)
    ]
  where
    apart : (n : ℤ) → n ≡ pos 0 → pos 0 <ℤ n → ⊥
    apart n e h = omega (arith, ints)

pub pulled_more : (start : Point) (portals : List Portal) (goal : Point) (corners : List Corner) (apex : Point) (first : ℕ) (corner : Corner) → IsChain start portals goal
    → IsPulled start portals goal corners apex first → IsCornerNext apex portals goal first corner → IsPulled start portals goal (corners ++ corner ∷ []) corner.at (corner.portal + 1)
pulled_more start portals goal corners apex first corner chain pulled next = by (same_or_apart corner.at apex)
  where
    last : (taut_corner_at (stops_so_far start corners) (length corners)).at ≡ apex
    last = ap (λ (stop : TautCorner). stop.at) pulled.threaded.last

    threaded : IsThreaded start portals (corners ++ corner ∷ []) corner.at (corner.portal + 1)
    threaded = threaded_more start portals goal corners apex first corner chain pulled.threaded (next_step start portals goal apex first corner chain next)

    by : (corner.at ≡ apex) ⊎ (corner.at ≢ apex) → IsPulled start portals goal (corners ++ corner ∷ []) corner.at (corner.portal + 1)
    by (inl same) =
        record {
          threaded = threaded;
          held = held_same start portals corners corner apex last same pulled.held;
          state = state_grows start portals goal corners apex first corner chain pulled.threaded.last pulled.state next same;
        }
    by (inr apart) =
        record {
          threaded = threaded;
          held = held_more start portals corners corner apex pulled.held (state_leaves start portals goal corners apex first corner chain pulled.threaded.last pulled.state next apart);
          state = state_begins start portals goal corners apex first corner chain last next apart;
        }

pub pulled_taut : (start : Point) (portals : List Portal) (goal : Point) (corners : List Corner) (apex : Point) (first : ℕ) → IsChain start portals goal
    → IsPulled start portals goal corners apex first → IsGoalNext apex portals goal first → IsTaut start portals goal corners
pulled_taut start portals goal corners apex first chain pulled next =
    let seen = next_goal start portals goal apex first chain next in
    threaded_taut start portals goal corners apex first seen.0 chain pulled.threaded seen.1
    (held_goal start portals goal corners apex (ap (λ (stop : TautCorner). stop.at) pulled.threaded.last) pulled.held
    (λ apart. state_arrives start portals goal corners apex first chain pulled.threaded.last pulled.state next apart))
