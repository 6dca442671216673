-- What is known of the last run while a path is pulled, and how the next corner, or the goal, settles it.
use Rattle.std.proofs.Common.{◌≡◌, ◌≢◌, ℕ, ◌+◌, ◌-◌, ◌≤◌, ◌<◌, ◌⊎◌, inl, inr, List, [], ◌∷◌, ◌++◌, length, refl, sym, ap, subst, ◌∙◌, arith}
use Rattle.nav_base.specs.declared.point.Point.{Point}
use Rattle.mesh_types.specs.declared.links.Portal.{Portal}
use Rattle.mesh_types.specs.declared.answers.Side.{Side}
use Rattle.mesh_types.specs.declared.answers.Side.TheVariants.{L, R}
use Rattle.mesh_types.specs.declared.answers.Corner.{Corner}
use Rattle.mesh_types.specs.Chains.{IsChain, IsFold, portal_at, other_end_of}
use Rattle.mesh_types.specs.Bends.{HasSide, IsFoldedOn, IsHolding, corner_of}
use Rattle.mesh_types.specs.Segments.{TautCorner, taut_corner_at}
use Rattle.funnel_path.specs.NextCorners.{IsCornerNext, IsGoalNext, IsNear}
use Rattle.funnel_path.proofs.StopLaws.{length-more, taut_corner_at-corner, stops_so_far}
use Rattle.funnel_path.proofs.PullBends.{IsHeldFor, by_end, by_fold, by_next, held_for_alike}
use Rattle.funnel_path.proofs.PullRuns.{IsAllStart, IsClosed, IsRun, alike_back, alike_more, corner_of-added, corner_of-kept, is_held, is_no_bend, run_longer, run_new, start_longer}
use Rattle.funnel_path.proofs.Bends.{FoldsAt, GoesOn, GoesOnEither, Turns, TurnsEither, opposite_side, either_folded, either_held, either_still, stays_folded, stays_held, stays_turning, becomes_either}
use Rattle.funnel_path.proofs.BendsLeft.{left_arrives, left_goes_on, left_leaves}
use Rattle.funnel_path.proofs.BendsRight.{right_arrives, right_goes_on, right_leaves}
use Rattle.funnel_path.proofs.BendsEither.{either_arrives, either_goes_on, either_leaves}
use Rattle.funnel_path.proofs.BendsNew.{Begins, begins, begins_folded, begins_held, begins_turning}
use Rattle.funnel_path.proofs.NextLaws.{next_at_apex}

-- the last run has the start, or is held whatever comes next, or turns to a side, of which it has a corner, or may turn to either
pub data RunState (start : Point) (portals : List Portal) (goal : Point) (corners : List Corner) (apex : Point) (first : ℕ) : Type 0 where
  at_start : IsAllStart start corners apex → RunState start portals goal corners apex first
  settled : (b : Point) (from : ℕ) → IsRun start corners apex b from → ((a : Point) → IsHeldFor portals corners b apex a from (length corners)) → RunState start portals goal corners apex first
  turning : (b : Point) (from named place k : ℕ) (side : Side) → IsRun start corners apex b from → HasSide corners from (length corners) side k → named + 1 ≡ first → Turns side portals goal b apex named place
      → RunState start portals goal corners apex first
  turning_either : (b : Point) (from named k k' : ℕ) → IsRun start corners apex b from → HasSide corners from (length corners) L k → HasSide corners from (length corners) R k' → named + 1 ≡ first
      → TurnsEither portals b apex named → RunState start portals goal corners apex first

-- ---- corners of the run

-- the last corner names the portal before `first`
last_named : (start : Point) (corners : List Corner) (apex : Point) (first : ℕ) → taut_corner_at (stops_so_far start corners) (length corners) ≡ record { at = apex; number = first } → 1 ≤ length corners
    → (corner_of corners (length corners)).portal + 1 ≡ first
last_named start corners apex first last some =
    sym (ap (λ (stop : TautCorner). stop.number) (ap (λ (n : ℕ). taut_corner_at (stops_so_far start corners) n) (back (length corners) some) ∙ taut_corner_at-corner start corners (length corners - 1) (omega arith))) ∙ ap (λ (stop : TautCorner). stop.number) last
  where
    back : (n : ℕ) → 1 ≤ n → n ≡ n - 1 + 1
    back n some = omega arith

-- so where the next portal folds back on it, the run is held
folds_run : (start : Point) (portals : List Portal) (corners : List Corner) (apex : Point) (first named from : ℕ) → taut_corner_at (stops_so_far start corners) (length corners) ≡ record { at = apex; number = first } → 1 ≤ from → from ≤ length corners
    → named + 1 ≡ first → FoldsAt portals named → IsFoldedOn portals corners from (length corners)
folds_run start portals corners apex first named from last some within next fold =
    record {
      corner = length corners;
      from = within;
      to = omega arith;
      next = subst (λ (n : ℕ). n + 1 < length portals) same fold.next;
      folds = subst (λ (n : ℕ). IsFold (portal_at portals n) (portal_at portals (n + 1))) same fold.folds;
    }
  where
    same : named ≡ (corner_of corners (length corners)).portal
    same = omega (arith, last_named start corners apex first last (omega arith))

-- the run with one more corner has the corners that it had, and the new one
more_has : (corners : List Corner) (corner : Corner) (from k : ℕ) (side : Side) → 1 ≤ from → HasSide corners from (length corners) side k → HasSide (corners ++ corner ∷ []) from (length (corners ++ corner ∷ [])) side k
more_has corners corner from k side some has =
    record { from = has.from; to = omega (arith, has.to, length-more corners corner); sided = ap (λ (c : Corner). c.side) (corner_of-kept corners corner k (omega (arith, has.from)) has.to) ∙ has.sided }

new_has : (corners : List Corner) (corner : Corner) (from : ℕ) (side : Side) → from ≤ length corners + 1 → corner.side ≡ side → HasSide (corners ++ corner ∷ []) from (length (corners ++ corner ∷ [])) side (length corners + 1)
new_has corners corner from side within sided =
    record { from = within; to = omega (arith, length-more corners corner); sided = ap (λ (c : Corner). c.side) (corner_of-added corners corner) ∙ sided }

-- a run that was held still is
still_held : (start : Point) (portals : List Portal) (corners : List Corner) (corner : Corner) (b c a : Point) (from : ℕ) → 1 ≤ from → IsHeldFor portals corners b c a from (length corners)
    → IsHeldFor portals (corners ++ corner ∷ []) b c a from (length (corners ++ corner ∷ []))
still_held start portals corners corner b c a from some holding =
    wider (held_for_alike portals (stops_so_far start corners) (stops_so_far start (corners ++ corner ∷ [])) corners (corners ++ corner ∷ []) (length corners) from (length corners) b c a
    (alike_back (stops_so_far start (corners ++ corner ∷ [])) (stops_so_far start corners) (corners ++ corner ∷ []) corners (length corners) (alike_more start corners corner)) some (omega arith) holding)
  where
    more : List Corner
    more = corners ++ corner ∷ []

    side_wider : (side : Side) (k : ℕ) → HasSide more from (length corners) side k → HasSide more from (length more) side k
    side_wider side k has = record { from = has.from; to = omega (arith, has.to, length-more corners corner); sided = has.sided }

    fold_wider : IsFoldedOn portals more from (length corners) → IsFoldedOn portals more from (length more)
    fold_wider folded = record { corner = folded.corner; from = folded.from; to = omega (arith, folded.to, length-more corners corner); next = folded.next; folds = folded.folds }

    wider : IsHeldFor portals more b c a from (length corners) → IsHeldFor portals more b c a from (length more)
    wider (by_next side k has holds) = by_next side k (side_wider side k has) holds
    wider (by_end side k has holds) = by_end side k (side_wider side k has) holds
    wider (by_fold folded) = by_fold (fold_wider folded)

-- the new corner's portal holds it
new_holds : (portals : List Portal) (corners : List Corner) (corner : Corner) (b c a : Point) (from : ℕ) → from ≤ length corners + 1 → IsHolding corner.side b c (other_end_of corner.side (portal_at portals corner.portal))
    → IsHeldFor portals (corners ++ corner ∷ []) b c a from (length (corners ++ corner ∷ []))
new_holds portals corners corner b c a from within holds =
    by_end corner.side (length corners + 1) (new_has corners corner from corner.side within refl)
    (subst (λ (k : Corner). IsHolding corner.side b c (other_end_of corner.side (portal_at portals k.portal))) (sym (corner_of-added corners corner)) holds)

-- so does the next one, where it folds back on it
new_folds : (portals : List Portal) (corners : List Corner) (corner : Corner) → FoldsAt portals corner.portal → IsFoldedOn portals (corners ++ corner ∷ []) (length corners + 1) (length (corners ++ corner ∷ []))
new_folds portals corners corner fold =
    record {
      corner = length corners + 1;
      from = omega arith;
      to = omega (arith, length-more corners corner);
      next = subst (λ (k : Corner). k.portal + 1 < length portals) (sym (corner_of-added corners corner)) fold.next;
      folds = subst (λ (k : Corner). IsFold (portal_at portals k.portal) (portal_at portals (k.portal + 1))) (sym (corner_of-added corners corner)) fold.folds;
    }

-- ---- the last run closes

-- where the path goes on to a, each side to which it turns is held
leaves_on : (start : Point) (portals : List Portal) (corners : List Corner) (apex a b : Point) (first named from k : ℕ) (side : Side) → taut_corner_at (stops_so_far start corners) (length corners) ≡ record { at = apex; number = first }
    → IsRun start corners apex b from → HasSide corners from (length corners) side k → named + 1 ≡ first → IsHolding side b apex a ⊎ FoldsAt portals named → IsClosed start portals corners apex a
leaves_on start portals corners apex a b first named from k side last run has next (inl holds) = is_held b from run (by_next side k has holds)
leaves_on start portals corners apex a b first named from k side last run has next (inr fold) =
    is_held b from run (by_fold (folds_run start portals corners apex first named from last run.some run.within next fold))

either_on : (start : Point) (portals : List Portal) (corners : List Corner) (apex a b : Point) (first named from k k' : ℕ) → taut_corner_at (stops_so_far start corners) (length corners) ≡ record { at = apex; number = first }
    → IsRun start corners apex b from → HasSide corners from (length corners) L k → HasSide corners from (length corners) R k' → named + 1 ≡ first
    → (IsHolding L b apex a ⊎ IsHolding R b apex a) ⊎ FoldsAt portals named → IsClosed start portals corners apex a
either_on start portals corners apex a b first named from k k' last run has has' next (inl (inl holds)) = is_held b from run (by_next L k has holds)
either_on start portals corners apex a b first named from k k' last run has has' next (inl (inr holds)) = is_held b from run (by_next R k' has' holds)
either_on start portals corners apex a b first named from k k' last run has has' next (inr fold) =
    is_held b from run (by_fold (folds_run start portals corners apex first named from last run.some run.within next fold))

-- the next corner elsewhere
leaves : (side : Side) (start : Point) (portals : List Portal) (goal b c : Point) (named place : ℕ) (corner : Corner) → IsChain start portals goal → Turns side portals goal b c named place
    → IsCornerNext c portals goal (named + 1) corner → corner.at ≢ c → IsHolding side b c corner.at ⊎ FoldsAt portals named
leaves L start portals goal b c named place corner chain turn next apart = left_leaves start portals goal b c named place corner chain turn next apart
leaves R start portals goal b c named place corner chain turn next apart = right_leaves start portals goal b c named place corner chain turn next apart

arrives : (side : Side) (start : Point) (portals : List Portal) (goal b c : Point) (named place : ℕ) → IsChain start portals goal → Turns side portals goal b c named place
    → IsGoalNext c portals goal (named + 1) → goal ≢ c → IsHolding side b c goal ⊎ FoldsAt portals named
arrives L start portals goal b c named place chain turn next apart = left_arrives start portals goal b c named place chain turn next apart
arrives R start portals goal b c named place chain turn next apart = right_arrives start portals goal b c named place chain turn next apart

pub state_leaves : (start : Point) (portals : List Portal) (goal : Point) (corners : List Corner) (apex : Point) (first : ℕ) (corner : Corner) → IsChain start portals goal
    → taut_corner_at (stops_so_far start corners) (length corners) ≡ record { at = apex; number = first } → RunState start portals goal corners apex first
    → IsCornerNext apex portals goal first corner → corner.at ≢ apex → IsClosed start portals corners apex corner.at
state_leaves start portals goal corners apex first corner chain last (at_start all) next apart = is_no_bend all
state_leaves start portals goal corners apex first corner chain last (settled b from run holding) next apart = is_held b from run (holding corner.at)
state_leaves start portals goal corners apex first corner chain last (turning b from named place k side run has after turn) next apart =
    leaves_on start portals corners apex corner.at b first named from k side last run has after
    (leaves side start portals goal b apex named place corner chain turn (subst (λ (n : ℕ). IsCornerNext apex portals goal n corner) (sym after) next) apart)
state_leaves start portals goal corners apex first corner chain last (turning_either b from named k k' run has has' after turn) next apart =
    either_on start portals corners apex corner.at b first named from k k' last run has has' after
    (either_leaves start portals goal b apex named corner chain turn (subst (λ (n : ℕ). IsCornerNext apex portals goal n corner) (sym after) next) apart)

pub state_arrives : (start : Point) (portals : List Portal) (goal : Point) (corners : List Corner) (apex : Point) (first : ℕ) → IsChain start portals goal
    → taut_corner_at (stops_so_far start corners) (length corners) ≡ record { at = apex; number = first } → RunState start portals goal corners apex first
    → IsGoalNext apex portals goal first → goal ≢ apex → IsClosed start portals corners apex goal
state_arrives start portals goal corners apex first chain last (at_start all) next apart = is_no_bend all
state_arrives start portals goal corners apex first chain last (settled b from run holding) next apart = is_held b from run (holding goal)
state_arrives start portals goal corners apex first chain last (turning b from named place k side run has after turn) next apart =
    leaves_on start portals corners apex goal b first named from k side last run has after
    (arrives side start portals goal b apex named place chain turn (subst (IsGoalNext apex portals goal) (sym after) next) apart)
state_arrives start portals goal corners apex first chain last (turning_either b from named k k' run has has' after turn) next apart =
    either_on start portals corners apex goal b first named from k k' last run has has' after
    (either_arrives start portals goal b apex named chain turn (subst (IsGoalNext apex portals goal) (sym after) next) apart)

-- ---- one more corner in the last run

-- the apex and the corner are one point
moved : (P : Point → Type 0) (p q : Point) → q ≡ p → P p → P q
moved P p q same h = subst P (sym same) h

held_still : (start : Point) (portals : List Portal) (corners : List Corner) (corner : Corner) (apex b : Point) (from : ℕ) → corner.at ≡ apex → 1 ≤ from → ((a : Point) → IsHeldFor portals corners b apex a from (length corners))
    → (a : Point) → IsHeldFor portals (corners ++ corner ∷ []) b corner.at a from (length (corners ++ corner ∷ []))
held_still start portals corners corner apex b from same some holding a =
    moved (λ (p : Point). IsHeldFor portals (corners ++ corner ∷ []) b p a from (length (corners ++ corner ∷ []))) apex corner.at same (still_held start portals corners corner b apex a from some (holding a))

held_by_fold : (start : Point) (portals : List Portal) (corners : List Corner) (corner : Corner) (apex b : Point) (first named from : ℕ) → taut_corner_at (stops_so_far start corners) (length corners) ≡ record { at = apex; number = first }
    → corner.at ≡ apex → IsRun start corners apex b from → named + 1 ≡ first → FoldsAt portals named → (a : Point) → IsHeldFor portals (corners ++ corner ∷ []) b corner.at a from (length (corners ++ corner ∷ []))
held_by_fold start portals corners corner apex b first named from last same run after fold =
    held_still start portals corners corner apex b from same run.some (λ a. by_fold (folds_run start portals corners apex first named from last run.some run.within after fold))

held_by_end : (portals : List Portal) (corners : List Corner) (corner : Corner) (apex b : Point) (from : ℕ) → corner.at ≡ apex → from ≤ length corners + 1
    → IsHolding corner.side b apex (other_end_of corner.side (portal_at portals corner.portal)) → (a : Point) → IsHeldFor portals (corners ++ corner ∷ []) b corner.at a from (length (corners ++ corner ∷ []))
held_by_end portals corners corner apex b from same within holds a =
    moved (λ (p : Point). IsHeldFor portals (corners ++ corner ∷ []) b p a from (length (corners ++ corner ∷ []))) apex corner.at same (new_holds portals corners corner b apex a from within holds)

goes_on : (side : Side) (start : Point) (portals : List Portal) (goal b c : Point) (named place : ℕ) (corner : Corner) → IsChain start portals goal → Turns side portals goal b c named place
    → IsNear c portals (named + 1) corner → corner.at ≡ c → GoesOn side portals goal b c named corner
goes_on L start portals goal b c named place corner chain turn near same = left_goes_on start portals goal b c named place corner chain turn near same
goes_on R start portals goal b c named place corner chain turn near same = right_goes_on start portals goal b c named place corner chain turn near same

turning_grows : (start : Point) (portals : List Portal) (goal : Point) (corners : List Corner) (apex b : Point) (first named from k : ℕ) (side : Side) (corner : Corner)
    → taut_corner_at (stops_so_far start corners) (length corners) ≡ record { at = apex; number = first } → IsRun start corners apex b from → HasSide corners from (length corners) side k → named + 1 ≡ first
    → corner.at ≡ apex → GoesOn side portals goal b apex named corner → RunState start portals goal (corners ++ corner ∷ []) corner.at (corner.portal + 1)
turning_grows start portals goal corners apex b first named from k side corner last run has after same (stays_folded at) =
    settled b from (run_longer start corners corner apex b from same run) (held_by_fold start portals corners corner apex b first named from last same run after at)
turning_grows start portals goal corners apex b first named from k side corner last run has after same (stays_held holds) =
    settled b from (run_longer start corners corner apex b from same run) (held_by_end portals corners corner apex b from same (omega (arith, run.within)) holds)
turning_grows start portals goal corners apex b first named from k side corner last run has after same (stays_turning place sided still) =
    turning b from corner.portal place k side (run_longer start corners corner apex b from same run) (more_has corners corner from k side run.some has) refl (moved (λ (p : Point). Turns side portals goal b p corner.portal place) apex corner.at same still)
turning_grows start portals goal corners apex b first named from k side corner last run has after same (becomes_either sided both) =
    both_sides side k has sided
  where
    new_run : IsRun start (corners ++ corner ∷ []) corner.at b from
    new_run = run_longer start corners corner apex b from same run

    at_corner : TurnsEither portals b corner.at corner.portal
    at_corner = moved (λ (p : Point). TurnsEither portals b p corner.portal) apex corner.at same both

    both_sides : (side : Side) (k : ℕ) → HasSide corners from (length corners) side k → corner.side ≡ opposite_side side → RunState start portals goal (corners ++ corner ∷ []) corner.at (corner.portal + 1)
    both_sides L k has sided =
        turning_either b from corner.portal k (length corners + 1) new_run (more_has corners corner from k L run.some has) (new_has corners corner from R (omega (arith, run.within)) sided) refl at_corner
    both_sides R k has sided =
        turning_either b from corner.portal (length corners + 1) k new_run (new_has corners corner from L (omega (arith, run.within)) sided) (more_has corners corner from k R run.some has) refl at_corner

either_grows : (start : Point) (portals : List Portal) (goal : Point) (corners : List Corner) (apex b : Point) (first named from k k' : ℕ) (corner : Corner)
    → taut_corner_at (stops_so_far start corners) (length corners) ≡ record { at = apex; number = first } → IsRun start corners apex b from → HasSide corners from (length corners) L k → HasSide corners from (length corners) R k' → named + 1 ≡ first
    → corner.at ≡ apex → GoesOnEither portals b apex named corner → RunState start portals goal (corners ++ corner ∷ []) corner.at (corner.portal + 1)
either_grows start portals goal corners apex b first named from k k' corner last run has has' after same (either_folded at) =
    settled b from (run_longer start corners corner apex b from same run) (held_by_fold start portals corners corner apex b first named from last same run after at)
either_grows start portals goal corners apex b first named from k k' corner last run has has' after same (either_held holds) =
    settled b from (run_longer start corners corner apex b from same run) (held_by_end portals corners corner apex b from same (omega (arith, run.within)) holds)
either_grows start portals goal corners apex b first named from k k' corner last run has has' after same (either_still still) =
    turning_either b from corner.portal k k' (run_longer start corners corner apex b from same run) (more_has corners corner from k L run.some has) (more_has corners corner from k' R run.some has') refl
    (moved (λ (p : Point). TurnsEither portals b p corner.portal) apex corner.at same still)

pub state_grows : (start : Point) (portals : List Portal) (goal : Point) (corners : List Corner) (apex : Point) (first : ℕ) (corner : Corner) → IsChain start portals goal
    → taut_corner_at (stops_so_far start corners) (length corners) ≡ record { at = apex; number = first } → RunState start portals goal corners apex first
    → IsCornerNext apex portals goal first corner → corner.at ≡ apex → RunState start portals goal (corners ++ corner ∷ []) corner.at (corner.portal + 1)
state_grows start portals goal corners apex first corner chain last (at_start all) next same = at_start (start_longer start corners corner apex same all)
state_grows start portals goal corners apex first corner chain last (settled b from run holding) next same =
    settled b from (run_longer start corners corner apex b from same run) (held_still start portals corners corner apex b from same run.some holding)
state_grows start portals goal corners apex first corner chain last (turning b from named place k side run has after still) next same =
    turning_grows start portals goal corners apex b first named from k side corner last run has after same
    (goes_on side start portals goal b apex named place corner chain still (subst (λ (n : ℕ). IsNear apex portals n corner) (sym after) (next_at_apex apex portals goal first corner next same)) same)
state_grows start portals goal corners apex first corner chain last (turning_either b from named k k' run has has' after still) next same =
    either_grows start portals goal corners apex b first named from k k' corner last run has has' after same
    (either_goes_on start portals goal b apex named corner chain still (subst (λ (n : ℕ). IsNear apex portals n corner) (sym after) (next_at_apex apex portals goal first corner next same)) same)

-- ---- a new run

begins_state : (start : Point) (portals : List Portal) (goal : Point) (corners : List Corner) (apex : Point) (corner : Corner) → IsRun start (corners ++ corner ∷ []) corner.at apex (length corners + 1)
    → Begins portals goal apex corner → RunState start portals goal (corners ++ corner ∷ []) corner.at (corner.portal + 1)
begins_state start portals goal corners apex corner run (begins_folded at) =
    settled apex (length corners + 1) run (λ a. by_fold (new_folds portals corners corner at))
begins_state start portals goal corners apex corner run (begins_held holds) =
    settled apex (length corners + 1) run (λ a. new_holds portals corners corner apex corner.at a (length corners + 1) (omega arith) holds)
begins_state start portals goal corners apex corner run (begins_turning place turn) =
    turning apex (length corners + 1) corner.portal place (length corners + 1) corner.side run (new_has corners corner (length corners + 1) corner.side (omega arith) refl) refl turn

pub state_begins : (start : Point) (portals : List Portal) (goal : Point) (corners : List Corner) (apex : Point) (first : ℕ) (corner : Corner) → IsChain start portals goal
    → (taut_corner_at (stops_so_far start corners) (length corners)).at ≡ apex → IsCornerNext apex portals goal first corner → corner.at ≢ apex
    → RunState start portals goal (corners ++ corner ∷ []) corner.at (corner.portal + 1)
state_begins start portals goal corners apex first corner chain last next apart =
    begins_state start portals goal corners apex corner (run_new start corners corner apex last apart) (begins start portals goal apex first corner chain next apart)
