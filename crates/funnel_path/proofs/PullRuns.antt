-- The last run of stops at one point: how one more corner continues it or closes it, and what a bend that ends with it is.
use Rattle.std.proofs.Common.{◌≡◌, ◌≢◌, ℕ, ◌+◌, ◌-◌, ◌≤◌, ◌<◌, ◌⊎◌, inl, inr, List, [], ◌∷◌, ◌++◌, length, get_or, refl, sym, ap, subst, ◌∙◌, arith}
use Rattle.std.proofs.lemmas.Bool.{cases_lt, cases_order}
use Rattle.nav_base.specs.declared.point.Point.{Point}
use Rattle.mesh_types.specs.declared.links.Portal.{Portal}
use Rattle.mesh_types.specs.declared.answers.Corner.{Corner}
use Rattle.mesh_types.specs.Bends.{IsBend, corner_of, some_corner}
use Rattle.mesh_types.specs.Segments.{TautCorner, taut_corner_at, taut_corners_of}
use Rattle.mesh_types.proofs.Words.{IsHeld}
use Rattle.funnel_path.proofs.StopLaws.{corner-added, corner-kept, length-more, length-taut_corners_of, length-stops_so_far, taut_corner_at-added, taut_corner_at-goal, taut_corner_at-kept, taut_corner_at-so_far, stops_so_far}
use Rattle.funnel_path.proofs.PullBends.{AreAlike, IsHeldFor, bend_alike, held_alike, held_at, held_for_alike, held_of}

-- ---- what one more corner, and the goal, leave as it was

-- the corner at a stop that is not the first
corner_of-get : (corners : List Corner) (k : ℕ) → corner_of corners (k + 1) ≡ get_or corners k some_corner
corner_of-get corners k = ap (λ (n : ℕ). get_or corners n some_corner) (omega arith)

pub corner_of-kept : (corners : List Corner) (corner : Corner) (k : ℕ) → 1 ≤ k → k ≤ length corners → corner_of (corners ++ corner ∷ []) k ≡ corner_of corners k
corner_of-kept corners corner k some there = corner-kept corners corner (k - 1) (omega arith)

pub corner_of-added : (corners : List Corner) (corner : Corner) → corner_of (corners ++ corner ∷ []) (length corners + 1) ≡ corner
corner_of-added corners corner = corner_of-get (corners ++ corner ∷ []) (length corners) ∙ corner-added corners corner

pub alike_more : (start : Point) (corners : List Corner) (corner : Corner) → AreAlike (stops_so_far start (corners ++ corner ∷ [])) (stops_so_far start corners) (corners ++ corner ∷ []) corners (length corners)
alike_more start corners corner = record { same_stops = λ k h. taut_corner_at-kept start corners corner k h; same_corners = λ k some h. corner_of-kept corners corner k some h }

pub alike_goal : (start : Point) (portals : List Portal) (goal : Point) (corners : List Corner) → AreAlike (taut_corners_of start portals goal corners) (stops_so_far start corners) corners corners (length corners)
alike_goal start portals goal corners = record { same_stops = λ k h. taut_corner_at-so_far start portals goal corners k h; same_corners = λ k some h. refl }

pub alike_back : (taut taut' : List TautCorner) (corners corners' : List Corner) (last : ℕ) → AreAlike taut taut' corners corners' last → AreAlike taut' taut corners' corners last
alike_back taut taut' corners corners' last alike = record { same_stops = λ k h. sym (alike.same_stops k h); same_corners = λ k some h. sym (alike.same_corners k some h) }

-- ---- the last run

-- the stops from `from` up to the last are at the apex, and the one before is at b, elsewhere
pub record IsRun (start : Point) (corners : List Corner) (apex b : Point) (from : ℕ) : Type 0 where
  pub some : 1 ≤ from
  pub within : from ≤ length corners
  pub equal : (k : ℕ) → from ≤ k → k ≤ length corners → (taut_corner_at (stops_so_far start corners) k).at ≡ apex
  pub before : (taut_corner_at (stops_so_far start corners) (from - 1)).at ≡ b
  pub apart : b ≢ apex

-- all stops so far are at the apex
pub record IsAllStart (start : Point) (corners : List Corner) (apex : Point) : Type 0 where
  pub equal : (k : ℕ) → k ≤ length corners → (taut_corner_at (stops_so_far start corners) k).at ≡ apex

-- what holds of the stops so far and of one more
at_more : (P : Point → Type 0) (start : Point) (corners : List Corner) (corner : Corner) (from : ℕ) → ((k : ℕ) → from ≤ k → k ≤ length corners → P (taut_corner_at (stops_so_far start corners) k).at) → P corner.at
    → (k : ℕ) → from ≤ k → k ≤ length (corners ++ corner ∷ []) → P (taut_corner_at (stops_so_far start (corners ++ corner ∷ [])) k).at
at_more P start corners corner from each here k low there =
    elim (cases_lt (length corners) k) [
      | inr earlier ↦ subst (λ (stop : TautCorner). P stop.at) (sym (taut_corner_at-kept start corners corner k earlier)) (each k low earlier)
      | inl past ↦ subst (λ (n : ℕ). P (taut_corner_at (stops_so_far start (corners ++ corner ∷ [])) n).at) (last past) (subst (λ (stop : TautCorner). P stop.at) (sym (taut_corner_at-added start corners corner)) here)
    ]
  where
    last : length corners < k → length corners + 1 ≡ k
    last past = omega (arith, there, length-more corners corner)

-- one more corner at the same point
pub run_longer : (start : Point) (corners : List Corner) (corner : Corner) (apex b : Point) (from : ℕ) → corner.at ≡ apex → IsRun start corners apex b from → IsRun start (corners ++ corner ∷ []) corner.at b from
run_longer start corners corner apex b from same run =
    record {
      some = run.some;
      within = omega (arith, run.within, length-more corners corner);
      equal = at_more (λ (p : Point). p ≡ corner.at) start corners corner from (λ k low high. run.equal k low high ∙ sym same) refl;
      before = ap (λ (stop : TautCorner). stop.at) (taut_corner_at-kept start corners corner (from - 1) (omega (arith, run.within))) ∙ run.before;
      apart = λ e. run.apart (e ∙ same);
    }

pub start_longer : (start : Point) (corners : List Corner) (corner : Corner) (apex : Point) → corner.at ≡ apex → IsAllStart start corners apex → IsAllStart start (corners ++ corner ∷ []) corner.at
start_longer start corners corner apex same all =
    record { equal = λ k high. at_more (λ (p : Point). p ≡ corner.at) start corners corner 0 (λ n low h. all.equal n h ∙ sym same) refl k (omega arith) high }

-- one more corner elsewhere
pub run_new : (start : Point) (corners : List Corner) (corner : Corner) (apex : Point) → (taut_corner_at (stops_so_far start corners) (length corners)).at ≡ apex → corner.at ≢ apex
    → IsRun start (corners ++ corner ∷ []) corner.at apex (length corners + 1)
run_new start corners corner apex last apart =
    record {
      some = omega arith;
      within = omega (arith, length-more corners corner);
      equal = λ k low high. subst (λ (n : ℕ). (taut_corner_at (stops_so_far start (corners ++ corner ∷ [])) n).at ≡ corner.at) (end k low high) (ap (λ (stop : TautCorner). stop.at) (taut_corner_at-added start corners corner));
      before = ap (λ (n : ℕ). (taut_corner_at (stops_so_far start (corners ++ corner ∷ [])) n).at) (less (length corners)) ∙ ap (λ (stop : TautCorner). stop.at) (taut_corner_at-kept start corners corner (length corners) (omega arith)) ∙ last;
      apart = λ e. apart (sym e);
    }
  where
    less : (n : ℕ) → n + 1 - 1 ≡ n
    less n = omega arith

    end : (k : ℕ) → length corners + 1 ≤ k → k ≤ length (corners ++ corner ∷ []) → length corners + 1 ≡ k
    end k low high = omega (arith, length-more corners corner)

-- ---- the bend that ends with the last run

-- a bend whose last stop is that of the run begins where the run begins
bend_begins : (start : Point) (corners : List Corner) (taut : List TautCorner) (apex b : Point) (from first : ℕ) → ((k : ℕ) → k ≤ length corners → taut_corner_at taut k ≡ taut_corner_at (stops_so_far start corners) k)
    → IsRun start corners apex b from → IsBend taut first (length corners) → first ≡ from
bend_begins start corners taut apex b from first same run bend = by (cases_order first from)
  where
    at : (k : ℕ) → k ≤ length corners → (taut_corner_at taut k).at ≡ (taut_corner_at (stops_so_far start corners) k).at
    at k h = ap (λ (stop : TautCorner). stop.at) (same k h)

    here : (k : ℕ) → from ≤ k → k ≤ length corners → (taut_corner_at taut k).at ≡ apex
    here k low high = at k high ∙ run.equal k low high

    end : (taut_corner_at taut (length corners)).at ≡ apex
    end = here (length corners) run.within (omega arith)

    by : (first ≡ from) ⊎ ((first < from) ⊎ (from < first)) → first ≡ from
    by (inl e) = e
    by (inr (inl less)) =
        absurd (run.apart (sym run.before ∙ sym (at (from - 1) (omega (arith, run.within))) ∙ bend.equal (from - 1) (omega arith) (omega (arith, run.within)) ∙ sym (bend.equal (length corners) bend.some (omega arith)) ∙ end))
    by (inr (inr more)) = absurd (bend.not_before (here (first - 1) (omega arith) (omega (arith, bend.some)) ∙ sym (here first (omega arith) bend.some)))

-- what the last run comes to where the path goes on to a point elsewhere
pub data IsClosed (start : Point) (portals : List Portal) (corners : List Corner) (apex a : Point) : Type 0 where
  is_no_bend : IsAllStart start corners apex → IsClosed start portals corners apex a
  is_held : (b : Point) (from : ℕ) → IsRun start corners apex b from → IsHeldFor portals corners b apex a from (length corners) → IsClosed start portals corners apex a

-- then a bend that ends with the last run is held
pub closed_held : (start : Point) (portals : List Portal) (corners corners' : List Corner) (taut : List TautCorner) (apex a : Point) (first : ℕ) → AreAlike taut (stops_so_far start corners) corners' corners (length corners)
    → (taut_corner_at taut (length corners + 1)).at ≡ a → IsClosed start portals corners apex a → IsBend taut first (length corners) → IsHeld portals taut corners' first (length corners)
closed_held start portals corners corners' taut apex a first alike next (is_no_bend all) bend =
    absurd (bend.not_before (here (first - 1) (omega (arith, bend.some)) ∙ sym (here first bend.some)))
  where
    here : (k : ℕ) → k ≤ length corners → (taut_corner_at taut k).at ≡ apex
    here k h = ap (λ (stop : TautCorner). stop.at) (alike.same_stops k h) ∙ all.equal k h
closed_held start portals corners corners' taut apex a first alike next (is_held b from run held) bend =
    held_of portals taut corners' first (length corners) held_here
  where
    begins : first ≡ from
    begins = bend_begins start corners taut apex b from first alike.same_stops run bend

    at : (k : ℕ) → k ≤ length corners → (taut_corner_at taut k).at ≡ (taut_corner_at (stops_so_far start corners) k).at
    at k h = ap (λ (stop : TautCorner). stop.at) (alike.same_stops k h)

    is_b : b ≡ (taut_corner_at taut (first - 1)).at
    is_b = sym (ap (λ (n : ℕ). (taut_corner_at taut (n - 1)).at) begins ∙ at (from - 1) (omega (arith, run.within)) ∙ run.before)

    is_c : apex ≡ (taut_corner_at taut first).at
    is_c = sym (ap (λ (n : ℕ). (taut_corner_at taut n).at) begins ∙ at from run.within ∙ run.equal from (omega arith) run.within)

    other : IsHeldFor portals corners' b apex a from (length corners)
    other = held_for_alike portals (stops_so_far start corners) taut corners corners' (length corners) from (length corners) b apex a (alike_back taut (stops_so_far start corners) corners' corners (length corners) alike) run.some (omega arith) held

    held_here : IsHeldFor portals corners' (taut_corner_at taut (first - 1)).at (taut_corner_at taut first).at (taut_corner_at taut (length corners + 1)).at first (length corners)
    held_here =
        subst (λ (n : ℕ). IsHeldFor portals corners' (taut_corner_at taut (first - 1)).at (taut_corner_at taut first).at (taut_corner_at taut (length corners + 1)).at n (length corners)) (sym begins)
        (held_at portals corners' b (taut_corner_at taut (first - 1)).at apex (taut_corner_at taut first).at a (taut_corner_at taut (length corners + 1)).at from (length corners) is_b is_c (sym next) other)

-- ---- all bends so far

-- every bend that is closed is held
pub record AreHeld (start : Point) (portals : List Portal) (corners : List Corner) : Type 0 where
  pub held : (first last : ℕ) → IsBend (stops_so_far start corners) first last → IsHeld portals (stops_so_far start corners) corners first last

pub held_none : (start : Point) (portals : List Portal) → AreHeld start portals []
held_none start portals = record { held = λ first last bend. absurd (omega (arith, bend.some, bend.not_start, bend.not_goal)) }

-- a bend of a longer path is one so far, or ends with the last run
held_longer : (start : Point) (portals : List Portal) (corners corners' : List Corner) (taut : List TautCorner) → AreAlike taut (stops_so_far start corners) corners' corners (length corners) → length taut ≡ length corners + 2
    → AreHeld start portals corners → ((first : ℕ) → IsBend taut first (length corners) → IsHeld portals taut corners' first (length corners))
    → (first last : ℕ) → IsBend taut first last → IsHeld portals taut corners' first last
held_longer start portals corners corners' taut alike long held end first last bend =
    elim (cases_lt last (length corners)) [
      | inl earlier ↦
          held_alike portals (stops_so_far start corners) taut corners corners' (length corners) first last (alike_back taut (stops_so_far start corners) corners' corners (length corners) alike) bend.not_start bend.some (omega arith)
          (held.held first last (bend_alike (stops_so_far start corners) taut corners corners' (length corners) first last (alike_back taut (stops_so_far start corners) corners' corners (length corners) alike) (omega arith) (omega (arith, length-stops_so_far start corners)) bend))
      | inr past ↦ subst (λ (n : ℕ). IsHeld portals taut corners' first n) (here past) (end first (subst (IsBend taut first) (sym (here past)) bend))
    ]
  where
    here : length corners ≤ last → length corners ≡ last
    here past = omega (arith, bend.not_goal, long)

-- one more corner elsewhere closes the last run
pub held_more : (start : Point) (portals : List Portal) (corners : List Corner) (corner : Corner) (apex : Point) → AreHeld start portals corners → IsClosed start portals corners apex corner.at → AreHeld start portals (corners ++ corner ∷ [])
held_more start portals corners corner apex held closed =
    record {
      held = held_longer start portals corners (corners ++ corner ∷ []) (stops_so_far start (corners ++ corner ∷ [])) (alike_more start corners corner) (omega (arith, length-stops_so_far start (corners ++ corner ∷ []), length-more corners corner)) held
          (λ first bend. closed_held start portals corners (corners ++ corner ∷ []) (stops_so_far start (corners ++ corner ∷ [])) apex corner.at first (alike_more start corners corner)
          (ap (λ (stop : TautCorner). stop.at) (taut_corner_at-added start corners corner)) closed bend);
    }

-- one more corner at the last run's point closes nothing
pub held_same : (start : Point) (portals : List Portal) (corners : List Corner) (corner : Corner) (apex : Point) → (taut_corner_at (stops_so_far start corners) (length corners)).at ≡ apex → corner.at ≡ apex
    → AreHeld start portals corners → AreHeld start portals (corners ++ corner ∷ [])
held_same start portals corners corner apex last same held =
    record {
      held = held_longer start portals corners (corners ++ corner ∷ []) (stops_so_far start (corners ++ corner ∷ [])) (alike_more start corners corner) (omega (arith, length-stops_so_far start (corners ++ corner ∷ []), length-more corners corner)) held
          (λ first bend. absurd (bend.not_after (ap (λ (stop : TautCorner). stop.at) (taut_corner_at-added start corners corner) ∙ same ∙ sym last ∙ sym (ap (λ (stop : TautCorner). stop.at) (taut_corner_at-kept start corners corner (length corners) (omega arith))) ∙ bend.equal (length corners) bend.some (omega arith))));
    }

-- the goal closes the last run, where it is elsewhere
pub held_goal : (start : Point) (portals : List Portal) (goal : Point) (corners : List Corner) (apex : Point) → (taut_corner_at (stops_so_far start corners) (length corners)).at ≡ apex → AreHeld start portals corners
    → (goal ≢ apex → IsClosed start portals corners apex goal)
    → (first last : ℕ) → IsBend (taut_corners_of start portals goal corners) first last → IsHeld portals (taut_corners_of start portals goal corners) corners first last
held_goal start portals goal corners apex last held closes =
    held_longer start portals corners corners (taut_corners_of start portals goal corners) (alike_goal start portals goal corners) (length-taut_corners_of start portals goal corners) held
    (λ first bend. closed_held start portals corners corners (taut_corners_of start portals goal corners) apex goal first (alike_goal start portals goal corners) at_goal (closes (elsewhere first bend)) bend)
  where
    taut : List TautCorner
    taut = taut_corners_of start portals goal corners

    at_goal : (taut_corner_at taut (length corners + 1)).at ≡ goal
    at_goal = ap (λ (stop : TautCorner). stop.at) (taut_corner_at-goal start portals goal corners)

    elsewhere : (first : ℕ) → IsBend taut first (length corners) → goal ≢ apex
    elsewhere first bend same =
        bend.not_after (at_goal ∙ same ∙ sym last ∙ sym (ap (λ (stop : TautCorner). stop.at) (taut_corner_at-so_far start portals goal corners (length corners) (omega arith))) ∙ bend.equal (length corners) bend.some (omega arith))
