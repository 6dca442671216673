-- The path so far: what `pull` keeps while it adds one corner after the other, and what it comes to once the goal is seen.
use Rattle.std.proofs.Common.{◌≡◌, ℕ, ◌+◌, ◌≤◌, ◌<◌, ◌⊎◌, inl, inr, List, [], ◌∷◌, ◌++◌, length, get_or, refl, sym, subst, ◌∙◌, arith}
use Rattle.std.specs.Prelude.{AllPairs}
use Rattle.std.proofs.lemmas.Bool.{cases_lt}
use Rattle.std.proofs.lemmas.List.{get_or_append_left, get_or_default}
use Rattle.std.proofs.Math.Seq.{get_or-append_seam}
use Rattle.nav_base.specs.declared.point.Point.{Point}
use Rattle.mesh_types.specs.declared.links.Portal.{Portal}
use Rattle.mesh_types.specs.declared.answers.Corner.{Corner}
use Rattle.mesh_types.specs.Chains.{IsChain}
use Rattle.mesh_types.specs.Taut.{AreInTurn, IsNamed, IsTaut}
use Rattle.mesh_types.specs.Bends.{IsBend, some_corner}
use Rattle.mesh_types.specs.Segments.{IsTight, TautCorner, taut_corner_at, taut_corners_of}
use Rattle.mesh_types.proofs.Words.{IsHeld, corner_stop}
use Rattle.funnel_path.proofs.StopLaws.{corner-added, corner-kept, goal_stop, length-more, length-taut_corners_of, taut_corner_at-added, taut_corner_at-goal, taut_corner_at-kept, taut_corner_at-so_far, stops_so_far}
use Rattle.funnel_path.proofs.SightLaws.{IsSeen}
use Rattle.funnel_path.proofs.TightLaws.{IsTightFrom, tight_at, tight_seen}
use Rattle.funnel_path.proofs.NextLaws.{IsStep}

-- the corners so far lead to the apex, before the portal at `first`: each is named, in turn, and each segment is tight
pub record IsThreaded (start : Point) (portals : List Portal) (corners : List Corner) (apex : Point) (first : ℕ) : Type 0 where
  pub last : taut_corner_at (stops_so_far start corners) (length corners) ≡ record { at = apex; number = first }
  pub within : first ≤ length portals
  pub named : (k : ℕ) → k < length corners → IsNamed portals (get_or corners k some_corner)
  pub before : (k : ℕ) → k < length corners → (get_or corners k some_corner).portal < first
  pub in_turn : AllPairs AreInTurn corners
  pub tight : (k : ℕ) → k < length corners → IsTightFrom portals (taut_corner_at (stops_so_far start corners) k) (taut_corner_at (stops_so_far start corners) (k + 1))

-- no corner yet
pub threaded_start : (start : Point) (portals : List Portal) → IsThreaded start portals [] start 0
threaded_start start portals =
    record {
      last = refl;
      within = omega arith;
      named = λ k h. absurd (omega arith);
      before = λ k h. absurd (omega arith);
      in_turn = λ i j d less h. absurd (omega arith);
      tight = λ k h. absurd (omega arith);
    }

-- what holds of each corner and of one more
each_more : (P : Corner → Type 0) (corners : List Corner) (corner : Corner) → ((k : ℕ) → k < length corners → P (get_or corners k some_corner)) → P corner
    → (k : ℕ) → k < length (corners ++ corner ∷ []) → P (get_or (corners ++ corner ∷ []) k some_corner)
each_more P corners corner each here k there =
    elim (cases_lt k (length corners)) [
      | inl earlier ↦ subst P (sym (corner-kept corners corner k earlier)) (each k earlier)
      | inr past ↦ subst (λ (n : ℕ). P (get_or (corners ++ corner ∷ []) n some_corner)) (last past) (subst P (sym (corner-added corners corner)) here)
    ]
  where
    last : length corners ≤ k → length corners ≡ k
    last past = omega (arith, there, length-more corners corner)

-- one more corner, of a later portal
in_turn_more : (corners : List Corner) (corner : Corner) → AllPairs AreInTurn corners → ((k : ℕ) → k < length corners → (get_or corners k some_corner).portal < corner.portal)
    → AllPairs AreInTurn (corners ++ corner ∷ [])
in_turn_more corners corner in_turn before i j d less there =
    elim (cases_lt j (length corners)) [
      | inl earlier ↦
          subst (λ (c : Corner). AreInTurn c (get_or (corners ++ corner ∷ []) j d)) (sym (get_or_append_left corners (corner ∷ []) d i (omega arith)))
          (subst (AreInTurn (get_or corners i d)) (sym (get_or_append_left corners (corner ∷ []) d j earlier)) (in_turn i j d less earlier))
      | inr past ↦
          subst (λ (c : Corner). AreInTurn c (get_or (corners ++ corner ∷ []) j d)) (sym (get_or_append_left corners (corner ∷ []) d i (first past)))
          (subst (λ (n : ℕ). AreInTurn (get_or corners i d) (get_or (corners ++ corner ∷ []) n d)) (last past)
          (subst (AreInTurn (get_or corners i d)) (sym (get_or-append_seam corners corner [] d)) (later (get_or corners i d) (subst (λ (c : Corner). c.portal < corner.portal) (get_or_default corners i some_corner d (first past)) (before i (first past))))))
    ]
  where
    last : length corners ≤ j → length corners ≡ j
    last past = omega (arith, there, length-more corners corner)

    first : length corners ≤ j → i < length corners
    first past = omega (arith, last past)

    later : (c : Corner) → c.portal < corner.portal → AreInTurn c corner
    later c h = record { later = omega arith; another = λ same. absurd (omega arith) }

pub threaded_more : (start : Point) (portals : List Portal) (goal : Point) (corners : List Corner) (apex : Point) (first : ℕ) (corner : Corner) → IsChain start portals goal
    → IsThreaded start portals corners apex first → IsStep apex portals first corner → IsThreaded start portals (corners ++ corner ∷ []) corner.at (corner.portal + 1)
threaded_more start portals goal corners apex first corner chain threaded step =
    record {
      last = subst (λ (n : ℕ). taut_corner_at (stops_so_far start (corners ++ corner ∷ [])) n ≡ corner_stop corner) (sym (length-more corners corner)) (taut_corner_at-added start corners corner);
      within = omega (arith, step.named.there);
      named = each_more (IsNamed portals) corners corner threaded.named step.named;
      before = each_more (λ (c : Corner). c.portal < corner.portal + 1) corners corner (λ k h. later (get_or corners k some_corner).portal (threaded.before k h)) (omega arith);
      in_turn = in_turn_more corners corner threaded.in_turn (λ k h. earlier (get_or corners k some_corner).portal (threaded.before k h));
      tight = λ k h. tight k h (cases_lt k (length corners));
    }
  where
    later : (n : ℕ) → n < first → n < corner.portal + 1
    later n h = omega (arith, step.from)

    earlier : (n : ℕ) → n < first → n < corner.portal
    earlier n h = omega (arith, step.from)

    more : List Corner
    more = corners ++ corner ∷ []

    kept : (k : ℕ) → k ≤ length corners → taut_corner_at (stops_so_far start more) k ≡ taut_corner_at (stops_so_far start corners) k
    kept k h = taut_corner_at-kept start corners corner k h

    new : IsTightFrom portals (taut_corner_at (stops_so_far start more) (length corners)) (taut_corner_at (stops_so_far start more) (length corners + 1))
    new =
        subst (λ (stop : TautCorner). IsTightFrom portals stop (taut_corner_at (stops_so_far start more) (length corners + 1))) (sym (kept (length corners) (omega arith) ∙ threaded.last))
        (subst (IsTightFrom portals (record { at = apex; number = first })) (sym (taut_corner_at-added start corners corner)) (tight_seen start portals goal apex corner.at first step.ahead corner.portal chain step.seen))

    tight : (k : ℕ) → k < length more → (k < length corners) ⊎ (length corners ≤ k) → IsTightFrom portals (taut_corner_at (stops_so_far start more) k) (taut_corner_at (stops_so_far start more) (k + 1))
    tight k h (inl earlier) =
        subst (λ (stop : TautCorner). IsTightFrom portals stop (taut_corner_at (stops_so_far start more) (k + 1))) (sym (kept k (omega arith)))
        (subst (IsTightFrom portals (taut_corner_at (stops_so_far start corners) k)) (sym (kept (k + 1) (omega arith))) (threaded.tight k earlier))
    tight k h (inr past) = subst (λ (n : ℕ). IsTightFrom portals (taut_corner_at (stops_so_far start more) n) (taut_corner_at (stops_so_far start more) (n + 1))) (last past) new
      where
        last : length corners ≤ k → length corners ≡ k
        last past = omega (arith, h, length-more corners corner)

-- the goal is seen: every segment is tight
pub threaded_tight : (start : Point) (portals : List Portal) (goal : Point) (corners : List Corner) (apex : Point) (first ahead : ℕ) → IsChain start portals goal
    → IsThreaded start portals corners apex first → IsSeen apex goal portals first ahead (length portals)
    → (k : ℕ) → k + 1 < length (taut_corners_of start portals goal corners) → IsTight portals (taut_corners_of start portals goal corners) k
threaded_tight start portals goal corners apex first ahead chain threaded seen k there = by (cases_lt k (length corners))
  where
    taut : List TautCorner
    taut = taut_corners_of start portals goal corners

    here : length corners ≤ k → length corners ≡ k
    here past = omega (arith, there, length-taut_corners_of start portals goal corners)

    end : IsTight portals taut (length corners)
    end = tight_at portals taut (length corners) (record { at = apex; number = first }) (goal_stop portals goal) (taut_corner_at-so_far start portals goal corners (length corners) (omega arith) ∙ threaded.last) (taut_corner_at-goal start portals goal corners)
        (tight_seen start portals goal apex goal first ahead (length portals) chain seen)

    by : (k < length corners) ⊎ (length corners ≤ k) → IsTight portals taut k
    by (inl earlier) =
        tight_at portals taut k (taut_corner_at (stops_so_far start corners) k) (taut_corner_at (stops_so_far start corners) (k + 1)) (taut_corner_at-so_far start portals goal corners k (omega arith)) (taut_corner_at-so_far start portals goal corners (k + 1) (omega arith)) (threaded.tight k earlier)
    by (inr past) = subst (IsTight portals taut) (here past) end

-- and where every bend is held, the path is taut
pub threaded_taut : (start : Point) (portals : List Portal) (goal : Point) (corners : List Corner) (apex : Point) (first ahead : ℕ) → IsChain start portals goal
    → IsThreaded start portals corners apex first → IsSeen apex goal portals first ahead (length portals)
    → ((i j : ℕ) → IsBend (taut_corners_of start portals goal corners) i j → IsHeld portals (taut_corners_of start portals goal corners) corners i j)
    → IsTaut start portals goal corners
threaded_taut start portals goal corners apex first ahead chain threaded seen held =
    record { named = threaded.named; in_turn = threaded.in_turn; tight = threaded_tight start portals goal corners apex first ahead chain threaded seen; held = held }
