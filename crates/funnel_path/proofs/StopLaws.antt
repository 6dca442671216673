-- The stops of a path: the start, the corners one after the other, and the goal; and what one more corner changes.
use Rattle.std.proofs.Common.{◌≡◌, ℕ, zero, suc, ◌+◌, ◌≤◌, ◌<◌, List, [], ◌∷◌, ◌++◌, length, map, get_or, refl, sym, ap, ◌∙◌, arith, length-append}
use Rattle.std.proofs.lemmas.List.{get_or-map, get_or_append_left, get_or-append-add, length-map}
use Rattle.nav_base.specs.declared.point.Point.{Point}
use Rattle.mesh_types.specs.declared.links.Portal.{Portal}
use Rattle.mesh_types.specs.declared.answers.Corner.{Corner}
use Rattle.mesh_types.specs.Segments.{TautCorner, taut_corner_at, taut_corners_of}
use Rattle.mesh_types.specs.Bends.{some_corner}
use Rattle.mesh_types.proofs.Words.{corner_stop, some_stop}

abbrev pub start_stop : Point → TautCorner
start_stop start = record { at = start; number = 0 }

abbrev pub goal_stop : List Portal → Point → TautCorner
goal_stop portals goal = record { at = goal; number = length portals + 1 }

-- the stops without the goal
abbrev pub stops_so_far : Point → List Corner → List TautCorner
stops_so_far start corners = start_stop start ∷ map corner_stop corners

pub length-stops_so_far : (start : Point) (corners : List Corner) → length (stops_so_far start corners) ≡ length corners + 1
length-stops_so_far start corners = omega (arith, length-map corners corner_stop)

pub length-taut_corners_of : (start : Point) (portals : List Portal) (goal : Point) (corners : List Corner) → length (taut_corners_of start portals goal corners) ≡ length corners + 2
length-taut_corners_of start portals goal corners = omega (arith, length-append (map corner_stop corners) (goal_stop portals goal ∷ []), length-map corners corner_stop)

-- the stops up to the last corner do not depend on the goal
pub taut_corner_at-so_far : (start : Point) (portals : List Portal) (goal : Point) (corners : List Corner) (k : ℕ) → k ≤ length corners
    → taut_corner_at (taut_corners_of start portals goal corners) k ≡ taut_corner_at (stops_so_far start corners) k
taut_corner_at-so_far start portals goal corners k there =
    get_or_append_left (stops_so_far start corners) (goal_stop portals goal ∷ []) some_stop k (omega (arith, length-stops_so_far start corners))

-- the last stop is the goal
pub taut_corner_at-goal : (start : Point) (portals : List Portal) (goal : Point) (corners : List Corner) → taut_corner_at (taut_corners_of start portals goal corners) (length corners + 1) ≡ goal_stop portals goal
taut_corner_at-goal start portals goal corners =
    ap (λ (k : ℕ). get_or (taut_corners_of start portals goal corners) k some_stop) (omega (arith, length-stops_so_far start corners))
    ∙ get_or-append-add (stops_so_far start corners) (goal_stop portals goal ∷ []) 0 some_stop

-- the first is the start
pub taut_corner_at-start : (start : Point) (corners : List Corner) → taut_corner_at (stops_so_far start corners) 0 ≡ start_stop start
taut_corner_at-start start corners = refl

-- and those between are the corners
pub taut_corner_at-corner : (start : Point) (corners : List Corner) (k : ℕ) → k < length corners → taut_corner_at (stops_so_far start corners) (k + 1) ≡ corner_stop (get_or corners k some_corner)
taut_corner_at-corner start corners k there =
    ap (λ (n : ℕ). get_or (stops_so_far start corners) n some_stop) (omega arith)
    ∙ get_or-append-add (start_stop start ∷ []) (map corner_stop corners) k some_stop
    ∙ get_or-map corner_stop corners k some_corner some_stop there

-- ---- one more corner

pub length-more : (corners : List Corner) (corner : Corner) → length (corners ++ corner ∷ []) ≡ length corners + 1
length-more corners corner = omega (arith, length-append corners (corner ∷ []))

pub corner-kept : (corners : List Corner) (corner : Corner) (k : ℕ) → k < length corners → get_or (corners ++ corner ∷ []) k some_corner ≡ get_or corners k some_corner
corner-kept corners corner k there = get_or_append_left corners (corner ∷ []) some_corner k there

pub corner-added : (corners : List Corner) (corner : Corner) → get_or (corners ++ corner ∷ []) (length corners) some_corner ≡ corner
corner-added corners corner = ap (λ (k : ℕ). get_or (corners ++ corner ∷ []) k some_corner) (omega arith) ∙ get_or-append-add corners (corner ∷ []) 0 some_corner

pub taut_corner_at-kept : (start : Point) (corners : List Corner) (corner : Corner) (k : ℕ) → k ≤ length corners
    → taut_corner_at (stops_so_far start (corners ++ corner ∷ [])) k ≡ taut_corner_at (stops_so_far start corners) k
taut_corner_at-kept start corners corner zero there = refl
taut_corner_at-kept start corners corner (suc k) there =
    ap (λ (n : ℕ). get_or (stops_so_far start (corners ++ corner ∷ [])) n some_stop) (one_more k)
    ∙ taut_corner_at-corner start (corners ++ corner ∷ []) k (omega (arith, length-more corners corner))
    ∙ ap corner_stop (corner-kept corners corner k (omega arith))
    ∙ sym (ap (λ (n : ℕ). get_or (stops_so_far start corners) n some_stop) (one_more k) ∙ taut_corner_at-corner start corners k (omega arith))
  where
    one_more : (n : ℕ) → suc n ≡ n + 1
    one_more n = omega arith

pub taut_corner_at-added : (start : Point) (corners : List Corner) (corner : Corner) → taut_corner_at (stops_so_far start (corners ++ corner ∷ [])) (length corners + 1) ≡ corner_stop corner
taut_corner_at-added start corners corner =
    taut_corner_at-corner start (corners ++ corner ∷ []) (length corners) (omega (arith, length-more corners corner)) ∙ ap corner_stop (corner-added corners corner)
