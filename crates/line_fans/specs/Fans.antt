-- Fans: what can be seen through portals one after the other, from each corner on the way.
use Rattle.std.specs.Prelude.{◌≡◌, ◌≢◌, ℕ, pos, ◌+◌, ◌-◌, ◌*◌, Bool, true, false, not, ◌&&◌, ◌||◌, if◌then◌else◌, ℤ, ◌+ℤ◌, ◌-ℤ◌, List, [], ◌∷◌, ◌++◌, Option, Some, None, nat_le}
use Rattle.std.specs.List.{Contains, flat_map}
use Rattle.std.specs.Int.Signed.{le_z}
use Rattle.nav_base.specs.declared.point.Point.{Point}
use Rattle.nav_base.specs.Point.{from_to, dot_of, orient_of}
use Rattle.nav_base.specs.Deviation.{square_of}
use Rattle.nav_base.specs.Root.{ceil_sqrt_of}
use Rattle.mesh_types.specs.declared.links.Portal.{Portal}
use Rattle.mesh_types.specs.Chains.{IsAhead, IsBehind, IsFold}
use Rattle.funnel_path.specs.PassedOver.{IsInLine, LookOpposite}
use Rattle.line_fans.specs.Lines.{IsUnder}

-- What a corner of a line sees of a portal: the line's points before the corner, the corner itself, which is the root, and the two rays from it that
-- the portals on the way leave open, each by a point on it. A ray may go through an end of the portal. A root that lies on the portal sees all
-- that is ahead of it: then the cone is whole.
pub record Cone : Type 0 where
  pub before : List Point
  pub root : Point
  pub left : Point
  pub right : Point
  pub through_left : Bool
  pub through_right : Bool
  pub whole : Bool

abbrev pub is_right : ℤ → Bool
is_right n = not (le_z (pos 0) n)

abbrev pub is_left : ℤ → Bool
is_left n = not (le_z n (pos 0))

abbrev pub is_straight : ℤ → Bool
is_straight n = le_z n (pos 0) && le_z (pos 0) n

-- the end that is nearer to a point; the left one where both are as near
abbrev pub nearer_end : Point → Portal → Point
nearer_end p portal = if nat_le (square_of (from_to p portal.left)) (square_of (from_to p portal.right)) then portal.left else portal.right

-- the point as far beyond b as a lies before it
abbrev pub beyond : Point → Point → Point
beyond a b = record { x = b.x +ℤ b.x -ℤ a.x; z = b.z +ℤ b.z -ℤ a.z }

-- the whole cone of a point on a portal
abbrev pub whole_cone : List Point → Point → Portal → Cone
whole_cone before root portal = record { before = before; root = root; left = portal.left; right = portal.right; through_left = true; through_right = true; whole = true }

-- a cone whose root lies on the portal's line is whole; where the root lies beside the portal, the line goes on to the nearer end first
abbrev pub settled : Portal → Cone → Cone
settled portal cone =
    if is_straight (orient_of portal.right portal.left cone.root)
    then (if le_z (dot_of (from_to cone.root portal.left) (from_to cone.root portal.right)) (pos 0)
    then whole_cone cone.before cone.root portal
    else whole_cone (cone.before ++ cone.root ∷ []) (nearer_end cone.root portal) portal)
    else cone

-- all that a root sees of a portal
abbrev pub cone_through : List Point → Point → Portal → Cone
cone_through before root portal =
    settled portal (record { before = before; root = root; left = portal.left; right = portal.right; through_left = true; through_right = true; whole = false })

-- the cones of the next portal that come of one: behind a turn to the left round the portal's left end, straight on, behind a turn to the right
abbrev pub turned_left : Portal → Portal → Cone → List Cone
turned_left portal next cone =
    let all = le_z (pos 0) (orient_of cone.root cone.left next.right) in
    if cone.through_left && (is_left (orient_of cone.root cone.left next.left) || all)
    then settled next (record {
      before = cone.before ++ cone.root ∷ [];
      root = portal.left;
      left = next.left;
      right = if all then next.right else beyond cone.root portal.left;
      through_left = true;
      through_right = all;
      whole = false;
    }) ∷ []
    else []

abbrev pub turned_right : Portal → Portal → Cone → List Cone
turned_right portal next cone =
    let all = le_z (orient_of cone.root cone.right next.left) (pos 0) in
    if cone.through_right && (is_right (orient_of cone.root cone.right next.right) || all)
    then settled next (record {
      before = cone.before ++ cone.root ∷ [];
      root = portal.right;
      left = if all then next.left else beyond cone.root portal.right;
      right = next.right;
      through_left = all;
      through_right = true;
      whole = false;
    }) ∷ []
    else []

abbrev pub straight_on : Portal → Cone → List Cone
straight_on next cone =
    let stays_left = is_left (orient_of cone.root cone.left next.left) in
    let stays_right = is_right (orient_of cone.root cone.right next.right) in
    if is_left (orient_of cone.root cone.right next.left) && is_right (orient_of cone.root cone.left next.right)
    then record {
      before = cone.before;
      root = cone.root;
      left = if stays_left then cone.left else next.left;
      right = if stays_right then cone.right else next.right;
      through_left = not stays_left;
      through_right = not stays_right;
      whole = false;
    } ∷ []
    else []

abbrev pub over : Portal → Portal → Cone → List Cone
over portal next cone =
    if cone.whole then cone_through cone.before cone.root next ∷ []
    else turned_left portal next cone ++ straight_on next cone ++ turned_right portal next cone

-- the fan of the last of portals, from that of the first
unfoldable pub fan_on : Portal → List Portal → List Cone → List Cone
fan_on portal [] cones = cones
fan_on portal (next ∷ more) cones = fan_on next more (flat_map (over portal next) cones)

-- the last of portals, of which one stands before
abbrev pub last_portal : Portal → List Portal → Portal
last_portal portal [] = portal
last_portal portal (next ∷ more) = last_portal next more

-- the points of the line that a cone at a portal tells to a goal
abbrev pub way_by : Portal → Cone → Point → Option (List Point)
way_by portal cone goal =
    if cone.whole || (le_z (orient_of cone.root cone.left goal) (pos 0) && le_z (pos 0) (orient_of cone.root cone.right goal))
    then Some (cone.before ++ cone.root ∷ goal ∷ [])
    else (if is_left (orient_of cone.root cone.left goal)
    then (if cone.through_left then Some (cone.before ++ cone.root ∷ portal.left ∷ goal ∷ []) else None)
    else (if cone.through_right then Some (cone.before ++ cone.root ∷ portal.right ∷ goal ∷ []) else None))

-- the distance of two points in parts, 4096 to a sixteenth, rounded down
abbrev pub down_of : Point → Point → ℕ
down_of a b = ceil_sqrt_of (4096 * 4096 * square_of (from_to a b) + 1) - 1

-- the parts of the way from point to point, each leg rounded down
unfoldable pub lowered_of : List Point → ℕ
lowered_of (a ∷ b ∷ more) = down_of a b + lowered_of (b ∷ more)
lowered_of _ = 0

-- One portal stands before the next, as in a polygon that is entered over the one and left over the other: each is wide, lies ahead of or behind
-- the other, and where both lie on one line, they look opposite ways and have no common inner point.
pub record StandsBefore (portal next : Portal) : Type 0 where
  pub wide : portal.left ≢ portal.right
  pub left_behind : IsBehind next portal.left
  pub right_behind : IsBehind next portal.right
  pub left_ahead : IsAhead portal next.left
  pub right_ahead : IsAhead portal next.right
  pub apart : IsFold portal next → ⊥
  pub opposite : IsInLine portal next → LookOpposite portal next

-- portals stand one before the next, from one on, and before a goal
abbrev pub StandInRow : Portal → List Portal → Point → Type 0
StandInRow portal [] goal = (portal.left ≢ portal.right) × IsAhead portal goal
StandInRow portal (next ∷ more) goal = StandsBefore portal next × StandInRow next more goal

-- the fan tells a shortest way: some cone of the fan of the last portal tells one that has a number of parts, each leg rounded down, under every line
pub record TellsShortest (start : Point) (portal : Portal) (rest : List Portal) (goal : Point) : Type 0 where
  pub cone : Cone
  pub of_fan : Contains (fan_on portal rest (cone_through [] start portal ∷ [])) cone
  pub points : List Point
  pub told : way_by (last_portal portal rest) cone goal ≡ Some (start ∷ points)
  pub under : IsUnder (portal ∷ rest) start goal (lowered_of (start ∷ points))
