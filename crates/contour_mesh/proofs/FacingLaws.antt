-- The doors that a door faces, in the order of their beginnings.
use Rattle.std.proofs.Common.{◌≡◌, ℕ, ◌<◌, Bool, true, false, length, List, drop, filter, get_or, Option, Some, None, ap, ◌∙◌, sym, refl, subst}
use Rattle.std.specs.Prelude.{All, pos}
use Rattle.std.specs.Option.{option_map}
use Rattle.std.specs.List.{find, filter_map}
use Rattle.std.specs.List.Sorted.{IsPartitionedBy, IsPermutation, IsSortedBy, IsStableBy, ties}
use Rattle.std.specs.Cmp.{IsStrictWeakOrder}
use Rattle.std.proofs.lemmas.Bool.{both_ways, false_from_ne_true, true_from_ne_false}
use Rattle.std.proofs.lemmas.List.{get_or_default}
use Rattle.std.proofs.lemmas.List.Elements.{All-weaker}
use Rattle.std.proofs.lemmas.List.MinMax.{ranks_by}
use Rattle.std.proofs.lemmas.List.Sorted.{All-permutation, sorted_far}
use Rattle.nav_base.specs.declared.point.Point.{Point}
use Rattle.mesh_types.specs.declared.region.PortalEdge.{PortalEdge}
use Rattle.mesh_types.specs.declared.links.Link.{Link}
use Rattle.mesh_types.specs.LinkIndex.{AreBelow, AreOrderedLinks}
use Rattle.mesh_types.specs.LinkOrder.{is_point_before}
use Rattle.mesh_types.specs.Ears.{is_same_point}
use Rattle.mesh_types.specs.Doors.{are_facing, door_link, door_links, link_through}
use Rattle.mesh_types.proofs.ContourLaws.{same_point, is_same_point-from}
use Rattle.mesh_types.proofs.LinkOrderLaws.{point_total, points_order, points_tie}
use Rattle.mesh_types.proofs.LinksInOrder.{All-ordered_links, ordered_links-polygons}
use Rattle.mesh_types.proofs.RunLaws.{All-found}
use Rattle.contour_mesh.specs.Orders.{IsSortOf, MeetsFacing, door_begins_before}
use Rattle.contour_mesh.proofs.SortLaws.{find-drop, find-drop_none, find-sorted, not_itself, tie-from}

-- a door that stands for none
abbrev pub no_door : PortalEdge
no_door = record {
  polygon = 0;
  edge = 0;
  region = 0;
  from = 0;
  to = 0;
  begin = record { x = pos 0; z = pos 0 };
  end = record { x = pos 0; z = pos 0 };
  code = None;
}

pub doors_order : IsStrictWeakOrder door_begins_before
doors_order = ranks_by point_total (λ (door : PortalEdge). door.begin)

-- a list that was sorted stably
pub sort_made : {X : Type 0} (before : X → X → Bool) (xs old new : List X) → old ≡ xs → IsSortedBy before new → IsStableBy before old new → IsPermutation old new
    → IsSortOf before xs new
sort_made {X = X} before xs old new same rising stable all =
    let P : List X → Type 0 = λ ys. IsPermutation ys new in
    record { rising = rising; stable = λ x. stable x ∙ ap (filter (ties before x)) same; all = subst P same all }

-- doors that begin before a corner stand first
pub ahead_first : (corner : Point) (doors : List PortalEdge) → IsSortedBy door_begins_before doors
    → IsPartitionedBy (λ (other : PortalEdge). is_point_before other.begin corner) doors
ahead_first corner doors sorted i j d le there later =
    let a : PortalEdge = get_or doors i d in
    let b : PortalEdge = get_or doors j d in
    true_from_ne_false (is_point_before a.begin corner) (λ none.
    both_ways (is_point_before b.begin corner)
    (points_order.chain b.begin a.begin corner (sorted_far door_begins_before doors_order doors sorted i j d le there) none) later)

-- they do not face a door that ends there
ahead_fails : (door other : PortalEdge) → (are_facing door other ≡ true → is_same_point other.begin door.end ≡ true) → is_point_before other.begin door.end ≡ true
    → are_facing door other ≡ false
ahead_fails door other meet ahead =
    false_from_ne_true (are_facing door other) (λ facing.
    both_ways (is_point_before other.begin door.end)
    (ap (λ p. is_point_before p door.end) (same_point other.begin door.end (meet facing)) ∙ not_itself is_point_before points_order door.end) ahead)

pub ahead_passed : (door : PortalEdge) (doors : List PortalEdge) (first : ℕ) → MeetsFacing doors door
    → ((k : ℕ) (d : PortalEdge) → k < first → is_point_before (get_or doors k d).begin door.end ≡ true)
    → find (are_facing door) (drop first doors) ≡ find (are_facing door) doors
ahead_passed door doors first meet ahead =
    find-drop (are_facing door) doors first (λ k d below there. ahead_fails door (get_or doors k d) (meet k d there) (ahead k d below))

-- from one that begins behind the corner on, none does
pub behind_none : (door : PortalEdge) (doors : List PortalEdge) (place : ℕ) (e : PortalEdge) (same : Bool) → IsSortedBy door_begins_before doors → MeetsFacing doors door
    → place < length doors → is_point_before (get_or doors place e).begin door.end ≡ false → same ≡ is_same_point (get_or doors place e).begin door.end
    → same ≡ false → find (are_facing door) (drop place doors) ≡ None
behind_none door doors place e same sorted meet there late is differs =
    find-drop_none (are_facing door) doors place (λ k d above inside.
    false_from_ne_true (are_facing door (get_or doors k d)) (λ facing.
    both_ways (is_point_before door.end (get_or doors place e).begin)
    (ap (λ p. is_point_before p (get_or doors place e).begin) (sym (same_point (get_or doors k d).begin door.end (meet k d inside facing)))
    ∙ ap (λ (b : PortalEdge). is_point_before (get_or doors k d).begin b.begin) (get_or_default doors place e d there)
    ∙ sorted_far door_begins_before doors_order doors sorted place k d above inside)
    behind))
  where
    behind : is_point_before door.end (get_or doors place e).begin ≡ true
    behind = true_from_ne_false (is_point_before door.end (get_or doors place e).begin) (λ none.
        both_ways (is_same_point (get_or doors place e).begin door.end) (sym is ∙ differs)
        (is_same_point-from (get_or doors place e).begin door.end (points_tie (get_or doors place e).begin door.end late none)))

-- so the order of the doors does not change which one a door faces
tie_facing : (door y : PortalEdge) → (are_facing door y ≡ true → is_same_point y.begin door.end ≡ true) → are_facing door y ≡ true
    → ties door_begins_before (record door { begin = door.end }) y ≡ true
tie_facing door y meet facing =
    let same = same_point y.begin door.end (meet facing) in
    tie-from door_begins_before (record door { begin = door.end }) y
    (ap (is_point_before door.end) same ∙ not_itself is_point_before points_order door.end)
    (ap (λ p. is_point_before p door.end) same ∙ not_itself is_point_before points_order door.end)

pub facing_is : (doors sorted : List PortalEdge) (door : PortalEdge) → IsSortOf door_begins_before doors sorted → MeetsFacing doors door
    → find (are_facing door) sorted ≡ find (are_facing door) doors
facing_is doors sorted door made meet =
    let P : PortalEdge → Type 0 = λ y. are_facing door y ≡ true → is_same_point y.begin door.end ≡ true in
    let Q : PortalEdge → Type 0 = λ y. are_facing door y ≡ true → ties door_begins_before (record door { begin = door.end }) y ≡ true in
    find-sorted door_begins_before (are_facing door) (record door { begin = door.end }) doors sorted made.stable
    (All-weaker P Q (λ y m. tie_facing door y m) doors meet)
    (All-weaker P Q (λ y m. tie_facing door y m) sorted (All-permutation P doors sorted made.all meet))

pub meets_sorted : (doors sorted : List PortalEdge) (door : PortalEdge) → IsSortOf door_begins_before doors sorted → MeetsFacing doors door → MeetsFacing sorted door
meets_sorted doors sorted door made meet =
    All-permutation (λ (y : PortalEdge). are_facing door y ≡ true → is_same_point y.begin door.end ≡ true) doors sorted made.all meet

-- the links leave polygons of the tile, in order
leaves : (tile polygons : ℕ) (doors : List PortalEdge) (d : PortalEdge) → d.polygon < polygons → (o : Option PortalEdge) (l : Link) → option_map (door_link tile d) o ≡ Some l
    → (l.from.tile ≡ tile) × (l.from.index < polygons)
leaves tile polygons doors d below None l is = absurd cc
leaves tile polygons doors d below (Some other) l is =
    let same : door_link tile d other ≡ l = cc in
    let P : Link → Type 0 = λ k. (k.from.tile ≡ tile) × (k.from.index < polygons) in
    subst P same (refl, below)

links_leave : (tile polygons : ℕ) (doors : List PortalEdge) → All (λ (door : PortalEdge). door.polygon < polygons) doors
    → All (λ (l : Link). (l.from.tile ≡ tile) × (l.from.index < polygons)) (filter_map (link_through tile doors) doors)
links_leave tile polygons doors each =
    All-found (link_through tile doors) (λ (l : Link). (l.from.tile ≡ tile) × (l.from.index < polygons)) doors
    (λ k d there l is. leaves tile polygons doors (get_or doors k d) (each k d there) (find (are_facing (get_or doors k d)) doors) l is)

pub links_ordered : (tile polygons : ℕ) (doors : List PortalEdge) → All (λ (door : PortalEdge). door.polygon < polygons) doors → AreOrderedLinks (door_links tile doors)
links_ordered tile polygons doors each =
    let links : List Link = filter_map (link_through tile doors) doors in
    ordered_links-polygons tile links
    (All-weaker (λ (l : Link). (l.from.tile ≡ tile) × (l.from.index < polygons)) (λ (l : Link). l.from.tile ≡ tile) (λ l both. both.0) links
    (links_leave tile polygons doors each))

pub links_below : (tile polygons : ℕ) (doors : List PortalEdge) → All (λ (door : PortalEdge). door.polygon < polygons) doors → AreBelow polygons (door_links tile doors)
links_below tile polygons doors each =
    let links : List Link = filter_map (link_through tile doors) doors in
    All-ordered_links (λ (l : Link). l.from.index < polygons) links
    (All-weaker (λ (l : Link). (l.from.tile ≡ tile) × (l.from.index < polygons)) (λ (l : Link). l.from.index < polygons) (λ l both. both.1) links
    (links_leave tile polygons doors each))
