-- A walker that goes along a line stands in a polygon of the corridor that holds it.
use Rattle.std.proofs.Common.{◌≡◌, ℕ, zero, suc, ◌+◌, ◌-◌, ◌≤◌, ◌<◌, max, Bool, true, false, List, [], ◌∷◌, length, drop, get_or, refl, sym, ap, subst, ◌∙◌, inl, inr, arith}
use Rattle.std.specs.Prelude.{All, AllPairs, nat_le, if◌then◌else◌}
use Rattle.std.proofs.lemmas.Bool.{cases_Bool, leb-true, leb-false}
use Rattle.std.proofs.lemmas.List.{get_or-map, get_or-drop, length-map, length-drop}
use Rattle.nav_base.specs.declared.point.Point.{Point}
use Rattle.mesh_types.specs.declared.answers.Corner.{Corner}
use Rattle.mesh_types.specs.declared.answers.Side.{Side}
use Rattle.mesh_types.specs.declared.answers.Side.TheVariants.{L, R}
use Rattle.mesh_types.specs.declared.links.Link.{Link}
use Rattle.mesh_types.specs.declared.links.PolyRef.{PolyRef}
use Rattle.mesh_types.specs.declared.links.Portal.{Portal}
use Rattle.mesh_types.specs.declared.mesh.Mesh.{Mesh}
use Rattle.mesh_types.specs.Chains.{portal_at, end_of}
use Rattle.mesh_types.proofs.Words.{some_portal}
use Rattle.mesh_types.specs.Rays.{IsHeldAt}
use Rattle.mesh_types.specs.Right.{portals_of}
use Rattle.mesh_types.specs.Soundness.{IsSound}
use Rattle.mesh_types.specs.Taut.{IsNamed, AreInTurn}
use Rattle.mesh_types.specs.Bends.{some_corner}
use Rattle.mesh_types.proofs.MeshLinks.{leads, ends_entered, IsHeldIn}
use Rattle.mesh_types.proofs.WalkChains.{some_link, link_at, walk_link, held_in_coordinates}
use Rattle.surface_move.specs.Moves.{leg_of, nth_polygon}
use Rattle.agent_walks.specs.declared.walkers.Standing.{Standing}
use Rattle.agent_walks.specs.declared.walkers.MarchEnd.{MarchEnd}
use Rattle.agent_walks.specs.Marches.{EndsFrom, Stand, over_corners, polygons_of}
use Rattle.agent_walks.specs.Standings.{ArePolygons, EndsAt, HasNextPlace, IsLine, IsStop, StandsAt, stand_of}
use Rattle.agent_walks.proofs.CorridorParts.{are_there, count_polygons, entered_at, last_at}

-- ---- one corner passed, or not

pub passes : (point : Point) (place budget : ℕ) (corner : Corner) (more : List Corner) → leg_of point corner.at ≤ budget
    → over_corners point place budget (corner ∷ more) ≡ over_corners corner.at (max place (corner.portal + 1)) (budget - leg_of point corner.at) more
passes point place budget corner more reached =
    ap (λ (b : Bool). if b then over_corners corner.at (max place (corner.portal + 1)) (budget - leg_of point corner.at) more
    else record { point = point; place = place; budget = budget; left = corner ∷ more }) (is_reached (leg_of point corner.at) budget reached)
  where
    is_reached : (a b : ℕ) → a ≤ b → nat_le a b ≡ true
    is_reached a b h = elim (cases_Bool (nat_le a b)) [ inl less ↦ less | inr more ↦ absurd (omega (arith, leb-false a b more, h)) ]

pub stays : (point : Point) (place budget : ℕ) (corner : Corner) (more : List Corner) → budget < leg_of point corner.at
    → over_corners point place budget (corner ∷ more) ≡ record { point = point; place = place; budget = budget; left = corner ∷ more }
stays point place budget corner more beyond =
    ap (λ (b : Bool). if b then over_corners corner.at (max place (corner.portal + 1)) (budget - leg_of point corner.at) more
    else record { point = point; place = place; budget = budget; left = corner ∷ more }) (is_beyond (leg_of point corner.at) budget beyond)
  where
    is_beyond : (a b : ℕ) → b < a → nat_le a b ≡ false
    is_beyond a b h = elim (cases_Bool (nat_le a b)) [ inl less ↦ absurd (omega (arith, leb-true a b less, h)) | inr more ↦ more ]

-- ---- corners are held

held_at : (mesh : Mesh) (at : PolyRef) (p : Point) → IsHeldIn mesh at p → IsHeldAt mesh p at
held_at mesh at p held = record { polygon = held.polygon; there = held.there; holds = held.holds }

pub held_in' : (mesh : Mesh) (p : Point) (at : PolyRef) → IsHeldAt mesh p at → IsHeldIn mesh at p
held_in' mesh p at held = record { polygon = held.polygon; there = held.there; holds = held.holds }

-- a corner that is named is held by the polygon behind its portal
named_held : (mesh : Mesh) (first last : PolyRef) (links : List Link) (point goal : Point) (corners : List Corner) (corner : Corner) → IsSound mesh
    → IsLine mesh first last links point goal corners → IsNamed (portals_of links) corner → IsHeldAt mesh corner.at (nth_polygon (polygons_of first links) (corner.portal + 1))
named_held mesh first last links point goal corners corner sound line named =
    let there : corner.portal < length links = omega (arith, named.there, length-map links (λ (link : Link). link.portal)) in
    let link = link_at links corner.portal in
    let ends = ends_entered mesh link sound (leads mesh link sound (walk_link mesh first links last line.walks corner.portal there)) in
    let portal : portal_at (portals_of links) corner.portal ≡ link.portal = get_or-map (λ (l : Link). l.portal) links corner.portal some_link some_portal there in
    subst (IsHeldAt mesh corner.at) (sym (entered_at first links corner.portal there))
    (subst (λ (p : Point). IsHeldAt mesh p link.to) (sym (named.at_end ∙ ap (end_of corner.side) portal)) (either corner.side link.to link.portal (held_at mesh link.to _ ends.left) (held_at mesh link.to _ ends.right)))
  where
    either : (side : Side) (at : PolyRef) (portal : Portal) → IsHeldAt mesh portal.left at → IsHeldAt mesh portal.right at → IsHeldAt mesh (end_of side portal) at
    either L at portal left right = left
    either R at portal left right = right

-- ---- the walk over corners

-- a walker before some corners: its polygon holds it, and each corner is named and names no portal before that polygon
record IsBefore (mesh : Mesh) (polys : List PolyRef) (portals : List Portal) (point : Point) (place : ℕ) (corners : List Corner) : Type 0 where
  held : IsHeldAt mesh point (nth_polygon polys place)
  within : place < length polys
  named : (k : ℕ) → k < length corners → IsNamed portals (get_or corners k some_corner)
  in_turn : AllPairs AreInTurn corners
  ahead : (k : ℕ) → k < length corners → place ≤ (get_or corners k some_corner).portal + 1

-- what is true where it stops before the corners that are left
record IsHalted (mesh : Mesh) (polys : List PolyRef) (portals : List Portal) (stand : Stand) : Type 0 where
  before : IsBefore mesh polys portals stand.point stand.place stand.left
  beyond : 0 < length stand.left → stand.budget < leg_of stand.point (get_or stand.left 0 some_corner).at

-- what the last step of a march is asked
pub record IsReady (mesh : Mesh) (polys : List PolyRef) (goal : Point) (corners : List Corner) (standing : Standing) : Type 0 where
  pub polygons : ArePolygons mesh polys
  pub reaches : IsHeldAt mesh goal (nth_polygon polys (length polys - 1))
  pub stands : StandsAt mesh polys corners standing

module _ (mesh : Mesh) (first last : PolyRef) (links : List Link) (point goal : Point) (all : List Corner) (sound : IsSound mesh)
    (line : IsLine mesh first last links point goal all) where
  abbrev pub polys : List PolyRef
  polys = polygons_of first links

  abbrev pub portals : List Portal
  portals = portals_of links

  -- past one corner
  past : (at : Point) (place : ℕ) (corner : Corner) (more : List Corner) → IsBefore mesh polys portals at place (corner ∷ more)
      → IsBefore mesh polys portals corner.at (max place (corner.portal + 1)) more
  past at place corner more before =
      let named = before.named 0 (omega arith) in
      let next : max place (corner.portal + 1) ≡ corner.portal + 1 = omega (arith, before.ahead 0 (omega arith)) in
      record {
        held = subst (λ (n : ℕ). IsHeldAt mesh corner.at (nth_polygon polys n)) (sym next) (named_held mesh first last links point goal all corner sound line named);
        within = omega (arith, next, named.there, length-map links (λ (link : Link). link.portal), count_polygons first links);
        named = λ k there. before.named (suc k) (omega (arith, there));
        in_turn = λ i j d order there. before.in_turn (suc i) (suc j) d (omega (arith, order)) (omega (arith, there));
        ahead = λ k there.
            let turn = before.in_turn 0 (suc k) some_corner (omega arith) (omega (arith, there)) in
            omega (arith, next, turn.later);
      }

  over : (at : Point) (place budget : ℕ) (corners : List Corner) → IsBefore mesh polys portals at place corners
      → IsHalted mesh polys portals (over_corners at place budget corners)
  over at place budget [] before = record { before = before; beyond = λ some. absurd (omega (arith, some)) }
  over at place budget (corner ∷ more) before =
      elim (cases_Bool (nat_le (leg_of at corner.at) budget)) [
        | inl less ↦
            subst (IsHalted mesh polys portals) (sym (passes at place budget corner more (leb-true (leg_of at corner.at) budget less)))
            (over corner.at (max place (corner.portal + 1)) (budget - leg_of at corner.at) more (past at place corner more before))
        | inr beyond' ↦
            let beyond : budget < leg_of at corner.at = omega (arith, leb-false (leg_of at corner.at) budget beyond') in
            subst (IsHalted mesh polys portals) (sym (stays at place budget corner more beyond)) (record { before = before; beyond = λ some. beyond })
      ]

  start : IsBefore mesh polys portals point 0 all
  start = record {
    held = line.start;
    within = omega (arith, count_polygons first links);
    named = line.taut.named;
    in_turn = line.taut.in_turn;
    ahead = λ k there. omega arith;
  }

  -- where it stands after the corners that the length reaches
  pub stands : (far : ℕ) (standing : Standing) → over_corners point 0 far all ≡ stand_of all standing → StandsAt mesh polys all standing
  stands far standing same =
      let halted : IsHalted mesh polys portals (stand_of all standing) = subst (IsHalted mesh polys portals) same (over point 0 far all start) in
      record {
        held = halted.before.held;
        within = halted.before.within;
        next = λ there.
            let some : 0 < length (drop standing.passed all) = omega (arith, there, length-drop standing.passed all) in
            let at : get_or (drop standing.passed all) 0 some_corner ≡ get_or all standing.passed some_corner =
            get_or-drop standing.passed all 0 some_corner ∙ ap (λ n. get_or all n some_corner) (plain standing.passed) in
            let named = subst (IsNamed portals) at (halted.before.named 0 some) in
            let corner = get_or all standing.passed some_corner in
            let held = named_held mesh first last links point goal all corner sound line named in
            record {
              there = omega (arith, named.there, length-map links (λ (link : Link). link.portal), count_polygons first links);
              at = held_in_coordinates mesh _ corner.at sound (held_in' mesh corner.at _ held);
              beyond = subst (λ (c : Corner). standing.budget < leg_of standing.point c.at) at (halted.beyond some);
            };
      }
    where
      plain : (n : ℕ) → n + 0 ≡ n
      plain n = omega arith

  -- its corners name portals with a place after them
  pub next_places : length links < 4294967295 → All HasNextPlace all
  next_places few k d there =
      let named = line.taut.named k there in
      subst HasNextPlace (default all k d there)
      (record { few = omega (arith, named.there, few, length-map links (λ (link : Link). link.portal)) })
    where
      default : (cs : List Corner) (k : ℕ) (d : Corner) → k < length cs → get_or cs k some_corner ≡ get_or cs k d
      default [] k d there = absurd (omega (arith, there))
      default (c ∷ cs) zero d there = refl
      default (c ∷ cs) (suc k) d there = default cs k d (omega (arith, there))

  -- ---- the whole march

  -- what the last step is asked, over the corridor's polygons
  pub ready : (far : ℕ) (standing : Standing) (polys' : List PolyRef) → over_corners point 0 far all ≡ stand_of all standing → polys' ≡ polys
      → IsReady mesh polys' goal all standing
  ready far standing polys' same is =
      subst (λ (ps : List PolyRef). IsReady mesh ps goal all standing) (sym is) (record {
        polygons = record {
          there = are_there mesh first links last sound (record { polygon = line.start.polygon; is = line.start.there }) line.walks;
          few = omega (arith, count_polygons first links, line.few);
        };
        reaches = subst (IsHeldAt mesh goal) (sym (ap (nth_polygon polys) end ∙ last_at mesh first links last line.walks)) line.reaches;
        stands = stands far standing same;
      })
    where
      end : length polys - 1 ≡ length links
      end = omega (arith, count_polygons first links)

  -- and what it gives
  pub arrives : (far : ℕ) (standing : Standing) (stop : MarchEnd) (polys' : List PolyRef) → over_corners point 0 far all ≡ stand_of all standing → polys' ≡ polys
      → EndsFrom mesh polys' goal (stand_of all standing) (drop standing.passed all) stop.place stop.point → IsStop mesh polys' stop
      → EndsAt mesh first links point goal far all stop
  arrives far standing stop polys' same is ends stops = record {
    ends = subst (λ (s : Stand). EndsFrom mesh polys goal s s.left stop.place stop.point) (sym same)
        (subst (λ (ps : List PolyRef). EndsFrom mesh ps goal (stand_of all standing) (drop standing.passed all) stop.place stop.point) is ends);
    stops = subst (λ (ps : List PolyRef). IsStop mesh ps stop) is stops;
  }
