-- The turns of a taut line: how many there are at most, that they have coordinates, and the points of the line.
use Rattle.std.proofs.Common.{◌≡◌, ◌≢◌, ℕ, zero, suc, ◌+◌, ◌*◌, ◌<◌, ◌≤◌, List, [], ◌∷◌, ◌++◌, length, map, get_or, refl, sym, ap, subst, ◌∙◌, inl, inr, arith}
use Rattle.std.specs.Prelude.{All, AllPairs}
use Rattle.std.proofs.lemmas.Bool.{cases_lt}
use Rattle.std.proofs.lemmas.List.{map-append, get_or_default}
use Rattle.nav_base.specs.declared.point.Point.{Point}
use Rattle.nav_base.specs.Point.{HasCoordinates}
use Rattle.mesh_types.specs.declared.answers.Corner.{Corner}
use Rattle.mesh_types.specs.declared.answers.Side.{Side}
use Rattle.mesh_types.specs.declared.answers.Side.TheVariants.{L, R}
use Rattle.mesh_types.specs.declared.links.Portal.{Portal}
use Rattle.mesh_types.specs.Bends.{some_corner}
use Rattle.mesh_types.specs.Chains.{end_of, portal_at}
use Rattle.mesh_types.specs.Segments.{TautCorner, taut_corners_of}
use Rattle.mesh_types.specs.Taut.{AreInTurn, IsTaut}
use Rattle.funnel_path.specs.Coordinates.{HasChainCoordinates, HasEndCoordinates}
use Rattle.shortest_line.specs.Lines.{points_of}
use Rattle.shortest_line.proofs.Measures.{points_over}

-- ---- how many

two_sides : (a b c : Side) → a ≢ b → b ≢ c → a ≢ c → ⊥
two_sides L L c ab bc ac = ab refl
two_sides L R L ab bc ac = ac refl
two_sides L R R ab bc ac = bc refl
two_sides R R c ab bc ac = ab refl
two_sides R L R ab bc ac = ac refl
two_sides R L L ab bc ac = bc refl

-- of three corners, one after the other, the last names a later portal than the first
later : (a b c : Corner) → AreInTurn a b → AreInTurn b c → AreInTurn a c → a.portal < c.portal
later a b c ab bc ac = elim (cases_lt a.portal c.portal) [
  | inl less ↦ less
  | inr same ↦ absurd (two_sides a.side b.side c.side
      (ab.another (omega (arith, ab.later, bc.later, same)))
      (bc.another (omega (arith, ab.later, bc.later, same)))
      (ac.another (omega (arith, ab.later, bc.later, same))))
]

climbs : (corners : List Corner) → AllPairs AreInTurn corners → (j : ℕ) → 2 * j < length corners → j ≤ (get_or corners (2 * j) some_corner).portal
climbs corners in_turn zero there = omega arith
climbs corners in_turn (suc j) there =
    let i : ℕ = 2 * j in
    let before = climbs corners in_turn j (omega (arith, there)) in
    let two_on : 2 * suc j ≡ i + 2 = omega arith in
    let less = later (get_or corners i some_corner) (get_or corners (i + 1) some_corner) (get_or corners (i + 2) some_corner)
    (in_turn i (i + 1) some_corner (omega arith) (omega (arith, there)))
    (in_turn (i + 1) (i + 2) some_corner (omega arith) (omega (arith, there)))
    (in_turn i (i + 2) some_corner (omega arith) (omega (arith, there))) in
    subst (λ (n : ℕ). suc j ≤ (get_or corners n some_corner).portal) (sym two_on) (omega (arith, before, less))

-- a taut line has at most two turns a portal
pub few_turns : (start : Point) (portals : List Portal) (goal : Point) (turns : List Corner) → IsTaut start portals goal turns
    → length turns ≤ 2 * length portals
few_turns start portals goal turns taut = elim (cases_lt (2 * length portals) (length turns)) [
  | inl more ↦ absurd (omega (arith, climbs turns taut.in_turn (length portals) more, (taut.named (2 * length portals) more).there))
  | inr few ↦ few
]

-- ---- coordinates

end_coordinates : (side : Side) (portal : Portal) → HasEndCoordinates portal → HasCoordinates (end_of side portal)
end_coordinates L portal has = has.left
end_coordinates R portal has = has.right

pub turn_coordinates : (start : Point) (portals : List Portal) (goal : Point) (turns : List Corner) → HasChainCoordinates start portals goal
    → IsTaut start portals goal turns → All (λ (turn : Corner). HasCoordinates turn.at) turns
turn_coordinates start portals goal turns has taut = λ k d there.
    let named = taut.named k there in
    subst (λ (turn : Corner). HasCoordinates turn.at) (get_or_default turns k some_corner d there)
    (subst HasCoordinates (sym named.at_end)
    (end_coordinates (get_or turns k some_corner).side (portal_at portals (get_or turns k some_corner).portal)
    (has.at_ends (get_or turns k some_corner).portal _ named.there)))

-- ---- points

turned : (turns : List Corner) → points_of (map (λ (corner : Corner). record { at = corner.at; number = corner.portal + 1 }) turns) ≡ map (λ (turn : Corner). turn.at) turns
turned [] = refl
turned (turn ∷ turns) = ap (λ (points : List Point). turn.at ∷ points) (turned turns)

pub points_are : (start : Point) (portals : List Portal) (goal : Point) (turns : List Corner)
    → points_over start turns goal ≡ points_of (taut_corners_of start portals goal turns)
points_are start portals goal turns =
    let inner : List TautCorner = map (λ (corner : Corner). record { at = corner.at; number = corner.portal + 1 }) turns in
    let last : List TautCorner = record { at = goal; number = length portals + 1 } ∷ [] in
    ap (λ (points : List Point). start ∷ points)
    (ap (λ (points : List Point). points ++ goal ∷ []) (sym (turned turns)) ∙ sym (map-append (λ (corner : TautCorner). corner.at) inner last))
