-- The nearest wall that is reached, wall after wall.
use Rattle.std.proofs.Common.{◌≡◌, ℕ, ◌+◌, ◌*◌, ◌<◌, ◌↔◌, List, [], ◌∷◌, ◌++◌, length, take, get_or, sym, subst, inl, inr, arith}
use Rattle.std.specs.Prelude.{Contains, Option, Some, None}
use Rattle.std.proofs.lemmas.Bool.{cases_lt}
use Rattle.std.proofs.lemmas.List.{take_more}
use Rattle.std.proofs.lemmas.List.Elements.{Contains-push_cases}
use Rattle.nav_base.specs.declared.deviation.Deviation.{Deviation}
use Rattle.nav_base.specs.declared.point.Point.{Point}
use Rattle.nav_base.specs.Deviation.{IsFraction, IsLess, deviation_of}
use Rattle.nav_base.proofs.FractionLaws.{IsFraction-deviation_of, IsLess-asymmetric, IsLess-negatively_transitive}
use Rattle.mesh_types.specs.declared.links.Link.{Link}
use Rattle.mesh_types.specs.declared.links.PolyRef.{PolyRef}
use Rattle.mesh_types.specs.declared.mesh.Mesh.{Mesh}
use Rattle.mesh_types.specs.declared.storeys.MeshPlace.{MeshPlace}
use Rattle.wall_slide.specs.Around.{WalksBy}
use Rattle.wall_slide.specs.Slides.{IsNoFarther, whole}
use Rattle.wall_query.specs.declared.around.Around.{Around}
use Rattle.wall_query.specs.declared.questions.Wall.{Wall}
use Rattle.wall_query.specs.declared.questions.WallQuery.{WallQuery}
use Rattle.wall_query.specs.Around.{IsAround, IsListed, PassesNear}
use Rattle.wall_query.specs.Walls.{HasWallsOf, IsBestOf, IsNearerThan, IsNearestReached, IsNearestWithin, IsReached, IsWallAround, IsWallWithin}
use Rattle.wall_slide.proofs.Listed.{contains_none}

-- ---- the order of distances

pub not_less : (a b : Deviation) → IsNoFarther a b → IsLess b a → ⊥
not_less a b most less = omega (arith, most, less.less)

pub no_farther : (a b : Deviation) → (IsLess b a → ⊥) → IsNoFarther a b
no_farther a b not = elim (cases_lt (b.num * a.den) (a.num * b.den)) [
  | inl below ↦ absurd (not (record { less = below }))
  | inr above ↦ above
]

pub no_farther_on : (a b c : Deviation) → IsFraction b → IsNoFarther a b → IsNoFarther b c → IsNoFarther a c
no_farther_on a b c is first second =
    no_farther a c (IsLess-negatively_transitive c b a is (not_less b c second) (not_less a b first))

-- the distance of a wall is a fraction
pub wall_fraction : (mesh : Mesh) (areas : ℕ) (p : Point) (most : Deviation) (wall : Wall) → IsWallWithin mesh areas p most wall → IsFraction wall.far
wall_fraction mesh areas p most wall is = subst IsFraction (sym is.distance) (IsFraction-deviation_of wall.begin wall.end p)

-- what is around within a distance is around within a greater one
widened : (mesh : Mesh) (areas : ℕ) (p : Point) (far far' : Deviation) → IsFraction far → IsNoFarther far far' → (from at : PolyRef) (links : List Link)
    → WalksBy (PassesNear mesh areas p far) mesh from links at → WalksBy (PassesNear mesh areas p far') mesh from links at
widened mesh areas p far far' is most from at [] walk = walk
widened mesh areas p far far' is most from at (link ∷ links) walk =
    (walk.0, (walk.1.0, no_farther_on (deviation_of link.portal.right link.portal.left p) far far' is walk.1.1 most), walk.2, widened mesh areas p far far' is most link.to at links walk.3)

pub around_wider : (mesh : Mesh) (areas : ℕ) (from : MeshPlace) (far far' : Deviation) (at : PolyRef) → IsFraction far → IsNoFarther far far'
    → IsAround mesh areas from far at → IsAround mesh areas from far' at
around_wider mesh areas from far far' at is most around =
    (around.0, widened mesh areas from.point far far' is most from.polygon at around.0 around.1)

-- ---- wall after wall

module _ (mesh : Mesh) (asked : WallQuery) where
  pub none_yet : IsBestOf mesh asked (Contains []) None
  none_yet = λ wall held reached. contains_none wall held

  abbrev Reaches : Wall → Type 0
  Reaches wall = IsAround mesh asked.areas asked.from wall.far wall.polygon

  abbrev Within : Wall → Type 0
  Within wall = IsWallWithin mesh asked.areas asked.from.point (whole (asked.reach * asked.reach)) wall

  module _ (walls : List Wall) (i : ℕ) (d : Wall) (below : i < length walls) where
    abbrev w : Wall
    w = get_or walls i d

    seen_more : (best : Option Wall) → IsBestOf mesh asked (Contains (take i walls ++ w ∷ [])) best → IsBestOf mesh asked (Contains (take (i + 1) walls)) best
    seen_more best is = subst (λ (seen : List Wall). IsBestOf mesh asked (Contains seen) best) (sym (take_more walls i d below)) is

    -- a nearer wall
    pub one_better : (best : Option Wall) → IsBestOf mesh asked (Contains (take i walls)) best → Within w → IsNearerThan w best → Reaches w
        → IsBestOf mesh asked (Contains (take (i + 1) walls)) (Some w)
    one_better best so_far within nearer reaches = seen_more (Some w) (record {
      reached = record { wall_within = within; around = reaches };
      nearest = λ other held reached. elim (Contains-push_cases (take i walls) w other held) [
        | inl earlier ↦ by best so_far nearer other earlier reached
        | inr same ↦ subst (λ (x : Wall). IsNoFarther w.far x.far) same (itself w.far)
      ];
    })
      where
        itself : (a : Deviation) → IsNoFarther a a
        itself a = omega arith

        by : (best : Option Wall) → IsBestOf mesh asked (Contains (take i walls)) best → IsNearerThan w best → (other : Wall) → Contains (take i walls) other
            → IsReached mesh asked other → IsNoFarther w.far other.far
        by None none _ other held reached = absurd (none other held reached)
        by (Some one) is less other held reached =
            no_farther_on w.far one.far other.far (wall_fraction mesh asked.areas asked.from.point _ one is.reached.wall_within)
            (no_farther w.far one.far (IsLess-asymmetric w.far one.far less)) (is.nearest other held reached)

    -- one that is not nearer, or not reached
    pub one_not : (best : Option Wall) → IsBestOf mesh asked (Contains (take i walls)) best → (IsNearerThan w best × Reaches w → ⊥)
        → IsBestOf mesh asked (Contains (take (i + 1) walls)) best
    one_not None none not = seen_more None (λ other held reached. elim (Contains-push_cases (take i walls) w other held) [
      | inl earlier ↦ none other earlier reached
      | inr same ↦ not (tt, subst Reaches (sym same) reached.around)
    ])
    one_not (Some best) is not = seen_more (Some best) (record {
      reached = is.reached;
      nearest = λ other held reached. elim (Contains-push_cases (take i walls) w other held) [
        | inl earlier ↦ is.nearest other earlier reached
        | inr same ↦
            subst (λ (x : Wall). IsNoFarther best.far x.far) same
            (no_farther best.far w.far (λ less. not (less, subst Reaches (sym same) reached.around)))
      ];
    })

  -- all walls that are reached and within a distance are among those within it of the polygons around
  pub of_within : (far : Deviation) (around : Around) (list : List PolyRef) (walls : List Wall) (best : Option Wall)
      → around ≡ record { from = asked.from; areas = asked.areas; far = far }
      → ((at : PolyRef) → Contains list at ↔ IsListed mesh around at) → HasWallsOf mesh around list walls → IsBestOf mesh asked (Contains walls) best
      → IsNearestWithin mesh asked far best
  of_within far around list walls best is listed has so_far = by best so_far
    where
      wide : (wall : Wall) → IsReached mesh asked wall → IsNoFarther wall.far far → IsListed mesh around wall.polygon
      wide wall reached near =
          subst (λ (a : Around). IsListed mesh a wall.polygon) (sym is)
          (around_wider mesh asked.areas asked.from wall.far far wall.polygon
          (wall_fraction mesh asked.areas asked.from.point _ wall reached.wall_within) near reached.around)

      held : (wall : Wall) → IsReached mesh asked wall → IsNoFarther wall.far far → Contains walls wall
      held wall reached near =
          (has wall).1 (
            subst (λ (a : Around). IsWallAround mesh a wall) (sym is)
                (record { part = reached.wall_within.part; distance = reached.wall_within.distance; within = near }),
            (listed wall.polygon).1 (wide wall reached near),
          )

      by : (best : Option Wall) → IsBestOf mesh asked (Contains walls) best → IsNearestWithin mesh asked far best
      by None none = λ wall reached near. none wall (held wall reached near) reached
      by (Some one) best = (best.reached, λ other reached near. best.nearest other (held other reached near) reached)

  -- the nearest within the reach is the nearest
  pub of_reach : (best : Option Wall) → IsNearestWithin mesh asked (whole (asked.reach * asked.reach)) best → IsNearestReached mesh asked best
  of_reach None none = λ wall reached. none wall reached reached.wall_within.within
  of_reach (Some one) best = (best.0, λ other reached. best.1 other reached reached.wall_within.within)

  -- so is the nearest within a distance, where it is itself within that
  pub of_near : (far : Deviation) (wall : Wall) → IsFraction far → IsNearestWithin mesh asked far (Some wall) → IsNoFarther wall.far far
      → IsNearestReached mesh asked (Some wall)
  of_near far wall is nearest near = (
    nearest.0,
    λ other reached. elim (cases_lt (far.num * other.far.den) (other.far.num * far.den)) [
      | inl beyond ↦ no_farther_on wall.far far other.far is near (omega (arith, beyond))
      | inr within ↦ nearest.1 other reached within
    ],
  )
