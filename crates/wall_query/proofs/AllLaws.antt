-- All walls around a place, and the answers to both questions.
use Rattle.std.proofs.Common.{◌≡◌, ◌*◌, ◌↔◌, List, subst}
use Rattle.std.specs.Prelude.{All, Contains, get_or}
use Rattle.std.specs.List.Sorted.{IsPermutation}
use Rattle.std.proofs.lemmas.List.Elements.{Contains-get_or}
use Rattle.std.proofs.lemmas.List.Sorted.{Contains-permutation, IsPermutation-sym}
use Rattle.mesh_types.specs.declared.links.PolyRef.{PolyRef}
use Rattle.mesh_types.specs.declared.mesh.Mesh.{Mesh}
use Rattle.wall_slide.specs.Slides.{IsNoFarther, whole}
use Rattle.wall_query.specs.declared.around.Around.{Around}
use Rattle.wall_query.specs.declared.questions.Wall.{Wall}
use Rattle.wall_query.specs.declared.questions.WallQuery.{WallQuery}
use Rattle.wall_query.specs.declared.questions.WallsQuery.{WallsQuery}
use Rattle.wall_query.specs.AllWalls.{AreWallsAround}
use Rattle.wall_query.specs.Around.{IsAround, IsListed}
use Rattle.wall_query.specs.Walls.{ArePolygonsInOrder, AreWallsOf, IsInReach, IsWallWithin}
use Rattle.nav_base.specs.declared.deviation.Deviation.{Deviation}
use Rattle.nav_base.specs.Deviation.{IsFraction}
use Rattle.wall_query.proofs.BestLaws.{no_farther_on}

-- what is looked at for all walls
abbrev pub all_around : WallsQuery → Around
all_around asked = record { from = asked.from; areas = asked.areas; far = whole (asked.reach * asked.reach) }

pub all_of : (mesh : Mesh) (asked : WallsQuery) (around : Around) (list sorted : List PolyRef) (walls : List Wall) → around ≡ all_around asked
    → ((at : PolyRef) → Contains list at ↔ IsListed mesh around at) → IsPermutation list sorted → ArePolygonsInOrder sorted → AreWallsOf mesh around sorted walls
    → AreWallsAround mesh asked walls
all_of mesh asked around list sorted walls is listed permuted order are = record {
  each = λ wall. subst (λ (a : Around). Contains walls wall ↔ (IsWallWithin mesh a.areas a.from.point a.far wall × IsAround mesh a.areas a.from a.far wall.polygon)) is (
    (λ held.
        let one = (are.has wall).0 held in
        (one.0, (listed wall.polygon).0 (Contains-permutation sorted list wall.polygon (IsPermutation-sym list sorted permuted) one.1))),
    (λ one. (are.has wall).1 (one.0, Contains-permutation list sorted wall.polygon permuted ((listed wall.polygon).1 one.1))),
  );
  order = are.order order;
}

-- the walls of the polygons that are listed are within the reach, where they are within a distance that is
pub in_reach : (mesh : Mesh) (asked : WallQuery) (far : Deviation) (list : List PolyRef) (walls : List Wall) → IsFraction far
    → IsNoFarther far (whole (asked.reach * asked.reach)) → AreWallsOf mesh (record { from = asked.from; areas = asked.areas; far = far }) list walls
    → All (IsInReach mesh asked) walls
in_reach mesh asked far list walls is most are k d below =
    let near = ((are.has (get_or walls k d)).0 (Contains-get_or walls k d below)).0 in
    record {
      part = near.part;
      distance = near.distance;
      within = no_farther_on (get_or walls k d).far far (whole (asked.reach * asked.reach)) is near.within most;
    }
