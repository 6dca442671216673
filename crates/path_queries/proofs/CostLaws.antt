-- What costs change nothing of: soundness reads of a setting only its columns and tiles. The costs of a filter are costs.
use Rattle.std.proofs.Common.{ℕ, List, get_or}
use Rattle.std.specs.Prelude.{IfSome, Option, Some, None}
use Rattle.std.specs.Option.{unwrap_or}
use Rattle.nav_ground.specs.declared.setting.Setting.{Setting}
use Rattle.nav_ground.specs.Limits.{IsSetting}
use Rattle.mesh_types.specs.declared.links.Link.{Link}
use Rattle.mesh_types.specs.declared.mesh.Mesh.{Mesh}
use Rattle.mesh_types.specs.declared.mesh.RimEdge.{RimEdge}
use Rattle.mesh_types.specs.declared.mesh.TileMesh.{TileMesh}
use Rattle.mesh_types.specs.Soundness.{IsSound, IsCrossLink}
use Rattle.mesh_types.specs.FitTiles.{IsFit, IsRimOf}
use Rattle.path_queries.specs.declared.filters.Filter.{Filter}
use Rattle.path_queries.specs.Filters.{AreCosts, IsFilter, costs_in, with_costs}

module _ (setting : Setting) (costs : List ℕ) where
  rim-with : (tile : TileMesh) (entry : RimEdge) → IsRimOf setting tile entry → IsRimOf (record setting { costs = costs }) tile entry
  rim-with tile entry is = record {
    side = is.side;
    polygon = is.polygon;
    is_there = is.is_there;
    edge = is.edge;
    lies = is.lies;
    runs = is.runs;
  }

  fit-with : (tile : TileMesh) → IsFit setting tile → IsFit (record setting { costs = costs }) tile
  fit-with tile is = record {
    of_tile = is.of_tile;
    free = is.free;
    in_tile = record { there = is.in_tile.there; inside = is.in_tile.inside };
    polys = is.polys;
    square = is.square;
    links = is.links;
    rim = λ k d there. rim-with tile (get_or tile.rim k d) (is.rim k d there);
  }

  -- a setting with other costs keeps the rules
  pub setting-with : IsSetting setting → AreCosts costs → IsSetting (record setting { costs = costs })
  setting-with rules are = record {
    wide = rules.wide;
    width = rules.width;
    deep = rules.deep;
    depth = rules.depth;
    tile_least = rules.tile_least;
    tile_most = rules.tile_most;
    agent = rules.agent;
    error = rules.error;
    limit_least = rules.limit_least;
    limit_most = rules.limit_most;
    areas = are.areas;
    costs = are.each;
    clear = rules.clear;
  }

cross-with : (mesh : Mesh) (costs : List ℕ) (tile : ℕ) (link : Link) → IsCrossLink mesh tile link
    → IsCrossLink (with_costs costs mesh) tile link
cross-with mesh costs tile link is = record { from_here = is.from_here; to_another = is.to_another; through = is.through }

pub sound-with : (mesh : Mesh) (costs : List ℕ) → IsSound mesh → IsSound (with_costs costs mesh)
sound-with mesh costs sound = record {
  tiles = record {
    each = sound.tiles.each;
    in_order = sound.tiles.in_order;
    fit = λ k d there. fit-with mesh.setting costs (get_or mesh.tiles k d) (sound.tiles.fit k d there);
    few = sound.tiles.few;
  };
  one_each = sound.one_each;
  cross = λ t d there k e within. cross-with mesh costs t (get_or (get_or mesh.cross t d) k e) (sound.cross t d there k e within);
}

-- what areas cost through a filter are costs
pub priced-costs : (mesh : Mesh) (filter : Filter) → IsSetting mesh.setting → IsFilter filter → AreCosts (costs_in mesh filter)
priced-costs mesh filter setting rules = by_own filter.costs rules
  where
    by_own : (own : Option (List ℕ)) → IfSome own AreCosts → AreCosts (unwrap_or own mesh.setting.costs)
    by_own None none = record { areas = setting.areas; each = setting.costs }
    by_own (Some costs) are = are
