-- The links of what a level shows lead there and back, whatever areas cost.
use Rattle.std.proofs.Common.{◌≡◌, ℕ, List, sym, subst}
use Rattle.mesh_types.specs.declared.mesh.Mesh.{Mesh}
use Rattle.mesh_types.specs.Passages.{IsTwoWay}
use Rattle.build_queue.specs.BookState.{BookState, IsBook}
use Rattle.nav_book.specs.LevelResults.{published_mesh}
use Rattle.nav_query.proofs.UnfoldedBuilds.{two_way_of_build}
use Rattle.path_queries.specs.Filters.{with_costs}

pub two_way_shown : (state : BookState) (mesh : Mesh) → IsBook state → mesh ≡ published_mesh state → IsTwoWay mesh
two_way_shown state mesh rules' same =
    subst IsTwoWay (sym same) (two_way_of_build state.ground state.history state.published rules'.level rules'.replied.requests)

pub two_way_with : (mesh : Mesh) (costs : List ℕ) → IsTwoWay mesh → IsTwoWay (with_costs costs mesh)
two_way_with mesh costs two_way link is =
    let reverse = two_way link (record { listed = is.listed }) in
    record { edge = reverse.edge; back = record { listed = reverse.back.listed } }
