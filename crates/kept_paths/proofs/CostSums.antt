-- What links cost through a filter fits into 64 bits.
use Rattle.std.proofs.Common.{ℕ, ◌≤◌, ◌<◌, ◌+◌, ◌^◌, List, length, take, get_or, arith}
use Rattle.std.specs.Prelude.{All}
use Rattle.std.proofs.lemmas.List.Sums.{sum_by-le, sum_by_more_le}
use Rattle.nav_ground.specs.Limits.{IsSetting}
use Rattle.mesh_types.specs.declared.links.Link.{Link}
use Rattle.mesh_types.specs.declared.mesh.Mesh.{Mesh}
use Rattle.mesh_types.specs.Corridors.{IsLinkOf, cost_of, weight_of}
use Rattle.mesh_types.specs.Soundness.{IsSound}
use Rattle.mesh_types.proofs.MeshLinks.{leads}
use Rattle.corridor_search.proofs.LinkWeights.{weight-most}
use Rattle.path_queries.specs.Filters.{AreCosts, with_costs}
use Rattle.path_queries.proofs.CostLaws.{setting-with, sound-with}

module _ (mesh : Mesh) (costs : List ℕ) (links : List Link) (sound : IsSound mesh) (setting : IsSetting mesh.setting) (are : AreCosts costs)
    (listed : All (IsLinkOf mesh) links) where
  each : All (λ (link : Link). weight_of (with_costs costs mesh) link ≤ 2897000) links
  each k d there =
      weight-most (with_costs costs mesh) (get_or links k d) (sound-with mesh costs sound) (setting-with mesh.setting costs setting are)
      (leads mesh (get_or links k d) sound (listed k d there))

  pub fits-more : (i : ℕ) (d : Link) → i < length links → length links < 4294967295
      → cost_of (with_costs costs mesh) (take i links) + weight_of (with_costs costs mesh) (get_or links i d) < 2 ^ 64
  fits-more i d there few =
      omega (arith, sum_by_more_le (weight_of (with_costs costs mesh)) links i d there, sum_by-le (weight_of (with_costs costs mesh)) 2897000 links each, few)

  -- and one more
  pub fits-next : (next : Link) → IsLinkOf mesh next → length links < 4294967295
      → cost_of (with_costs costs mesh) links + weight_of (with_costs costs mesh) next < 2 ^ 64
  fits-next next is few =
      omega (
        arith,
        sum_by-le (weight_of (with_costs costs mesh)) 2897000 links each,
        weight-most (with_costs costs mesh) next (sound-with mesh costs sound) (setting-with mesh.setting costs setting are) (leads mesh next sound is),
        few,
      )
