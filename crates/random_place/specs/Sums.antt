-- Sums: how many spots the tiles of a mesh have up to each of them.
use Rattle.std.specs.Prelude.{◌≡◌, ℕ, zero, suc, ◌+◌, ◌<◌, ◌≤◌, ◌^◌, List, length, get_or, take, All}
use Rattle.mesh_types.specs.declared.mesh.Mesh.{Mesh}
use Rattle.random_place.specs.declared.sums.SpotSums.{SpotSums}
use Rattle.random_place.specs.Spots.{spot_count}

-- sums are those of a mesh: for each tile how many spots it and the tiles before it have, of the areas that they are of
pub record AreSpotSums (mesh : Mesh) (sums : SpotSums) : Type 0 where
  pub each : length sums.ends ≡ length mesh.tiles
  pub ends : (tile d : ℕ) → tile < length mesh.tiles → get_or sums.ends tile d ≡ spot_count sums.areas (take (tile + 1) mesh.tiles)
  pub few : All (λ end. end < 2 ^ 112) sums.ends

-- how many spots the first tiles have, so many of them
abbrev pub sum_of_first : List ℕ → ℕ → ℕ
sum_of_first ends zero = 0
sum_of_first ends (suc tile) = get_or ends tile 0

-- no sum is less than one before it
abbrev pub IsRising : List ℕ → Type 0
IsRising ends = (i j d : ℕ) → i ≤ j → j < length ends → get_or ends i d ≤ get_or ends j d
