-- A wall so far.
use Rattle.std.proofs.Common.{◌≡◌, ℕ, ◌≤◌, pos, negsuc, ◌-ℤ◌, List, length}
use Rattle.mesh_types.specs.declared.links.Portal.{Portal}
use Rattle.bench_calls.specs.declared.shapes.Slope.{Slope}
use Rattle.bench_calls.specs.Rows.{IsRow, IsSlope}

-- so many portals stand in a row up to a corner within the borders, and the next edge has a slope of a wall
pub record IsWall (portals : List Portal) (count before : ℕ) (slope : Slope) (across high : ℕ) : Type 0 where
  pub counted : length portals ≡ count
  pub row : IsRow (negsuc 65535) (pos across -ℤ pos 65536) portals
  pub across_within : across ≤ 131072
  pub high_within : high ≤ 65536
  pub run_before : before ≤ 82
  pub sloped : IsSlope slope
