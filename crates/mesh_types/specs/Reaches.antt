-- Reaches: how many cells storeys have, and between which floors they lie.
use Rattle.std.specs.Prelude.{◌≡◌, ℕ, ◌≤◌, ◌<◌, List, length, All, sum_by}
use Rattle.std.specs.List.{AllZip}
use Rattle.mesh_types.specs.declared.storeys.FloorRow.{FloorRow}
use Rattle.mesh_types.specs.declared.storeys.Storey.{Storey}
use Rattle.mesh_types.specs.declared.reaches.FloorReach.{FloorReach}
use Rattle.mesh_types.specs.declared.reaches.StoreyReach.{StoreyReach}
use Rattle.mesh_types.specs.declared.reaches.TileReach.{TileReach}

-- how many cells a storey has
abbrev pub cell_count : Storey → ℕ
cell_count storey = sum_by (λ (row : FloorRow). length row.floors) storey.rows

-- a floor lies between the least and the greatest of a reach
pub record IsBetween (reach : FloorReach) (floor : ℕ) : Type 0 where
  pub least : reach.least ≤ floor
  pub greatest : floor ≤ reach.greatest

-- a reach lies within another
pub record IsWithin (inner outer : FloorReach) : Type 0 where
  pub least : outer.least ≤ inner.least
  pub greatest : inner.greatest ≤ outer.greatest

-- all floors of a row do, all of a storey, all of some storeys
abbrev pub IsRowBetween : FloorReach → FloorRow → Type 0
IsRowBetween reach row = All (IsBetween reach) row.floors

abbrev pub IsStoreyBetween : FloorReach → Storey → Type 0
IsStoreyBetween reach storey = All (IsRowBetween reach) storey.rows

-- a reach is a storey's: its cells are counted, and its floors lie between the two
pub record IsReach (storey : Storey) (reach : StoreyReach) : Type 0 where
  pub cells : reach.cells ≡ cell_count storey
  pub floors : IsStoreyBetween reach.floors storey

-- reaches are those of storeys, place by place
abbrev pub AreReaches : List Storey → List StoreyReach → Type 0
AreReaches = AllZip IsReach

-- all storeys are of one area; 0 says that they may be of several
abbrev pub HaveArea : ℕ → List Storey → Type 0
HaveArea area list = 0 < area → All (λ (storey : Storey). storey.area ≡ area) list

-- a reach is that of all storeys of a tile
pub record IsTileReach (list : List Storey) (reach : TileReach) : Type 0 where
  pub cells : reach.cells ≡ sum_by cell_count list
  pub floors : All (IsStoreyBetween reach.floors) list
  pub area : HaveArea reach.area list
