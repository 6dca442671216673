-- Where the cells of each cost stand in the order in which they were reached, while clearances spread.
use Rattle.std.proofs.Common.{◌≡◌, ℕ, ◌+◌, ◌<◌, ◌≤◌, Bool, true, false, List, length}
use Rattle.std.specs.Prelude.{◌==◌, map, slice_index_or}
use Rattle.std.specs.List.{list_any}
use Rattle.nav_ground.specs.declared.cell.Cell.{Cell}
use Rattle.nav_ground.specs.Clearance.{is_walk_end}
use Rattle.agent_erode.specs.Clearances.{is_ended_below, is_beyond}
use Rattle.agent_erode.specs.Reaching.{Progress}

-- an index is among others
abbrev pub is_among : ℕ → List ℕ → Bool
is_among i indices = list_any (λ index. index == i) indices

-- the least cost of a walk to a cell
pub record IsLeast (cells : List Cell) (cost : ℕ) (cell : Cell) : Type 0 where
  pub ends : is_walk_end cells cost cell ≡ true
  pub least : is_ended_below cells cost cell ≡ false

-- the least cost of a walk to a cell is so much below a cost
pub record IsLeastBelow (cells : List Cell) (less cost : ℕ) (cell : Cell) : Type 0 where
  pub own : ℕ
  pub is : own + less ≡ cost
  pub least : IsLeast cells own cell

-- from one place in the order to before another stand the indices of the cells whose least cost is so many below a cost
pub record IsStage (cells : List Cell) (order : List ℕ) (first end less cost : ℕ) : Type 0 where
  pub rises : first ≤ end
  pub each : (q : ℕ) → first ≤ q → q < end → (slice_index_or order q 0 < length cells)
      × ((d : Cell) → IsLeastBelow cells less cost (slice_index_or cells (slice_index_or order q 0) d))
  pub all : (i : ℕ) (d : Cell) → i < length cells → IsLeastBelow cells less cost (slice_index_or cells i d)
      → (q : ℕ) × (first ≤ q) × (q < end) × (slice_index_or order q 0 ≡ i)

-- the cells where walks cheaper than a cost end are kept no more, and it is known where those of the last three costs stand in the order
pub record IsSpread (cells : List Cell) (now : Progress) (first second third cost : ℕ) : Type 0 where
  pub kept : now.kept ≡ map (is_beyond cells cost) cells
  pub last : IsStage cells now.order first (length now.order) 1 cost
  pub before_last : IsStage cells now.order second first 2 cost
  pub before_both : IsStage cells now.order third second 3 cost
