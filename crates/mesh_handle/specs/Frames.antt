-- How the question for a frame around a level ends.
use Rattle.std.specs.Prelude.{◌≡◌, ◌⊎◌, ℕ}
use Rattle.world_grid.specs.declared.frame.Frame.{Frame}
use Rattle.world_grid.specs.declared.frame.FramedField.{FramedField}
use Rattle.world_grid.specs.declared.frame.WorldPoint.{WorldPoint}
use Rattle.world_grid.specs.Frames.{IsFieldOf}
use Rattle.mesh_handle.specs.Statuses as status

-- a field of these sizes holds both points, and it is told
pub record IsFramed (sizes : Frame) (low high : WorldPoint) (new : FramedField) (end : ℕ) : Type 0 where
  pub ends : end ≡ status.ok
  pub told : IsFieldOf sizes.cell_size sizes.cell_height low high new

-- no field of these sizes does, and what stood in its place stays
pub record HasNoFrame (sizes : Frame) (low high : WorldPoint) (old new : FramedField) (end : ℕ) : Type 0 where
  pub ends : end ≡ status.out_of_range
  pub none : (field : FramedField) → ¬ IsFieldOf sizes.cell_size sizes.cell_height low high field
  pub kept : new ≡ old

abbrev pub IsFraming : Frame → WorldPoint → WorldPoint → FramedField → FramedField → ℕ → Type 0
IsFraming sizes low high old new end = IsFramed sizes low high new end ⊎ HasNoFrame sizes low high old new end
