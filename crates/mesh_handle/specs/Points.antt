-- Points of the game as places of a frame, one after the other, and places as points.
use Rattle.std.specs.Prelude.{◌≡◌, ◌⊎◌, ℕ, ◌≤◌, ◌<◌, List, length, slice_index_or, pos}
use Rattle.std.specs.Float.{nan}
use Rattle.world_grid.specs.declared.frame.Frame.{Frame}
use Rattle.world_grid.specs.declared.frame.WorldPoint.{WorldPoint}
use Rattle.world_grid.specs.declared.place.FramePlace.{FramePlace}
use Rattle.world_grid.specs.Places.{IsPlaceOf, IsToldAt}
use Rattle.mesh_handle.specs.Statuses as status

-- what stands where no point and no place does
abbrev pub no_point : WorldPoint
no_point = record { x = nan; y = nan; z = nan }

abbrev pub no_place : FramePlace
no_place = record { x = pos 0; y = pos 0; z = pos 0 }

abbrev pub point_at : List WorldPoint → ℕ → WorldPoint
point_at points i = slice_index_or points i no_point

abbrev pub place_at : List FramePlace → ℕ → FramePlace
place_at places i = slice_index_or places i no_place

-- the first so many points were turned into places, and the other places stay
pub record ArePlaced (frame : Frame) (points : List WorldPoint) (old new : List FramePlace) (count : ℕ) : Type 0 where
  pub same : length new ≡ length old
  pub each : (i : ℕ) → i < count → IsPlaceOf frame (point_at points i) (place_at new i)
  pub rest : (i : ℕ) → count ≤ i → place_at new i ≡ place_at old i

-- Why it ended: all were turned; or there is no room for the next one; or that has no place.
pub record IsPlacing (frame : Frame) (points : List WorldPoint) (old new : List FramePlace) (count end : ℕ) : Type 0 where
  pub placed : ArePlaced frame points old new count
  pub points_there : count ≤ length points
  pub places_there : count ≤ length old
  pub all : end ≡ status.ok → count ≡ length points
  pub full : end ≡ status.no_room → (count ≡ length old) × (count < length points)
  pub none : end ≡ status.out_of_range → (count < length points) × ((place : FramePlace) → ¬ IsPlaceOf frame (point_at points count) place)
  pub ends : (end ≡ status.ok) ⊎ ((end ≡ status.no_room) ⊎ (end ≡ status.out_of_range))

-- the first so many places were turned into points, whose numbers are the nearest floats, and the other points stay
pub record ArePointed (frame : Frame) (places : List FramePlace) (old new : List WorldPoint) (count : ℕ) : Type 0 where
  pub same : length new ≡ length old
  pub each : (i : ℕ) → i < count → IsPlaceOf frame (point_at new i) (place_at places i)
  pub told : (i : ℕ) → i < count → IsToldAt frame (place_at places i) (point_at new i)
  pub rest : (i : ℕ) → count ≤ i → point_at new i ≡ point_at old i

-- Why it ended: all were turned; or there is no room for the next one; or no point lies there.
pub record IsPointing (frame : Frame) (places : List FramePlace) (old new : List WorldPoint) (count end : ℕ) : Type 0 where
  pub pointed : ArePointed frame places old new count
  pub places_there : count ≤ length places
  pub points_there : count ≤ length old
  pub all : end ≡ status.ok → count ≡ length places
  pub full : end ≡ status.no_room → (count ≡ length old) × (count < length places)
  pub none : end ≡ status.out_of_range → (count < length places) × ((at : WorldPoint) → ¬ IsPlaceOf frame at (place_at places count))
  pub ends : (end ≡ status.ok) ⊎ ((end ≡ status.no_room) ⊎ (end ≡ status.out_of_range))
