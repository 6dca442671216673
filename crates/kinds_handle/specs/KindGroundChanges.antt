-- The ground of kinds changed over the border: other spans in the columns of a rectangle.
use Rattle.std.specs.Prelude.{◌≡◌, ◌⊎◌, ℕ, pos, List, map, Option, Some, None, All, AllPairs}
use Rattle.std.specs.List.{AllZip}
use Rattle.nav_ground.specs.declared.cell.Window.{Window}
use Rattle.nav_ground.specs.declared.field.Field.{Field}
use Rattle.nav_ground.specs.Fields.{IsSpan}
use Rattle.nav_ground.specs.Tiling.{IsInWindow}
use Rattle.live_ground.specs.Changes.{IsRectangleIn}
use Rattle.build_queue.specs.BookState.{BookState}
use Rattle.agent_kinds.specs.declared.publish.KindsPublished.{KindsPublished}
use Rattle.agent_kinds.specs.declared.publish.KindsPublished.TheVariants.{New, Same, NotYet}
use Rattle.agent_kinds.specs.Firsts.{first_awaited}
use Rattle.agent_kinds.specs.KindGrounds.{AreGroundsChanged, AreSameBeyond, AreTooMany}
use Rattle.agent_kinds.specs.KindSteps.{publication_by}
use Rattle.nav_handle.specs.Statuses as status
use Rattle.kinds_handle.specs.declared.wire.NavdColumns.{NavdColumns}
use Rattle.kinds_handle.specs.declared.wire.NavdSpan.{NavdSpan}
use Rattle.kinds_handle.specs.KindSpans.{ComesBefore, span_of}

-- the rectangle of columns that a host names
abbrev pub window_of : NavdColumns → Window
window_of columns = record { x0 = pos columns.x0; x1 = pos columns.x1; z0 = pos columns.z0; z1 = pos columns.z1 }

-- a span stands in one of its columns
abbrev pub IsInside : NavdColumns → NavdSpan → Type 0
IsInside columns span = IsInWindow (window_of columns) span.x span.z

-- the rectangle lies in the field; the spans are ones of its columns, by z, then x, then from the bottom up, and do not overlap
pub record AreNewSpans (field : Field) (columns : NavdColumns) (spans : List NavdSpan) : Type 0 where
  pub window : IsRectangleIn field (window_of columns)
  pub each : All (λ (span : NavdSpan). IsSpan field.width field.depth (span_of span)) spans
  pub inside : All (IsInside columns) spans
  pub order : AllPairs ComesBefore spans

-- the same for the field of a kind; and with them it would have more spans than a field can have
abbrev pub CanChange : NavdColumns → List NavdSpan → BookState → Type 0
CanChange columns spans state = AreNewSpans state.ground.field columns spans

abbrev pub AreOverMany : NavdColumns → List NavdSpan → BookState → Type 0
AreOverMany columns spans state = AreTooMany (window_of columns) (map span_of spans) state

-- a change ends by what a publish would be answered: it comes where all that was aimed at is published, and there alone
abbrev pub change_status : KindsPublished → ℕ
change_status (New k) = status.not_yet
change_status (Same k) = status.ok
change_status (NotYet kind tile) = status.not_yet

-- how a change ended, and what the handle holds then
pub record GroundEnded : Type 0 where
  pub status : ℕ
  pub held : Option (List BookState)

-- it ended by the answer of each kind, and the kinds are over the changed field, or as they were; tiles out of the rectangle's reach stay
pub record IsChangeAnswered (columns : NavdColumns) (spans : List NavdSpan) (states : List BookState) (ended : GroundEnded) : Type 0 where
  pub status : All (λ (state : BookState). ended.status ≡ change_status (publication_by (first_awaited states) state)) states
  pub after : List BookState
  pub held : ended.held ≡ Some after
  pub changed : AreGroundsChanged (window_of columns) (map span_of spans) states after
  pub differ : AllZip (AreSameBeyond (window_of columns)) states after

-- it is answered where the field would not have too many spans; unless memory is refused, and then nothing was done
pub record IsChangeAsked (columns : NavdColumns) (spans : List NavdSpan) (states : List BookState) (ended : GroundEnded) : Type 0 where
  pub few : (All (AreOverMany columns spans) states → ⊥)
      → IsChangeAnswered columns spans states ended ⊎ (ended ≡ record { status = status.no_memory; held = Some states })
  pub many : All (AreOverMany columns spans) states
      → (ended ≡ record { status = status.too_many_spans; held = Some states }) ⊎ (ended ≡ record { status = status.no_memory; held = Some states })

-- a change was wanted: where the spans are ones of the columns it was asked for; else nothing was done
pub record IsChangeWanted (columns : NavdColumns) (spans : List NavdSpan) (states : List BookState) (ended : GroundEnded) : Type 0 where
  pub asked : All (CanChange columns spans) states → IsChangeAsked columns spans states ended
  pub refused : (All (CanChange columns spans) states → ⊥) → ended ≡ record { status = status.out_of_range; held = Some states }

-- a change of what a handle holds
abbrev pub IsGroundChange : NavdColumns → List NavdSpan → Option (List BookState) → GroundEnded → Type 0
IsGroundChange columns spans None ended = ended ≡ record { status = status.empty; held = None }
IsGroundChange columns spans (Some states) ended = IsChangeWanted columns spans states ended
