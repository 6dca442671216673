-- The ground of kinds changed, in all of them or in none.
use Rattle.std.specs.Prelude.{◌≡◌, ℕ, ◌+◌, ◌<◌, ◌==◌, if◌then◌else◌, List, length, map, get_or, Option, Some, None, All}
use Rattle.std.specs.Arc.{arc_value}
use Rattle.nav_ground.specs.declared.cell.Window.{Window}
use Rattle.nav_ground.specs.declared.field.Field.{Field}
use Rattle.nav_ground.specs.declared.field.Span.{Span}
use Rattle.corridor_search.specs.Changes.{DifferIn}
use Rattle.build_queue.specs.BookState.{BookState, IsBook}
use Rattle.build_queue.specs.GroundSteps.{after_ground}
use Rattle.live_ground.specs.Changes.{AreSpansFor, IsChangedIn, IsRectangleIn, reached_tiles, spans_outside}
use Rattle.nav_book.specs.declared.next_ground.NextGround.{NextGround}
use Rattle.nav_book.specs.GroundChanges.{IsNextGround}
use Rattle.nav_book.specs.LevelResults.{published_mesh}
use Rattle.nav_book.specs.Openings.{ground_of}
use Rattle.agent_kinds.specs.Firsts.{first_awaited}

-- the kinds are over a field: each has its ground of it
abbrev pub AreOver : Field → List BookState → Type 0
AreOver field states = All (λ (state : BookState). state.ground.field ≡ field) states

-- spans that the columns of a rectangle of their field may get; and with them the field would have more than 2000000
pub record AreSpansOfKinds (window : Window) (spans : List Span) (state : BookState) : Type 0 where
  pub inside : IsRectangleIn state.ground.field window
  pub rules : AreSpansFor state.ground.field window spans

abbrev pub AreTooMany : Window → List Span → BookState → Type 0
AreTooMany window spans state = 2000000 < length (spans_outside window state.ground.field.spans) + length spans

-- a kind over another field: its ground is that of a level opened over the field, and its history, what is aimed at and published stay
abbrev pub over_field : Field → BookState → BookState
over_field field state = after_ground state (ground_of state.ground.setting field)

-- the ground changes in no kind while a tile is awaited in one, or not all that was aimed at is published
abbrev pub changed_unless : Option (ℕ × ℕ) → Field → List BookState → List BookState
changed_unless (Some awaited) field states = states
changed_unless None field states = map (λ (state : BookState). if state.target == state.published then over_field field state else state) states

abbrev pub after_change : Field → List BookState → List BookState
after_change field states = changed_unless (first_awaited states) field states

-- what two states show differs in the tiles in reach of a rectangle at most
abbrev pub AreSameBeyond : Window → BookState → BookState → Type 0
AreSameBeyond window before after = DifferIn (reached_tiles before.ground.setting window) (published_mesh before) (published_mesh after)

-- a kind after a change in the columns of a rectangle
pub record IsChangedTo (window : Window) (field : Field) (before after : BookState) : Type 0 where
  pub state : after ≡ over_field field before
  pub rules : IsBook after
  pub differ : AreSameBeyond window before after

-- what comes for a kind: the ground of the field with its mesh, which differs so
pub record IsNextOver (window : Window) (field : Field) (state : BookState) (next : NextGround) : Type 0 where
  pub own : arc_value next.ground ≡ ground_of state.ground.setting field
  pub is : IsNextGround state (ground_of state.ground.setting field) next
  pub differ : DifferIn (reached_tiles state.ground.setting window) (published_mesh state) next.mesh

-- what comes for the kinds, one for each
pub record AreNextGrounds (window : Window) (field : Field) (states : List BookState) (nexts : List NextGround) : Type 0 where
  pub each : length nexts ≡ length states
  pub next : (kind : ℕ) (d : BookState) (e : NextGround) → kind < length states → IsNextOver window field (get_or states kind d) (get_or nexts kind e)

-- the kinds of one field after a change to the field with these spans in the columns of a rectangle
pub record AreGroundsChanged (window : Window) (spans : List Span) (before after : List BookState) : Type 0 where
  pub old : Field
  pub new : Field
  pub over : AreOver old before
  pub changed : IsChangedIn window spans old new
  pub state : after ≡ after_change new before
