-- What a handle holds once kinds were opened in it.
use Rattle.std.specs.Prelude.{◌≡◌, ◌⊎◌, ℕ, ◌<◌, ◌≤◌, List, length, Option, Some}
use Rattle.build_queue.specs.BookState.{BookState}
use Rattle.agent_kinds.specs.KindOpenings.{first_kinds}
use Rattle.nav_handle.specs.Answers.{EndsSo}
use Rattle.nav_handle.specs.Statuses as status
use Rattle.kinds_handle.specs.declared.wire.NavdGround.{NavdGround}
use Rattle.kinds_handle.specs.declared.wire.NavdKind.{NavdKind}
use Rattle.kinds_handle.specs.declared.wire.NavdSpan.{NavdSpan}
use Rattle.kinds_handle.specs.KindSettings.{CanOpenKinds, kind_settings}
use Rattle.kinds_handle.specs.KindSpans.{field_of}

-- the states of the levels of kinds that are opened over spans, without entries
abbrev pub opened_states : NavdGround → List NavdKind → List ℕ → List NavdSpan → List BookState
opened_states ground kinds costs spans = first_kinds (kind_settings ground costs kinds) (field_of ground spans)

-- kinds that can be opened are held then, unless there are more spans than a field can have, or memory is refused; then the handle holds what it held
pub record AreHeldUnless (states : List BookState) (many : ℕ) (before after : Option (List BookState)) (ended : ℕ) : Type 0 where
  pub few : many ≤ 2000000 → ((ended ≡ status.ok) × (after ≡ Some states)) ⊎ EndsSo status.no_memory before after ended
  pub too_many : 2000000 < many → EndsSo status.too_many_spans before after ended

-- kinds were asked for: where they can be opened they are; else nothing was done
pub record IsKindsOpening (ground : NavdGround) (kinds : List NavdKind) (costs : List ℕ) (spans : List NavdSpan) (before after : Option (List BookState)) (ended : ℕ) : Type 0 where
  pub asked : CanOpenKinds ground kinds costs spans → AreHeldUnless (opened_states ground kinds costs spans) (length spans) before after ended
  pub refused : (CanOpenKinds ground kinds costs spans → ⊥) → EndsSo status.out_of_range before after ended
