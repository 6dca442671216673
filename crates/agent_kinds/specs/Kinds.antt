-- Kinds of agents over one ground: a level for each of them, all of one field and with one history.
use Rattle.std.specs.Prelude.{◌≡◌, ◌≤◌, List, length, All}
use Rattle.std.specs.List.{Contains}
use Rattle.build_queue.specs.BookState.{BookState, IsBook}

-- two states are of one field and one history: they aim at and show the same entries
pub record AreAtOne (a b : BookState) : Type 0 where
  pub field : a.ground.field ≡ b.ground.field
  pub limit : a.ground.setting.limit ≡ b.ground.setting.limit
  pub history : a.history ≡ b.history
  pub target : a.target ≡ b.target
  pub published : a.published ≡ b.published

-- kinds: one to sixteen levels, each with the rules of a level, of one field and one history
pub record AreKinds (states : List BookState) : Type 0 where
  pub some : 1 ≤ length states
  pub few : length states ≤ 16
  pub each : All IsBook states
  pub at_one : (a b : BookState) → Contains states a → Contains states b → AreAtOne a b

-- what was shown is still shown, over the same ground and history, and the same is aimed at
pub record IsShownAsBefore (before after : BookState) : Type 0 where
  pub ground : after.ground ≡ before.ground
  pub history : after.history ≡ before.history
  pub target : after.target ≡ before.target
  pub published : after.published ≡ before.published
