-- What acts on a book under the lock are allowed, what they answer, and what they do to the history.
use Rattle.std.specs.Prelude.{◌≡◌, ℕ, ◌<◌, ◌≤◌, ⊤, List, [], ◌∷◌, ◌++◌, length, Option, Some, None, All}
use mathlib.Core.List.{IsPrefix}
use Rattle.nav_ground.specs.declared.history.Entry.{Entry}
use Rattle.nav_ground.specs.declared.history.Ground.{Ground}
use Rattle.nav_ground.specs.declared.history.Request.{Request}
use Rattle.nav_ground.specs.declared.shape.Shape.{Shape}
use Rattle.nav_ground.specs.History.{IsHistory, IsRequest, history_limit, shapes_alive}
use Rattle.nav_ground.specs.Limits.{IsShape}
use Rattle.nav_ground.specs.Touching.{touching_shapes}
use Rattle.nav_version.specs.Lists.{ToldView}
use Rattle.build_queue.specs.declared.live.Job.{Job}
use Rattle.build_queue.specs.declared.live.Published.{Published}
use Rattle.build_queue.specs.declared.live.Published.TheVariants.{New, Same, NotYet}
use Rattle.build_queue.specs.Steps.{IsJob}
use Rattle.nav_book.specs.declared.book.TileResult.{TileResult}
use Rattle.nav_book.specs.Results.{IsBuild}
use Rattle.nav_live.specs.Roots.{RootView}
use Rattle.nav_live.specs.declared.book.LiveAct.{LiveAct}
use Rattle.nav_live.specs.declared.book.LiveAct.TheVariants as acts
use Rattle.nav_live.specs.declared.book.LiveDone.{LiveDone}
use Rattle.nav_live.specs.declared.book.LiveDone.TheVariants as dones

-- an act that asks names its lane, and no other act names one
abbrev pub lane_of : LiveAct → Option ℕ
lane_of (acts.Ask lane request) = Some lane
lane_of _ = None

-- every book's history is well replied under the limit of its ground, and no longer than it may be
abbrev pub IsLegal : RootView → List Entry → Type 0
IsLegal root history = IsHistory root.ground.setting.limit history

-- a tile that was built for a ground: the build of its tile under its shapes, which are within their limits
pub record IsMade (root : RootView) (made : TileResult) : Type 0 where
  pub build : IsBuild root.ground made
  pub limits : All IsShape made.shapes

-- which acts are allowed: the shapes in an act are within their limits, its tile is one of the ground, and a mesh is the build of its tile
abbrev pub IsAllowed : RootView → LiveAct → Type 0
IsAllowed root (acts.Ask lane request) = IsRequest request
IsAllowed root (acts.PutBack job) = IsJob root.ground.setting job
IsAllowed root (acts.Submit made) = IsMade root made
IsAllowed root _ = ⊤

-- a request was answered: its entry is the last of the history, and was told its number; or the history is full
abbrev pub DoesAsk : ℕ → Request → List Entry → LiveDone → List Entry → Type 0
DoesAsk lane request before (dones.Asked number reply) after =
    (after ≡ before ++ record { lane = lane; request = request; reply = reply } ∷ []) × (number ≡ length after)
DoesAsk lane request before (dones.HistoryFull len) after = (after ≡ before) × (len ≡ length after) × (len ≡ history_limit)
DoesAsk lane request before _ after = ⊥

-- an aim is answered the length of the history
abbrev pub DoesAim : List Entry → LiveDone → Type 0
DoesAim history (dones.Aim k) = k ≡ length history
DoesAim history _ = ⊥

-- the shapes that touch a tile of a ground after so many entries of a history
abbrev pub touching_after : Ground → List Entry → ℕ → ℕ → List Shape
touching_after ground history k tile = touching_shapes ground.setting tile (shapes_alive history k)

-- an obstacle touched a tile after some number of a history's entries
pub record IsTouched (ground : Ground) (history : List Entry) (tile : ℕ) : Type 0 where
  pub entries : ℕ
  pub most : entries ≤ length history
  pub some : 0 < length (touching_after ground history entries tile)

-- a job is one that a history asks for: its tile is one of the ground, which some obstacle of the history touched, and its shapes are those that
-- touch the tile after so many entries of the history
pub record IsJobOf (root : RootView) (history : List Entry) (job : Job) : Type 0 where
  pub fit : IsJob root.ground.setting job
  pub touched : IsTouched root.ground history job.tile
  pub target : ℕ
  pub aimed : target ≤ length history
  pub shapes : job.shapes ≡ touching_after root.ground history target job.tile

-- a job that was claimed is one that the history asks for
abbrev pub DoesClaim : RootView → List Entry → LiveDone → Type 0
DoesClaim root history (dones.Claimed job) = IsJobOf root history job
DoesClaim root history dones.NoTile = ⊤
DoesClaim root history dones.NoMemory = ⊤
DoesClaim root history _ = ⊥

abbrev pub DoesPutBack : LiveDone → Type 0
DoesPutBack dones.Back = ⊤
DoesPutBack _ = ⊥

abbrev pub DoesSubmit : LiveDone → Type 0
DoesSubmit (dones.Submitted answer) = ⊤
DoesSubmit _ = ⊥

-- where a length is published, it is the one that is told
abbrev pub IsTold : Published → ℕ → Type 0
IsTold (New k) length = length ≡ k
IsTold (Same k) length = length ≡ k
IsTold (NotYet tile) length = ⊤

-- a list that is told after a publish is one of the pair, and the history begins with it
pub record Tells (root : RootView) (history : List Entry) (told : ToldView) : Type 0 where
  pub pair : told.pair ≡ root.pair
  pub front : IsPrefix told.entries history

-- a publish is answered what it came to, and told the list that is published then
abbrev pub DoesPublish : RootView → List Entry → LiveDone → Type 0
DoesPublish root history (dones.Published answer told) = Tells root history told × IsTold answer (length told.entries)
DoesPublish root history dones.NoMemory = ⊤
DoesPublish root history _ = ⊥

-- what an act, its answer and the histories before and after it have to do with each other; only a request that was answered adds to the
-- history
abbrev pub Does : RootView → List Entry → LiveAct → LiveDone → List Entry → Type 0
Does root before (acts.Ask lane request) done after = DoesAsk lane request before done after
Does root before acts.Aim done after = (after ≡ before) × DoesAim after done
Does root before acts.Claim done after = (after ≡ before) × DoesClaim root after done
Does root before (acts.PutBack job) done after = (after ≡ before) × DoesPutBack done
Does root before (acts.Submit made) done after = (after ≡ before) × DoesSubmit done
Does root before acts.Publish done after = (after ≡ before) × DoesPublish root after done
