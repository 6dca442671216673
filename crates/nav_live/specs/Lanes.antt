-- What lanes and workers keep between two of their steps.
use Rattle.std.specs.Prelude.{◌≡◌, ℕ, ◌≤◌, ⊤, List, [], length, slice_get, take, All, AllPairs, Option, Some, None, IfSome}
use mathlib.Core.List.{IsPrefix}
use Rattle.turn_lock.specs.Locks.{LockId, PassView, IsOf}
use Rattle.nav_ground.specs.declared.history.Entry.{Entry}
use Rattle.nav_ground.specs.declared.history.Ground.{Ground}
use Rattle.mesh_types.specs.declared.polygon.Polygon.{Polygon}
use Rattle.mesh_types.specs.Builds.{build_of}
use Rattle.mesh_types.specs.WholeMesh.{poly_at}
use Rattle.agent_walks.specs.declared.walkers.Walker.{Walker}
use Rattle.agent_walks.specs.Walkers.{IsWalker}
use Rattle.nav_version.specs.Lists.{ToldView}
use Rattle.nav_version.specs.Pairs.{EyeView}
use Rattle.nav_live.specs.Roots.{RootView}
use Rattle.nav_script.specs.declared.script.Line.{Line}
use Rattle.nav_live.specs.declared.lane.LineAnswer.TheVariants.{Settled}
use Rattle.nav_live.specs.declared.lane.Lane.{Lane}
use Rattle.nav_live.specs.LaneEntries.{Spoken, adds_of, entries_from, entries_made}
use Rattle.nav_live.specs.LaneWalkers.{Standing, AreMoved, last_standing}
use Rattle.nav_live.specs.LaneRecords.{IsSaid, last_number, lengths_told}
use Rattle.nav_live.specs.LaneTexts.{told_text}

-- a pass has acted without asking: it is of the lock, has its number, and what it has seen goes on from what it had seen by no further entry of its own
pub record SawOthers (lock : LockId RootView) (before after : PassView RootView Entry) : Type 0 where
  pub of : IsOf lock after
  pub number : after.number ≡ before.number
  pub seen : IsPrefix before.seen after.seen
  pub entries : entries_made before.number after.seen ≡ entries_made before.number before.seen

-- the first k entries are all that a pass has seen, or more
abbrev pub Covers : PassView RootView Entry → ℕ → Type 0
Covers pass k = length pass.seen ≤ k

-- a length that was told is one of the lock's pair
abbrev pub IsToldOf : LockId RootView → ToldView → Type 0
IsToldOf lock told = told.pair ≡ lock.root.pair

-- a lane belongs to a lock: its pass is of the lock and has the lane's number, its eye is of the pair and the ground of the lock's book, and where
-- it has a walker, that may march
pub record BelongsTo (lock : LockId RootView) (lane : Lane) : Type 0 where
  pub of : IsOf lock lane.pass
  pub number : lane.number ≡ lane.pass.number
  pub pair : lane.eye.pair ≡ lock.root.pair
  pub ground : lane.eye.ground ≡ lock.root.ground
  pub walker : IfSome lane.walker IsWalker

-- a walker is the one of which lines speak, on the least floor of their polygon in the mesh of the length that they name, which is one of the
-- history
pub record IsThatWalker (ground : Ground) (history : List Entry) (standing : Standing) (walker : Walker) : Type 0 where
  pub within : standing.k ≤ length history
  pub k : walker.k ≡ standing.k
  pub at : walker.at ≡ standing.at
  pub point : walker.point ≡ standing.point
  pub goal : walker.goal ≡ standing.goal
  pub goal_y : walker.goal_y ≡ standing.goal_y
  pub polygon : Polygon
  pub there : poly_at (build_of ground history standing.k) standing.at ≡ Some polygon
  pub floor : walker.y ≡ polygon.low

-- there is a walker exactly where lines speak of one
abbrev pub IsWalkerOf : Ground → List Entry → Option Standing → Option Walker → Type 0
IsWalkerOf ground history (Some standing) (Some walker) = IsThatWalker ground history standing walker
IsWalkerOf ground history (Some standing) None = ⊥
IsWalkerOf ground history None (Some walker) = ⊥
IsWalkerOf ground history None None = ⊤

-- the entries of a lane in a history are the requests of its lines in order, each once, with the numbers and replies that the lines were told
abbrev pub AreEntries : List Entry → ℕ → List Spoken → Type 0
AreEntries history lane spoken = entries_made lane history ≡ entries_from lane [] spoken

-- each line is answered as it may be, given a history
abbrev pub AreAnswers : Ground → List Entry → List Spoken → Type 0
AreAnswers ground history spoken = All (λ (one : Spoken). IsSaid ground history one.0 one.1) spoken

-- each `settled K` names at least the number of the lane's last entry before it
abbrev pub CoverEntries : List Spoken → Type 0
CoverEntries spoken = (place k : ℕ) (line : Line) → slice_get spoken place ≡ Some (line, Settled k) → last_number (take place spoken) ≤ k

-- the lengths that lines name never fall
abbrev pub NeverFall : List Spoken → Type 0
NeverFall spoken = AllPairs (λ (a b : ℕ). a ≤ b) (lengths_told spoken)

-- a lane that was answered so was told of its walker what it may be told, and has the walker that its lines leave
pub record KeepsWalker (ground : Ground) (history : List Entry) (spoken : List Spoken) (walker : Option Walker) : Type 0 where
  pub moved : AreMoved ground history None spoken
  pub stands : IsWalkerOf ground history (last_standing spoken) walker

-- a lane that was answered so has written the answers; it knows what its add lines added, and the number of its last entry
pub record NotesLines (spoken : List Spoken) (lane : Lane) : Type 0 where
  pub text : lane.text.items ≡ told_text spoken
  pub adds : lane.adds ≡ adds_of spoken
  pub last : lane.last ≡ last_number spoken

-- a lane of a lock has run these lines, with these answers. The entries that its pass has seen of it are those that the lines say they left; each
-- of its questions is answered right in the version of the length that its line names, which is a beginning of what its eye has seen, and so are
-- the lines of its walker; and it has noted its lines
pub record KeepsLane (lock : LockId RootView) (spoken : List Spoken) (lane : Lane) : Type 0 where
  pub own : BelongsTo lock lane
  pub entries : AreEntries lane.pass.seen lane.pass.number spoken
  pub answers : AreAnswers lock.root.ground lane.eye.seen spoken
  pub settled : CoverEntries spoken
  pub rising : NeverFall spoken
  pub walks : KeepsWalker lock.root.ground lane.eye.seen spoken lane.walker
  pub notes : NotesLines spoken lane

-- a lane can start with a pass of the lock that has this number and has seen nothing, and an eye of the pair and the ground of its book
pub record CanStart (lock : LockId RootView) (number : ℕ) (pass : PassView RootView Entry) (eye : EyeView) : Type 0 where
  pub of : IsOf lock pass
  pub named : number ≡ pass.number
  pub nothing : pass.seen ≡ []
  pub pair : eye.pair ≡ lock.root.pair
  pub level : eye.ground ≡ lock.root.ground
