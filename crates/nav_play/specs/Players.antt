-- What a player is seen as, and which lines it can play.
use Rattle.std.specs.Prelude.{◌≡◌, ℕ, ◌+◌, ◌<◌, List, [], ◌++◌, map, Option, Some, None, All, ⊤, length, get_or}
use Rattle.std.specs.Option.{option_map}
use Rattle.nav_base.specs.Point.{HasCoordinates}
use Rattle.nav_ground.specs.declared.history.Ground.{Ground}
use Rattle.nav_ground.specs.declared.history.Request.{Request}
use Rattle.nav_ground.specs.Limits.{IsShape}
use Rattle.build_queue.specs.declared.live.Job.{Job}
use Rattle.build_queue.specs.Steps.{requested}
use Rattle.nav_book.specs.declared.book.TileResult.{TileResult}
use Rattle.nav_book.specs.Results.{IsBuild, job_built}
use Rattle.nav_query.specs.Questions.{IsAnswerable}
use Rattle.off_links.specs.OffMeshLinks.{AreJumps, HasJumpCoordinates}
use Rattle.nav_play.specs.declared.player.Player.{Player}
use Rattle.nav_play.specs.PlayStates.{PlayState, state_after}
use Rattle.nav_play.specs.PlayRecord.{AddsSome, IsSaid, request_text}
use Rattle.nav_play.specs.Tallies.{HasCounted, no_answers}
use Rattle.nav_play.specs.Work.{jobs_of}
use Rattle.nav_script.specs.declared.script.Line.{Line}
use Rattle.nav_script.specs.declared.script.Line.TheVariants.{Lane, Ask, Add, Claim, Back, Submit, Jump, Hop, Send, March}
use Rattle.nav_script.specs.declared.script.Script.{Script}

-- the jobs of the tiles that workers hold
abbrev pub jobs_of_held : List (Option TileResult) → List (Option Job)
jobs_of_held held = map (option_map job_built) held

-- the job of the tile that a worker holds
abbrev pub held_job : List (Option TileResult) → ℕ → Option Job
held_job held worker = get_or (jobs_of_held held) worker None

-- the state of a play that a player keeps
abbrev pub player_state : Player → PlayState
player_state player = record {
  book = player.book.state;
  lane = player.lane;
  adds = player.adds;
  held = jobs_of_held player.workers;
  jumps = player.hop.jumps;
}

-- what a worker holds is the build of its tile
abbrev pub IsHeld : (ground : Ground) → Option TileResult → Type 0
IsHeld ground (Some made) = IsBuild ground made
IsHeld ground None = ⊤

abbrev pub AreHeld : (ground : Ground) → List (Option TileResult) → Type 0
AreHeld ground held = All (IsHeld ground) held

-- a player's current lane is one of its lanes, its workers hold builds of tiles of its ground, and its jumps may be asked with
pub record IsSteady (player : Player) : Type 0 where
  pub lane : player.lane < length player.adds
  pub held : AreHeld player.book.state.ground player.workers
  pub jumps : AreJumps player.hop.jumps

-- a player stands before the first line of a script: with the script's lanes and workers, nothing written, nothing counted, and no jump
pub record HasBegun (script : Script) (player : Player) : Type 0 where
  pub lanes : length player.adds ≡ script.lanes
  pub workers : length player.workers ≡ script.workers
  pub text : player.text.items ≡ []
  pub totals : player.totals ≡ no_answers
  pub jumps : player.hop.jumps ≡ []
  pub steady : IsSteady player

-- a line names a lane or a worker that is there, an obstacle within its limits, a question that can be answered, or a jump where there are fewer
-- than 256 so far
abbrev pub IsPlayable : (lanes workers jumps : ℕ) → Line → Type 0
IsPlayable lanes workers jumps (Lane lane) = lane < lanes
IsPlayable lanes workers jumps (Ask question) = IsAnswerable question
IsPlayable lanes workers jumps (Add shape) = IsShape shape
IsPlayable lanes workers jumps (Claim worker) = worker < workers
IsPlayable lanes workers jumps (Back worker) = worker < workers
IsPlayable lanes workers jumps (Submit worker) = worker < workers
IsPlayable lanes workers jumps (Jump jump) = (jumps < 256) × HasJumpCoordinates jump
IsPlayable lanes workers jumps (Hop from from_y to to_y) = HasCoordinates from × HasCoordinates to
IsPlayable lanes workers jumps (Send from from_y to to_y) = ⊥
IsPlayable lanes workers jumps (March far) = ⊥
IsPlayable lanes workers jumps _ = ⊤

-- a player has come to a state
pub record HasState (player : Player) (state : PlayState) : Type 0 where
  pub book : player.book.state ≡ state.book
  pub lane : player.lane ≡ state.lane
  pub adds : player.adds ≡ state.adds
  pub held : jobs_of_held player.workers ≡ state.held
  pub jumps : player.hop.jumps ≡ state.jumps

-- a player has played a line: what the line says is written, the state is the one after it, its answer is counted, the workers hold builds, the
-- lane is one of the lanes, the jumps may be asked with, and the line's steps are taken
pub record HasPlayed (line : Line) (before after : Player) (steps later : ℕ) : Type 0 where
  pub text : AddsSome (IsSaid (player_state before) line) before.text.items after.text.items
  pub state : HasState after (state_after (player_state before) line)
  pub totals : HasCounted (player_state before) line before.totals after.totals
  pub held : AreHeld before.book.state.ground after.workers
  pub lane : after.lane < length after.adds
  pub jumps : AreJumps after.hop.jumps
  pub count : later ≡ steps + jobs_of (player_state before) line

-- a player has made a request of its lane and written what became of it; the rest is as before
pub record HasRequested (request : Request) (before after : Player) : Type 0 where
  pub text : after.text.items ≡ before.text.items ++ request_text before.book.state request
  pub book : after.book.state ≡ requested before.book.state before.lane request
  pub lane : after.lane ≡ before.lane
  pub adds : after.adds ≡ before.adds
  pub workers : after.workers ≡ before.workers
  pub totals : after.totals ≡ before.totals
  pub jumps : after.hop.jumps ≡ before.hop.jumps
