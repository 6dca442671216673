-- Lists: the lists of moves that agents try, one after the other. Who sees nobody has its wish at the head of its own.
use Rattle.std.specs.Prelude.{◌≡◌, ℕ, ◌+◌, ◌<◌, ◌≤◌, List, length, slice_get, Some}
use Rattle.nav_base.specs.declared.point.Point.{Point}
use Rattle.crowd_moves.specs.declared.agents.CrowdAgent.{CrowdAgent}
use Rattle.crowd_moves.specs.Contacts.{begin_at, IsIn}
use Rattle.crowd_step.specs.declared.steering.Steering.{Steering}
use Rattle.crowd_step.specs.Steered.{SeesNobody}

-- what was in a list stays there
pub record Extends (old new : List Point) : Type 0 where
  pub longer : length old ≤ length new
  pub kept : (k : ℕ) → k < length old → slice_get new k ≡ slice_get old k

-- the list of an agent was added: its wish comes first where it sees nobody
pub record AddsList (sight : ℕ) (agents : List CrowdAgent) (steering : List Steering) (i : ℕ) (old new : List Point) : Type 0 where
  pub extends : Extends old new
  pub lone : (own : Steering) → slice_get steering i ≡ Some own → SeesNobody sight agents i → slice_get new (length old) ≡ Some own.wish

-- the lists of so many agents
pub record AreListed (sight : ℕ) (agents : List CrowdAgent) (steering : List Steering) (first : List ℕ) (vectors : List Point) (count : ℕ) : Type 0 where
  pub one_more : length first ≡ count + 1
  pub last : begin_at first count ≡ length vectors
  pub lone : (i : ℕ) (own : Steering) → i < count → slice_get steering i ≡ Some own → SeesNobody sight agents i → IsIn first vectors i (begin_at first i) own.wish
