-- Wishes: lists of moves that agents would like, the best first, and what is granted of them.
use Rattle.std.specs.Prelude.{◌≡◌, ℕ, ◌<◌, ◌≤◌, Bool, true, false, List, length, slice_get, Some, ◌⊎◌}
use Rattle.nav_base.specs.declared.point.Point.{Point}
use Rattle.crowd_moves.specs.declared.agents.CrowdAgent.{CrowdAgent}
use Rattle.crowd_moves.specs.declared.agents.CrowdMove.{CrowdMove}
use Rattle.crowd_moves.specs.Contacts.{begin_at, IsIn}
use Rattle.crowd_moves.specs.Steps.{AreMoves, IsAlone, IsFree, MayMove, MayMoveAt}

-- an agent may go by a vector
pub record MayGo (lets : CrowdAgent → CrowdMove → Type 0) (a : CrowdAgent) (by : Point) : Type 0 where
  pub made : CrowdMove
  pub is : made.by ≡ by
  pub may : MayMove lets a made

-- a move by a vector that an agent may make, and that is clear of the moves of all others
pub record IsOffered (lets : CrowdAgent → CrowdMove → Type 0) (height : ℕ) (agents : List CrowdAgent) (moves : List CrowdMove) (i : ℕ) (by : Point) (made : CrowdMove) : Type 0 where
  pub is : made.by ≡ by
  pub may : MayMoveAt lets agents i made
  pub free : IsFree height agents moves i made

-- there is one
pub record IsOpen (lets : CrowdAgent → CrowdMove → Type 0) (height : ℕ) (agents : List CrowdAgent) (moves : List CrowdMove) (i : ℕ) (by : Point) : Type 0 where
  pub made : CrowdMove
  pub offered : IsOffered lets height agents moves i by made

-- no vector in the list of an agent, up to a place, keeps a condition
abbrev pub IsNoneIn : (Point → Type 0) → List ℕ → List Point → ℕ → ℕ → Type 0
IsNoneIn P first vectors i end = (l : ℕ) (other : Point) → begin_at first i ≤ l → l < end → slice_get vectors l ≡ Some other → P other → ⊥

-- the first vector in the list of an agent that keeps a condition
pub record IsFirstWish (P : Point → Type 0) (first : List ℕ) (vectors : List Point) (i k : ℕ) (by : Point) : Type 0 where
  pub listed : IsIn first vectors i k by
  pub holds : P by
  pub none_before : IsNoneIn P first vectors i k

-- an agent has the first vector of its list that keeps a condition, where there is one
abbrev pub HasFirst : (Point → Type 0) → List ℕ → List Point → List CrowdMove → ℕ → Type 0
HasFirst P first vectors moves i = (k : ℕ) (by : Point) (m : CrowdMove) → IsFirstWish P first vectors i k by → slice_get moves i ≡ Some m → m.by ≡ by

-- a vector is in the list of an agent
pub record IsWished (first : List ℕ) (vectors : List Point) (i : ℕ) (by : Point) : Type 0 where
  pub place : ℕ
  pub listed : IsIn first vectors i place by

-- each agent has the move that it had, or one of its list
abbrev pub AreWished : List ℕ → List Point → List CrowdMove → List CrowdMove → Type 0
AreWished first vectors old new = (i : ℕ) (m : CrowdMove) → slice_get new i ≡ Some m → (slice_get old i ≡ Some m) ⊎ IsWished first vectors i m.by

-- of the agents so far in an order, each that is alone has the first vector of its list by which it may go
abbrev pub DoLoneGo : (CrowdAgent → CrowdMove → Type 0) → List CrowdAgent → List ℕ → List ℕ → List Point → List CrowdMove → ℕ → Type 0
DoLoneGo lets agents order first vectors moves count =
    (q i : ℕ) (a : CrowdAgent) → q < count → slice_get order q ≡ Some i → slice_get agents i ≡ Some a → IsAlone agents i
    → HasFirst (MayGo lets a) first vectors moves i

-- and each has the first one of its list that is open to it, as the others move
abbrev pub AreSettled : (CrowdAgent → CrowdMove → Type 0) → ℕ → List CrowdAgent → List ℕ → List ℕ → List Point → List CrowdMove → ℕ → Type 0
AreSettled lets height agents order first vectors moves count =
    (q i : ℕ) → q < count → slice_get order q ≡ Some i → i < length agents → HasFirst (IsOpen lets height agents moves i) first vectors moves i

-- one agent's turn: it gains the first vector of its list that is open to it, if it does not have that
pub record IsTurn (lets : CrowdAgent → CrowdMove → Type 0) (height : ℕ) (agents : List CrowdAgent) (first : List ℕ) (vectors : List Point) (old : List CrowdMove) (i : ℕ) (gains : Bool) (new : List CrowdMove) : Type 0 where
  pub right : AreMoves lets height agents new
  pub wished : AreWished first vectors old new
  pub has_first : HasFirst (IsOpen lets height agents old i) first vectors new i
  pub others : (j : ℕ) → (j ≡ i → ⊥) → slice_get new j ≡ slice_get old j
  pub same : gains ≡ false → new ≡ old

-- the turns of the agents so far in an order
pub record AreTurns (lets : CrowdAgent → CrowdMove → Type 0) (height : ℕ) (agents : List CrowdAgent) (order first : List ℕ) (vectors : List Point) (old : List CrowdMove) (count : ℕ) (gains : Bool) (new : List CrowdMove) : Type 0 where
  pub right : AreMoves lets height agents new
  pub wished : AreWished first vectors old new
  pub lone : DoLoneGo lets agents order first vectors new count
  pub same : gains ≡ false → new ≡ old
  pub settled : gains ≡ false → AreSettled lets height agents order first vectors old count

-- what a grant leaves: right moves, each the old one or one of the agent's list, and each lone agent's the first by which it may go. Where nobody
-- could gain any more, each has the first of its list that is open to it
pub record AreGranted (lets : CrowdAgent → CrowdMove → Type 0) (height : ℕ) (agents : List CrowdAgent) (order first : List ℕ) (vectors : List Point) (old : List CrowdMove) (settles : Bool) (new : List CrowdMove) : Type 0 where
  pub right : AreMoves lets height agents new
  pub wished : AreWished first vectors old new
  pub lone : DoLoneGo lets agents order first vectors new (length order)
  pub settled : settles ≡ true → AreSettled lets height agents order first vectors new (length order)
