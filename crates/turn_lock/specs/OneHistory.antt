-- What holds of a lock's table between any two steps, part by part, for all seats but those that were joined away. The
-- rule of specs/Turns.antt implies it: `Turns-one_history` of proofs/TurnsLemmas.antt.
use Rattle.std.specs.Prelude.{◌≡◌, ℕ, ◌+◌, ◌*◌, ◌<◌, ◌≤◌, ◌⊎◌, true, false, List, ◌++◌, length, slice_index, All, Some}
use mathlib.Core.Option as maybe
use lib.ListN.{get_elem?}
use Rattle.atomic_table.specs.Table.{State}
use Rattle.turn_lock.specs.declared.view.Claim.{Claim}
use Rattle.turn_lock.specs.declared.view.SeatView.{SeatView}
use Rattle.turn_lock.specs.Growth.{made_by}
use Rattle.turn_lock.specs.SeatViews.{claims_of}

-- a seat that was not joined away, with its view
pub record IsSeat {B G E : Type 0} (s : State B (SeatView G E)) (seat : ℕ) (v : SeatView G E) : Type 0 where
  pub there : get_elem? s.views seat ≡ maybe.some v
  pub known : (g : G) × (v.root ≡ Some g)

-- a claim that a seat speaks for
pub record IsClaim {B G E : Type 0} (s : State B (SeatView G E)) (seat : ℕ) (claim : Claim E) : Type 0 where
  pub view : SeatView G E
  pub of : IsSeat s seat view
  pub place : ℕ
  pub there : get_elem? (claims_of view) place ≡ maybe.some claim

-- nobody has the turn: the word is twice the length of the current list, and the value is at home with that list
pub record AtRest {B G E : Type 0} (root_of : B → G) (entries : B → List E) (r : G) (s : State B (SeatView G E)) (current : List E) : Type 0 where
  pub word : slice_index s.words 0 ≡ 2 * length current
  pub value : B
  pub home : get_elem? s.homes 0 ≡ maybe.some (maybe.some value)
  pub list : entries value ≡ current
  pub root : root_of value ≡ r
  pub nobody : (seat : ℕ) (v : SeatView G E) → IsSeat s seat v → v.holds ≡ false

-- one seat has the turn, and no other: the word is one more, the slot is out, and the seat has seen the current list
pub record InTurn {B G E : Type 0} (s : State B (SeatView G E)) (current : List E) : Type 0 where
  pub word : slice_index s.words 0 ≡ 2 * length current + 1
  pub out : get_elem? s.homes 0 ≡ maybe.some maybe.none
  pub seat : ℕ
  pub view : SeatView G E
  pub is : IsSeat s seat view
  pub holds : view.holds ≡ true
  pub seen : view.own.seen ≡ current
  pub alone : (other : ℕ) (v : SeatView G E) → IsSeat s other v → v.holds ≡ true → other ≡ seat

-- What was seen is a prefix of the current list; the length that was met lies between the two lengths; and the entries
-- of the claim's number are those that it has seen, in their order
pub record IsSeen {E : Type 0} (maker : E → ℕ) (current : List E) (claim : Claim E) : Type 0 where
  pub rest : List E
  pub prefix : current ≡ claim.seen ++ rest
  pub met_all : length claim.seen ≤ claim.met
  pub met : claim.met ≤ length current
  pub own : made_by maker claim.number current ≡ made_by maker claim.number claim.seen

pub record OneHistory {B G E : Type 0} (root_of : B → G) (entries : B → List E) (maker : E → ℕ) (r : G) (passes : ℕ) (s : State B (SeatView G E)) : Type 0 where
  pub current : List E
  -- how many numbers were given
  pub count : ℕ
  pub within : count ≤ passes
  pub turn : AtRest root_of entries r s current ⊎ InTurn s current
  -- all seats have the value's root
  pub root : (seat : ℕ) (v : SeatView G E) → IsSeat s seat v → v.root ≡ Some r
  -- of a seat's own claim, and of those that it took in
  pub seen : (seat : ℕ) (claim : Claim E) → IsClaim s seat claim → IsSeen maker current claim
  -- the numbers were given, each to one seat
  pub given : (seat : ℕ) (claim : Claim E) → IsClaim s seat claim → claim.number < count
  pub differ : (seat other : ℕ) (claim claim' : Claim E) → IsClaim s seat claim → IsClaim s other claim' → claim.number ≡ claim'.number → seat ≡ other
  -- one seat at most gives the numbers, and it knows how many it has given
  pub giver : (seat : ℕ) (v : SeatView G E) → IsSeat s seat v → 0 < v.given → v.given ≡ count
  pub one_giver : (seat other : ℕ) (v w : SeatView G E) → IsSeat s seat v → IsSeat s other w → 0 < v.given → 0 < w.given → seat ≡ other
  -- each entry's maker is a number that was given
  pub makers : All (λ e. maker e < count) current
