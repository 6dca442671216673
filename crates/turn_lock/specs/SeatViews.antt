-- What a seat of a lock knows, and how each step changes that.
use Rattle.std.specs.Prelude.{ℕ, ◌+◌, Bool, false, List, [], ◌∷◌, ◌++◌, length, Some, None}
use Rattle.turn_lock.specs.declared.view.Claim.{Claim}
use Rattle.turn_lock.specs.declared.view.SeatView.{SeatView}

abbrev pub new_claim : {E : Type 0} → ℕ → Claim E
new_claim number = record { number = number; seen = []; met = 0 }

module _ {G E : Type 0} where
  -- the claims for which a seat speaks
  abbrev pub claims_of : SeatView G E → List (Claim E)
  claims_of v = v.own ∷ v.taken

  -- the seat that gives the numbers, where the last that it gave is its own
  abbrev pub giving_view : G → ℕ → SeatView G E
  giving_view r number = record { root = Some r; own = new_claim number; taken = []; holds = false; given = number + 1 }

  -- the first seat has the number 0
  abbrev pub first_view : G → SeatView G E
  first_view r = giving_view r 0

  -- the seat has seen the whole list
  abbrev pub having_seen : Bool → List E → SeatView G E → SeatView G E
  having_seen holds current v = record v { own = record { number = v.own.number; seen = current; met = length current }; holds = holds }

  abbrev pub having_met : ℕ → SeatView G E → SeatView G E
  having_met met v = record v { own = record { number = v.own.number; seen = v.own.seen; met = met } }

  -- of the two seats after a split, the new one has the next number, and gives the numbers from then on
  abbrev pub left_view : SeatView G E → SeatView G E
  left_view v = record v { given = 0 }

  abbrev pub right_view : SeatView G E → SeatView G E
  right_view v = record { root = v.root; own = new_claim v.given; taken = []; holds = false; given = v.given + 1 }

  -- a seat that takes another in speaks for the claims of both
  abbrev pub joined_view : SeatView G E → SeatView G E → SeatView G E
  joined_view v other = record v { own = other.own; taken = other.taken ++ claims_of v }

  abbrev pub spent_view : SeatView G E
  spent_view = record { root = None; own = new_claim 0; taken = []; holds = false; given = 0 }
