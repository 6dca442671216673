-- The rule of a lock's table, and what each step on it does. The table has one word and one slot.
-- The word is twice the length of the current list, and one more while a seat has the turn. The slot holds the value,
-- or it is out with that seat.
use Rattle.std.specs.Prelude.{◌≡◌, ◌≢◌, ℕ, ◌+◌, ◌*◌, ◌/◌, ◌<◌, ◌≤◌, true, false, List, [], ◌∷◌, length, slice_index, All, Option, Some, None}
use mathlib.Core.Option as maybe
use lib.ListN.{get_elem?}
use Rattle.atomic_table.specs.Table.{State, Me, Step, rest}
use Rattle.turn_lock.specs.declared.view.Claim.{Claim}
use Rattle.turn_lock.specs.declared.view.SeatView.{SeatView}
use Rattle.turn_lock.specs.Growth.{Extends, Grows}
use Rattle.turn_lock.specs.SeatViews.{claims_of, having_seen, having_met}

module _ {E : Type 0} (maker : E → ℕ) where
  -- What a claim says of the current list. Its number was given, and to the seat that speaks for it; the list goes on
  -- from what was seen of it by entries of other makers alone,
  -- and is at least as long as the length that was met
  pub record Stands (count : ℕ) (seat_of : ℕ → ℕ) (seat : ℕ) (current : List E) (claim : Claim E) : Type 0 where
    pub given : claim.number < count
    pub place : seat_of claim.number ≡ seat
    pub extends : Extends maker claim.number claim.seen current
    pub met : claim.met ≤ length current
    pub met_all : length claim.seen ≤ claim.met

  -- What each seat but the spent ones knows. The seat `chief` gives the numbers, of which `count` have been given
  pub record Knows {G : Type 0} (r : G) (current : List E) (count chief : ℕ) (seat_of : ℕ → ℕ) (holder : Option ℕ) (seat : ℕ) (v : SeatView G E) : Type 0 where
    pub root : v.root ≡ Some r
    pub claims : All (Stands count seat_of seat current) (claims_of v)
    pub holds : v.holds ≡ true → (holder ≡ Some seat) × (v.own.seen ≡ current)
    pub given : 0 < v.given → (seat ≡ chief) × (v.given ≡ count)

-- the seat that has the turn knows it
pub record HasTurn {G E : Type 0} (r : G) (views : List (SeatView G E)) (seat : ℕ) : Type 0 where
  pub view : SeatView G E
  pub there : get_elem? views seat ≡ maybe.some view
  pub root : view.root ≡ Some r
  pub holds : view.holds ≡ true

module _ {B G E : Type 0} (root_of : B → G) (entries : B → List E) where
  -- while no seat has the turn, the value is at home, with the current list; while one has, the slot is out
  abbrev pub Phase : G → List E → Option ℕ → ℕ → maybe.Option (maybe.Option B) → Type 0
  Phase r current None word home = (word ≡ 2 * length current) × (value : B) × (home ≡ maybe.some (maybe.some value)) × (entries value ≡ current) × (root_of value ≡ r)
  Phase r current (Some seat) word home = (word ≡ 2 * length current + 1) × (home ≡ maybe.some maybe.none)

  module _ (maker : E → ℕ) where
    -- the rule of a lock whose value has the root r, and which has so many passes
    pub record Turns (r : G) (passes : ℕ) (s : State B (SeatView G E)) : Type 0 where
      pub current : List E
      pub count : ℕ
      pub chief : ℕ
      pub seat_of : ℕ → ℕ
      pub holder : Option ℕ
      pub one_word : length s.words ≡ 1
      pub one_slot : length s.homes ≡ 1
      pub within : count ≤ passes
      pub room : length current < 4294967295
      pub phase : Phase r current holder (slice_index s.words 0) (get_elem? s.homes 0)
      pub makers : All (λ e. maker e < count) current
      pub turn : (seat : ℕ) → holder ≡ Some seat → HasTurn r s.views seat
      pub knows : (seat : ℕ) (v : SeatView G E) (g : G) → get_elem? s.views seat ≡ maybe.some v → v.root ≡ Some g → Knows maker r current count chief seat_of holder seat v

    -- what a seat learns of the value when it takes the turn
    pub record Finds (v : SeatView G E) (value : B) : Type 0 where
      pub root : v.root ≡ Some (root_of value)
      pub extends : Extends maker v.own.number v.own.seen (entries value)
      pub met : v.own.met ≤ length (entries value)

    -- take the turn: where the word is as expected, the slot goes out to the seat, which has then seen the whole list;
    -- else nothing changes
    abbrev pub Takes : Step B → Me B (SeatView G E) → ℕ → Me B (SeatView G E) → Type 0
    Takes st m found m' =
        (found ≡ st.first → (value : B) × (m' ≡ (having_seen true (entries value) m.0, (0, value) ∷ m.1)) × Finds m.0 value)
        × (found ≢ st.first → m' ≡ m)

-- the list of the value that a seat holds
abbrev pub held_list : {B E : Type 0} → (B → List E) → List (ℕ × B) → List E
held_list entries [] = []
held_list entries (x ∷ xs) = entries x.1

-- give it back: the slot comes home, and the seat has seen the value's list
abbrev pub Gives : {B G E : Type 0} → (B → List E) → Step B → Me B (SeatView G E) → ℕ → Me B (SeatView G E) → Type 0
Gives entries st m stored m' = m' ≡ (having_seen false (held_list entries m.1) m.0, rest m.1)

-- what a seat owes to give the value back: it has the turn and speaks for one pass alone, and the value has the lock's
-- root, fewer than 4294967295 entries, and the list that was found or one entry of that pass more
pub record Returns {B G E : Type 0} (root_of : B → G) (entries : B → List E) (maker : E → ℕ) (r : G) (v : SeatView G E) (value : B) : Type 0 where
  pub holds : v.holds ≡ true
  pub single : v.taken ≡ []
  pub rooted : v.root ≡ Some r
  pub root : root_of value ≡ r
  pub grows : Grows maker (Some v.own.number) v.own.seen (entries value)
  pub room : length (entries value) < 4294967295

-- look at the word: half of it is the length of the list, which the seat has then met
abbrev pub Looks : {B G E : Type 0} → Step B → Me B (SeatView G E) → ℕ → Me B (SeatView G E) → Type 0
Looks st m found m' = (m' ≡ (having_met (found / 2) m.0, m.1)) × (m.0.own.met ≤ found / 2) × (found / 2 < 4294967295)
