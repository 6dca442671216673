-- Slim: agents that waited long are smaller, so that others can pass, and grow again where they have room.
use Rattle.std.specs.Prelude.{◌≡◌, ◌≢◌, ℕ, ◌+◌, ◌*◌, ◌/◌, min, max, Bool, nat_eq, nat_le, nat_lt, ◌&&◌, if◌then◌else◌, IsTrue, List, ◌++◌, length, take, drop, slice_get, Some}
use Rattle.std.specs.List.{list_all}
use Rattle.crowd_moves.specs.declared.agents.CrowdAgent.{CrowdAgent}
use Rattle.crowd_moves.specs.Pairs.{is_apart}
use Rattle.crowd_step.specs.declared.steering.Steering.{Steering}

-- an agent with another radius
abbrev pub with_radius : CrowdAgent → ℕ → CrowdAgent
with_radius a radius = record a { radius = radius }

-- an agent waited for three seconds, of so many steps each
abbrev pub did_wait_long : ℕ → Steering → Bool
did_wait_long hz own = nat_le (3 * hz) own.waited

-- the radius of a slim one: a quarter of the full one, at least 1, and no more than it has
abbrev pub slim_radius : (full radius : ℕ) → ℕ
slim_radius full radius = min radius (max 1 (full / 4))

-- an agent overlaps none of the others with another radius
abbrev pub has_room_with : (height radius : ℕ) → CrowdAgent → List CrowdAgent → Bool
has_room_with height radius a others = list_all (is_apart height (with_radius a radius)) others

-- an agent grows: it does not wait, is less than its full size, and has room with that
abbrev pub does_grow : (height full : ℕ) → Steering → CrowdAgent → List CrowdAgent → Bool
does_grow height full own a others =
    nat_eq own.waited 0 && (nat_lt a.radius full && has_room_with height full a others)

-- the radius that an agent is to have beside others
abbrev pub next_radius : (height hz full : ℕ) → Steering → CrowdAgent → List CrowdAgent → ℕ
next_radius height hz full own a others =
    if did_wait_long hz own then slim_radius full a.radius else (if does_grow height full own a others then full else a.radius)

-- the others of a list
abbrev pub others_of : ℕ → List CrowdAgent → List CrowdAgent
others_of i agents = take i agents ++ drop (i + 1) agents

-- agents have their radii anew, one after the other: each beside those before it as they are then, and those behind as they were. Nothing else changes
pub record AreSlimmed (height hz : ℕ) (full : List ℕ) (steering : List Steering) (before after : List CrowdAgent) : Type 0 where
  pub one_each : length after ≡ length before
  pub each : (i n : ℕ) (own : Steering) (a b : CrowdAgent) → slice_get full i ≡ Some n → slice_get steering i ≡ Some own → slice_get before i ≡ Some a
      → slice_get after i ≡ Some b → b ≡ with_radius a (next_radius height hz n own a (take i after ++ drop (i + 1) before))

-- any two agents are apart
abbrev pub AreAllApart : ℕ → List CrowdAgent → Type 0
AreAllApart height agents =
    (i j : ℕ) (a b : CrowdAgent) → j ≢ i → slice_get agents i ≡ Some a → slice_get agents j ≡ Some b → IsTrue (is_apart height a b)
