-- Adding a pair to a list of pairs.
use Rattle.std.specs.Prelude.{◌≡◌, List, [], ◌∷◌, ◌++◌, length}
use Rattle.turn_lock.specs.declared.pairs.Pair.{Pair}
use Rattle.turn_lock.specs.declared.pairs.Added.{Added}
use Rattle.turn_lock.specs.declared.pairs.Added.TheVariants.{Yes, Full, OutOfMemory}

-- the pair is added at the end, or the list stays, and is full where the answer says so
abbrev pub Adds : List Pair → Pair → Added → List Pair → Type 0
Adds before pair Yes after = after ≡ before ++ pair ∷ []
Adds before pair Full after = (after ≡ before) × (length before ≡ 4294967294)
Adds before pair OutOfMemory after = after ≡ before
