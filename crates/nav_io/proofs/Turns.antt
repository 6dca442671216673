-- What holds at each turn of the loops that read and write everything, and how a turn carries it on.
use Rattle.std.proofs.Common.{ℕ, ◌≡◌, ◌+◌, ◌-◌, ◌≤◌, List, ◌++◌, length, length-append, length-drop, take, drop, arith, ap, subst, sym, ◌∙◌, Some, None}
use Rattle.std.proofs.Math.Seq.{take-add}
use Rattle.std.proofs.lemmas.Grind.{common_steps}
use Rattle.std.proofs.lemmas.List.{take-take, length-take-le}
use Rattle.std.proofs.KnownBytes.{Appends-trans, Consumes-trans}
use Rattle.std.specs.Prelude.{Option}
use Rattle.std.specs.Io.KnownBytes.{Consumes, Appends}
use Rattle.nav_io.specs.Causes.{Rose, TookMany, TookAtMost, HasAtMost}

-- the bytes so far are what the source lost, at most this many
pub record ReadsSoFar (old now : Option (List ℕ)) (before after : ℕ) (bytes : List ℕ) (most : ℕ) : Type 0 where
  pub taken : Consumes old now bytes
  pub later : before ≤ after
  pub short : length bytes ≤ most

-- the bytes so far and one piece more are exactly this many
pub TookMany-more : (old now new : Option (List ℕ)) (bytes piece : List ℕ) (count : ℕ)
    → Consumes old now bytes → Consumes now new piece → length bytes + length piece ≡ count → TookMany old new count
TookMany-more old now new bytes piece count first second sum =
    (bytes ++ piece, length-append bytes piece ∙ sum, Consumes-trans old now new bytes piece first second)

-- the bytes so far and one piece more are at most this many
pub TookAtMost-more : (old now new : Option (List ℕ)) (bytes piece : List ℕ) (most : ℕ)
    → Consumes old now bytes → Consumes now new piece → length bytes + length piece ≤ most → TookAtMost old new most
TookAtMost-more old now new bytes piece most first second sum =
    (bytes ++ piece, rw (length-append bytes piece) sum, Consumes-trans old now new bytes piece first second)

-- a source that told no more than so many bytes did not lose one more
pub not_one_more : (old new : Option (List ℕ)) (most : ℕ) → TookMany old new (most + 1) → HasAtMost old most → ⊥
not_one_more None new most took has = has
not_one_more (Some known) None most took has = took.2
not_one_more (Some known) (Some left) most took has =
    absurd (omega (arith, has, took.1, ap length took.2, length-append took.0 left))

-- a count that rose after a moment rose since before it
pub rose_since : (before between after : ℕ) → before ≤ between → Rose between after → Rose before after
rose_since before between after later rose = grind (arith, common_steps)

-- the first bytes are what the sink took
pub record WritesSoFar (old now : Option (List ℕ)) (before after : ℕ) (bytes : List ℕ) (at : ℕ) : Type 0 where
  pub written : Appends old now (take at bytes)
  pub later : before ≤ after
  pub there : at ≤ length bytes

-- the sink takes the front of what is still to be written
pub WritesSoFar-more : (old now new : Option (List ℕ)) (before between after : ℕ) (bytes : List ℕ) (at count : ℕ)
    → WritesSoFar old now before between bytes at
    → count ≤ length (take (length bytes - at) (drop at bytes))
    → Appends now new (take count (take (length bytes - at) (drop at bytes)))
    → between ≤ after
    → WritesSoFar old new before after bytes (at + count)
WritesSoFar-more old now new before between after bytes at count so_far fits took later =
    let rest_length : length (take (length bytes - at) (drop at bytes)) ≡ length bytes - at =
    length-take-le (length bytes - at) (drop at bytes) (rw (length-drop at bytes) (omega arith)) in
    let within : count ≤ length bytes - at = rw (sym rest_length) fits in
    let front : Appends now new (take count (drop at bytes)) =
    subst (Appends now new) (take-take count (length bytes - at) (drop at bytes) within) took in
    record {
      written = rw (take-add at count bytes) (Appends-trans old now new _ _ so_far.written front);
      later = omega (arith, so_far.later, later);
      there = omega (arith, so_far.there, within);
    }
