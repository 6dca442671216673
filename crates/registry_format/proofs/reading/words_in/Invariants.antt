use Rattle.std.proofs.Common.{◌≡◌, ◌++◌, ◌-◌, ◌*◌, length}
use Rattle.registry_format.specs.Reading.{words_in}
use Rattle.registry_format.proofs.reading.words_in.Given as goal

-- the words so far, and those that the rest is
abbrev pub invariant-loop : goal.invariant-loop
invariant-loop l = (l.words.items ++ words_in (l.count - l.counter) l.rest ≡ words_in l.count l.bytes) × (length l.rest ≡ 4 * (l.count - l.counter))
