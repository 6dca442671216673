use Rattle.std.proofs.Common.{◌≡◌, take}
use Rattle.registry_format.specs.Spelling.{word_bytes}
use Rattle.registry_format.proofs.writing.bytes_of.Given as goal

-- the words so far
abbrev pub invariant-loop-word : goal.invariant-loop-word
invariant-loop-word l = l.bytes.items ≡ word_bytes (take l.word-index l.words)
