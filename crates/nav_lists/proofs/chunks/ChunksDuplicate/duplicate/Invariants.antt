use Rattle.std.proofs.Common.{◌≡◌, take}
use Rattle.nav_lists.proofs.chunks.ChunksDuplicate.duplicate.Given as goal

-- the chunks so far
abbrev pub invariant-loop-chunk : goal.invariant-loop-chunk
invariant-loop-chunk g l = l.chunks.items ≡ take l.chunk-index l.self-inside.chunks.items
