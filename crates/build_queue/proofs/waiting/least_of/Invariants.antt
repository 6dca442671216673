use Rattle.std.proofs.Common.{◌≡◌, ℕ, ◌<◌}
use Rattle.std.specs.Prelude.{slice_index_or}
use Rattle.build_queue.proofs.waiting.least_of.Given as goal

-- the words so far have no members
abbrev pub invariant-loop-place : goal.invariant-loop-place
invariant-loop-place l = (word : ℕ) → word < l.place → slice_index_or l.words word 0 ≡ 0
