-- The portals so far are those of a chain.
use Rattle.std.proofs.Common.{ℕ, ◌<◌}
use Rattle.tests_paths.specs.SmallChains.{IsPortalOf}
use Rattle.tests_paths.proofs.chains.is_small_chain.Given as goal

abbrev pub invariant-loop-place : goal.invariant-loop-place
invariant-loop-place l = (k : ℕ) → k < l.place → IsPortalOf l.start l.portals l.goal k
