use Rattle.std.proofs.Common.{◌≡◌, ◌<◌, length, filter}
use Rattle.std.specs.Prelude.{IfSome}
use Rattle.std.specs.List.{range_with_len}
use Rattle.mesh_types.specs.Choices.{first_best}
use Rattle.mesh_types.specs.Ears.{is_ear}
use Rattle.mesh_types.specs.Words.{is_narrower}
use Rattle.ear_cut.proofs.ear.best_ear.Given as goal

-- the best of the ears so far
abbrev pub invariant-loop-position : goal.invariant-loop-position
invariant-loop-position l = record {
  best : l.best ≡ first_best (is_narrower l.corners l.rest) (filter (is_ear l.corners l.rest) (range_with_len 0 l.position));
  there : IfSome l.best (λ position. position < length l.rest);
}
