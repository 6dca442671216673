use Rattle.std.proofs.Common.{◌≡◌, ◌-◌, ◌+◌, ◌≤◌, length, drop}
use Rattle.std.specs.List.{prefix_len}
use Rattle.mesh_types.specs.Runs.{has_label}
use Rattle.mesh_types.proofs.region.run_len.Given as goal

-- the places so far have the label, and what is left has the others of the first ones that do
abbrev pub invariant-loop-len : goal.invariant-loop-len
invariant-loop-len l =
    (l.len ≤ length l.labels) × (l.len + prefix_len (has_label l.label) (drop l.len l.labels) ≡ prefix_len (has_label l.label) l.labels)

abbrev pub decreases-loop-len : goal.decreases-loop-len
decreases-loop-len l = length l.labels - l.len
