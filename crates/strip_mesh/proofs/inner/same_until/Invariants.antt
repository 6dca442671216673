use Rattle.std.proofs.Common.{◌≡◌, ◌≤◌, ◌-◌, ◌+◌, length, drop}
use Rattle.std.specs.List.{prefix_len}
use Rattle.mesh_types.specs.Runs.{has_label}
use Rattle.strip_mesh.specs.Indexed.{runs_in, run_in}
use Rattle.strip_mesh.specs.Strips.{strips_over}
use Rattle.strip_mesh.proofs.inner.same_until.Given as goal

-- the places so far have the label, and what is left has the others of the first ones that do
abbrev pub invariant-loop-end : goal.invariant-loop-end
invariant-loop-end l =
    (l.end ≤ length (run_in l.one.strips.now l.one.strip))
    × (l.end + prefix_len (has_label l.label) (drop l.end (strips_over (runs_in l.one.strips.now) l.one.strip l.edge))
    ≡ l.fn.from + prefix_len (has_label l.label) (drop l.fn.from (strips_over (runs_in l.one.strips.now) l.one.strip l.edge)))

abbrev pub decreases-loop-end : goal.decreases-loop-end
decreases-loop-end l = length (run_in l.one.strips.now l.one.strip) - l.end
