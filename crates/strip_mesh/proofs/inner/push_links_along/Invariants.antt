use Rattle.std.proofs.Common.{◌≡◌, ◌≤◌, ◌-◌, ◌++◌, length, map}
use Rattle.mesh_types.specs.StripLinks.{strip_link}
use Rattle.strip_mesh.specs.Indexed.{runs_in, run_in}
use Rattle.strip_mesh.specs.Strips.{strips_over}
use Rattle.strip_mesh.proofs.Passing.{IsFresh, runs_before}
use Rattle.strip_mesh.proofs.inner.push_links_along.Given as goal

-- the links along the runs before the place, where the next one begins
abbrev pub invariant-loop-place : goal.invariant-loop-place
invariant-loop-place l =
    (l.place ≤ length (run_in l.one.strips.now l.one.strip)) × IsFresh (strips_over (runs_in l.one.strips.now) l.one.strip l.edge) l.place
    × (l.links.items ≡ l.initial.links.items
    ++ map (strip_link l.one.strips.now.free.tile (run_in l.one.strips.now l.one.strip) l.one.strip l.edge) (runs_before (strips_over (runs_in l.one.strips.now) l.one.strip l.edge) l.place))

abbrev pub decreases-loop-place : goal.decreases-loop-place
decreases-loop-place l = length (run_in l.one.strips.now l.one.strip) - l.place
