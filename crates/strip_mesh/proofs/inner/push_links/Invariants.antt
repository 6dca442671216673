use Rattle.std.proofs.Common.{◌≡◌, ◌++◌}
use Rattle.std.specs.List.{flat_map, range_with_len}
use Rattle.mesh_types.specs.StripLinks.{strip_links_over}
use Rattle.strip_mesh.specs.Indexed.{runs_in}
use Rattle.strip_mesh.proofs.inner.push_links.Given as goal

-- the links over the edges so far
abbrev pub invariant-loop-edge : goal.invariant-loop-edge
invariant-loop-edge l =
    l.links.items ≡ l.initial.links.items ++ flat_map (strip_links_over l.one.strips.now.free.tile (runs_in l.one.strips.now) l.one.strip) (range_with_len 0 l.edge)
