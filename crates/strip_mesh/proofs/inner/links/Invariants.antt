use Rattle.std.proofs.Common.{◌≡◌}
use Rattle.std.specs.List.{flat_map, range_with_len}
use Rattle.mesh_types.specs.StripLinks.{strip_links_over}
use Rattle.strip_mesh.specs.Indexed.{runs_in}
use Rattle.strip_mesh.proofs.inner.links.Given as goal

-- the links from the strips so far
abbrev pub invariant-loop-strip : goal.invariant-loop-strip
invariant-loop-strip l =
    l.links.items ≡ flat_map (λ s. flat_map (strip_links_over l.strips.free.tile (runs_in l.strips) s) (range_with_len 0 4)) (range_with_len 0 l.strip)
