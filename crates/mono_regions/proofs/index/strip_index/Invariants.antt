use Rattle.std.proofs.Common.{◌≡◌, map, length}
use Rattle.std.specs.List.{concat}
use Rattle.mono_regions.specs.Lists.{starts_of}
use Rattle.mono_regions.specs.Indices.{run_at, firsts_below}
use Rattle.mono_regions.proofs.Marking.{owners_until}
use Rattle.mono_regions.proofs.index.strip_index.Given as goal

-- the strips that begin among the cells so far, and the cells in them
abbrev pub invariant-loop-first : goal.invariant-loop-first
invariant-loop-first l = record {
  order : l.order.items ≡ concat (map (run_at l.cells) (firsts_below l.cells l.first));
  starts : l.starts.items ≡ starts_of (map (run_at l.cells) (firsts_below l.cells l.first));
  owners : l.owners.items ≡ owners_until l.cells l.first;
  strip : l.strip ≡ length (firsts_below l.cells l.first);
}
