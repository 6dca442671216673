use Rattle.std.proofs.Common.{◌≡◌, ◌≤◌, map}
use Rattle.std.specs.List.{count_by, range_with_len}
use Rattle.mesh_types.specs.LinkIndex.{is_before_polygon, kept_start}
use Rattle.mesh_types.proofs.links.starts.Given as goal

-- the starts of the polygons so far, the last of which is known
abbrev pub invariant-loop-polygon : goal.invariant-loop-polygon
invariant-loop-polygon l =
    (l.starts.items ≡ map (λ polygon. kept_start (count_by (is_before_polygon polygon) l.links)) (range_with_len 0 l.polygon))
    × (l.start ≤ count_by (is_before_polygon l.polygon) l.links)
