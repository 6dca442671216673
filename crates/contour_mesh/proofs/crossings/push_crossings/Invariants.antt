use Rattle.std.proofs.Common.{◌≡◌, ◌++◌, map, filter}
use Rattle.std.specs.List.{range_with_len}
use Rattle.mesh_types.specs.Crossings.{is_crossing}
use Rattle.contour_mesh.specs.SidePlaces.{cell_at_side}
use Rattle.contour_mesh.proofs.crossings.push_crossings.Given as goal

-- the places on the sides so far
abbrev pub invariant-loop-side : goal.invariant-loop-side
invariant-loop-side l =
    l.placed.items ≡ l.initial.placed.items ++ map (cell_at_side l.region l.cell) (filter (λ side. is_crossing l.window side l.cell) (range_with_len 0 l.side))
