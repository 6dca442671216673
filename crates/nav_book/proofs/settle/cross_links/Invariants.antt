use Rattle.std.proofs.Common.{◌≡◌, List, length, take}
use Rattle.std.specs.List.{sum_by}
use Rattle.mesh_types.specs.declared.links.Link.{Link}
use Rattle.nav_book.proofs.settle.cross_links.Given as goal

-- those of the lists so far
abbrev pub invariant-loop-place : goal.invariant-loop-place
invariant-loop-place l = l.count ≡ sum_by (λ (links : List Link). length links) (take l.place l.lists)
