use Rattle.std.proofs.Common.{◌≡◌, take}
use Rattle.std.specs.Prelude.{All}
use Rattle.mesh_types.specs.declared.storeys.Storey.{Storey}
use Rattle.mesh_types.proofs.reaches.common_area.Given as goal

-- the storeys so far are of the first one's area
abbrev pub invariant-loop-storey : goal.invariant-loop-storey
invariant-loop-storey l = All (λ (storey : Storey). storey.area ≡ l.area) (take l.storey-index l.list)
