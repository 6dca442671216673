-- Off-mesh links: joined jumps, by the polygon that they leave.
use Rattle.std.specs.Prelude.{◌≡◌, ℕ, ◌+◌, ◌*◌, ◌<◌, ◌≤◌, Bool, ◌==◌, ◌&&◌, List, length, All, Contains}
use Rattle.std.specs.List.Sorted.{IsNonDecreasingBy}
use Rattle.nav_base.specs.Point.{HasCoordinates}
use Rattle.mesh_types.specs.declared.links.PolyRef.{PolyRef}
use Rattle.mesh_types.specs.declared.answers.Jump.{Jump}
use Rattle.mesh_types.specs.declared.mesh.Mesh.{Mesh}
use Rattle.mesh_types.specs.Hops.{IsJoined}
use Rattle.mesh_types.specs.Stretches.{jump_at}
use Rattle.off_links.specs.declared.off_mesh_links.OffMeshLink.{OffMeshLink}

-- both points of a jump have coordinates
pub record HasJumpCoordinates (jump : Jump) : Type 0 where
  pub from : HasCoordinates jump.from
  pub to : HasCoordinates jump.to

-- jumps that may be asked with: at most 256, whose points have coordinates
pub record AreJumps (jumps : List Jump) : Type 0 where
  pub few : length jumps ≤ 256
  pub coordinates : All HasJumpCoordinates jumps

-- the place of the polygon that an off-mesh link leaves is a number of 32 bits
abbrev pub HasPlace : OffMeshLink → Type 0
HasPlace off_mesh_link = off_mesh_link.from.index < 4294967296

-- an off-mesh link of a jump with a number, which is joined
pub record IsOffMeshLinkOf (mesh : Mesh) (number : ℕ) (jump : Jump) (off_mesh_link : OffMeshLink) : Type 0 where
  pub numbered : off_mesh_link.number ≡ number
  pub joined : IsJoined mesh jump off_mesh_link.from off_mesh_link.to
  pub costs : off_mesh_link.cost ≡ jump.cost
  pub light : off_mesh_link.cost ≤ 4294967295
  pub place : HasPlace off_mesh_link

-- an off-mesh link is that of the jump which it names
pub record IsOffMeshLink (mesh : Mesh) (jumps : List Jump) (off_mesh_link : OffMeshLink) : Type 0 where
  pub named : off_mesh_link.number < length jumps
  pub own : IsOffMeshLinkOf mesh off_mesh_link.number (jump_at jumps off_mesh_link.number) off_mesh_link

-- stands for an off-mesh link that is not there
abbrev pub no_off_mesh_link : OffMeshLink
no_off_mesh_link =
    let nowhere : PolyRef = record { tile = 0; index = 0 } in
    record { from = nowhere; to = nowhere; number = 0; cost = 0 }

-- a number for each polygon, by which they stand in order
abbrev pub number_of : PolyRef → ℕ
number_of at = at.tile * 4294967296 + at.index

abbrev pub off_mesh_link_number : OffMeshLink → ℕ
off_mesh_link_number off_mesh_link = number_of off_mesh_link.from

-- an off-mesh link leaves the polygon with a number
abbrev pub has_number : ℕ → OffMeshLink → Bool
has_number own off_mesh_link = off_mesh_link_number off_mesh_link == own

-- the off-mesh links stand in order of the polygons that they leave
abbrev pub AreInOrder : List OffMeshLink → Type 0
AreInOrder off_mesh_links = IsNonDecreasingBy off_mesh_link_number off_mesh_links

-- an off-mesh link leaves a polygon
abbrev pub leaves : PolyRef → OffMeshLink → Bool
leaves at off_mesh_link = off_mesh_link.from.tile == at.tile && off_mesh_link.from.index == at.index

-- the off-mesh links of jumps: each is one of a joined jump, each joined jump has one, and they stand in order
pub record AreOffMeshLinks (mesh : Mesh) (jumps : List Jump) (off_mesh_links : List OffMeshLink) : Type 0 where
  pub each : All (IsOffMeshLink mesh jumps) off_mesh_links
  pub all : (number : ℕ) (from to : PolyRef) → number < length jumps → IsJoined mesh (jump_at jumps number) from to
      → Contains off_mesh_links (record { from = from; to = to; number = number; cost = (jump_at jumps number).cost })
  pub order : AreInOrder off_mesh_links
