-- What contracts see of a press and its eyes, and what the calls make of that. What they see of a told list is in `Lists.antt`.
use Rattle.std.specs.Prelude.{◌≡◌, nat_lt, if◌then◌else◌, ◌<◌, ◌≤◌, List, ◌++◌, length, All}
use Rattle.std.specs.Arc.{arc_value}
use mathlib.Core.List.{IsPrefix}
use Rattle.logbook.specs.Pages.{Book}
use Rattle.nav_ground.specs.declared.history.Entry.{Entry}
use Rattle.nav_ground.specs.declared.history.Ground.{Ground}
use Rattle.nav_ground.specs.History.{IsRequest}
use Rattle.mesh_types.specs.declared.mesh.Mesh.{Mesh}
use Rattle.mesh_types.specs.Builds.{build_of}
use Rattle.mesh_types.specs.Soundness.{IsSound, polygon_count}
use Rattle.mesh_types.specs.WholeMesh.{mesh_of}
use Rattle.tile_links.specs.NewTiles.{AreNew, tiles_after}
use Rattle.nav_version.specs.declared.version.Version.{Version}
use Rattle.nav_version.specs.declared.press.Patch.{Patch}
use Rattle.nav_version.specs.Rules.{KeepRules}

-- a press: its pair, its ground, and the entries of the published version
pub record PressView : Type 0 where
  pub pair : Book
  pub ground : Ground
  pub entries : List Entry

-- an eye: its pair and that pair's ground, and the longest list of entries that it saw or learnt of
pub record EyeView : Type 0 where
  pub pair : Book
  pub ground : Ground
  pub seen : List Entry

abbrev pub press_of : Book → Ground → List Entry → PressView
press_of pair ground' entries = record { pair = pair; ground = ground'; entries = entries }

abbrev pub eye_of : Book → Ground → List Entry → EyeView
eye_of pair ground' seen = record { pair = pair; ground = ground'; seen = seen }

-- the published mesh
abbrev pub published_mesh : PressView → Mesh
published_mesh press = build_of press.ground press.entries (length press.entries)

-- a version is the one that a press has published
pub record Shows (press : PressView) (version : Version) : Type 0 where
  pub ground : arc_value version.ground ≡ press.ground
  pub entries : version.entries ≡ press.entries
  pub mesh : version.mesh ≡ published_mesh press

-- an eye as its press makes it: it knows what is published
abbrev pub first_eye : PressView → EyeView
first_eye press = record { pair = press.pair; ground = press.ground; seen = press.entries }

-- a patch can be published over a ground and its entries so far: its tile meshes are new ones for the published mesh, with few polygons
-- once they are in place, the entries stay few, the shape of each new one keeps its limits, and the mesh so made is that of the ground with the
-- obstacles that are alive after them
pub record IsPatch (ground : Ground) (entries : List Entry) (patch : Patch) : Type 0 where
  pub tiles : AreNew ground.setting patch.tiles.items
  pub polygons : polygon_count (tiles_after patch.tiles.items (build_of ground entries (length entries)).tiles) ≤ 8000000
  pub few : length (entries ++ patch.entries) < 4294967295
  pub requests : All (λ (entry : Entry). IsRequest entry.request) patch.entries
  pub mesh : mesh_of ground.setting (tiles_after patch.tiles.items (build_of ground entries (length entries)).tiles)
      ≡ build_of ground (entries ++ patch.entries) (length (entries ++ patch.entries))

-- further entries and a mesh can be published over a ground and its entries so far: the entries stay few, the shape of each new one keeps its
-- limits, and the mesh is sound and that of the ground with the obstacles that are alive after them
pub record IsNext (ground : Ground) (entries more : List Entry) (mesh : Mesh) : Type 0 where
  pub few : length (entries ++ more) < 4294967295
  pub requests : All (λ (entry : Entry). IsRequest entry.request) more
  pub shows : mesh ≡ build_of ground (entries ++ more) (length (entries ++ more))
  pub sound : IsSound mesh

-- the longer of two lists; of equally long ones the first
abbrev pub longer : List Entry → List Entry → List Entry
longer own other = if nat_lt (length own) (length other) then other else own

-- the eye after it has learnt of a published list: it has seen the longer one
abbrev pub after_learning : EyeView → List Entry → EyeView
after_learning eye entries = record eye { seen = longer eye.seen entries }

-- the eye has looked at a published version: it is of the same pair and ground, the list that it sees goes on from all that it saw or learnt of
-- before, and ground and list keep their rules
pub record HasLooked (before after : EyeView) : Type 0 where
  pub pair : after.pair ≡ before.pair
  pub ground : after.ground ≡ before.ground
  pub seen : IsPrefix before.seen after.seen
  pub few : length after.seen < 4294967295
  pub rules : KeepRules after.ground after.seen
