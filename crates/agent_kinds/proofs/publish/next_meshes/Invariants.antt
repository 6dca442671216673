use Rattle.std.proofs.Common.{◌≡◌, map, take}
use Rattle.std.specs.Prelude.{All}
use Rattle.mesh_types.specs.Soundness.{IsSound}
use Rattle.nav_book.specs.LevelResults.{target_mesh}
use Rattle.agent_kinds.proofs.publish.next_meshes.Given as goal

-- the meshes of the levels so far
abbrev pub invariant-loop-level : goal.invariant-loop-level
invariant-loop-level l = record {
  made : l.meshes.items ≡ map target_mesh (take l.level-index l.levels);
  sound : All IsSound l.meshes.items;
}
