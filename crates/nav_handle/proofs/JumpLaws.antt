-- The jumps of the host's array, one by one.
use Rattle.std.proofs.Common.{sym, subst, arith, ℕ, ◌<◌, ◌≤◌, pos, List, length, get_or}
use Rattle.std.proofs.lemmas.List.{get_or-map, length-map}
use Rattle.mesh_types.specs.declared.answers.Jump.{Jump}
use Rattle.off_links.specs.OffMeshLinks.{AreJumps, HasJumpCoordinates}
use Rattle.nav_handle.specs.declared.hops.NavdJump.{NavdJump}
use Rattle.nav_handle.specs.Hopping.{jump_of, jumps_of}

abbrev pub no_jump : NavdJump
no_jump = record { from = record { x = pos 0; z = pos 0 }; from_y = 0; to = record { x = pos 0; z = pos 0 }; to_y = 0; cost = 0 }

-- each jump of a list that may be asked with leads from coordinates to coordinates
pub jump_in : (jumps : List NavdJump) (k : ℕ) → k < length jumps → AreJumps (jumps_of jumps) → HasJumpCoordinates (jump_of (get_or jumps k no_jump))
jump_in jumps k there are =
    subst HasJumpCoordinates (get_or-map jump_of jumps k no_jump (jump_of no_jump) there)
    (are.coordinates k (jump_of no_jump) (subst (λ (n : ℕ). k < n) (sym (length-map jumps jump_of)) there))

-- all of them do, so they may be asked with
pub all_jumps : (jumps : List NavdJump) (n : ℕ) → length jumps ≤ n → length jumps ≤ 256
    → ((k : ℕ) → k < n → HasJumpCoordinates (jump_of (get_or jumps k no_jump))) → AreJumps (jumps_of jumps)
all_jumps jumps n all few each = record {
  few = subst (λ (m : ℕ). m ≤ 256) (sym (length-map jumps jump_of)) few;
  coordinates = λ (k : ℕ) (d : Jump) there.
      let within : k < length jumps = subst (λ (m : ℕ). k < m) (length-map jumps jump_of) there in
      subst HasJumpCoordinates (sym (get_or-map jump_of jumps k no_jump d within)) (each k (omega (arith, within, all)));
}
