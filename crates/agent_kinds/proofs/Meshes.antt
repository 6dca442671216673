-- Meshes that are shown one after another, the last one first.
use Rattle.std.proofs.Common.{◌≡◌, ℕ, ◌+◌, ◌<◌, ◌≤◌, List, [], ◌∷◌, ◌++◌, length, get_or, map, take, Some, None, ap, ◌∙◌, set, sym, subst, arith}
use Rattle.std.specs.Prelude.{All, IfSome}
use Rattle.std.proofs.lemmas.List.{length-map, length_push, map_more, same_from_push, take_all}
use Rattle.std.proofs.lemmas.List.Elements.{All-pop}
use Rattle.mesh_types.specs.declared.mesh.Mesh.{Mesh}
use Rattle.mesh_types.specs.Soundness.{IsSound}
use Rattle.build_queue.specs.BookState.{BookState, least_awaited}
use Rattle.build_queue.specs.StepContracts.{IsShowStep}
use Rattle.nav_book.specs.LevelResults.{target_mesh}
use Rattle.agent_kinds.proofs.Downwards.{HaveTurnedFrom, last_is, one_more_from}

-- the meshes that are left are those of the first levels
pub record AreLeft (states : List BookState) (meshes : List Mesh) : Type 0 where
  pub few : length meshes ≤ length states
  pub meshes_of : meshes ≡ map target_mesh (take (length meshes) states)
  pub sound : All IsSound meshes

-- the last one of them, and those before it
pub record IsLastOf (states : List BookState) (rest : List Mesh) (mesh : Mesh) : Type 0 where
  pub left : AreLeft states rest
  pub there : length rest < length states
  pub its : (d : BookState) → mesh ≡ target_mesh (get_or states (length rest) d)
  pub sound_mesh : IsSound mesh

pub is_last : (states : List BookState) (meshes rest : List Mesh) (mesh : Mesh) (d : BookState) → AreLeft states meshes → meshes ≡ rest ++ mesh ∷ []
    → IsLastOf states rest mesh
is_last states meshes rest mesh d left is =
    let many : length meshes ≡ length rest + 1 = ap (λ (list : List Mesh). length list) is ∙ length_push rest mesh in
    let there : length rest < length states = omega (arith, many, left.few) in
    let sound : All IsSound rest × IfSome (Some mesh) IsSound = All-pop IsSound meshes rest (Some mesh) is left.sound in
    record {
      left = record { few = omega (arith, there); meshes_of = (parts many there d).0; sound = sound.0 };
      there = there;
      its = λ e. (parts many there e).1;
      sound_mesh = sound.1;
    }
  where
    parts : length meshes ≡ length rest + 1 → length rest < length states → (e : BookState)
        → (rest ≡ map target_mesh (take (length rest) states)) × (mesh ≡ target_mesh (get_or states (length rest) e))
    parts many there e =
        same_from_push rest (map target_mesh (take (length rest) states)) mesh (target_mesh (get_or states (length rest) e))
        (sym is ∙ left.meshes_of ∙ ap (λ (n : ℕ). map target_mesh (take n states)) many ∙ map_more target_mesh states (length rest) e there)

-- at first all are left
pub all_left : (states : List BookState) (meshes : List Mesh) → meshes ≡ map target_mesh states → All IsSound meshes → AreLeft states meshes
all_left states meshes is sound' =
    let many : length meshes ≡ length states = ap (λ (list : List Mesh). length list) is ∙ length-map states target_mesh in
    record {
      few = omega (arith, many);
      meshes_of = is ∙ ap (map target_mesh) (sym (take_all (length meshes) states (omega (arith, many))));
      sound = sound';
    }

-- the level whose mesh is shown next is as it was
pub level_there : (R : BookState → BookState → Type 0) (i : ℕ) (before now : List BookState) (d : BookState)
    → All (λ (state : BookState). least_awaited state ≡ None) before → HaveTurnedFrom R (i + 1) before now → i < length before
    → (least_awaited (get_or now i d) ≡ None) × (target_mesh (get_or now i d) ≡ target_mesh (get_or before i d))
level_there R i before now d none have there =
    let same : get_or now i d ≡ get_or before i d = last_is R i before now have d in
    (ap least_awaited same ∙ none i d there, ap target_mesh same)

-- one mesh more is shown
pub show_next : (before now : List BookState) (meshes rest : List Mesh) (mesh : Mesh) (kind : ℕ) (e new : BookState) → AreLeft before meshes
    → HaveTurnedFrom IsShowStep (length meshes) before now → meshes ≡ rest ++ mesh ∷ [] → kind ≡ length rest → IsShowStep (get_or now kind e) new
    → HaveTurnedFrom IsShowStep (length rest) before (set now kind new)
show_next before now meshes rest mesh kind e new left have is here step =
    let many : length meshes ≡ length rest + 1 = ap (λ (list : List Mesh). length list) is ∙ length_push rest mesh in
    let more : HaveTurnedFrom IsShowStep (kind + 1) before now =
    subst (λ (n : ℕ). HaveTurnedFrom IsShowStep n before now) (many ∙ ap (λ (n : ℕ). n + 1) (sym here)) have in
    subst (λ (n : ℕ). HaveTurnedFrom IsShowStep n before (set now kind new)) here
    (one_more_from IsShowStep kind before now more e new (omega (arith, here, many, left.few, have.as_many)) step)
