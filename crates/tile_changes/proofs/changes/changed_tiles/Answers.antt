use Rattle.std.proofs.Common.{◌≡◌, ℕ, List, subst}
use Rattle.std.specs.Prelude.{Contains, IfOk, ◌↔◌}
use Rattle.nav_ground.specs.declared.history.Entry.{Entry}
use Rattle.nav_ground.specs.declared.history.Ground.{Ground}
use Rattle.mesh_types.specs.Builds.{build_of}
use Rattle.tile_changes.specs.Changes.{HasSameLinks, IsChanged}
use Rattle.tile_changes.proofs.changes.changed_tiles.Goals as goal

-- what holds of a ground, a history and a length at hand holds of those that they are
at_level : (Q : Ground → List Entry → ℕ → Type 0) (w g : Ground) (history h : List Entry) (length n : ℕ) → w ≡ g → history ≡ h → length ≡ n
    → Q w history length → Q g h n
at_level Q w g history h length n same again counted holds =
    subst (λ (x : Ground). Q x h n) same
    (subst (λ (x : List Entry). Q w x n) again (subst (λ (x : ℕ). Q w history x) counted holds))

pub returns-clause-exact : goal.returns-clause-exact
returns-clause-exact c =
    at_level
    (λ w history length. IfOk c.tiles_changed_between.result (λ tiles. (tile : ℕ) → Contains tiles tile ↔ IsChanged w history c.args.since length tile))
    _ _ _ _ _ _ c.ground.ensures.value c.entries.ensures.entries c.published.ensures.value c.tiles_changed_between.ensures.exact

pub returns-clause-links : goal.returns-clause-links
returns-clause-links c =
    at_level
    (λ w history length. IfOk c.tiles_changed_between.result
    (λ tiles. HasSameLinks tiles (build_of w history c.args.since) (build_of w history length)))
    _ _ _ _ _ _ c.ground.ensures.value c.entries.ensures.entries c.published.ensures.value c.tiles_changed_between.ensures.links
