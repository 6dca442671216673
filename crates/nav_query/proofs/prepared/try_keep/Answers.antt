use Rattle.std.proofs.Common.{ℕ, List, ◌∙◌, subst, sym}
use Rattle.corridor_search.specs.Changes.{DifferIn}
use Rattle.nav_query.proofs.prepared.try_keep.Goals as goal

pub kept_landmarks-requires-clause-differ : goal.kept_landmarks-requires-clause-differ
kept_landmarks-requires-clause-differ c =
    subst (λ (tiles : List ℕ). DifferIn tiles c.args.before.now c.args.mesh.now) (sym (c.as_slice.ensures.value ∙ c.in_ok-tiles.ensures)) c.requires.differ
