use Rattle.std.proofs.Common.{ℕ, List, refl, subst, sym}
use Rattle.corridor_search.specs.Changes.{AreSameBut}
use Rattle.corridor_search.proofs.KeptLandmarks.{landmarks-kept}
use Rattle.corridor_search.proofs.landmarks.tested.Goals as goal

pub returns-then-are_gentle_around : goal.returns-then-are_gentle_around
returns-then-are_gentle_around c =
    landmarks-kept c.as_slice-written.result.now c.args.news.now c.args.before.now c.args.mesh.now c.args.old.now _ c.requires.old c.requires.differ
    (subst (λ (tiles : List ℕ). AreSameBut tiles c.args.old.now c.args.made.rows) (sym c.as_slice-written.ensures.value) c.requires.same)
    (c.if-have_tiles.ensures refl) (c.if-are_gentle_around.ensures refl)
