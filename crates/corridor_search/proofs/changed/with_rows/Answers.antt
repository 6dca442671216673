use Rattle.std.proofs.Common.{ℕ, List, [], ◌∷◌, ◌++◌, sym, subst}
use Rattle.corridor_search.specs.Changes.{AreSameBut}
use Rattle.corridor_search.proofs.KeptLandmarks.{same-more}
use Rattle.corridor_search.proofs.changed.with_rows.Goals as goal

pub loop-new-preserved : goal.loop-new-preserved
loop-new-preserved c =
    subst (λ (tiles : List ℕ). AreSameBut tiles c.args.old.now c.set.new.self) (sym c.in_ok-push.ensures.items)
    (subst (AreSameBut (c.loop-new.tiles.items ++ c.in-Some.new.tile ∷ []) c.args.old.now) (sym c.in_ok-set.ensures.ok)
    (same-more c.loop-new.tiles.items c.args.old.now c.loop-new.rows c.in-Some.new.tile _ c.loop-new.invariant))
