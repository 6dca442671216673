use Rattle.std.proofs.Common.{ℕ, refl, subst}
use Rattle.std.specs.Prelude.{All}
use Rattle.corridor_search.specs.Changes.{IsBeside, IsGentleInto, IsNear}
use Rattle.corridor_search.specs.Islands.{outer_of}
use Rattle.corridor_search.proofs.KeptLandmarks.{beside-near}
use Rattle.corridor_search.proofs.changed.are_gentle_beside.Goals as goal

pub returns : goal.returns
returns c behind =
    let P : ℕ → Type 0 = λ t. All (IsGentleInto c.args.mesh.now c.args.marks.now c.args.tile) (outer_of c.args.mesh.now t) in
    subst (λ (row : ℕ). (t : ℕ) → IsBeside row c.args.tile t → P t) c.div_ceil-row.ensures
    (beside-near c.div_ceil-row.result c.args.tile P
    (subst (λ (n : ℕ). (t : ℕ) → IsNear n t → P t) c.saturating_sub-before.ensures (c.if-not-are_gentle_near.ensures refl))
    (c.if-not-are_gentle_near-2.ensures refl) (c.are_gentle_near-2.ensures behind))
