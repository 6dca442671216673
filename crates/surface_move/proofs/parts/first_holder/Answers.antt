use Rattle.std.proofs.Common.{◌∙◌, sym, subst, inl, inr, arith}
use Rattle.std.proofs.lemmas.Bool.{cases_eq, iff_false}
use Rattle.std.proofs.lemmas.Option.{same_Some}
use Rattle.mesh_types.specs.Located.{Holds}
use Rattle.surface_move.specs.Ways.{IsHolder}
use Rattle.surface_move.proofs.parts.first_holder.Goals as goal

pub loop-place-preserved : goal.loop-place-preserved
loop-place-preserved c =
    λ k below holder.
    elim (cases_eq k c.loop-place.place) [
      | inl same ↦
          let held = (subst (IsHolder c.args.mesh.now c.args.polys.now c.args.p) same holder).held in
          iff_false c.holds.ensures c.if-holds.false
          (subst (λ polygon. Holds polygon c.args.p) (same_Some _ _ (sym held.there ∙ c.polygon_at.ensures.named)) held.holds)
      | inr other ↦ c.loop-place.invariant k (omega (arith, below, other)) holder
    ]
