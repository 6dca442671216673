use Rattle.std.proofs.Common.{refl, subst, inl, inr}
use Rattle.std.proofs.lemmas.Bool.{iff_false}
use Rattle.mesh_types.specs.Located.{Holds}
use Rattle.surface_move.proofs.parts.holds_near.Goals as goal

pub returns-then-holds : goal.returns-then-holds
returns-then-holds c = (
  λ is. record { q = c.near_points.result.0; near = (c.near_points.ensures.near c.near_points.result.0).1 (inl refl); holds = c.holds.ensures.0 is },
  λ held. c.if-holds.true,
)

pub returns-else-holds : goal.returns-else-holds
returns-else-holds c = (
  λ is. record { q = c.near_points.result.1; near = (c.near_points.ensures.near c.near_points.result.1).1 (inr refl); holds = c.holds-else-holds.ensures.0 is },
  λ held.
      elim ((c.near_points.ensures.near held.q).0 held.near) [
        | inl same ↦ absurd (iff_false c.holds.ensures c.if-holds.false (subst (Holds c.args.polygon.now) same held.holds))
        | inr same ↦ c.holds-else-holds.ensures.1 (subst (Holds c.args.polygon.now) same held.holds)
      ],
)
