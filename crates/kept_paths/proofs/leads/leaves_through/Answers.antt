use Rattle.std.proofs.Common.{inl, inr}
use Rattle.std.proofs.lemmas.Bool.{iff_false}
use Rattle.kept_paths.proofs.LeadLaws.{either, inside-leaves, outside-leaves}
use Rattle.kept_paths.proofs.leads.leaves_through.Goals as goal

pub returns-then-has_portal : goal.returns-then-has_portal
returns-then-has_portal c =
    let held = c.has_portal.ensures.0 c.if-has_portal.true in
    let leaving = inside-leaves c.args.mesh.now c.args.at c.requires.sound c.inner.result.now held.0 c.inner.ensures held.1 in (
      λ _. (held.0, record { listed = leaving.listed; leaves = leaving.leaves; through = held.2 }),
      λ _. c.if-has_portal.true,
    )

pub returns-else-has_portal : goal.returns-else-has_portal
returns-else-has_portal c = (
  λ is.
      let held = c.has_portal-else-has_portal.ensures.0 is in
      let leaving = outside-leaves c.args.mesh.now c.args.at c.requires.sound c.outer.result.now held.0 c.outer.ensures held.1 in
      (held.0, record { listed = leaving.listed; leaves = leaving.leaves; through = held.2 }),
  λ is.
      elim (either c.args.mesh.now c.args.at c.requires.sound c.inner.result.now c.outer.result.now is.0 c.inner.ensures c.outer.ensures is.1.listed is.1.leaves) [
        | inl held ↦ absurd (iff_false c.has_portal.ensures c.if-has_portal.false (is.0, held, is.1.through))
        | inr held ↦ c.has_portal-else-has_portal.ensures.1 (is.0, held, is.1.through)
      ],
)
