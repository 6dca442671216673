use Rattle.std.proofs.Common.{inl, inr}
use Rattle.std.proofs.lemmas.Bool.{iff_false}
use Rattle.kept_paths.proofs.LeadLaws.{either, inside-leaves, outside-leaves}
use Rattle.kept_paths.proofs.leads.leaves.Goals as goal

pub returns-then-has_link : goal.returns-then-has_link
returns-then-has_link c =
    let leaving = inside-leaves c.args.mesh.now c.args.at c.requires.sound c.inner.result.now c.args.link.now c.inner.ensures
    (c.has_link.ensures.0 c.if-has_link.true) in (λ _. (leaving.listed, leaving.leaves), λ _. c.if-has_link.true)

pub returns-else-has_link : goal.returns-else-has_link
returns-else-has_link c = (
  λ held.
      let leaving = outside-leaves c.args.mesh.now c.args.at c.requires.sound c.outer.result.now c.args.link.now c.outer.ensures
      (c.has_link-else-has_link.ensures.0 held) in (leaving.listed, leaving.leaves),
  λ is.
      elim (either c.args.mesh.now c.args.at c.requires.sound c.inner.result.now c.outer.result.now c.args.link.now c.inner.ensures c.outer.ensures is.0 is.1) [
        | inl held ↦ absurd (iff_false c.has_link.ensures c.if-has_link.false held)
        | inr held ↦ c.has_link-else-has_link.ensures.1 held
      ],
)
