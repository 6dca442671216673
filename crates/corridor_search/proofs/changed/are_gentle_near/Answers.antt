use Rattle.std.proofs.Common.{ℕ, sym, subst, refl, arith, All, inl, inr}
use Rattle.std.proofs.lemmas.Bool.{cases_eq}
use Rattle.mesh_types.specs.Corridors.{IsLinkOf}
use Rattle.corridor_search.specs.Changes.{IsGentleInto}
use Rattle.corridor_search.specs.Islands.{outer_of}
use Rattle.corridor_search.proofs.Gaps.{outer-listed}
use Rattle.corridor_search.proofs.changed.are_gentle_near.Goals as goal

pub are_gentle_into-requires-clause-links : goal.are_gentle_into-requires-clause-links
are_gentle_into-requires-clause-links c =
    subst (All (IsLinkOf c.args.mesh.now)) (sym c.outer_of.ensures) (outer-listed c.args.mesh.now c.loop-beside.beside c.requires.sound)

pub loop-beside-preserved : goal.loop-beside-preserved
loop-beside-preserved c t first below =
    elim (cases_eq t c.loop-beside.beside) [
      | inl is ↦
          subst (λ (n : ℕ). All (IsGentleInto c.args.mesh.now c.args.marks.now c.args.tile) (outer_of c.args.mesh.now n)) (sym is)
          (subst (All (IsGentleInto c.args.mesh.now c.args.marks.now c.args.tile)) c.outer_of.ensures (c.if-not-are_gentle_into.ensures refl))
      | inr differ ↦ c.loop-beside.invariant t first (omega (arith, below, differ))
    ]

pub returns : goal.returns
returns c gentle t near =
    let by = near.near in
    c.loop-beside.invariant t (omega (arith, by)) (omega (arith, by, c.loop-beside-test.false))
