use Rattle.std.proofs.Common.{Bool, true, false, refl}
use Rattle.std.specs.Prelude.{IsTrue, not}
use Rattle.std.proofs.lemmas.Bool.{iff_false, not-true}
use Rattle.fine_walk.proofs.ExitLaws.{as_low, not_above}
use Rattle.fine_walk.proofs.exits.is_least.Goals as goal

untrue : (b : Bool) → (IsTrue b → ⊥) → IsTrue (not b)
untrue true h = absurd (h refl)
untrue false h = refl

pub returns-in-Some : goal.returns-in-Some
returns-in-Some c = (
  λ lower. as_low c.args.polygon.now c.args.ray c.requires.entered c.args.edge c.in-Some.exit c.args.known c.requires.known c.in-Some.ensures.some
      (iff_false c.is_less.ensures (not-true _ lower)),
  λ least. untrue c.is_less.result
      (λ less. not_above c.args.polygon.now c.args.ray c.requires.entered c.args.edge c.in-Some.exit c.args.known c.requires.known c.in-Some.ensures.some least
      (c.is_less.ensures.0 less)),
)
