-- Both tests together say it.
use Rattle.std.proofs.Common.{◌≡◌, Bool, true, false, ℤ, pos, ◌≤ℤ◌, ◌<ℤ◌, refl, arith}
use Rattle.std.specs.Prelude.{IsTrue, MatchBool, ◌↔◌, not}
use Rattle.std.proofs.lemmas.Int.{ints}
use Rattle.std.proofs.lemmas.Bool.{false≢true}
use Rattle.funnel_path.proofs.funnel.Funnel.closes_front.Goals as goal

not_positive : (found : Bool) (n : ℤ) → MatchBool found (pos 0 <ℤ n) (n ≤ℤ pos 0) → IsTrue (not found) ↔ (n ≤ℤ pos 0)
not_positive true n told = (λ e. absurd (false≢true e), λ less. absurd (omega (arith, ints)))
not_positive false n told = (λ e. told, λ less. refl)

pub returns-then-not-closes_right : goal.returns-then-not-closes_right
returns-then-not-closes_right c =
    let told = not_positive c.lies_behind.result _ c.lies_behind.ensures in
    (λ holds. record { left_of_right = c.if-not-closes_right.ensures; front = told.0 holds }, λ front. told.1 front.front)

pub returns-else-not-closes_right : goal.returns-else-not-closes_right
returns-else-not-closes_right c =
    let closed = c.if-not-closes_right.ensures in
    (λ holds. absurd (shut c.closes_right.result c.if-not-closes_right.false holds), λ front. let inside = front.left_of_right in absurd (omega (arith, ints)))
  where
    shut : (found : Bool) → found ≡ true → IsTrue (not found) → ⊥
    shut true e h = false≢true h
    shut false e h = false≢true e
