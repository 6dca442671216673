use Rattle.std.proofs.Common.{refl}
use Rattle.nav_script.specs.RequestForms.{request_line}
use Rattle.nav_script.proofs.forms.request_line.Goals as goal

pub returns-in-Some-numbers_of : goal.returns-in-Some-numbers_of
unfolding request_line
returns-in-Some-numbers_of c =
    rw (← c.in_default.ensures.value, ← c.in-Some-numbers_of.ensures.value, c.cylinder_line.ensures) refl

pub returns-in-Some-numbers_of-2 : goal.returns-in-Some-numbers_of-2
unfolding request_line
returns-in-Some-numbers_of-2 c =
    rw (← c.in_default.ensures.value, ← c.in_default-numbers_of.ensures.value, ← c.in-Some-numbers_of-2.ensures.value) refl

pub returns-in_err-n : goal.returns-in_err-n
unfolding request_line
returns-in_err-n c =
    rw (
      c.from_residual.ensures,
      ← c.in_default.ensures.value,
      ← c.in_default-numbers_of.ensures.value,
      ← c.in_default-numbers_of-2.ensures.value,
      ← c.in_err-n.ensures.value,
    ) refl

pub returns : goal.returns
unfolding request_line
returns c =
    rw (
      c.drop_line.ensures,
      ← c.in_default.ensures.value,
      ← c.in_default-numbers_of.ensures.value,
      ← c.in_default-numbers_of-2.ensures.value,
      ← c.in_ok-n.ensures.value,
    ) refl
