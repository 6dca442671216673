use Rattle.std.proofs.Common.{◌∙◌, Some, ap, sym, length, arith}
use Rattle.std.proofs.lemmas.Bool.{eqb-true, eq-eqb}
use Rattle.nav_base.proofs.NumberLaws.{number_alone, read_alone, read_same}
use Rattle.nav_base.proofs.number.read_number.Goals.{then-not-is_empty-via-then-not-is_empty, then-not-is_empty-via-else-not-is_empty+then-number-max}
use Rattle.nav_base.proofs.number.read_number.Goals as goal

pub returns-in_err-number-clause-only : goal.returns-in_err-number-clause-only
returns-in_err-number-clause-only c n le e =
    let none = c.in_err-number.ensures ∙ number_alone c.args.bytes.now n (omega arith) e in absurd cc

pub returns-then-not-is_empty-clause-only : goal.returns-then-not-is_empty-clause-only
returns-then-not-is_empty-clause-only c n le e =
    let same = read_same _ n _ _ c.in_ok-number.ensures (omega arith) e in
    let none = ap length same.1 in
    absurd (elim c.then-not-is_empty.branch [
      | then-not-is_empty-via-then-not-is_empty w ↦ let no = w.if-not-is_empty.ensures in let yes = eq-eqb _ _ none in cc
      | then-not-is_empty-via-else-not-is_empty+then-number-max w ↦ omega arith
    ])

pub returns-clause-found : goal.returns-clause-found
returns-clause-found c =
    (c.if-number-max.false, read_alone _ _ _ c.in_ok-number.ensures (eqb-true _ _ (sym c.if-not-is_empty.ensures)))

pub returns-clause-only : goal.returns-clause-only
returns-clause-only c n le e = ap Some (read_same _ n _ _ c.in_ok-number.ensures (omega arith) e).0
