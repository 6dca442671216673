use Rattle.std.proofs.Common.{◌≡◌, ◌<◌, true, false, length, get_or, take, sym, arith}
use Rattle.std.specs.Char.{is_ascii_digit}
use Rattle.std.proofs.lemmas.Bool.{cond-true, cond-false}
use Rattle.nav_base.specs.Number.{is_canonical}
use Rattle.nav_base.proofs.NumberLaws.{HasRead_more, number_at_large, number_at_end}
use Rattle.nav_base.proofs.number.number_at.Goals.{then-loop-len-test+else-is_ascii_digit, else-loop-len-test}
use Rattle.nav_base.proofs.number.number_at.Goals as goal

pub returns-then-number-from : goal.returns-then-number-from
returns-then-number-from c =
    sym (number_at_large _ _ _ c.loop-len.invariant (omega arith) c.if-is_ascii_digit.ensures.cases (omega arith))

pub loop-len-preserved : goal.loop-len-preserved
loop-len-preserved c =
    rw c.from.ensures (HasRead_more _ _ _ c.loop-len.invariant (omega arith) c.if-is_ascii_digit.ensures.cases (omega arith))

pub returns-then-not-is_canonical : goal.returns-then-not-is_canonical
returns-then-not-is_canonical c =
    let stops : c.loop-len.len < length c.args.bytes.now → is_ascii_digit (get_or c.args.bytes.now c.loop-len.len 0) ≡ false =
    elim c.loop-len-test.branch [
      | then-loop-len-test+else-is_ascii_digit w ↦ λ _. sym w.if-is_ascii_digit.ensures.value
      | else-loop-len-test w ↦ λ lt. absurd (omega arith)
    ] in
    let told : false ≡ is_canonical (take c.loop-len.len c.args.bytes.now) = rw (← c.split_at.ensures.front) c.if-not-is_canonical.ensures in
    sym (rw (number_at_end _ _ _ c.loop-len.invariant stops) (cond-false _ _ _ (sym told)))

pub returns : goal.returns
returns c =
    let stops : c.loop-len.len < length c.args.bytes.now → is_ascii_digit (get_or c.args.bytes.now c.loop-len.len 0) ≡ false =
    elim c.loop-len-test.branch [
      | then-loop-len-test+else-is_ascii_digit w ↦ λ _. sym w.if-is_ascii_digit.ensures.value
      | else-loop-len-test w ↦ λ lt. absurd (omega arith)
    ] in
    let told : true ≡ is_canonical (take c.loop-len.len c.args.bytes.now) = rw (← c.split_at.ensures.front) c.if-not-is_canonical.ensures in
    sym (rw (number_at_end _ _ _ c.loop-len.invariant stops, c.split_at.ensures.back) (cond-true _ _ _ (sym told)))
