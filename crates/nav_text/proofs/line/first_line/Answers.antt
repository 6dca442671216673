use Rattle.std.proofs.Common.{◌+◌, arith}
use Rattle.std.proofs.lemmas.List.{take_rest}
use Rattle.std.proofs.lemmas.Bool.{eqb-true, false_from_ne_true}
use Rattle.nav_text.proofs.LineLaws.{first_line_at, no_line}
use Rattle.nav_text.proofs.line.first_line.Goals as goal

pub returns-in_err-end-clause-lines : goal.returns-in_err-end-clause-lines
returns-in_err-end-clause-lines c =
    rw c.from_residual.ensures (no_line c.args.text.now (λ k lt. false_from_ne_true _ (c.in_err-end.ensures k (omega arith) lt))).0

pub returns-in_err-end-clause-ended : goal.returns-in_err-end-clause-ended
returns-in_err-end-clause-ended c =
    rw c.from_residual.ensures (no_line c.args.text.now (λ k lt. false_from_ne_true _ (c.in_err-end.ensures k (omega arith) lt))).1

pub returns-clause-lines : goal.returns-clause-lines
returns-clause-lines c =
    let h = c.in_ok-end.ensures in
    rw (take_rest c.args.text.now (c.in_ok-end.end + 1)) (first_line_at c.args.text.now c.in_ok-end.end h.0.high (λ k lt. false_from_ne_true _ (h.0.before k (omega arith) lt)) (eqb-true _ _ h.1)).0

pub returns-clause-ended : goal.returns-clause-ended
returns-clause-ended c =
    let h = c.in_ok-end.ensures in
    rw (take_rest c.args.text.now (c.in_ok-end.end + 1)) (first_line_at c.args.text.now c.in_ok-end.end h.0.high (λ k lt. false_from_ne_true _ (h.0.before k (omega arith) lt)) (eqb-true _ _ h.1)).2
