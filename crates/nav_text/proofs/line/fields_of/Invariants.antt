use Rattle.nav_text.proofs.FormLaws.{HasFields}
use Rattle.nav_text.proofs.line.fields_of.Given as goal

-- the numbers so far, and the bytes behind them
abbrev pub invariant-loop-i : goal.invariant-loop-i
invariant-loop-i g l = HasFields l.i-end l.bytes l.numbers l.rest l.i
