use Rattle.std.proofs.Common.{sym, ◌∙◌}
use Rattle.std.proofs.lemmas.Bool.{cond-false, cond-true}
use Rattle.std.proofs.lemmas.List.{length-replicate}
use Rattle.nav_text.proofs.FormLaws.{HasFields_start, HasFields_more, HasFields_none, HasFields_end}
use Rattle.nav_text.proofs.line.fields_of.Goals as goal

pub loop-i-init : goal.loop-i-init
loop-i-init g c = HasFields_start _ _ _ (length-replicate g.row.COUNT 0)

pub returns-in_err-number : goal.returns-in_err-number
returns-in_err-number g c =
    c.from_residual.ensures ∙ HasFields_none _ _ _ _ _ c.loop-i.invariant c.loop-i-test.true c.in_err-number.ensures

pub loop-i-preserved : goal.loop-i-preserved
loop-i-preserved g c = HasFields_more _ _ _ _ _ _ _ c.loop-i.invariant c.loop-i-test.true c.in_ok-number.ensures

pub returns-then-not-is_empty : goal.returns-then-not-is_empty
returns-then-not-is_empty g c =
    sym (HasFields_end _ _ _ _ _ c.loop-i.invariant c.loop-i-test.false ∙ cond-false _ _ _ (sym c.if-not-is_empty.ensures))

pub returns : goal.returns
returns g c =
    sym (HasFields_end _ _ _ _ _ c.loop-i.invariant c.loop-i-test.false ∙ cond-true _ _ _ (sym c.if-not-is_empty.ensures))
