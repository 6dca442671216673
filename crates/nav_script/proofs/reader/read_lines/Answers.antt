use Rattle.std.proofs.Common.{sym, ◌∙◌}
use Rattle.nav_script.proofs.ReaderLaws.{keeps_next, fails_next, fails_open, ends_well}
use Rattle.nav_script.proofs.reader.read_lines.Goals as goal

pub returns-in-Err : goal.returns-in-Err
returns-in-Err c =
    fails_next _ _ _ _ _ _ _ _ _ _ _ _ c.loop-line.invariant c.in-Some.ensures.lines c.in-Err.ensures.value c.len.ensures c.refused.ensures

pub loop-line-preserved : goal.loop-line-preserved
loop-line-preserved c =
    keeps_next _ _ _ _ _ _ _ _ _ _ _ c.loop-line.invariant c.in-Some.ensures.lines c.in-Some.ensures.ended c.in-Ok.ensures.value c.in-Ok.ensures.room
    c.in_ok-push-in-Ok.ensures.ok

pub returns-then-not-is_empty : goal.returns-then-not-is_empty
returns-then-not-is_empty c =
    fails_open _ _ _ _ _ _ _ _ _ c.loop-line.invariant c.in_default.ensures.lines (c.in_default.ensures.ended ∙ sym c.if-not-is_empty.ensures)
    c.len-then-not-is_empty.ensures c.refused-then-not-is_empty.ensures

pub returns : goal.returns
returns c =
    rw c.into_lines.ensures (ends_well _ _ _ _ _ _ _ c.loop-line.invariant c.in_default.ensures.lines (c.in_default.ensures.ended ∙ sym c.if-not-is_empty.ensures))
