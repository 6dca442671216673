use Rattle.nav_script.proofs.ReaderLaws.{fails_empty, fails_header, reads_header}
use Rattle.nav_script.proofs.reader.read_all.Goals as goal

pub returns-in_default : goal.returns-in_default
returns-in_default c = fails_empty _ _ c.args.bytes.now _ c.in_default.ensures.lines c.refused.ensures

pub returns-in-Ok : goal.returns-in-Ok
returns-in-Ok c =
    reads_header c.args.way c.args.first_line c.args.bytes.now c.in-Some.line.now c.in-Some.rest.now c.in-Ok.header c.read_lines.result
    c.in-Some.ensures.lines c.in-Some.ensures.ended c.in-Ok.ensures c.read_lines.ensures

pub returns-in-Err : goal.returns-in-Err
returns-in-Err c =
    fails_header _ _ c.args.bytes.now c.in-Some.line.now c.in-Some.rest.now _ _ c.in-Some.ensures.lines c.in-Err.ensures c.refused-in-Err.ensures
