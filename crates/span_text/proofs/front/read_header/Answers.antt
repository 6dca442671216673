use Rattle.span_text.proofs.FrontLaws.{head_setting, head_found, head_used, head_lines, head_on, head_few, head_only, head_first}
use Rattle.span_text.proofs.front.read_header.Goals as goal

pub returns-clause-setting : goal.returns-clause-setting
returns-clause-setting c = head_setting c.args.bytes.now _ c.read_whole.ensures

pub returns-clause-found : goal.returns-clause-found
returns-clause-found c = head_found c.args.bytes.now _ c.read_whole.ensures

pub returns-clause-used : goal.returns-clause-used
returns-clause-used c = head_used c.args.bytes.now _ c.read_whole.ensures

pub returns-clause-lines : goal.returns-clause-lines
returns-clause-lines c = head_lines c.args.bytes.now _ c.read_whole.ensures

pub returns-clause-on : goal.returns-clause-on
returns-clause-on c = head_on c.args.bytes.now _ c.read_whole.ensures

pub returns-clause-few : goal.returns-clause-few
returns-clause-few c = head_few c.args.bytes.now _ c.read_whole.ensures

pub returns-clause-only : goal.returns-clause-only
returns-clause-only c = head_only c.args.bytes.now _ c.read_whole.ensures

pub returns-clause-first : goal.returns-clause-first
returns-clause-first c = head_first c.args.bytes.now _ c.read_whole.ensures
