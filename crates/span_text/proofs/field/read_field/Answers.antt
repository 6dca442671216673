use Rattle.span_text.proofs.FieldLaws.{read_setting, read_spans, read_found, read_used, read_lines, read_only, read_first}
use Rattle.span_text.proofs.field.read_field.Goals as goal

pub returns-clause-setting : goal.returns-clause-setting
returns-clause-setting c = read_setting c.args.bytes.now _ c.read_text.ensures

pub returns-clause-field : goal.returns-clause-field
returns-clause-field c = read_spans c.args.bytes.now _ c.read_text.ensures

pub returns-clause-found : goal.returns-clause-found
returns-clause-found c = read_found c.args.bytes.now _ c.read_text.ensures

pub returns-clause-used : goal.returns-clause-used
returns-clause-used c = read_used c.args.bytes.now _ c.read_text.ensures

pub returns-clause-lines : goal.returns-clause-lines
returns-clause-lines c = read_lines c.args.bytes.now _ c.read_text.ensures

pub returns-clause-only : goal.returns-clause-only
returns-clause-only c = read_only c.args.bytes.now _ c.read_text.ensures

pub returns-clause-first : goal.returns-clause-first
returns-clause-first c = read_first c.args.bytes.now _ c.read_text.ensures
