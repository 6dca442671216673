use Rattle.nav_script.proofs.ScriptLaws.{reading_found, reading_only, reading_first}
use Rattle.nav_script.proofs.reader.read_script.Goals as goal

pub returns-clause-found : goal.returns-clause-found
returns-clause-found c = reading_found c.args.way c.args.bytes.now c.args.first_line c.read_all.result c.read_all.ensures

pub returns-clause-only : goal.returns-clause-only
returns-clause-only c = reading_only c.args.way c.args.bytes.now c.args.first_line c.read_all.result c.read_all.ensures

pub returns-clause-first : goal.returns-clause-first
returns-clause-first c = reading_first c.args.way c.args.bytes.now c.args.first_line c.read_all.result c.read_all.ensures
