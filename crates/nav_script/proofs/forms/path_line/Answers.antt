use Rattle.std.proofs.Common.{rules}
use Rattle.nav_script.proofs.forms.path_line.Goals as goal

pub returns : goal.returns
returns c = search rules
