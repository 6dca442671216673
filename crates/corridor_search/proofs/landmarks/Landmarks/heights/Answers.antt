use Rattle.std.proofs.Common.{sym, rules}
use Rattle.corridor_search.proofs.Rows.{heights-past}
use Rattle.corridor_search.proofs.landmarks.Landmarks.heights.Goals as goal

pub returns-in-None : goal.returns-in-None
returns-in-None c = sym (heights-past c.args.self.now c.args.at (search rules))
