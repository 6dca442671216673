use Rattle.std.proofs.Common.{rules}
use Rattle.mono_regions.proofs.touching.seen_with.Goals as goal

pub returns-then-other-strip : goal.returns-then-other-strip
returns-then-other-strip c = search rules
