use Rattle.std.proofs.Common.{rules}
use Rattle.compact_layer.proofs.sweep.is_connected.Goals as goal

pub returns-else-a-floor : goal.returns-else-a-floor
returns-else-a-floor c = search rules
