use Rattle.std.proofs.Common.{rules}
use Rattle.std.specs.Int.{div_ceil}
use Rattle.build_queue.proofs.WordLaws.{none_at_first}
use Rattle.build_queue.proofs.waiting.TileSet.new.Goals as goal

pub returns : goal.returns
returns c = none_at_first c.args.count c.in_ok-vec.field-0.items (div_ceil c.args.count 64) (search rules)
