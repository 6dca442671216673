use Rattle.std.proofs.Common.{arith}
use Rattle.std.proofs.lemmas.Int.{to_z-of_z}
use Rattle.build_queue.proofs.live.are_meeting.Goals as goal

pub returns-then-are_overlapping : goal.returns-then-are_overlapping
returns-then-are_overlapping c = grind (arith, to_z-of_z)
