use Rattle.std.proofs.Common.{refl}
use Rattle.nav_play.proofs.Writing.{stands_same}
use Rattle.nav_play.proofs.meshes.append_free.Goals as goal

pub returns-in_err-cells-clause-front : goal.returns-in_err-cells-clause-front
returns-in_err-cells-clause-front c = stands_same c.args.out.now.items c.args.out.now.items refl
