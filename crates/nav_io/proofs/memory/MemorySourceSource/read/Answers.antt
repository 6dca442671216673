use Rattle.nav_io.proofs.Rests.{Consumes-rest_from}
use Rattle.nav_io.proofs.memory.MemorySourceSource.read.Goals as goal

pub returns-clause-bytes : goal.returns-clause-bytes
returns-clause-bytes c =
    let copied = c.copy_front-count in
    Consumes-rest_from _ _ _ _ _ _ _ c.deref-2.ensures.value copied.ensures.count copied.ensures.front copied.auto.buf c.args.self.now.some
