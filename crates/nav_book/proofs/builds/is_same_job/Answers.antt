use Rattle.std.proofs.Common.{ap}
use Rattle.build_queue.specs.declared.live.Job.{Job}
use Rattle.nav_book.proofs.SameJobs.{lists_decide}
use Rattle.nav_book.proofs.builds.is_same_job.Goals as goal

pub returns-then-a-b : goal.returns-then-a-b
returns-then-a-b c =
    let lists = lists_decide c.args.a.now.shapes c.args.b.now.shapes c.eq.result c.eq.ensures in
    (λ same. λ i. record { tile = c.if-a-b.true i; shapes = lists.0 same i }, λ same. lists.1 (ap (λ (job : Job). job.shapes) same))
