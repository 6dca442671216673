use Rattle.nav_live.proofs.lane.Lane.run.Goals as goal

pub returns-in_ok-ask-in-Ask-clause-ran : goal.returns-in_ok-ask-in-Ask-clause-ran
returns-in_ok-ask-in-Ask-clause-ran g c = rw c.in-Ask.is (λ spoken keeps. c.in_ok-ask-in-Ask.ensures.ran c.args.context.now.lock.now spoken keeps)

pub returns-in_ok-send-in-Send-clause-ran : goal.returns-in_ok-send-in-Send-clause-ran
returns-in_ok-send-in-Send-clause-ran g c = rw c.in-Send.is (λ spoken keeps. c.in_ok-send-in-Send.ensures.ran c.args.context.now.lock.now spoken keeps)

pub returns-in_ok-march-in-March-clause-ran : goal.returns-in_ok-march-in-March-clause-ran
returns-in_ok-march-in-March-clause-ran g c = rw c.in-March.is (λ spoken keeps. c.in_ok-march-in-March.ensures.ran c.args.context.now.lock.now spoken keeps)
