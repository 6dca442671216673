use Rattle.kinds_handle.proofs.ClaimLaws.{claim_fits, claim_told, claim_undone, on_err}
use Rattle.kinds_handle.proofs.jobs.claim.Goals as goal

pub given-requires : goal.given-requires
given-requires c =
    claim_fits c.args.held.now c.claim.new.self c.in_ok-kind.field-0 c.in-Some.kind c.in-Some.job c.in_ok-kind.ensures.job c.in-Some.is
    c.in_ok-kind.ensures.state c.in_ok-kind.ensures.fit c.in_ok-kind.ensures.rules

-- it was claimed and put back
pub returns-in_err-given-in-Some-clause-refused : goal.returns-in_err-given-in-Some-clause-refused
returns-in_err-given-in-Some-clause-refused c =
    on_err c.from_residual-in_err-given-in-Some.result
    (claim_undone c.args.held.now c.claim.new.self c.given.new.held c.in_ok-kind.field-0 c.in-Some.kind c.in-Some.job c.in_ok-kind.ensures.job
    c.in-Some.is c.in_ok-kind.ensures.state c.in_err-given-in-Some.ensures.back)

pub returns-in_ok-given-in-Some-clause-work : goal.returns-in_ok-given-in-Some-clause-work
returns-in_ok-given-in-Some-clause-work c =
    claim_told c.args.held.now c.claim.new.self c.in_ok-kind.field-0 c.in-Some.kind c.in-Some.job c.in_ok-kind.ensures.job c.in-Some.is
    c.in_ok-kind.ensures.state c.in_ok-given-in-Some.field-0.0 c.in_ok-given-in-Some.field-0.1.value c.in_ok-given-in-Some.ensures.given.0
    c.in_ok-given-in-Some.ensures.given.1
