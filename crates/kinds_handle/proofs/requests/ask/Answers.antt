use Rattle.build_queue.specs.BookState.{BookState}
use Rattle.build_queue.specs.Steps.{request_answer}
use Rattle.kinds_handle.specs.KindRequests.{answer_status, entry_told}
use Rattle.kinds_handle.proofs.Answered.{told_of_all}
use Rattle.kinds_handle.proofs.requests.ask.Goals as goal

pub returns-clause-told : goal.returns-clause-told
returns-clause-told c = record {
  status = told_of_all answer_status (λ (state : BookState). request_answer state c.args.request) c.request-answer.result _ c.args.held.now c.request-answer.ensures.answer c.answer_told.ensures.status;
  entry = told_of_all entry_told (λ (state : BookState). request_answer state c.args.request) c.request-answer.result _ c.args.held.now c.request-answer.ensures.answer c.answer_told.ensures.entry;
}
