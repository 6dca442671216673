use Rattle.std.proofs.Common.{ℕ, Option, ap, sym, ◌∙◌}
use Rattle.build_queue.specs.Steps.{publication_by}
use Rattle.build_queue.proofs.Keeping.{least_awaited_is, same_answer, new_answer}
use Rattle.build_queue.specs.Representation.{state_of}
use Rattle.build_queue.proofs.queue.BuildQueue.publication.Goals as goal

pub returns-in-Some-clause-answer : goal.returns-in-Some-clause-answer
returns-in-Some-clause-answer c =
    rw (← c.self.view_is)
    (ap (λ (least : Option ℕ). publication_by least c.self.inside.target c.self.inside.published)
    (c.in-Some.ensures ∙ least_awaited_is c.self.inside c.self.invariant))

pub returns-then-self-clause-answer : goal.returns-then-self-clause-answer
returns-then-self-clause-answer c =
    rw (← c.self.view_is)
    (same_answer (state_of c.self.inside) (sym (c.least_awaited.ensures ∙ least_awaited_is c.self.inside c.self.invariant) ∙ c.in_default.is) c.if-self.true)

pub returns-clause-answer : goal.returns-clause-answer
returns-clause-answer c =
    rw (← c.self.view_is)
    (new_answer (state_of c.self.inside) (sym (c.least_awaited.ensures ∙ least_awaited_is c.self.inside c.self.invariant) ∙ c.in_default.is) c.if-self.false)
