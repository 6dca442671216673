use Rattle.std.proofs.Common.{List, ℕ, subst, sym}
use Rattle.std.specs.Prelude.{IfOk}
use Rattle.top_call.specs.Inputs.{IsFault, IsInput}
use Rattle.top_call.proofs.answer.read_whole.Goals as goal

pub read_input-requires : goal.read_input-requires
read_input-requires c = rw c.as_slice.ensures.value c.requires

pub returns-clause-found : goal.returns-clause-found
returns-clause-found c =
    subst (λ (bytes : List ℕ). IfOk c.read_input.result (λ input. IsInput c.args.way bytes input.setting input.field input.script)) c.as_slice.ensures.value c.read_input.ensures.found

pub returns-clause-only : goal.returns-clause-only
returns-clause-only c setting field script is =
    c.read_input.ensures.only setting field script (subst (λ (bytes : List ℕ). IsInput c.args.way bytes setting field script) (sym c.as_slice.ensures.value) is)

pub returns-clause-fault : goal.returns-clause-fault
returns-clause-fault c fault is = subst (λ (bytes : List ℕ). IsFault c.args.way bytes fault) c.as_slice.ensures.value (c.read_input.ensures.fault fault is)
