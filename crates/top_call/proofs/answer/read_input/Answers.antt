use Rattle.std.proofs.Common.{◌+◌, ◌≤◌, length, take, arith, inr, ap, ◌∙◌, subst, Err}
use Rattle.std.proofs.lemmas.List.{length-take-le}
use Rattle.nav_text.specs.declared.fault.TextFault.{TextFault}
use Rattle.top_call.specs.Inputs.{IsFault}
use Rattle.top_call.proofs.InputLaws.{no_field_fault, no_script_fault, same_parts, input_of, script_fault_of, same_fault, lines_few}
use Rattle.top_call.proofs.answer.read_input.Goals as goal

pub returns-in-Err-Fault-clause-only : goal.returns-in-Err-Fault-clause-only
returns-in-Err-Fault-clause-only c =
    no_field_fault _ _ _ _ c.read_field.ensures.only (c.in-Err-Fault.is ∙ ap (λ r. Err r) c.in-Err-Fault.field-0-is)

-- the text has no more lines than the input has bytes
pub read_script-requires : goal.read_script-requires
read_script-requires c =
    let counted = c.in-Ok.ensures.lines in
    let few = lines_few (take c.in-Ok.text.used c.args.bytes.now) in
    let cut = length-take-le c.in-Ok.text.used c.args.bytes.now c.in-Ok.ensures.used in
    let used = c.in-Ok.ensures.used in
    let most : length c.args.bytes.now ≤ 67108864 = c.requires in
    omega (arith, counted, few, cut, used, most)

pub overflow_add-text : goal.overflow_add-text
overflow_add-text c = let below : c.in-Ok.text.lines + 1 ≤ 4000000000 = read_script-requires c in omega (arith, below)

pub returns-in-Err-Fault-read_script-clause-only : goal.returns-in-Err-Fault-read_script-clause-only
returns-in-Err-Fault-read_script-clause-only c =
    no_script_fault _ _ _ _ _ _ _ c.read_field.ensures.only c.in-Ok.is c.split_at.ensures.back c.read_script.ensures.only
    (c.in-Err-Fault-read_script.is ∙ ap (λ r. Err r) c.in-Err-Fault-read_script.field-0-is)

pub returns-in-Err-Fault-read_script-clause-fault : goal.returns-in-Err-Fault-read_script-clause-fault
returns-in-Err-Fault-read_script-clause-fault c fault told =
    let P : TextFault → Type 0 = λ f. IsFault c.args.way c.args.bytes.now f in
    let is = c.in-Err-Fault-read_script.is ∙ ap (λ r. Err r) c.in-Err-Fault-read_script.field-0-is in
    subst P (same_fault c.in-Err-Fault-read_script.fault fault told)
    (inr (script_fault_of _ _ _ c.in-Ok.text _ _ c.in-Ok.ensures.setting c.in-Ok.ensures.field c.in-Ok.ensures.found c.split_at.ensures.back
    (ap (λ n. n + 1) c.in-Ok.ensures.lines) (c.read_script.ensures.first c.in-Err-Fault-read_script.fault is)))

pub returns-clause-found : goal.returns-clause-found
returns-clause-found c =
    input_of _ _ _ c.in-Ok.text _ c.in-Ok.ensures.setting c.in-Ok.ensures.field c.in-Ok.ensures.found c.split_at.ensures.back
    c.in-Ok-read_script.ensures.found

pub returns-clause-only : goal.returns-clause-only
returns-clause-only c =
    same_parts _ _ _ _ _ _ _ c.read_field.ensures.only c.in-Ok.is c.split_at.ensures.back c.read_script.ensures.only c.in-Ok-read_script.is
