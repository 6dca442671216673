use Rattle.std.proofs.Common.{◌∙◌, rules, arith}
use Rattle.registry_format.proofs.Whole.{found_bytes, whole_bytes, words_of_bytes}
use Rattle.registry_format.proofs.reading.read_saved.Goals as goal

pub returns-then-bytes-ne0-clause-only : goal.returns-then-bytes-ne0-clause-only
returns-then-bytes-ne0-clause-only c = λ saved is same.
    let whole = whole_bytes c.args.bytes.now saved same in
    absurd (search rules)

pub returns-clause-found : goal.returns-clause-found
returns-clause-found c =
    found_bytes c.read_words.result c.args.bytes.now c.as_slice.result.now (λ i. omega (arith, c.type_inv.bytes i)) (search rules)
    (c.as_slice.ensures.value ∙ c.in_ok-words.ensures)
    c.read_words.ensures.found

pub returns-clause-only : goal.returns-clause-only
returns-clause-only c = λ saved is same.
    c.read_words.ensures.only saved is (words_of_bytes c.args.bytes.now c.as_slice.result.now saved is same (c.as_slice.ensures.value ∙ c.in_ok-words.ensures))
