use Rattle.std.proofs.Common.{get_or, arith}
use Rattle.std.proofs.lemmas.Option.{get_or_from_slice_get, slice_get-get_or}
use Rattle.registry_format.proofs.writing.bytes_of.Goals as goal

pub returns-clause-words : goal.returns-clause-words
returns-clause-words c = λ k d within.
    let same = get_or_from_slice_get c.args.words.now k (get_or c.args.words.now k 0) d (slice_get-get_or c.args.words.now k 0 within) in
    omega (arith, same, c.type_inv.words k)
