use Rattle.std.proofs.Common.{◌∙◌, ap, sym, subst, rules, arith, length}
use Rattle.registry_format.specs.Reading.{HasLength}
use Rattle.registry_format.specs.Saved.{KeepsRules}
use Rattle.registry_format.specs.Spelling.{saved_words}
use Rattle.registry_format.specs.declared.saved.SavedRegistry.{SavedRegistry}
use Rattle.registry_format.proofs.Whole.{found_is, on_few, rows_few, words_long}
use Rattle.registry_format.proofs.reading.read_words.Goals as goal

pub returns-then-not-has_length-clause-only : goal.returns-then-not-has_length-clause-only
returns-then-not-has_length-clause-only c = λ saved is same.
    let yes = c.has_length.ensures.1 (subst HasLength (sym same) (words_long saved is)) in
    absurd (search rules)

pub is_spelled-requires-clause-rows : goal.is_spelled-requires-clause-rows
is_spelled-requires-clause-rows c =
    let count = ap (λ (s : SavedRegistry). length s.rows) c.in_ok-saved.ensures.saved ∙ rows_few c.args.words.now in
    omega (arith, count, c.type_inv.words 10)

pub is_spelled-requires-clause-on : goal.is_spelled-requires-clause-on
is_spelled-requires-clause-on c =
    let count = ap (λ (s : SavedRegistry). length s.on) c.in_ok-saved.ensures.saved ∙ on_few c.args.words.now (c.has_length.ensures.0 (search rules)) in
    omega (arith, count, c.type_inv.words 11)

pub returns-then-not-is_same-clause-only : goal.returns-then-not-is_same-clause-only
returns-then-not-is_same-clause-only c = λ saved is same.
    let found = found_is c.args.words.now saved c.in_ok-saved.saved is same c.in_ok-saved.ensures.saved in
    let yes = c.in_ok-is_same.ensures.same.1 (same ∙ ap saved_words (sym found)) in
    absurd (search rules)

pub returns-then-not-keeps_rules-clause-only : goal.returns-then-not-keeps_rules-clause-only
returns-then-not-keeps_rules-clause-only c = λ saved is same.
    let found = found_is c.args.words.now saved c.in_ok-saved.saved is same c.in_ok-saved.ensures.saved in
    let yes = c.keeps_rules.ensures.1 (subst KeepsRules (sym found) is.rules) in
    absurd (search rules)

pub returns-clause-only : goal.returns-clause-only
returns-clause-only c = λ saved is same. found_is c.args.words.now saved c.in_ok-saved.saved is same c.in_ok-saved.ensures.saved
