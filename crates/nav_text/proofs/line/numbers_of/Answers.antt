use Rattle.std.proofs.Common.{◌∙◌}
use Rattle.nav_text.proofs.FormLaws.{numbers_found, numbers_only, numbers_behind, numbers_without}
use Rattle.nav_text.proofs.line.numbers_of.Goals as goal

pub returns-in_err-strip_prefix-clause-only : goal.returns-in_err-strip_prefix-clause-only
returns-in_err-strip_prefix-clause-only g c =
    numbers_only c.args.word.now g.row.COUNT c.args.line.now _ (c.from_residual.ensures ∙ numbers_without _ _ _ c.in_err-strip_prefix.ensures.cases)

pub returns-clause-found : goal.returns-clause-found
returns-clause-found g c =
    let told = c.in_ok-strip_prefix.ensures.cases in
    numbers_found c.args.word.now g.row.COUNT c.args.line.now _ (c.fields_of.ensures ∙ numbers_behind _ _ _ _ told.0 told.1)

pub returns-clause-only : goal.returns-clause-only
returns-clause-only g c =
    let told = c.in_ok-strip_prefix.ensures.cases in
    numbers_only c.args.word.now g.row.COUNT c.args.line.now _ (c.fields_of.ensures ∙ numbers_behind _ _ _ _ told.0 told.1)
