use Rattle.std.proofs.Common.{◌≡◌, true, get_or, ap, ◌∙◌, sym, subst, arith, ⊎_elim}
use Rattle.std.proofs.lemmas.Bool.{cases_lt}
use Rattle.std.proofs.lemmas.List.{get_or_default}
use Rattle.compact_layer.specs.Stacks.{IsStanding, is_passed}
use Rattle.compact_layer.proofs.sweep.pass.Goals as goal

pub is_passed-requires : goal.is_passed-requires
is_passed-requires c =
    subst IsStanding (sym c.index-cells-passed.is) (c.requires.cells.each c.loop-passed.passed c.index-cells-passed.result c.loop-passed-test.true)

pub loop-passed-preserved : goal.loop-passed-preserved
loop-passed-preserved c = record {
  most = omega (arith, c.loop-passed-test.true);
  each = λ k d small.
      let cells = c.args.cells.now in
      let passed = c.loop-passed.passed in
      let here : is_passed c.args.column c.args.height (get_or cells passed d) ≡ true =
      ap (is_passed c.args.column c.args.height)
      (get_or_default cells passed d c.index-cells-passed.result c.loop-passed-test.true ∙ sym c.index-cells-passed.is)
      ∙ sym c.is_passed.ensures ∙ c.if-is_passed.true in
      ⊎_elim (λ below. c.loop-passed.invariant.each k d below)
      (λ past. subst (λ n. is_passed c.args.column c.args.height (get_or cells n d) ≡ true) (omega (arith, past, small)) here)
      (cases_lt k passed);
}

pub returns-else-is_passed-clause-next : goal.returns-else-is_passed-clause-next
returns-else-is_passed-clause-next c = λ d there.
    ap (is_passed c.args.column c.args.height)
    (get_or_default c.args.cells.now c.loop-passed.passed d c.index-cells-passed.result there ∙ sym c.index-cells-passed.is)
    ∙ sym c.is_passed.ensures ∙ c.if-is_passed.false
