use Rattle.std.proofs.Common.{ℤ, pos, ◌+ℤ◌, ◌*ℤ◌, ◌≤ℤ◌, w64, to_z, of_z, sym, ap, ◌∙◌, subst, arith}
use Rattle.std.proofs.lemmas.Int.{to_z-of_z}
use Rattle.world_grid.proofs.StretchLaws.{first_order, part_order, same_rest, narrow_reads, moved}
use Rattle.world_grid.proofs.frame.stretch_between.Goals as goal

pub behind-requires-clause-order : goal.behind-requires-clause-order
behind-requires-clause-order c =
    let first = c.column_of-first.result in
    let order = first_order _ _ first _ c.column_of-first.ensures.begins c.if-high-low.false in
    subst (λ (a : ℤ). (pos 16 *ℤ a) ≤ℤ to_z w64 (of_z w64 c.args.high)) (sym (narrow_reads first c.column_of-first.ensures.near)) order

pub returns-then-count-gt-MOST_COLUMNS-clause-none : goal.returns-then-count-gt-MOST_COLUMNS-clause-none
returns-then-count-gt-MOST_COLUMNS-clause-none c _ stretch is =
    let first = c.column_of-first.result in
    let low = sym (to_z-of_z w64 c.args.low c.ranges.low) ∙ c.column_of-first.ensures.begins in
    let high = sym (to_z-of_z w64 c.args.high c.ranges.high) ∙ c.behind.ensures ∙ ap (λ (a : ℤ). pos 16 *ℤ a +ℤ pos c.behind.result) (narrow_reads first c.column_of-first.ensures.near) in
    let rest = same_rest c.args.low c.args.high first _ c.behind.result stretch low c.column_of-first.ensures.close high is in
    let fewest = c.columns_to-count.ensures.fewest stretch.count is.some (omega (arith, rest, is.reaches)) in
    omega (arith, fewest, is.most, c.if-count-gt-MOST_COLUMNS.true)

pub returns-clause-found : goal.returns-clause-found
returns-clause-found c =
    let first = c.column_of-first.result in
    let read = narrow_reads first c.column_of-first.ensures.near in
    let low = sym (to_z-of_z w64 c.args.low c.ranges.low) ∙ c.column_of-first.ensures.begins in
    let high = sym (to_z-of_z w64 c.args.high c.ranges.high) ∙ c.behind.ensures in
    let count = c.columns_to-count.ensures in
    record {
      part = _;
      rest = c.behind.result;
      low_is = moved _ first _ _ (sym read) low;
      high_is = high;
      first = c.column_of-first.ensures.close;
      order = part_order _ _ first _ _ c.column_of-first.ensures.begins (c.behind.ensures ∙ ap (λ (a : ℤ). pos 16 *ℤ a +ℤ pos c.behind.result) read) c.if-high-low.false;
      reaches = count.reaches;
      some = count.some;
      fewest = count.fewest;
      most = c.if-count-gt-MOST_COLUMNS.false;
    }
