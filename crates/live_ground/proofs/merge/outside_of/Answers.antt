use Rattle.std.proofs.Common.{take, arith}
use Rattle.std.specs.Prelude.{not}
use Rattle.std.proofs.lemmas.List.{length-take-le}
use Rattle.std.proofs.lemmas.List.Sums.{length-filter, count_by-le-length}
use Rattle.nav_ground.specs.declared.field.Span.{Span}
use Rattle.nav_ground.specs.Tiling.{is_in_window}
use Rattle.live_ground.proofs.Merges.{count_start, counted_all, outside_most}
use Rattle.live_ground.proofs.merge.outside_of.Goals as goal

pub loop-i-init : goal.loop-i-init
loop-i-init c = count_start c.args.window c.args.spans.now c.args.first c.args.end c.requires.places

pub bounds-spans-i : goal.bounds-spans-i
bounds-spans-i c = omega (arith, c.loop-i-test.true, c.requires.places.most)

pub overflow_add-count : goal.overflow_add-count
overflow_add-count c =
    let out = λ (span : Span). not (is_in_window c.args.window span.x span.z) in
    let some = take c.loop-i.i c.args.spans.now in
    omega (
      arith,
      c.loop-i.invariant,
      c.loop-i-test.true,
      c.requires.places.most,
      c.requires.few,
      length-filter out some,
      count_by-le-length out some,
      length-take-le c.loop-i.i c.args.spans.now (omega (arith, c.loop-i-test.true, c.requires.places.most)),
    )

pub overflow_add-result : goal.overflow_add-result
overflow_add-result c =
    let all = counted_all c.args.window c.args.spans.now c.args.first c.args.end c.loop-i.i c.loop-i.count c.requires.places c.loop-i.invariant
    (omega (arith, c.loop-i-test.false, c.loop-i.auto.i-end c.requires.places.order)) in
    omega (arith, all, outside_most c.args.window c.args.spans.now, c.requires.few)

pub returns : goal.returns
returns c =
    counted_all c.args.window c.args.spans.now c.args.first c.args.end c.loop-i.i c.loop-i.count c.requires.places c.loop-i.invariant
    (omega (arith, c.loop-i-test.false, c.loop-i.auto.i-end c.requires.places.order))
