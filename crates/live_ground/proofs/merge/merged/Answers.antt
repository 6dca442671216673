use Rattle.std.proofs.Common.{◌≡◌, ℕ, ◌+◌, ◌∙◌, ap, sym, subst, List, ◌∷◌, ◌++◌, take, drop, arith}
use Rattle.std.specs.Prelude.{AllPairs}
use Rattle.std.proofs.lemmas.List.{drop_more, take_rest}
use Rattle.std.proofs.lemmas.List.Elements.{All-drop}
use Rattle.nav_ground.specs.declared.field.Span.{Span}
use Rattle.nav_ground.specs.Fields.{IsSpanBefore}
use Rattle.nav_ground.specs.Tiling.{IsInWindow}
use Rattle.layer_cut.specs.Nearby.{spans_in}
use Rattle.live_ground.specs.Changes.{spans_outside}
use Rattle.live_ground.specs.Merging.{IsMerged}
use Rattle.live_ground.proofs.Merges.{merged_start, end_inside, end_outside, end_order}
use Rattle.live_ground.proofs.merge.merged.Goals as goal

pub loop-i-init : goal.loop-i-init
loop-i-init c =
    let P : List Span → Type 0 = λ list. IsMerged c.args.window c.args.old.now c.args.news.now list (drop c.args.rows.first c.args.old.now) c.args.news.now in
    record {
      most = omega arith;
      merged = subst P (sym (c.in_ok-extend_from_slice.ensures.items
          ∙ ap (λ (list : List Span). list ++ take c.args.rows.first c.args.old.now) c.in_ok-made.ensures.items))
          (merged_start c.args.window c.args.old.now c.args.news.now c.args.rows.first c.args.rows.end c.requires.rows c.requires.old_order c.requires.order
          c.requires.inside);
    }

pub loop-i-preserved : goal.loop-i-preserved
loop-i-preserved c =
    let old = c.args.old.now in
    let span = c.index-old-i.result in
    let P : List Span → Type 0 = λ list. IsMerged c.args.window old c.args.news.now c.loop-i.made.items list (drop c.loop-i.next c.args.news.now) in
    let next = drop_more old c.loop-i.i span (omega (arith, c.loop-i-test.true, c.requires.rows.most))
    ∙ ap (λ (a : Span). a ∷ drop (c.loop-i.i + 1) old) (sym c.index-old-i.is) in
    record {
      most = c.in_ok-next.ensures.most;
      merged = c.in_ok-next.ensures.merged old (drop (c.loop-i.i + 1) old) (subst P next c.loop-i.invariant.merged);
    }

-- at the end all is put behind
ended : (c : goal.In_ok-extend_from_slice-3)
    → IsMerged c.args.window c.args.old.now c.args.news.now c.loop-i.made.items (drop c.args.rows.end c.args.old.now) (drop c.loop-i.next c.args.news.now)
ended c =
    let P : ℕ → Type 0 = λ n. IsMerged c.args.window c.args.old.now c.args.news.now c.loop-i.made.items (drop n c.args.old.now) (drop c.loop-i.next c.args.news.now) in
    let all : c.loop-i.i ≡ c.args.rows.end = omega (arith, c.loop-i-test.false, c.loop-i.auto.i-end c.requires.rows.order) in
    subst P all c.loop-i.invariant.merged

all_items : (c : goal.In_ok-extend_from_slice-3)
    → c.extend_from_slice-3.new.self.items ≡ (c.loop-i.made.items ++ drop c.loop-i.next c.args.news.now) ++ drop c.args.rows.end c.args.old.now
all_items c =
    c.in_ok-extend_from_slice-3.ensures.items
    ∙ ap (λ (list : List Span). c.extend_from_slice-2.new.self.items ++ list) (take_rest c.args.old.now c.args.rows.end)
    ∙ ap (λ (list : List Span). list ++ drop c.args.rows.end c.args.old.now) (c.in_ok-extend_from_slice-2.ensures.items
    ∙ ap (λ (list : List Span). c.loop-i.made.items ++ list) (take_rest c.args.news.now c.loop-i.next))

pub returns-clause-inside : goal.returns-clause-inside
returns-clause-inside c =
    ap (spans_in c.args.window) (all_items c)
    ∙ end_inside c.args.window c.args.old.now c.args.news.now c.loop-i.made.items (drop c.loop-i.next c.args.news.now) c.args.rows.first c.args.rows.end
    c.requires.rows c.requires.old_order (All-drop (λ (span : Span). IsInWindow c.args.window span.x span.z) c.loop-i.next c.args.news.now c.requires.inside)
    (ended c)

pub returns-clause-outside : goal.returns-clause-outside
returns-clause-outside c =
    ap (spans_outside c.args.window) (all_items c)
    ∙ end_outside c.args.window c.args.old.now c.args.news.now c.loop-i.made.items (drop c.loop-i.next c.args.news.now) c.args.rows.first c.args.rows.end
    c.requires.rows c.requires.old_order (All-drop (λ (span : Span). IsInWindow c.args.window span.x span.z) c.loop-i.next c.args.news.now c.requires.inside)
    (ended c)

pub returns-clause-order : goal.returns-clause-order
returns-clause-order c =
    let P : List Span → Type 0 = λ list. AllPairs IsSpanBefore list in
    subst P (sym (all_items c))
    (end_order c.args.window c.args.old.now c.args.news.now c.loop-i.made.items (drop c.loop-i.next c.args.news.now) c.args.rows.first c.args.rows.end
    c.requires.rows c.requires.old_order (All-drop (λ (span : Span). IsInWindow c.args.window span.x span.z) c.loop-i.next c.args.news.now c.requires.inside)
    (ended c))
