use Rattle.std.proofs.Common.{◌≡◌, ℕ, ◌+◌, List, [], ◌∷◌, ◌++◌, map, ap, ◌∙◌, sym, refl, length, arith}
use Rattle.std.specs.Global.{Vec}
use Rattle.std.specs.List.{concat}
use Rattle.mono_regions.specs.Lists.{starts_of}
use Rattle.mono_regions.specs.Indices.{run_at, firsts_below, index_runs}
use Rattle.mono_regions.proofs.Cuts.{lists_are}
use Rattle.mono_regions.proofs.Owners.{one_run_items, one_run_start, no_first, few_firsts}
use Rattle.mono_regions.proofs.Marking.{owner_until, begins_unowned, begins_owned, owner_read, owners_length, no_owners, one_strip_more, strip_marked, strip_passed, all_owners}
use Rattle.mono_regions.proofs.index.strip_index.Goals as goal
use Rattle.mono_regions.proofs.index.strip_index.Goals.{then-index-none+in_ok-push_run+in_ok-push-2, else-index-none}

pub loop-first-init : goal.loop-first-init
loop-first-init c = record {
  order = c.in_ok-order.ensures.items;
  starts = c.in_ok-push.ensures.items ∙ ap (λ (xs : List ℕ). xs ++ 0 ∷ []) c.in_ok-starts.ensures.items;
  owners = no_owners c.args.cells.now c.in_ok-owners.owners.items c.in_ok-owners.ensures;
  strip = refl;
}

pub index-requires : goal.index-requires
index-requires c =
    omega (
      arith,
      owners_length c.args.cells.now c.loop-first.first c.loop-first.owners.items c.loop-first.invariant.owners,
      c.loop-first.owners.ok.0,
      c.loop-first-test.true,
    )

pub push_run-requires-clause-owners : goal.push_run-requires-clause-owners
push_run-requires-clause-owners c = owners_length c.args.cells.now c.loop-first.first c.loop-first.owners.items c.loop-first.invariant.owners

pub overflow_add-strip : goal.overflow_add-strip
overflow_add-strip c =
    omega (arith, c.loop-first.invariant.strip, few_firsts c.args.cells.now c.loop-first.first, c.loop-first-test.true, c.requires.cells.rules.few)

pub loop-first-preserved : goal.loop-first-preserved
loop-first-preserved c =
    let cells = c.args.cells.now in
    let first : ℕ = c.loop-first.first in
    let read : c.index.result.now ≡ owner_until cells first first =
    c.index.ensures ∙ owner_read cells first c.index.result.now c.loop-first.owners.items c.loop-first-test.true c.loop-first.invariant.owners in
    elim c.if-index-none.branch [
      | then-index-none+in_ok-push_run+in_ok-push-2 w ↦
          let begins = begins_unowned cells c.requires.cells first c.loop-first-test.true (sym read ∙ w.if-index-none.true) in
          record {
            order = ap (λ (v : Vec ℕ). v.items) w.order-is
                ∙ one_run_items cells first c.loop-first.order.items w.push_run.new.order.items begins w.in_ok-push_run.ensures.order c.loop-first.invariant.order;
            starts = ap (λ (v : Vec ℕ). v.items) w.starts-is ∙ w.in_ok-push-2.ensures.items
                ∙ one_run_start cells first c.loop-first.order.items w.push_run.new.order.items c.loop-first.starts.items w.len.result begins
                w.in_ok-push_run.ensures.order c.loop-first.invariant.order (w.len.ensures ∙ w.push_run.new.order.ok.0) c.loop-first.invariant.starts;
            owners = ap (λ (v : Vec ℕ). v.items) w.owners-is
                ∙ strip_marked cells c.requires.cells first c.loop-first.strip c.loop-first.owners.items w.push_run.new.owners.items c.loop-first-test.true begins
                c.loop-first.invariant.strip c.loop-first.invariant.owners w.in_ok-push_run.ensures.owners;
            strip = w.strip-is ∙ ap (λ n. n + 1) c.loop-first.invariant.strip ∙ sym (one_strip_more cells first begins);
          }
      | else-index-none w ↦
          let begins = begins_owned cells c.requires.cells first c.loop-first-test.true (λ is. w.if-index-none.false (read ∙ is)) in
          let same = no_first cells first begins in
          record {
            order = ap (λ (v : Vec ℕ). v.items) w.order-is ∙ c.loop-first.invariant.order ∙ ap (λ fs. concat (map (run_at cells) fs)) (sym same);
            starts = ap (λ (v : Vec ℕ). v.items) w.starts-is ∙ c.loop-first.invariant.starts ∙ ap (λ fs. starts_of (map (run_at cells) fs)) (sym same);
            owners = ap (λ (v : Vec ℕ). v.items) w.owners-is ∙ strip_passed cells first c.loop-first.owners.items begins c.loop-first.invariant.owners;
            strip = w.strip-is ∙ c.loop-first.invariant.strip ∙ ap length (sym same);
          }
    ]

pub returns-clause-runs : goal.returns-clause-runs
unfolding index_runs
returns-clause-runs c =
    let runs : List (List ℕ) = map (run_at c.args.cells.now) (firsts_below c.args.cells.now c.loop-first.first) in
    let end : c.loop-first.first ≡ length c.args.cells.now = omega (arith, c.loop-first-test.false, c.loop-first.auto) in
    c.from_parts.ensures
    ∙ lists_are c.loop-first.order.items c.loop-first.starts.items runs c.loop-first.invariant.order c.loop-first.invariant.starts
    ∙ ap (λ n. map (run_at c.args.cells.now) (firsts_below c.args.cells.now n)) end

pub returns-clause-owners : goal.returns-clause-owners
returns-clause-owners c =
    let end : c.loop-first.first ≡ length c.args.cells.now = omega (arith, c.loop-first-test.false, c.loop-first.auto) in
    c.from_vec.ensures ∙ all_owners c.args.cells.now c.requires.cells c.loop-first.first c.loop-first.owners.items end c.loop-first.invariant.owners
