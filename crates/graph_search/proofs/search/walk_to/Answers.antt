use Rattle.std.proofs.Common.{◌≡◌, Bool, true, false, not, ◌++◌, ◌∷◌, [], List, length, ap, ◌∙◌, refl, sym, subst, arith}
use Rattle.std.proofs.lemmas.List.{length-append, length-reverse}
use Rattle.graph_search.specs.declared.graph.Step.{Step}
use Rattle.graph_search.specs.declared.visits.Visit.{Visit}
use Rattle.graph_search.specs.Visited.{visit_at, IsClosed}
use Rattle.graph_search.proofs.Writing.{apart_if, same_if}
use Rattle.graph_search.proofs.WayBack.{IsWayTo, way-more, way-whole}
use Rattle.graph_search.proofs.search.walk_to.Goals as goal

pub loop-start-preserved : goal.loop-start-preserved
loop-start-preserved c =
    let differ = apart_if c.loop-start.vertex c.args.start c.loop-start-test.ensures in
    record {
      closed = subst (λ (u : Visit). IsClosed (visit_at c.args.visits.now u.last.from)) (sym c.get.ensures)
          (c.requires.ranked.steps c.loop-start.vertex c.loop-start.invariant.closed differ).0;
      way = λ arcs tree.
          subst (λ (steps : List Step). IsWayTo arcs (visit_at c.args.visits.now) c.get.result.last.from c.args.to steps) (sym c.in_ok-push.ensures.items)
          (subst (λ (u : Visit). IsWayTo arcs (visit_at c.args.visits.now) u.last.from c.args.to (c.loop-start.steps.items ++ u.last ∷ [])) (sym c.get.ensures)
          (way-more arcs (visit_at c.args.visits.now) c.args.start c.loop-start.vertex c.args.to c.loop-start.steps.items tree c.loop-start.invariant.closed differ
          (c.loop-start.invariant.way arcs tree)));
      short =
          let falls = (c.requires.ranked.steps c.loop-start.vertex c.loop-start.invariant.closed differ).1 in
          let rank = ap (λ (u : Visit). (visit_at c.args.visits.now u.last.from).rank) c.get.ensures in
          let more = ap (λ (steps : List Step). length steps) c.in_ok-push.ensures.items in
          let one = length-append c.loop-start.steps.items (c.get.result.last ∷ []) in
          omega (arith, falls, rank, more, one, c.loop-start.invariant.short);
    }

not_apart : (b : Bool) → false ≡ not b → true ≡ b
not_apart true is = refl
not_apart false is = absurd cc

pub returns-clause-walk : goal.returns-clause-walk
returns-clause-walk c arcs tree =
    way-whole arcs (visit_at c.args.visits.now) c.args.start c.loop-start.vertex c.args.to c.loop-start.steps.items _ tree
    (same_if _ _ (not_apart _ c.loop-start-test.ensures)) (c.loop-start.invariant.way arcs tree) c.reverse.ensures.items
    (ap (λ (u : Visit). u.cost) c.get-cost.ensures)

pub returns-clause-short : goal.returns-clause-short
returns-clause-short c =
    let steps = ap (λ (steps : List Step). length steps) c.reverse.ensures.items ∙ length-reverse c.loop-start.steps.items in
    omega (arith, steps, c.loop-start.invariant.closed, c.loop-start.invariant.short)
