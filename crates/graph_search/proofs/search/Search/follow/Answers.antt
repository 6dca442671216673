use Rattle.std.proofs.Common.{◌≡◌, ℕ, ◌+◌, ◌∷◌, arith, ap, subst}
use Rattle.std.specs.List.Sorted.{IsPermutation}
use Rattle.std.proofs.lemmas.Result.{IfOk-from_err}
use Rattle.graph_search.specs.declared.visits.Visit.{Visit}
use Rattle.graph_search.specs.Walks.{arc_of}
use Rattle.graph_search.specs.Visited.{visit_at, IsWritten}
use Rattle.graph_search.specs.Entries.{entry}
use Rattle.graph_search.proofs.Relaxing.{end-member, estimate-falls, key-fits, following-no_less, following-closed, following-better}
use Rattle.graph_search.proofs.search.Search.follow.Goals as goal

pub returns-then-known-ne0-clause-followed : goal.returns-then-known-ne0-clause-followed
returns-then-known-ne0-clause-followed g c =
    let rank = ap (λ (u : Visit). u.rank) c.get-known.ensures in
    following-closed _ _ _ _ c.requires.searchable c.args.stride.step.from c.requires.there c.args.stride.step.place c.requires.place c.args.to c.requires.end c.args.self.now.closed c.requires.few
    _ _ c.requires.known c.requires.closing c.requires.relaxing (omega (arith, rank, c.if-known-ne0.true))

pub overflow_add-through : goal.overflow_add-through
overflow_add-through g c =
    let fits = key-fits _ _ _ _ c.requires.searchable c.args.stride.step.from c.requires.there c.args.stride.step.place c.requires.place c.args.to c.requires.end c.args.self.now.closed c.requires.few
    _ _ c.requires.known c.requires.closing c.requires.relaxing in
    omega (arith, fits, c.requires.cost, c.weight.ensures)

pub returns-then-known-through-clause-followed : goal.returns-then-known-through-clause-followed
returns-then-known-through-clause-followed g c =
    let known = ap (λ (u : Visit). u.cost) c.get-known.ensures in
    following-no_less _ _ _ _ c.requires.searchable c.args.stride.step.from c.requires.there c.args.stride.step.place c.requires.place c.args.to c.requires.end c.args.self.now.closed c.requires.few
    _ _ c.requires.known c.requires.closing c.requires.relaxing (omega (arith, known, c.requires.cost, c.weight.ensures, c.if-known-through.true))

pub estimate_at-estimate-requires-clause-there : goal.estimate_at-estimate-requires-clause-there
estimate_at-estimate-requires-clause-there g c =
    end-member _ _ _ _ c.requires.searchable c.args.stride.step.from c.requires.there c.args.stride.step.place c.requires.place c.args.to c.requires.end c.args.self.now.closed c.requires.few

pub overflow_add-key : goal.overflow_add-key
overflow_add-key g c =
    let fits = key-fits _ _ _ _ c.requires.searchable c.args.stride.step.from c.requires.there c.args.stride.step.place c.requires.place c.args.to c.requires.end c.args.self.now.closed c.requires.few
    _ _ c.requires.known c.requires.closing c.requires.relaxing in
    omega (arith, fits, c.requires.cost, c.weight.ensures, c.estimate_at-estimate.ensures)

pub push-requires : goal.push-requires
push-requires g c =
    let falls = estimate-falls _ _ _ _ c.requires.searchable c.args.stride.step.from c.requires.there c.args.stride.step.place c.requires.place c.args.to c.requires.end c.args.self.now.closed
    c.requires.few in
    omega (arith, falls, c.requires.last, c.weight.ensures, c.estimate_at-estimate.ensures)

pub returns-clause-followed : goal.returns-clause-followed
returns-clause-followed g c =
    let arcs = g.G.Graph.arcs c.args.graph.now in
    let at = visit_at c.args.self.now.visits in
    let waiting = c.args.self.now.waiting.entries in
    let known = ap (λ (u : Visit). u.cost) c.get-known.ensures in
    let through : c.args.stride.cost + c.weight.result ≡ (at c.args.stride.step.from).cost + (arc_of arcs c.args.stride.step).weight = λ i. c.requires.cost i + c.weight.ensures i in
    following-better _ _ _ _ c.requires.searchable c.args.stride.step.from c.requires.there c.args.stride.step.place c.requires.place c.args.to c.requires.end c.args.self.now.closed c.requires.few
    _ _ c.requires.known c.requires.closing c.requires.relaxing _ _ (omega (arith, known, through, c.if-known-through.false))
    (subst (λ (n : ℕ). IsWritten at c.args.to (record { cost = n; estimate = g.G.Graph.estimates c.args.graph.now c.args.to; rank = 0; last = c.args.stride.step }) (visit_at c.set.new.self)) through
    (subst (λ (k : ℕ). IsWritten at c.args.to (record { cost = c.args.stride.cost + c.weight.result; estimate = k; rank = 0; last = c.args.stride.step }) (visit_at c.set.new.self)) c.estimate_at-estimate.ensures c.in_ok-set.ensures))
    (subst (λ (n : ℕ). IsPermutation (entry (n + g.G.Graph.estimates c.args.graph.now c.args.to) c.args.to ∷ waiting) c.push.new.self.entries) through
    (subst (λ (k : ℕ). IsPermutation (entry (c.args.stride.cost + c.weight.result + k) c.args.to ∷ waiting) c.push.new.self.entries) c.estimate_at-estimate.ensures c.in_ok-push.ensures.added))

pub returns-in_err-set-clause-followed : goal.returns-in_err-set-clause-followed
returns-in_err-set-clause-followed g c = IfOk-from_err c.from_residual.result _ c.from_residual.ensures.0

pub returns-in_err-push-clause-followed : goal.returns-in_err-push-clause-followed
returns-in_err-push-clause-followed g c = IfOk-from_err c.from_residual-in_err-push.result _ c.from_residual-in_err-push.ensures.0
