use Rattle.std.proofs.Common.{◌≡◌, ℕ, ◌+◌, ◌*◌, ◌≤◌, ◌∙◌, arith, sym, ap, subst, length}
use Rattle.std.proofs.lemmas.Result.{IfOk-from_err}
use Rattle.graph_search.specs.declared.graph.Vertex.{Vertex}
use Rattle.graph_search.specs.declared.visits.Visit.{Visit}
use Rattle.graph_search.specs.Visited.{visit_at, IsClosed}
use Rattle.graph_search.specs.Entries.{Queue}
use Rattle.graph_search.specs.Searching.{IsKnown}
use Rattle.graph_search.proofs.Writing.{same_if, apart_if_not}
use Rattle.graph_search.proofs.WayBack.{ranked-tree}
use Rattle.graph_search.proofs.Turns.{taken_of, least_of, last_of, between-begun, work-dropped, between-dropped, closed-fewer, turn-tree, cheapest, vertex-key, vertex-member, turn-few, turn-known, turn-closing, turn-relaxing, work-turned, between-turned, goal-turned, apart, none_left, IsBetween}
use Rattle.graph_search.proofs.search.cheapest_walk_in.Goals as goal

pub loop-search-init : goal.loop-search-init
loop-search-init g c = record {
  between = between-begun _ _ _ _ c.args.from _ _ c.estimate.result _ c.requires.there c.in_ok-search.ensures.begun c.estimate.ensures c.in_ok-search.ensures.waiting
      c.in_ok-search.ensures.closed;
  goal = c.in_ok-search.ensures.begun.unclosed c.args.to;
}

pub loop-search-smaller-then-visit-ne0 : goal.loop-search-smaller-then-visit-ne0
loop-search-smaller-then-visit-ne0 g c =
    work-dropped _ _ _ _ c.requires.searchable c.args.from _ _ _ c.loop-search.invariant.between c.in-Some.first.key c.in-Some.first.vertex c.pop.new.self.entries
    (taken_of _ _ _ _ c.in-Some.is c.in_ok-first.ensures.taken)

pub loop-search-preserved-then-visit-ne0 : goal.loop-search-preserved-then-visit-ne0
loop-search-preserved-then-visit-ne0 g c =
    let rank = ap (λ (u : Visit). u.rank) c.get-visit.ensures in
    let is_closed : IsClosed (visit_at c.loop-search.search.visits c.in-Some.first.vertex) = omega (arith, rank, c.if-visit-ne0.true) in
    record { between = between-dropped _ _ _ _ c.requires.searchable c.args.from _ _ _ c.loop-search.invariant.between c.in-Some.first.key c.in-Some.first.vertex _ (taken_of _ _ _ _ c.in-Some.is c.in_ok-first.ensures.taken) is_closed; goal = c.loop-search.invariant.goal }

pub close-requires : goal.close-requires
close-requires g c =
    let fewer = closed-fewer _ _ _ _ c.requires.searchable c.args.from _ _ _ c.loop-search.invariant.between c.in-Some.first.key c.in-Some.first.vertex _ (taken_of _ _ _ _ c.in-Some.is c.in_ok-first.ensures.taken)
    (least_of _ _ _ c.in-Some.is c.in_ok-first.ensures.least) (sym (ap (λ (u : Visit). u.rank) c.get-visit.ensures) ∙ c.if-visit-ne0.false) in
    omega (arith, fewer, c.requires.searchable.few)

pub walk_to-requires-clause-ranked : goal.walk_to-requires-clause-ranked
walk_to-requires-clause-ranked g c =
    ranked-tree _ _ _
    (turn-tree _ _ _ _ c.requires.searchable c.args.from _ _ _ c.loop-search.invariant.between c.in-Some.first.key c.in-Some.first.vertex _ (taken_of _ _ _ _ c.in-Some.is c.in_ok-first.ensures.taken) (least_of _ _ _ c.in-Some.is c.in_ok-first.ensures.least)
    (sym (ap (λ (u : Visit). u.rank) c.get-visit.ensures) ∙ c.if-visit-ne0.false) _ _ c.in_ok-close.ensures.written c.in_ok-close.ensures.closed)

pub returns-then-eq-clause-found : goal.returns-then-eq-clause-found
returns-then-eq-clause-found g c =
    let unclosed = sym (ap (λ (u : Visit). u.rank) c.get-visit.ensures) ∙ c.if-visit-ne0.false in
    (cheapest _ _ _ _ c.requires.searchable c.args.from _ _ _ c.loop-search.invariant.between c.in-Some.first.key c.in-Some.first.vertex _ (taken_of _ _ _ _ c.in-Some.is c.in_ok-first.ensures.taken) (least_of _ _ _ c.in-Some.is c.in_ok-first.ensures.least)
    unclosed c.args.to (same_if _ _ c.if-eq.ensures) _ c.in_ok-close.ensures.written c.in_ok-walk.walk (c.in_ok-walk.ensures.walk (g.G.Graph.arcs c.args.graph.now)
    (turn-tree _ _ _ _ c.requires.searchable c.args.from _ _ _ c.loop-search.invariant.between c.in-Some.first.key c.in-Some.first.vertex _ (taken_of _ _ _ _ c.in-Some.is c.in_ok-first.ensures.taken) (least_of _ _ _ c.in-Some.is c.in_ok-first.ensures.least)
    unclosed _ _ c.in_ok-close.ensures.written c.in_ok-close.ensures.closed))).0

pub returns-then-eq-clause-few : goal.returns-then-eq-clause-few
returns-then-eq-clause-few g c =
    let unclosed = sym (ap (λ (u : Visit). u.rank) c.get-visit.ensures) ∙ c.if-visit-ne0.false in
    (cheapest _ _ _ _ c.requires.searchable c.args.from _ _ _ c.loop-search.invariant.between c.in-Some.first.key c.in-Some.first.vertex _ (taken_of _ _ _ _ c.in-Some.is c.in_ok-first.ensures.taken) (least_of _ _ _ c.in-Some.is c.in_ok-first.ensures.least)
    unclosed c.args.to (same_if _ _ c.if-eq.ensures) _ c.in_ok-close.ensures.written c.in_ok-walk.walk (c.in_ok-walk.ensures.walk (g.G.Graph.arcs c.args.graph.now)
    (turn-tree _ _ _ _ c.requires.searchable c.args.from _ _ _ c.loop-search.invariant.between c.in-Some.first.key c.in-Some.first.vertex _ (taken_of _ _ _ _ c.in-Some.is c.in_ok-first.ensures.taken) (least_of _ _ _ c.in-Some.is c.in_ok-first.ensures.least)
    unclosed _ _ c.in_ok-close.ensures.written c.in_ok-close.ensures.closed))).1

pub returns-then-eq-clause-short : goal.returns-then-eq-clause-short
returns-then-eq-clause-short g c =
    let unclosed = sym (ap (λ (u : Visit). u.rank) c.get-visit.ensures) ∙ c.if-visit-ne0.false in
    let few = closed-fewer _ _ _ _ c.requires.searchable c.args.from _ _ _ c.loop-search.invariant.between c.in-Some.first.key c.in-Some.first.vertex _ (taken_of _ _ _ _ c.in-Some.is c.in_ok-first.ensures.taken)
    (least_of _ _ _ c.in-Some.is c.in_ok-first.ensures.least) unclosed in
    let rank = ap (λ (v : Vertex). (visit_at c.close.new.self.visits v).rank) (sym (same_if _ _ c.if-eq.ensures)) ∙ ap (λ (u : Visit). u.rank) c.in_ok-close.ensures.written.here in
    omega (arith, few, rank, c.in_ok-walk.ensures.short)

pub relax-requires-clause-there : goal.relax-requires-clause-there
relax-requires-clause-there g c =
    vertex-member _ _ _ _ c.requires.searchable c.args.from _ _ _ c.loop-search.invariant.between c.in-Some.first.key c.in-Some.first.vertex _ (taken_of _ _ _ _ c.in-Some.is c.in_ok-first.ensures.taken) (least_of _ _ _ c.in-Some.is c.in_ok-first.ensures.least)
    (sym (ap (λ (u : Visit). u.rank) c.get-visit.ensures) ∙ c.if-visit-ne0.false)

pub relax-requires-clause-cost : goal.relax-requires-clause-cost
relax-requires-clause-cost g c =
    ap (λ (u : Visit). u.cost) c.get-visit.ensures ∙ sym (ap (λ (u : Visit). u.cost) c.in_ok-close.ensures.written.here)

pub relax-requires-clause-last : goal.relax-requires-clause-last
relax-requires-clause-last g c =
    let key = vertex-key _ _ _ _ c.requires.searchable c.args.from _ _ _ c.loop-search.invariant.between c.in-Some.first.key c.in-Some.first.vertex _
    (taken_of _ _ _ _ c.in-Some.is c.in_ok-first.ensures.taken) (least_of _ _ _ c.in-Some.is c.in_ok-first.ensures.least)
    (sym (ap (λ (u : Visit). u.rank) c.get-visit.ensures) ∙ c.if-visit-ne0.false) in
    let last = last_of _ _ _ c.in-Some.is c.in_ok-first.ensures.last in
    let kept = ap (λ (waiting : Queue). waiting.last) c.in_ok-close.ensures.waiting in
    let cost = ap (λ (u : Visit). u.cost) c.get-visit.ensures in
    omega (arith, key, last, kept, cost)

pub relax-requires-clause-few : goal.relax-requires-clause-few
relax-requires-clause-few g c =
    turn-few _ _ _ _ c.requires.searchable c.args.from _ _ _ c.loop-search.invariant.between c.in-Some.first.key c.in-Some.first.vertex _ (taken_of _ _ _ _ c.in-Some.is c.in_ok-first.ensures.taken) (least_of _ _ _ c.in-Some.is c.in_ok-first.ensures.least)
    (sym (ap (λ (u : Visit). u.rank) c.get-visit.ensures) ∙ c.if-visit-ne0.false) _ _ c.in_ok-close.ensures.written c.in_ok-close.ensures.closed

pub relax-requires-clause-known : goal.relax-requires-clause-known
relax-requires-clause-known g c =
    subst
    (λ (waiting : Queue). IsKnown (g.G.Graph.vertices c.args.graph.now) (g.G.Graph.estimates c.args.graph.now) (visit_at c.close.new.self.visits) waiting.entries
    (c.close.new.self.closed * g.G.Graph.heaviest c.args.graph.now) c.close.new.self.closed) (sym c.in_ok-close.ensures.waiting)
    (turn-known _ _ _ _ c.requires.searchable c.args.from _ _ _ c.loop-search.invariant.between c.in-Some.first.key c.in-Some.first.vertex _ (taken_of _ _ _ _ c.in-Some.is c.in_ok-first.ensures.taken) (least_of _ _ _ c.in-Some.is c.in_ok-first.ensures.least)
    (sym (ap (λ (u : Visit). u.rank) c.get-visit.ensures) ∙ c.if-visit-ne0.false) _ _ c.in_ok-close.ensures.written c.in_ok-close.ensures.closed)

pub relax-requires-clause-closing : goal.relax-requires-clause-closing
relax-requires-clause-closing g c =
    turn-closing _ _ _ _ c.requires.searchable c.args.from _ _ _ c.loop-search.invariant.between c.in-Some.first.key c.in-Some.first.vertex _ (taken_of _ _ _ _ c.in-Some.is c.in_ok-first.ensures.taken) (least_of _ _ _ c.in-Some.is c.in_ok-first.ensures.least)
    (sym (ap (λ (u : Visit). u.rank) c.get-visit.ensures) ∙ c.if-visit-ne0.false) _ _ c.in_ok-close.ensures.written c.in_ok-close.ensures.closed

pub relax-requires-clause-relaxing : goal.relax-requires-clause-relaxing
relax-requires-clause-relaxing g c =
    turn-relaxing _ _ _ _ c.requires.searchable c.args.from _ _ _ c.loop-search.invariant.between c.in-Some.first.key c.in-Some.first.vertex _ (taken_of _ _ _ _ c.in-Some.is c.in_ok-first.ensures.taken) (least_of _ _ _ c.in-Some.is c.in_ok-first.ensures.least)
    (sym (ap (λ (u : Visit). u.rank) c.get-visit.ensures) ∙ c.if-visit-ne0.false) _ _ c.in_ok-close.ensures.written c.in_ok-close.ensures.closed

pub loop-search-smaller : goal.loop-search-smaller
loop-search-smaller g c =
    let rest : length c.close.new.self.waiting.entries ≡ length c.pop.new.self.entries =
    ap (λ (waiting : Queue). length waiting.entries) c.in_ok-close.ensures.waiting in
    let more : length c.relax.new.self.waiting.entries ≤ length c.close.new.self.waiting.entries + length (g.G.Graph.arcs c.args.graph.now c.in-Some.first.vertex) =
    c.in_ok-relax.ensures.more in
    work-turned _ _ _ _ c.requires.searchable c.args.from _ _ _ c.loop-search.invariant.between c.in-Some.first.key c.in-Some.first.vertex _ (taken_of _ _ _ _ c.in-Some.is c.in_ok-first.ensures.taken) (least_of _ _ _ c.in-Some.is c.in_ok-first.ensures.least)
    (sym (ap (λ (u : Visit). u.rank) c.get-visit.ensures) ∙ c.if-visit-ne0.false) _ _ c.in_ok-close.ensures.written c.in_ok-close.ensures.closed _ _ c.in_ok-relax.ensures.ranks
    (omega (arith, more, rest))

pub loop-search-preserved : goal.loop-search-preserved
loop-search-preserved g c = record {
  between = subst
      (λ (n : ℕ). IsBetween (g.G.Graph.vertices c.args.graph.now) (g.G.Graph.arcs c.args.graph.now) (g.G.Graph.estimates c.args.graph.now) (g.G.Graph.heaviest c.args.graph.now) c.args.from
      (visit_at c.relax.new.self.visits) c.relax.new.self.waiting.entries n) (sym c.relax.ensures.closed)
      (between-turned _ _ _ _ c.requires.searchable c.args.from _ _ _ c.loop-search.invariant.between c.in-Some.first.key c.in-Some.first.vertex _ (taken_of _ _ _ _ c.in-Some.is c.in_ok-first.ensures.taken) (least_of _ _ _ c.in-Some.is c.in_ok-first.ensures.least)
      (sym (ap (λ (u : Visit). u.rank) c.get-visit.ensures) ∙ c.if-visit-ne0.false) _ _ c.in_ok-close.ensures.written c.in_ok-close.ensures.closed _ _ c.in_ok-relax.ensures.ranks
      (c.in_ok-relax.ensures.tree c.args.from
      (turn-tree _ _ _ _ c.requires.searchable c.args.from _ _ _ c.loop-search.invariant.between c.in-Some.first.key c.in-Some.first.vertex _ (taken_of _ _ _ _ c.in-Some.is c.in_ok-first.ensures.taken) (least_of _ _ _ c.in-Some.is c.in_ok-first.ensures.least)
      (sym (ap (λ (u : Visit). u.rank) c.get-visit.ensures) ∙ c.if-visit-ne0.false) _ _ c.in_ok-close.ensures.written c.in_ok-close.ensures.closed))
      c.in_ok-relax.ensures.known c.in_ok-relax.ensures.relaxed);
  goal = goal-turned _ _ _ _ c.requires.searchable c.args.from _ _ _ c.loop-search.invariant.between c.in-Some.first.key c.in-Some.first.vertex _ (taken_of _ _ _ _ c.in-Some.is c.in_ok-first.ensures.taken) (least_of _ _ _ c.in-Some.is c.in_ok-first.ensures.least)
      (sym (ap (λ (u : Visit). u.rank) c.get-visit.ensures) ∙ c.if-visit-ne0.false) _ _ c.in_ok-close.ensures.written c.in_ok-close.ensures.closed _ c.relax.new.self.waiting.entries c.in_ok-relax.ensures.ranks
      c.args.to (apart_if_not _ _ c.if-eq.ensures) c.loop-search.invariant.goal;
}

pub returns-clause-none : goal.returns-clause-none
returns-clause-none g c =
    apart _ _ _ _ c.requires.searchable c.args.from _ _ _ c.loop-search.invariant.between c.args.to c.loop-search.invariant.goal (none_left c.in_ok-first.field-0 _ c.in_default.not-Some c.in_ok-first.ensures.none)

pub returns-in_err-search-clause-found : goal.returns-in_err-search-clause-found
returns-in_err-search-clause-found g c = IfOk-from_err c.from_residual.result _ c.from_residual.ensures.0

pub returns-in_err-search-clause-few : goal.returns-in_err-search-clause-few
returns-in_err-search-clause-few g c = IfOk-from_err c.from_residual.result _ c.from_residual.ensures.0

pub returns-in_err-search-clause-none : goal.returns-in_err-search-clause-none
returns-in_err-search-clause-none g c = IfOk-from_err c.from_residual.result _ c.from_residual.ensures.0

pub returns-in_err-close-clause-found : goal.returns-in_err-close-clause-found
returns-in_err-close-clause-found g c = IfOk-from_err c.from_residual-in_err-close.result _ c.from_residual-in_err-close.ensures.0

pub returns-in_err-close-clause-few : goal.returns-in_err-close-clause-few
returns-in_err-close-clause-few g c = IfOk-from_err c.from_residual-in_err-close.result _ c.from_residual-in_err-close.ensures.0

pub returns-in_err-close-clause-none : goal.returns-in_err-close-clause-none
returns-in_err-close-clause-none g c = IfOk-from_err c.from_residual-in_err-close.result _ c.from_residual-in_err-close.ensures.0

pub returns-in_err-walk-clause-found : goal.returns-in_err-walk-clause-found
returns-in_err-walk-clause-found g c = IfOk-from_err c.from_residual-in_err-walk.result _ c.from_residual-in_err-walk.ensures.0

pub returns-in_err-walk-clause-few : goal.returns-in_err-walk-clause-few
returns-in_err-walk-clause-few g c = IfOk-from_err c.from_residual-in_err-walk.result _ c.from_residual-in_err-walk.ensures.0

pub returns-in_err-walk-clause-none : goal.returns-in_err-walk-clause-none
returns-in_err-walk-clause-none g c = IfOk-from_err c.from_residual-in_err-walk.result _ c.from_residual-in_err-walk.ensures.0

pub returns-in_err-relax-clause-found : goal.returns-in_err-relax-clause-found
returns-in_err-relax-clause-found g c = IfOk-from_err c.from_residual-in_err-relax.result _ c.from_residual-in_err-relax.ensures.0

pub returns-in_err-relax-clause-few : goal.returns-in_err-relax-clause-few
returns-in_err-relax-clause-few g c = IfOk-from_err c.from_residual-in_err-relax.result _ c.from_residual-in_err-relax.ensures.0

pub returns-in_err-relax-clause-none : goal.returns-in_err-relax-clause-none
returns-in_err-relax-clause-none g c = IfOk-from_err c.from_residual-in_err-relax.result _ c.from_residual-in_err-relax.ensures.0

pub returns-in_err-first-clause-found : goal.returns-in_err-first-clause-found
returns-in_err-first-clause-found g c = IfOk-from_err c.from_residual-in_err-first.result _ c.from_residual-in_err-first.ensures.0

pub returns-in_err-first-clause-few : goal.returns-in_err-first-clause-few
returns-in_err-first-clause-few g c = IfOk-from_err c.from_residual-in_err-first.result _ c.from_residual-in_err-first.ensures.0

pub returns-in_err-first-clause-none : goal.returns-in_err-first-clause-none
returns-in_err-first-clause-none g c = IfOk-from_err c.from_residual-in_err-first.result _ c.from_residual-in_err-first.ensures.0

pub returns-in_err-search-clause-short : goal.returns-in_err-search-clause-short
returns-in_err-search-clause-short g c = IfOk-from_err c.from_residual.result _ c.from_residual.ensures.0

pub returns-in_err-close-clause-short : goal.returns-in_err-close-clause-short
returns-in_err-close-clause-short g c = IfOk-from_err c.from_residual-in_err-close.result _ c.from_residual-in_err-close.ensures.0

pub returns-in_err-walk-clause-short : goal.returns-in_err-walk-clause-short
returns-in_err-walk-clause-short g c = IfOk-from_err c.from_residual-in_err-walk.result _ c.from_residual-in_err-walk.ensures.0

pub returns-in_err-relax-clause-short : goal.returns-in_err-relax-clause-short
returns-in_err-relax-clause-short g c = IfOk-from_err c.from_residual-in_err-relax.result _ c.from_residual-in_err-relax.ensures.0

pub returns-in_err-first-clause-short : goal.returns-in_err-first-clause-short
returns-in_err-first-clause-short g c = IfOk-from_err c.from_residual-in_err-first.result _ c.from_residual-in_err-first.ensures.0
