use Rattle.std.proofs.Common.{◌≡◌, ℕ, ◌*◌, ◌+◌, ◌≤◌, ◌∙◌, ◌++◌, ◌∷◌, [], length, sym, subst, ap, arith}
use Rattle.graph_search.specs.declared.exploring.ReachedVertex.{ReachedVertex}
use Rattle.graph_search.specs.declared.visits.Visit.{Visit}
use Rattle.graph_search.specs.Visited.{visit_at, IsClosed}
use Rattle.graph_search.specs.Entries.{Queue}
use Rattle.graph_search.specs.Searching.{IsKnown}
use Rattle.graph_search.proofs.Listing.{listing-begun, listing-same, listing-kept, explored-same, explored-all, explored-limit, explored-stop, listing-closed}
use Rattle.graph_search.proofs.Turns.{taken_of, least_of, last_of, between-begun, work-dropped, between-dropped, turn-tree, vertex-key, vertex-member, turn-few, turn-known, turn-closing, turn-relaxing, work-turned, between-turned, none_left, IsBetween}
use Rattle.graph_search.proofs.exploring.search_within.Goals as goal

pub loop-reached-init : goal.loop-reached-init
loop-reached-init g c = record {
  between = between-begun _ _ _ _ c.args.from _ _ c.estimate.result _ c.requires.there c.in_ok-search.ensures.begun c.estimate.ensures c.in_ok-search.ensures.waiting
      c.in_ok-search.ensures.closed;
  listing = listing-begun _ _ _ _ _ _ _ _ _ c.in_ok-search.ensures.closed c.new-reached.ensures.items c.in_ok-search.ensures.begun.unclosed;
}

pub loop-reached-smaller-then-visit-ne0 : goal.loop-reached-smaller-then-visit-ne0
loop-reached-smaller-then-visit-ne0 g c =
    work-dropped _ _ _ _ c.requires.searchable c.args.from _ _ _ c.loop-reached.invariant.between c.in-Some.first.key c.in-Some.first.vertex c.pop.new.self.entries
    (taken_of _ _ _ _ c.in-Some.is c.in_ok-first.ensures.taken)

pub loop-reached-preserved-then-visit-ne0 : goal.loop-reached-preserved-then-visit-ne0
loop-reached-preserved-then-visit-ne0 g c =
    let rank = ap (λ (u : Visit). u.rank) c.get-visit.ensures in
    let is_closed : IsClosed (visit_at c.loop-reached.search.visits c.in-Some.first.vertex) = omega (arith, rank, c.if-visit-ne0.true) in
    record { between = between-dropped _ _ _ _ c.requires.searchable c.args.from _ _ _ c.loop-reached.invariant.between c.in-Some.first.key c.in-Some.first.vertex _ (taken_of _ _ _ _ c.in-Some.is c.in_ok-first.ensures.taken) is_closed; listing = c.loop-reached.invariant.listing }

pub returns-then-is_beyond : goal.returns-then-is_beyond
returns-then-is_beyond g c =
    explored-limit _ _ _ _ c.requires.searchable c.args.from _ _ _ c.loop-reached.invariant.between _ _ _ c.loop-reached.invariant.listing c.in-Some.first.key c.in-Some.first.vertex _ (taken_of _ _ _ _ c.in-Some.is c.in_ok-first.ensures.taken) (least_of _ _ _ c.in-Some.is c.in_ok-first.ensures.least) (sym (ap (λ (u : Visit). u.rank) c.get-visit.ensures) ∙ c.if-visit-ne0.false) c.if-is_beyond.ensures

pub returns-then-is_stop : goal.returns-then-is_stop
returns-then-is_stop g c =
    explored-same _ _ _ _ _ _ _ _ _ _ (ap (λ (x : ReachedVertex). c.loop-reached.reached.items ++ x ∷ []) (sym c.reached_as.ensures) ∙ sym c.in_ok-push.ensures.items)
    (explored-stop _ _ _ _ c.requires.searchable c.args.from _ _ _ c.loop-reached.invariant.between _ _ _ c.loop-reached.invariant.listing c.in-Some.first.key c.in-Some.first.vertex _ (taken_of _ _ _ _ c.in-Some.is c.in_ok-first.ensures.taken) (least_of _ _ _ c.in-Some.is c.in_ok-first.ensures.least) (sym (ap (λ (u : Visit). u.rank) c.get-visit.ensures) ∙ c.if-visit-ne0.false) c.if-is_beyond.ensures _ _ c.in_ok-close.ensures.written c.in_ok-close.ensures.closed c.if-is_stop.ensures)

pub relax-requires-clause-there : goal.relax-requires-clause-there
relax-requires-clause-there g c = vertex-member _ _ _ _ c.requires.searchable c.args.from _ _ _ c.loop-reached.invariant.between c.in-Some.first.key c.in-Some.first.vertex _ (taken_of _ _ _ _ c.in-Some.is c.in_ok-first.ensures.taken) (least_of _ _ _ c.in-Some.is c.in_ok-first.ensures.least) (sym (ap (λ (u : Visit). u.rank) c.get-visit.ensures) ∙ c.if-visit-ne0.false)

pub relax-requires-clause-cost : goal.relax-requires-clause-cost
relax-requires-clause-cost g c =
    ap (λ (u : Visit). u.cost) c.get-visit.ensures ∙ sym (ap (λ (u : Visit). u.cost) c.in_ok-close.ensures.written.here)

pub relax-requires-clause-last : goal.relax-requires-clause-last
relax-requires-clause-last g c =
    let key = vertex-key _ _ _ _ c.requires.searchable c.args.from _ _ _ c.loop-reached.invariant.between c.in-Some.first.key c.in-Some.first.vertex _ (taken_of _ _ _ _ c.in-Some.is c.in_ok-first.ensures.taken) (least_of _ _ _ c.in-Some.is c.in_ok-first.ensures.least) (sym (ap (λ (u : Visit). u.rank) c.get-visit.ensures) ∙ c.if-visit-ne0.false) in
    let last = last_of _ _ _ c.in-Some.is c.in_ok-first.ensures.last in
    let kept = ap (λ (waiting : Queue). waiting.last) c.in_ok-close.ensures.waiting in
    let cost = ap (λ (u : Visit). u.cost) c.get-visit.ensures in
    omega (arith, key, last, kept, cost)

pub relax-requires-clause-few : goal.relax-requires-clause-few
relax-requires-clause-few g c = turn-few _ _ _ _ c.requires.searchable c.args.from _ _ _ c.loop-reached.invariant.between c.in-Some.first.key c.in-Some.first.vertex _ (taken_of _ _ _ _ c.in-Some.is c.in_ok-first.ensures.taken) (least_of _ _ _ c.in-Some.is c.in_ok-first.ensures.least) (sym (ap (λ (u : Visit). u.rank) c.get-visit.ensures) ∙ c.if-visit-ne0.false) _ _ c.in_ok-close.ensures.written c.in_ok-close.ensures.closed

pub relax-requires-clause-known : goal.relax-requires-clause-known
relax-requires-clause-known g c =
    subst
    (λ (waiting : Queue). IsKnown (g.G.Graph.vertices c.args.graph.now) (g.G.Graph.estimates c.args.graph.now) (visit_at c.close.new.self.visits) waiting.entries
    (c.close.new.self.closed * g.G.Graph.heaviest c.args.graph.now) c.close.new.self.closed) (sym c.in_ok-close.ensures.waiting)
    (turn-known _ _ _ _ c.requires.searchable c.args.from _ _ _ c.loop-reached.invariant.between c.in-Some.first.key c.in-Some.first.vertex _ (taken_of _ _ _ _ c.in-Some.is c.in_ok-first.ensures.taken) (least_of _ _ _ c.in-Some.is c.in_ok-first.ensures.least) (sym (ap (λ (u : Visit). u.rank) c.get-visit.ensures) ∙ c.if-visit-ne0.false) _ _ c.in_ok-close.ensures.written c.in_ok-close.ensures.closed)

pub relax-requires-clause-closing : goal.relax-requires-clause-closing
relax-requires-clause-closing g c = turn-closing _ _ _ _ c.requires.searchable c.args.from _ _ _ c.loop-reached.invariant.between c.in-Some.first.key c.in-Some.first.vertex _ (taken_of _ _ _ _ c.in-Some.is c.in_ok-first.ensures.taken) (least_of _ _ _ c.in-Some.is c.in_ok-first.ensures.least) (sym (ap (λ (u : Visit). u.rank) c.get-visit.ensures) ∙ c.if-visit-ne0.false) _ _ c.in_ok-close.ensures.written c.in_ok-close.ensures.closed

pub relax-requires-clause-relaxing : goal.relax-requires-clause-relaxing
relax-requires-clause-relaxing g c = turn-relaxing _ _ _ _ c.requires.searchable c.args.from _ _ _ c.loop-reached.invariant.between c.in-Some.first.key c.in-Some.first.vertex _ (taken_of _ _ _ _ c.in-Some.is c.in_ok-first.ensures.taken) (least_of _ _ _ c.in-Some.is c.in_ok-first.ensures.least) (sym (ap (λ (u : Visit). u.rank) c.get-visit.ensures) ∙ c.if-visit-ne0.false) _ _ c.in_ok-close.ensures.written c.in_ok-close.ensures.closed

pub loop-reached-smaller : goal.loop-reached-smaller
loop-reached-smaller g c =
    let rest : length c.close.new.self.waiting.entries ≡ length c.pop.new.self.entries =
    ap (λ (waiting : Queue). length waiting.entries) c.in_ok-close.ensures.waiting in
    let more : length c.relax.new.self.waiting.entries ≤ length c.close.new.self.waiting.entries + length (g.G.Graph.arcs c.args.graph.now c.in-Some.first.vertex) =
    c.in_ok-relax.ensures.more in
    work-turned _ _ _ _ c.requires.searchable c.args.from _ _ _ c.loop-reached.invariant.between c.in-Some.first.key c.in-Some.first.vertex _ (taken_of _ _ _ _ c.in-Some.is c.in_ok-first.ensures.taken) (least_of _ _ _ c.in-Some.is c.in_ok-first.ensures.least) (sym (ap (λ (u : Visit). u.rank) c.get-visit.ensures) ∙ c.if-visit-ne0.false) _ _ c.in_ok-close.ensures.written c.in_ok-close.ensures.closed _ _ c.in_ok-relax.ensures.ranks (omega (arith, more, rest))

pub loop-reached-preserved : goal.loop-reached-preserved
loop-reached-preserved g c = record {
  between = subst
      (λ (n : ℕ). IsBetween (g.G.Graph.vertices c.args.graph.now) (g.G.Graph.arcs c.args.graph.now) (g.G.Graph.estimates c.args.graph.now) (g.G.Graph.heaviest c.args.graph.now) c.args.from
      (visit_at c.relax.new.self.visits) c.relax.new.self.waiting.entries n) (sym c.relax.ensures.closed)
      (between-turned _ _ _ _ c.requires.searchable c.args.from _ _ _ c.loop-reached.invariant.between c.in-Some.first.key c.in-Some.first.vertex _ (taken_of _ _ _ _ c.in-Some.is c.in_ok-first.ensures.taken) (least_of _ _ _ c.in-Some.is c.in_ok-first.ensures.least) (sym (ap (λ (u : Visit). u.rank) c.get-visit.ensures) ∙ c.if-visit-ne0.false) _ _ c.in_ok-close.ensures.written c.in_ok-close.ensures.closed _ _ c.in_ok-relax.ensures.ranks
      (c.in_ok-relax.ensures.tree c.args.from (turn-tree _ _ _ _ c.requires.searchable c.args.from _ _ _ c.loop-reached.invariant.between c.in-Some.first.key c.in-Some.first.vertex _ (taken_of _ _ _ _ c.in-Some.is c.in_ok-first.ensures.taken) (least_of _ _ _ c.in-Some.is c.in_ok-first.ensures.least) (sym (ap (λ (u : Visit). u.rank) c.get-visit.ensures) ∙ c.if-visit-ne0.false) _ _ c.in_ok-close.ensures.written c.in_ok-close.ensures.closed))
      c.in_ok-relax.ensures.known c.in_ok-relax.ensures.relaxed);
  listing = listing-same _ _ _ _ _ _ _ _ _ _ _ (ap (λ (x : ReachedVertex). c.loop-reached.reached.items ++ x ∷ []) (sym c.reached_as.ensures) ∙ sym c.in_ok-push.ensures.items) (sym c.relax.ensures.closed)
      (listing-kept _ _ _ _ _ _ _ _ _ _ c.in_ok-relax.ensures.ranks
      (listing-closed _ _ _ _ c.requires.searchable c.args.from _ _ _ c.loop-reached.invariant.between _ _ _ c.loop-reached.invariant.listing c.in-Some.first.key c.in-Some.first.vertex _ (taken_of _ _ _ _ c.in-Some.is c.in_ok-first.ensures.taken) (least_of _ _ _ c.in-Some.is c.in_ok-first.ensures.least) (sym (ap (λ (u : Visit). u.rank) c.get-visit.ensures) ∙ c.if-visit-ne0.false) c.if-is_beyond.ensures _ _ c.in_ok-close.ensures.written c.in_ok-close.ensures.closed c.if-is_stop.ensures));
}

pub returns : goal.returns
returns g c =
    explored-all _ _ _ _ c.requires.searchable c.args.from _ _ _ c.loop-reached.invariant.between _ _ _ c.loop-reached.invariant.listing
    (none_left c.in_ok-first.field-0 _ c.in_default.not-Some c.in_ok-first.ensures.none)
