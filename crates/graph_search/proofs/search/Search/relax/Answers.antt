use Rattle.std.proofs.Common.{◌≡◌, ℕ, List, [], ◌++◌, length, get_or, arith, ap, subst, sym, ◌∙◌}
use Rattle.std.proofs.Math.ListN.{get_or-map}
use Rattle.std.proofs.lemmas.List.{length-map}
use Rattle.std.proofs.lemmas.Result.{IfOk-from_err}
use Rattle.graph_search.specs.declared.graph.Arc.{Arc}
use Rattle.graph_search.specs.declared.graph.Vertex.{Vertex}
use Rattle.graph_search.specs.Walks.{no_arc, ends_of}
use Rattle.graph_search.specs.Visited.{visit_at}
use Rattle.graph_search.specs.Searching.{AreBeingRelaxed}
use Rattle.graph_search.proofs.Relaxing.{all-relaxed, following-then}
use Rattle.graph_search.proofs.search.Search.relax.Goals as goal

-- the vertices that arcs enter are as many as the arcs, in their order
as_many : (arcs : List Arc) (ends : List Vertex) → ends ≡ ends_of arcs → length ends ≡ length arcs
as_many arcs ends is = ap length is ∙ length-map arcs (λ (arc : Arc). arc.to)

end_at : (arcs : List Arc) (ends : List Vertex) (place : ℕ) → ends ≡ ends_of arcs → (get_or arcs place no_arc).to ≡ get_or ends place (record { block = 0; place = 0 })
end_at arcs ends place is =
    sym (ap (λ (vertices : List Vertex). get_or vertices place (record { block = 0; place = 0 })) is ∙ get_or-map (λ (arc : Arc). arc.to) arcs place no_arc)

-- the vertices that arcs enter, as they were appended to nothing
ends_are : (arcs : List Arc) (cleared pushed ends : List Vertex) → cleared ≡ [] → pushed ≡ cleared ++ ends_of arcs → ends ≡ pushed → ends ≡ ends_of arcs
ends_are arcs cleared pushed ends none are same = same ∙ are ∙ ap (λ (before : List Vertex). before ++ ends_of arcs) none

pub follow-requires-clause-place : goal.follow-requires-clause-place
follow-requires-clause-place g c =
    omega (arith, as_many _ _ (ends_are _ _ _ _ c.clear.ensures.items c.in_ok-push_ends.ensures c.as_slice-ends.ensures.value), c.loop-place-test.true)

pub follow-requires-clause-end : goal.follow-requires-clause-end
follow-requires-clause-end g c =
    end_at _ _ c.loop-place.place (ends_are _ _ _ _ c.clear.ensures.items c.in_ok-push_ends.ensures c.as_slice-ends.ensures.value)

pub returns-in_err-push_ends-clause-relaxed : goal.returns-in_err-push_ends-clause-relaxed
returns-in_err-push_ends-clause-relaxed g c = IfOk-from_err c.from_residual.result _ c.from_residual.ensures.0

pub returns-in_err-push_ends-clause-tree : goal.returns-in_err-push_ends-clause-tree
returns-in_err-push_ends-clause-tree g c = IfOk-from_err c.from_residual.result _ c.from_residual.ensures.0

pub returns-in_err-push_ends-clause-ranks : goal.returns-in_err-push_ends-clause-ranks
returns-in_err-push_ends-clause-ranks g c = IfOk-from_err c.from_residual.result _ c.from_residual.ensures.0

pub returns-in_err-follow-clause-relaxed : goal.returns-in_err-follow-clause-relaxed
returns-in_err-follow-clause-relaxed g c = IfOk-from_err c.from_residual-in_err-follow.result _ c.from_residual-in_err-follow.ensures.0

pub returns-in_err-follow-clause-tree : goal.returns-in_err-follow-clause-tree
returns-in_err-follow-clause-tree g c = IfOk-from_err c.from_residual-in_err-follow.result _ c.from_residual-in_err-follow.ensures.0

pub returns-in_err-follow-clause-ranks : goal.returns-in_err-follow-clause-ranks
returns-in_err-follow-clause-ranks g c = IfOk-from_err c.from_residual-in_err-follow.result _ c.from_residual-in_err-follow.ensures.0

pub returns-in_err-push_ends-clause-known : goal.returns-in_err-push_ends-clause-known
returns-in_err-push_ends-clause-known g c = IfOk-from_err c.from_residual.result _ c.from_residual.ensures.0

pub returns-in_err-push_ends-clause-more : goal.returns-in_err-push_ends-clause-more
returns-in_err-push_ends-clause-more g c = IfOk-from_err c.from_residual.result _ c.from_residual.ensures.0

pub returns-in_err-follow-clause-known : goal.returns-in_err-follow-clause-known
returns-in_err-follow-clause-known g c = IfOk-from_err c.from_residual-in_err-follow.result _ c.from_residual-in_err-follow.ensures.0

pub returns-in_err-follow-clause-more : goal.returns-in_err-follow-clause-more
returns-in_err-follow-clause-more g c = IfOk-from_err c.from_residual-in_err-follow.result _ c.from_residual-in_err-follow.ensures.0

pub loop-place-preserved : goal.loop-place-preserved
loop-place-preserved g c = record {
  following = following-then _ _ _ _ _ _ _ _ _ _ _ _ _ c.loop-place.invariant.following (rw c.loop-place.invariant.closed at c.in_ok-follow.ensures.followed);
  closed = c.in_ok-follow.ensures.closed ∙ c.loop-place.invariant.closed;
  last = c.follow.ensures.last ∙ c.loop-place.invariant.last;
}

pub returns-clause-relaxed : goal.returns-clause-relaxed
returns-clause-relaxed g c =
    let count = as_many _ _ (ends_are _ _ _ _ c.clear.ensures.items c.in_ok-push_ends.ensures c.as_slice-ends.ensures.value) in
    all-relaxed _ _ c.args.turn.vertex
    (subst (λ (n : ℕ). AreBeingRelaxed (g.G.Graph.arcs c.args.graph.now) (visit_at c.loop-place.self.visits) c.args.turn.vertex n)
    (omega (arith, count, c.loop-place-test.false, c.loop-place.auto.place-end)) c.loop-place.invariant.following.relaxing)

pub returns-clause-more : goal.returns-clause-more
returns-clause-more g c =
    let count = as_many _ _ (ends_are _ _ _ _ c.clear.ensures.items c.in_ok-push_ends.ensures c.as_slice-ends.ensures.value) in
    omega (arith, count, c.loop-place.auto.place-end, c.loop-place.invariant.following.more)
