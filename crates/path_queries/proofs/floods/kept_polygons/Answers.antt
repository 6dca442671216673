use Rattle.std.proofs.Common.{ap, sym, arith, length, ◌∙◌, List, ◌∷◌, [], ℕ}
use Rattle.std.proofs.lemmas.List.{length-append}
use Rattle.std.specs.declared.alloc.Global.{Global}
use Rattle.std.specs.declared.vec.Vec.{Vec}
use Rattle.path_queries.specs.declared.floods.Flooded.{Flooded}
use Rattle.path_queries.specs.FilteredGraphs.{leads_on}
use Rattle.path_queries.proofs.FloodLoops.{items-kept, items-left, places-more, via-no-later-at}
use Rattle.path_queries.proofs.floods.kept_polygons.Goals as goal
use Rattle.path_queries.proofs.floods.kept_polygons.Goals.{then-leads_on+in_ok-push-2, else-leads_on}

pub index-via-requires : goal.index-via-requires
index-via-requires c =
    let less = via-no-later-at c.args.reached.now c.loop-entry.entry-index c.requires.via c.loop-entry-test.true in
    omega (arith, less, c.in_ok-push.ensures.len, c.loop-entry.places.ok.0, c.loop-entry.invariant.count)

pub loop-entry-preserved : goal.loop-entry-preserved
loop-entry-preserved c =
    let mesh = c.args.mesh.now in
    let areas = c.args.areas in
    let first = c.args.first in
    let list = c.args.reached.now in
    let i = c.loop-entry.entry-index in
    let same = ap (leads_on mesh areas first) (sym c.polygon_at-at.ensures) ∙ sym c.leads_on.ensures in
    let less = via-no-later-at list i c.requires.via c.loop-entry-test.true in
    let places = places-more mesh areas first list i c.loop-entry-test.true _ _ _ _ c.loop-entry.invariant.items (c.len.ensures ∙ c.loop-entry.list.ok.0)
    c.loop-entry.invariant.count c.in_ok-push.ensures.items c.loop-entry.invariant.places in
    record {
      items = elim c.if-leads_on.branch [
        | then-leads_on+in_ok-push-2 w ↦
            items-kept mesh areas first list i c.loop-entry-test.true _ _ _ _ c.loop-entry.invariant.items (same ∙ w.if-leads_on.true)
            c.polygon_at-at.ensures (w.index-via.ensures ∙ places _ _ (omega (arith, less)))
            (ap (λ (v : Vec Flooded Global). v.items) w.list-is ∙ w.in_ok-push-2.ensures.items)
        | else-leads_on w ↦
            ap (λ (v : Vec Flooded Global). v.items) w.list-is
            ∙ items-left mesh areas first list i c.loop-entry-test.true _ c.loop-entry.invariant.items (same ∙ w.if-leads_on.false)
      ];
      count = ap (λ (xs : List ℕ). length xs) c.in_ok-push.ensures.items ∙ omega (arith, length-append c.loop-entry.places.items (c.len.result ∷ []), c.loop-entry.invariant.count);
      places = places;
    }
