use Rattle.std.proofs.Common.{sym, subst, ap, ◌∙◌}
use Rattle.std.specs.Prelude.{slice_index_or}
use Rattle.std.proofs.lemmas.Option.{slice_get-get_or}
use Rattle.path_queries.specs.FilteredGraphs.{leads_on}
use Rattle.path_queries.specs.Spots.{IsKeptAt}
use Rattle.corridor_search.specs.MeshGraphs.{IsThere}
use Rattle.path_queries.proofs.FloodLoops.{no_entry}
use Rattle.path_queries.proofs.spots.likely_place.Goals as goal
use Rattle.path_queries.proofs.spots.likely_place.Goals.{then-leads_on+then-bound-least, then-leads_on+else-bound-least, else-leads_on}

pub least_near-bound-requires-clause-there : goal.least_near-bound-requires-clause-there
least_near-bound-requires-clause-there c =
    subst (IsThere c.args.mesh.now) (sym c.polygon_at-at.ensures) (c.requires.there c.loop-place.place no_entry c.loop-place-test.true)

pub loop-place-preserved : goal.loop-place-preserved
loop-place-preserved c =
    let mesh = c.args.mesh.now in
    let list = c.args.reached.now in
    let place = c.loop-place.place in
    elim c.if-leads_on.branch [
      | then-leads_on+then-bound-least w ↦
          subst (IsKeptAt mesh c.args.areas c.args.first list) (sym w.likely-is)
          (record {
            entry = slice_index_or list place no_entry;
            there = slice_get-get_or list place no_entry c.loop-place-test.true;
            leads = ap (leads_on mesh c.args.areas c.args.first) (sym c.polygon_at-at.ensures) ∙ sym c.leads_on.ensures ∙ w.if-leads_on.true;
          })
      | then-leads_on+else-bound-least w ↦ subst (IsKeptAt mesh c.args.areas c.args.first list) (sym w.likely-is) c.loop-place.invariant
      | else-leads_on w ↦ subst (IsKeptAt mesh c.args.areas c.args.first list) (sym w.likely-is) c.loop-place.invariant
    ]
