use Rattle.std.proofs.Common.{◌∙◌, List, ap, refl, sym, subst}
use Rattle.std.specs.Prelude.{slice_get}
use Rattle.std.proofs.lemmas.Option.{slice_get-get_or}
use Rattle.graph_search.specs.declared.exploring.ReachedVertex.{ReachedVertex}
use Rattle.path_queries.specs.Floods.{IsFlood}
use Rattle.path_queries.specs.Searches.{AreViaNoLater, flooded_of}
use Rattle.path_queries.proofs.FloodLaws.{flood-is}
use Rattle.path_queries.proofs.Reaching.{reached-there, via-no-later}
use Rattle.path_queries.proofs.WayParts.{located-there}
use Rattle.path_queries.proofs.floods.flood_in.Goals as goal

pub returns-in_default : goal.returns-in_default
returns-in_default c = record { right = c.in_default.ensures.none.0 refl }

pub polygons_of-requires-clause-there : goal.polygons_of-requires-clause-there
polygons_of-requires-clause-there c k d below =
    let first = located-there c.args.mesh.now c.args.query.now.at c.args.query.now.y c.in-Some.first c.in-Some.ensures.located in
    reached-there _ _ _ _ _ _ _ c.requires.sound first c.in_ok-found.ensures k _
    (ap (λ (list : List ReachedVertex). slice_get list k) (sym c.as_slice.ensures.value) ∙ slice_get-get_or c.as_slice.result.now k d below)

pub polygons_of-requires-clause-via : goal.polygons_of-requires-clause-via
polygons_of-requires-clause-via c =
    let first = located-there c.args.mesh.now c.args.query.now.at c.args.query.now.y c.in-Some.first c.in-Some.ensures.located in
    subst AreViaNoLater (sym c.as_slice.ensures.value) (via-no-later _ _ _ _ _ _ _ c.requires.sound first c.in_ok-found.ensures)

pub returns : goal.returns
returns c =
    let mesh = c.args.mesh.now in
    let filter = c.args.query.now.filter in
    let first = located-there mesh c.args.query.now.at c.args.query.now.y c.in-Some.first c.in-Some.ensures.located in
    record {
      right = record {
        first = c.in-Some.first;
        start = c.in-Some.ensures.located;
        flood = subst (IsFlood mesh filter c.in-Some.first c.args.query.now.most_cost)
            (sym (c.in_ok-list.ensures ∙ ap (flooded_of mesh filter.areas c.in-Some.first) c.as_slice.ensures.value))
            (flood-is mesh filter c.in-Some.first _ _ _ c.requires.sound first c.in_ok-found.ensures refl);
      };
    }
