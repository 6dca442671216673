use Rattle.std.proofs.Common.{◌≡◌, pos, ◌-◌, ◌<◌, ◌++◌, [], ◌∷◌, List, length, sym, ap, subst, ◌∙◌, arith}
use Rattle.std.specs.Prelude.{Ok, Err, Some}
use Rattle.std.specs.List.{remove, range_with_len}
use Rattle.std.specs.Int.Signed.{lt_z}
use Rattle.std.proofs.lemmas.List.FromFn.{length-range_with_len}
use Rattle.nav_base.specs.declared.point.Point.{Point}
use Rattle.std.proofs.lemmas.List.Edits.{length-remove}
use Rattle.mesh_types.specs.declared.region.Triangle.{Triangle}
use Rattle.mesh_types.specs.Ears.{ArePlacesOf, ears_of, cut_ears, turn_of, triangle_at, best_ear}
use Rattle.mesh_types.proofs.EarLaws.{after, all_places, places-remove, cut-begun, cut-more, cut-none, cut-last, cut-last_none, ears_of-triangles}
use Rattle.mesh_types.proofs.AreaLaws.{ears_of-area}
use Rattle.mesh_types.proofs.EarEdges.{ears_of-once, ears_of-outline}
use Rattle.ear_cut.proofs.cut.ears.Goals as goal

pub loop-rest-init : goal.loop-rest-init
loop-rest-init c =
    let corners = c.args.outline.now.corners in
    let all : c.in_ok-rest.rest.items ≡ range_with_len 0 (length corners) = c.in_ok-rest.ensures ∙ ap (λ (points : List Point). range_with_len 0 (length points)) c.as_slice-corners.ensures in
    record {
      places = subst (ArePlacesOf corners) (sym all) (all_places corners);
      enough = omega (arith, c.requires.enough, ap length all, length-range_with_len 0 (length corners));
      cut = cut-begun corners c.in_ok-rest.rest.items c.in_ok-triangles.triangles.items all c.in_ok-triangles.ensures.items;
    }

pub returns-in_default-clause-no_ear : goal.returns-in_default-clause-no_ear
returns-in_default-clause-no_ear c =
    cut-none c.args.outline.now.corners c.loop-rest.rest.items c.loop-rest.triangles.items (omega (arith, c.loop-rest-test.true))
    ((λ j. best_ear (sym c.as_slice-corners.ensures j) (sym c.as_slice.ensures.value j)) ∙ sym c.best_ear.ensures.value ∙ c.in_default.is) c.loop-rest.invariant.cut
    ∙ ap Err (sym c.from_vec.ensures)

pub loop-rest-preserved : goal.loop-rest-preserved
loop-rest-preserved c =
    let corners = c.args.outline.now.corners in
    let rest = c.loop-rest.rest.items in
    let i = c.in-Some.position in
    let ear : best_ear corners rest ≡ Some i = (λ j. best_ear (sym c.as_slice-corners.ensures j) (sym c.as_slice.ensures.value j)) ∙ sym c.best_ear.ensures.value ∙ c.in-Some.is in
    let more : 3 < length rest = omega (arith, c.loop-rest-test.true) in
    let there : i < length rest = omega (arith, c.in-Some.ensures.there, ap length c.as_slice.ensures.value) in
    record {
      places = subst (ArePlacesOf corners) (sym c.remove-cut.ensures.items) (places-remove corners rest i c.loop-rest.invariant.places);
      enough = omega (arith, more, length-remove rest i there, ap length c.remove-cut.ensures.items);
      cut = cut-more corners rest c.loop-rest.triangles.items i more ear c.loop-rest.invariant.cut
          ∙ (λ j. after (c.loop-rest.triangles.items ++ triangle_at (sym c.as_slice-in-loop-rest.ensures.value j) i ∷ []) (cut_ears corners (length (remove rest i) - 3) (remove rest i)))
          ∙ ap (λ (t : Triangle). after (c.loop-rest.triangles.items ++ t ∷ []) (cut_ears corners (length (remove rest i) - 3) (remove rest i))) (sym c.triangle_at.ensures)
          ∙ (λ j. after (sym c.in_ok-push.ensures.items j) (cut_ears corners (length (sym c.remove-cut.ensures.items j) - 3) (sym c.remove-cut.ensures.items j)));
    }

pub returns-then-not-runs_counterclockwise-clause-no_ear : goal.returns-then-not-runs_counterclockwise-clause-no_ear
returns-then-not-runs_counterclockwise-clause-no_ear c =
    cut-last_none c.args.outline.now.corners c.loop-rest.rest.items c.loop-rest.triangles.items (omega (arith, c.loop-rest-test.false)) c.loop-rest.invariant.cut
    ((λ j. lt_z (pos 0) (turn_of (sym c.as_slice-corners.ensures j) (triangle_at (sym c.as_slice-2.ensures.value j) 1)))
    ∙ ap (λ (t : Triangle). lt_z (pos 0) (turn_of c.as_slice-corners.result.now t)) (sym c.triangle_at-last.ensures) ∙ sym c.runs_counterclockwise.ensures ∙ c.if-not-runs_counterclockwise.true)
    ∙ ap Err (sym c.from_vec-then-not-runs_counterclockwise.ensures)

cut : (c : goal.After-drop-rest-2) → ears_of c.args.outline.now.corners ≡ Ok c.from_vec-2.result
cut c =
    let corners = c.args.outline.now.corners in
    let rest = c.loop-rest.rest.items in
    cut-last corners rest c.loop-rest.triangles.items (omega (arith, c.loop-rest-test.false)) c.loop-rest.invariant.cut
    ((λ j. lt_z (pos 0) (turn_of (sym c.as_slice-corners.ensures j) (triangle_at (sym c.as_slice-2.ensures.value j) 1)))
    ∙ ap (λ (t : Triangle). lt_z (pos 0) (turn_of c.as_slice-corners.result.now t)) (sym c.triangle_at-last.ensures) ∙ sym c.runs_counterclockwise.ensures ∙ c.if-not-runs_counterclockwise.false)
    ∙ (λ j. Ok (c.loop-rest.triangles.items ++ triangle_at (sym c.as_slice-2.ensures.value j) 1 ∷ []))
    ∙ ap (λ (t : Triangle). Ok (c.loop-rest.triangles.items ++ t ∷ [])) (sym c.triangle_at-last.ensures)
    ∙ ap Ok (sym c.in_ok-push-2.ensures.items ∙ sym c.from_vec-2.ensures)

pub returns-clause-cut : goal.returns-clause-cut
returns-clause-cut c = record { cut = cut c }

pub returns-clause-count : goal.returns-clause-count
returns-clause-count c = omega (arith, (ears_of-triangles c.args.outline.now.corners c.from_vec-2.result c.requires.enough (cut c)).count)

pub returns-clause-places : goal.returns-clause-places
returns-clause-places c = (ears_of-triangles c.args.outline.now.corners c.from_vec-2.result c.requires.enough (cut c)).there

pub returns-clause-turn : goal.returns-clause-turn
returns-clause-turn c = (ears_of-triangles c.args.outline.now.corners c.from_vec-2.result c.requires.enough (cut c)).turn

pub returns-clause-area : goal.returns-clause-area
returns-clause-area c = ears_of-area c.args.outline.now.corners c.from_vec-2.result c.requires.enough (cut c)

pub returns-clause-once : goal.returns-clause-once
returns-clause-once c = ears_of-once c.args.outline.now.corners c.from_vec-2.result c.requires.enough (cut c)

pub returns-clause-outline : goal.returns-clause-outline
returns-clause-outline c = ears_of-outline c.args.outline.now.corners c.from_vec-2.result c.requires.enough (cut c)
