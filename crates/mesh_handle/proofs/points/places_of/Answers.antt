use Rattle.std.proofs.Common.{ℕ, refl, inr, arith, ◌∙◌, ◌<◌, length}
use Rattle.std.proofs.lemmas.List.{length-set}
use Rattle.world_grid.specs.declared.place.FramePlace.{FramePlace}
use Rattle.world_grid.specs.Places.{IsPlaceOf}
use Rattle.mesh_handle.specs.Points.{no_place, point_at}
use Rattle.mesh_handle.proofs.ArrayLaws.{set_each, set_rest, none_is}
use Rattle.mesh_handle.proofs.points.places_of.Goals as goal

pub returns-in_default : goal.returns-in_default
returns-in_default c = record {
  placed = c.loop-at.invariant.0;
  points_there = omega (arith, c.loop-at-test.true);
  places_there = c.loop-at.invariant.1;
  all = λ e. omega (arith, e);
  full = λ e. (omega (arith, e), omega (arith, e));
  none = λ e. (c.loop-at-test.true, c.place_of.ensures.none (none_is c.place_of.result c.in_default.is));
  ends = inr (inr refl);
}

pub loop-at-preserved : goal.loop-at-preserved
loop-at-preserved c =
    let placed = c.loop-at.invariant.0 in
    let at = c.loop-at.at in
    let same = placed.same in
    let room = c.if-at-places.false in
    let there : at < length c.loop-at.places = omega (arith, room, c.loop-at.invariant.1, same) in (
      record {
        same = length-set c.loop-at.places at c.in-Some.place ∙ same;
        each = set_each c.loop-at.places at c.in-Some.place no_place (λ (i : ℕ) (place : FramePlace). IsPlaceOf c.args.frame.now (point_at c.args.points.now i) place) there placed.each
            c.in-Some.ensures.found;
        rest = set_rest c.loop-at.places at c.in-Some.place no_place c.args.places.now placed.rest;
      },
      omega (arith, there, same),
    )
