use Rattle.std.proofs.Common.{ℕ, refl, inr, arith, ◌∙◌, ◌<◌, length}
use Rattle.std.proofs.lemmas.List.{length-set}
use Rattle.world_grid.specs.declared.frame.WorldPoint.{WorldPoint}
use Rattle.world_grid.specs.Places.{IsPlaceOf, IsToldAt}
use Rattle.mesh_handle.specs.Points.{no_point, place_at}
use Rattle.mesh_handle.proofs.ArrayLaws.{set_each, set_rest, none_is}
use Rattle.mesh_handle.proofs.points.points_of.Goals as goal

pub returns-in_default : goal.returns-in_default
returns-in_default c = record {
  pointed = c.loop-at.invariant.0;
  places_there = omega (arith, c.loop-at-test.true);
  points_there = c.loop-at.invariant.1;
  all = λ e. omega (arith, e);
  full = λ e. (omega (arith, e), omega (arith, e));
  none = λ e. (c.loop-at-test.true, c.point_of.ensures.none (none_is c.point_of.result c.in_default.is));
  ends = inr (inr refl);
}

pub loop-at-preserved : goal.loop-at-preserved
loop-at-preserved c =
    let pointed = c.loop-at.invariant.0 in
    let at = c.loop-at.at in
    let same = pointed.same in
    let room = c.if-at-points.false in
    let there : at < length c.loop-at.points = omega (arith, room, c.loop-at.invariant.1, same) in (
      record {
        same = length-set c.loop-at.points at c.in-Some.point ∙ same;
        each = set_each c.loop-at.points at c.in-Some.point no_point (λ (i : ℕ) (point : WorldPoint). IsPlaceOf c.args.frame.now point (place_at c.args.places.now i)) there pointed.each
            c.in-Some.ensures.found;
        told = set_each c.loop-at.points at c.in-Some.point no_point (λ (i : ℕ) (point : WorldPoint). IsToldAt c.args.frame.now (place_at c.args.places.now i) point) there pointed.told
            c.in-Some.ensures.told;
        rest = set_rest c.loop-at.points at c.in-Some.point no_point c.args.points.now pointed.rest;
      },
      omega (arith, there, same),
    )
