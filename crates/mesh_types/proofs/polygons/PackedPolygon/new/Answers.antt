use Rattle.std.proofs.Common.{refl, arith, true}
use Rattle.std.proofs.lemmas.Bool.{both_ways}
use Rattle.mesh_types.proofs.SmallLaws.{place_refused, sure_polygon}
use Rattle.mesh_types.proofs.polygons.PackedPolygon.new.Goals as goal

pub returns-in_err-new-clause-none : goal.returns-in_err-new-clause-none
returns-in_err-new-clause-none c =
    place_refused _ _ _ 0 _ c.from_residual.ensures c.places-count.ensures.places c.places-count.ensures.inline (omega arith)
    (c.in_err-new.ensures.none.0 refl)

pub returns-in_err-new-2-clause-none : goal.returns-in_err-new-2-clause-none
returns-in_err-new-2-clause-none c =
    place_refused _ _ _ 1 _ c.from_residual-in_err-new-2.ensures c.places-count.ensures.places c.places-count.ensures.inline (omega arith)
    (c.in_err-new-2.ensures.none.0 refl)

pub returns-in_err-new-3-clause-none : goal.returns-in_err-new-3-clause-none
returns-in_err-new-3-clause-none c =
    place_refused _ _ _ 2 _ c.from_residual-in_err-new-3.ensures c.places-count.ensures.places c.places-count.ensures.inline (omega arith)
    (c.in_err-new-3.ensures.none.0 refl)

pub returns-in_err-new-4-clause-none : goal.returns-in_err-new-4-clause-none
returns-in_err-new-4-clause-none c =
    place_refused _ _ _ 3 _ c.from_residual-in_err-new-4.ensures c.places-count.ensures.places c.places-count.ensures.inline (omega arith)
    (c.in_err-new-4.ensures.none.0 refl)

pub returns-in_err-new-5-clause-none : goal.returns-in_err-new-5-clause-none
returns-in_err-new-5-clause-none c =
    place_refused _ _ _ 4 _ c.from_residual-in_err-new-5.ensures c.places-count.ensures.places c.places-count.ensures.inline (omega arith)
    (c.in_err-new-5.ensures.none.0 refl)

pub returns-in_err-new-6-clause-none : goal.returns-in_err-new-6-clause-none
returns-in_err-new-6-clause-none c =
    place_refused _ _ _ 5 _ c.from_residual-in_err-new-6.ensures c.places-count.ensures.places c.places-count.ensures.inline (omega arith)
    (c.in_err-new-6.ensures.none.0 refl)

pub returns-clause-none : goal.returns-clause-none
returns-clause-none c = (
  λ refused. absurd (both_ways true refused refl),
  sure_polygon c.args.polygon.now _ _ c.places-count.ensures.places c.places-count.ensures.inline
      c.in_ok-new.ensures.none.1 c.in_ok-new-2.ensures.none.1 c.in_ok-new-3.ensures.none.1
      c.in_ok-new-4.ensures.none.1 c.in_ok-new-5.ensures.none.1 c.in_ok-new-6.ensures.none.1
      c.in_ok-small_area.ensures.none.1 c.in_ok-small_floor.ensures.none.1 c.in_ok-small_floor-2.ensures.none.1,
)
