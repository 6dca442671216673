use Rattle.mesh_types.specs.declared.mesh.Mesh.{Mesh}
use Rattle.mesh_types.specs.Places.{IsPlace}
use Rattle.nav_base.specs.Point.{HasCoordinates}
use Rattle.wall_slide.specs.declared.questions.Slide.{Slide}
use Rattle.wall_slide.specs.Slides.{StartsIn}
use Rattle.wall_slide.proofs.EndLaws.{end_coordinates, is_slide, no_farther}
use Rattle.wall_slide.proofs.slides.slide.Goals as goal

begins : (mesh : Mesh) (asked : Slide) → IsPlace mesh asked.from → HasCoordinates asked.to → StartsIn mesh asked
begins mesh asked place to = record { held = place.held; to = to }

pub place_at-requires-clause-point : goal.place_at-requires-clause-point
place_at-requires-clause-point c =
    let place = c.is_place_of.ensures.0 c.if-not-is_place_of.false in
    end_coordinates c.args.mesh.now c.args.asked.now c.requires.sound (begins c.args.mesh.now c.args.asked.now place c.requires.asked.to) c.in_ok-end.end
    c.in_ok-end.ensures.is

pub returns-clause-right : goal.returns-clause-right
returns-clause-right c =
    let place = c.is_place_of.ensures.0 c.if-not-is_place_of.false in
    is_slide c.args.mesh.now c.args.asked.now c.requires.sound (begins c.args.mesh.now c.args.asked.now place c.requires.asked.to) c.in_ok-end.end
    c.place_at.result place c.in_ok-end.ensures c.place_at.ensures.polygon c.place_at.ensures.point c.place_at.ensures.floor

pub returns-clause-no_farther : goal.returns-clause-no_farther
returns-clause-no_farther c =
    let place = c.is_place_of.ensures.0 c.if-not-is_place_of.false in
    no_farther c.args.mesh.now c.args.asked.now c.requires.sound (begins c.args.mesh.now c.args.asked.now place c.requires.asked.to) c.place_at.result
    (returns-clause-right c)
