use Rattle.std.proofs.Common.{rules, arith}
use Rattle.std.proofs.lemmas.Fn.{always_returns_same}
use Rattle.contour_mesh.specs.declared.crossings.AtPosition.{AtPosition}
use Rattle.contour_mesh.specs.SidePlaces.{is_place_before}
use Rattle.contour_mesh.proofs.PlaceLaws.{ahead_first}
use Rattle.contour_mesh.proofs.crossings.count_before.Goals as goal

pub returns : goal.returns
returns g c =
    let place = c.args.place in
    let point = c.partition_point.ensures.partitioned (λ (other : AtPosition g.row.T.Denot). is_place_before other.place place)
    (always_returns_same _ _ _ (λ a r q k. search rules)) (ahead_first place c.args.placed.now c.requires) in
    record {
      ahead = λ k d below. point.0 k d (omega arith) below;
      late = λ k d above inside. point.1 k d above inside;
    }
