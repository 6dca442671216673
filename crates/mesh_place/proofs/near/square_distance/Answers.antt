use Rattle.std.proofs.Common.{◌*◌, ◌+◌, sym, ◌∙◌}
use Rattle.nav_base.specs.Point.{from_to}
use Rattle.mesh_place.proofs.Squares.{square_parts}
use Rattle.mesh_place.proofs.near.square_distance.Goals as goal

pub returns-clause-value : goal.returns-clause-value
returns-clause-value c =
    let x = c.across-x.ensures.value in
    let z = c.along-z.ensures.value in
    (λ i. x i * x i + z i * z i) ∙ sym (square_parts (from_to c.args.a c.args.b))
