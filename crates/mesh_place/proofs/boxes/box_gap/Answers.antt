use Rattle.std.proofs.Common.{◌≡◌, ◌*◌, ◌+◌, ◌∙◌}
use Rattle.std.specs.Prelude.{pos, ◌*ℤ◌}
use Rattle.mesh_types.specs.Places.{outside}
use Rattle.mesh_place.proofs.boxes.box_gap.Goals as goal

pub returns : goal.returns
returns c =
    let low = c.in_sixteenths-low.ensures.value in
    let high = c.in_sixteenths-high.ensures.value in
    let p = c.args.p in
    let x : c.across_out-across.result ≡ outside (pos 16 *ℤ c.args.extent.low.x) (pos 16 *ℤ c.args.extent.high.x) p.x =
    c.across_out-across.ensures.value ∙ (λ i. outside (low i).x (high i).x p.x) in
    let z : c.along_out-along.result ≡ outside (pos 16 *ℤ c.args.extent.low.z) (pos 16 *ℤ c.args.extent.high.z) p.z =
    c.along_out-along.ensures.value ∙ (λ i. outside (low i).z (high i).z p.z) in
    λ i. x i * x i + z i * z i
