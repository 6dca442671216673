use Rattle.std.proofs.Common.{◌≡◌, arith}
use Rattle.std.specs.Prelude.{ℤ, pos, ◌+ℤ◌, ◌-ℤ◌}
use Rattle.std.proofs.lemmas.Int.{ints}
use mir.Syntax.{w32}
use mir.Val.{to_z, of_z}
use Rattle.mesh_place.proofs.bounds.square_around.Goals as goal

pub returns : goal.returns
returns c =
    let seen = λ (n : ℤ). to_z w32 (of_z w32 n) in
    let p = c.args.p in
    let across = c.requires.point.across in
    let along = c.requires.point.along in
    let reach = to_z w32 c.args.reach in
    let left : seen (seen p.x -ℤ reach) ≡ (p.x -ℤ pos c.args.reach) = omega (arith, ints, across.low, across.high, c.requires.reach) in
    let below : seen (seen p.z -ℤ reach) ≡ (p.z -ℤ pos c.args.reach) = omega (arith, ints, along.low, along.high, c.requires.reach) in
    let right : seen (seen p.x +ℤ reach) ≡ (p.x +ℤ pos c.args.reach) = omega (arith, ints, across.low, across.high, c.requires.reach) in
    let above : seen (seen p.z +ℤ reach) ≡ (p.z +ℤ pos c.args.reach) = omega (arith, ints, along.low, along.high, c.requires.reach) in
    λ i. record { reach = c.args.reach; low = record { x = left i; z = below i }; high = record { x = right i; z = above i } }
