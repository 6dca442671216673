use Rattle.std.proofs.Common.{arith}
use Rattle.std.proofs.lemmas.Int.{to_z-of_z}
use Rattle.obstacle_mark.proofs.areas.reach_of.Goals as goal

pub returns-clause-x : goal.returns-clause-x
returns-clause-x c = λ x z floor covered.
    let inside = c.bounds-window.ensures.covered x z floor covered in
    let least = inside.x_least in
    let most = inside.x_most in
    let last = c.or_zero-2.ensures.most x (grind (arith, to_z-of_z, most)) in
    (c.or_zero.ensures.least x (grind (arith, to_z-of_z, least)), omega (arith, last))

pub returns-clause-z : goal.returns-clause-z
returns-clause-z c = λ x z floor covered.
    let inside = c.bounds-window.ensures.covered x z floor covered in
    let least = inside.z_least in
    let most = inside.z_most in
    let last = c.or_zero-4.ensures.most z (grind (arith, to_z-of_z, most)) in
    (c.or_zero-3.ensures.least z (grind (arith, to_z-of_z, least)), omega (arith, last))
