use Rattle.std.proofs.Common.{◌≡◌, ℕ, ◌+◌, length, get_or, subst, sym, refl, arith}
use Rattle.tri_raster.specs.Columns.{no_shadow}
use Rattle.tri_raster.proofs.GroupLaws.{HasFront, front_more, front_end, front_all}
use Rattle.tri_raster.proofs.group.first_group.Goals as goal

pub returns-then-top-shadow : goal.returns-then-top-shadow
returns-then-top-shadow c =
    front_end c.args.shadows.now c.loop-place.place c.loop-place.top (get_or c.args.shadows.now c.loop-place.place no_shadow) c.requires.upright
    c.requires.order c.loop-place-test.true refl c.loop-place.invariant c.if-top-shadow.true

pub loop-place-preserved : goal.loop-place-preserved
loop-place-preserved c =
    subst (HasFront c.args.shadows.now (c.loop-place.place + 1)) (sym c.max-top.ensures)
    (front_more c.args.shadows.now c.loop-place.place c.loop-place.top (get_or c.args.shadows.now c.loop-place.place no_shadow) c.requires.upright
    c.requires.order c.loop-place-test.true refl c.loop-place.invariant c.if-top-shadow.false)

pub returns : goal.returns
returns c =
    let end : c.loop-place.place ≡ length c.args.shadows.now = omega arith in
    let P : ℕ → Type 0 = λ n. HasFront c.args.shadows.now n c.loop-place.top in
    front_all c.args.shadows.now c.loop-place.top c.requires.some (subst P end c.loop-place.invariant)
