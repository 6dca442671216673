use Rattle.std.proofs.Common.{◌≡◌, ℕ, ◌-◌, List, length, ap, ◌∙◌, sym, subst, arith}
use Rattle.contour_walk.proofs.Loops.{written_back}
use Rattle.contour_walk.proofs.Marks.{HasNumbers, all_numbers, no_numbers, region_step}
use Rattle.contour_walk.proofs.owners.owners.Goals as goal

pub loop-number-init : goal.loop-number-init
loop-number-init c = no_numbers c.args.cells.now c.args.regions.now c.in_ok-owners.owners.items c.in_ok-owners.ensures

pub loop-number-preserved : goal.loop-number-preserved
loop-number-preserved c =
    let new = c.mark_region.new.owners in
    let same : c.loop-number.owners.len ≡ length new =
    c.loop-number.owners.ok.0 ∙ sym (ap length c.as_mut_slice.ensures.value) ∙ sym c.mark_region.auto.owners in
    let P : List ℕ → Type 0 = HasNumbers c.args.cells.now c.args.regions.now (c.loop-number.number - 1) in
    subst P (sym (written_back c.loop-number.owners.len c.loop-number.owners.items new same))
    (region_step c.args.cells.now c.args.regions.now (c.loop-number.number - 1) c.loop-number.number c.index-regions-number.result c.as_slice.result.now
    c.loop-number.owners.items c.as_mut_slice.result.now new (omega (arith, c.loop-number-test.true, c.loop-number.auto.number))
    (omega (arith, c.loop-number-test.true)) c.index-regions-number.is c.as_slice.ensures c.as_mut_slice.ensures.value c.loop-number.invariant
    c.mark_region.ensures)

pub returns : goal.returns
returns c =
    let none : c.loop-number.number ≡ 0 = omega (arith, c.loop-number-test.false) in
    let P : ℕ → Type 0 = λ n. HasNumbers c.args.cells.now c.args.regions.now n c.loop-number.owners.items in
    all_numbers c.args.cells.now c.args.regions.now c.loop-number.owners.items (subst P none c.loop-number.invariant)
