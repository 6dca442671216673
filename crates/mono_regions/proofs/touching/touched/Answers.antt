use Rattle.std.proofs.Common.{get_or, ap, ◌∙◌, sym}
use Rattle.nav_ground.specs.Directions.{number}
use Rattle.mono_regions.specs.declared.touching.SeenStrips.{SeenStrips}
use Rattle.mono_regions.specs.declared.touching.SeenStrips.TheVariants.{Nothing}
use Rattle.mono_regions.specs.Seeing.{beyond, seen_with}
use Rattle.std.proofs.lemmas.List.Sums.{fold_more}
use Rattle.mono_regions.proofs.touching.touched.Goals as goal

pub loop-at-preserved : goal.loop-at-preserved
loop-at-preserved c =
    c.seen_with-seen.ensures
    ∙ ap (seen_with c.loop-at.seen) c.beyond.ensures
    ∙ ap (λ (seen : SeenStrips). seen_with seen (beyond c.args.cells.now (number c.args.dir) (get_or c.args.run.now c.loop-at.at-index 0))) c.loop-at.invariant
    ∙ sym (fold_more (λ seen i. seen_with seen (beyond c.args.cells.now (number c.args.dir) i)) Nothing c.args.run.now c.loop-at.at-index 0 c.loop-at-test.true)
