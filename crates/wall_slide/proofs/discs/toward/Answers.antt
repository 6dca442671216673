use Rattle.nav_base.proofs.Sizes.{HasCoordinates-field}
use Rattle.wall_slide.proofs.Readings.{dot_small, sum_read}
use Rattle.wall_slide.proofs.discs.toward.Goals as goal

pub overflow_add-result : goal.overflow_add-result
overflow_add-result c =
    let r = c.requires.right in
    let l = c.requires.left in
    let from = HasCoordinates-field c.args.motion.from c.requires.motion.from in
    (sum_read c.dot.result c.dot-2.result _ _ c.dot.ensures c.dot-2.ensures
    (dot_small _ _ _ _ r l r from) (dot_small _ _ _ _ r l r c.requires.motion.to)).sum_fits

pub returns : goal.returns
returns c =
    let r = c.requires.right in
    let l = c.requires.left in
    let from = HasCoordinates-field c.args.motion.from c.requires.motion.from in
    (sum_read c.dot.result c.dot-2.result _ _ c.dot.ensures c.dot-2.ensures
    (dot_small _ _ _ _ r l r from) (dot_small _ _ _ _ r l r c.requires.motion.to)).reads
