use Rattle.nav_base.proofs.Sizes.{HasCoordinates-field, orient_of-bound}
use Rattle.wall_slide.proofs.Readings.{sum_read}
use Rattle.wall_slide.proofs.discs.aside.Goals as goal

pub overflow_add-result : goal.overflow_add-result
overflow_add-result c =
    let r = c.requires.right in
    let l = c.requires.left in
    let from = HasCoordinates-field c.args.motion.from c.requires.motion.from in
    (sum_read c.orient.result c.orient-2.result _ _ c.orient.ensures c.orient-2.ensures
    (orient_of-bound _ _ _ r l from) (orient_of-bound _ _ _ r l c.requires.motion.to)).sum_fits

pub returns : goal.returns
returns c =
    let r = c.requires.right in
    let l = c.requires.left in
    let from = HasCoordinates-field c.args.motion.from c.requires.motion.from in
    (sum_read c.orient.result c.orient-2.result _ _ c.orient.ensures c.orient-2.ensures
    (orient_of-bound _ _ _ r l from) (orient_of-bound _ _ _ r l c.requires.motion.to)).reads
