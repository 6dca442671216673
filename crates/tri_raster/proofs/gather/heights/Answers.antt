use Rattle.std.proofs.Common.{arith, refl}
use Rattle.tri_raster.proofs.Heights.{products, number_is, crossing_some, floor_few, ceiling_few, height_is, less_of}
use Rattle.tri_raster.proofs.gather.heights.Goals as goal

-- src/gather.rt:75:17
pub overflow_sub-scale : goal.overflow_sub-scale
overflow_sub-scale c =
    let e = products c.args.left c.args.right c.args.line c.requires.before c.requires.behind _ _ _ _ c.from.ensures c.from-2.ensures c.from-3.ensures c.from-4.ensures in
    omega (arith, e)

-- src/gather.rt:77:7
pub nonzero_div-result : goal.nonzero_div-result
nonzero_div-result c =
    let e = products c.args.left c.args.right c.args.line c.requires.before c.requires.behind _ _ _ _ c.from.ensures c.from-2.ensures c.from-3.ensures c.from-4.ensures in
    omega (arith, e, crossing_some c.args.left c.args.right c.args.line c.requires.before c.requires.behind c.requires.first.some)

-- src/gather.rt:77:6
pub overflow_cast-result : goal.overflow_cast-result
overflow_cast-result c =
    let e = number_is c.args.left c.args.right c.args.line c.requires.before c.requires.behind _ _ _ _ c.from-from.ensures c.from-to.ensures c.from-5.ensures c.from-6.ensures in
    let f = less_of _ _ _ (products c.args.left c.args.right c.args.line c.requires.before c.requires.behind _ _ _ _ c.from.ensures c.from-2.ensures c.from-3.ensures c.from-4.ensures) in
    let few = floor_few c.args.left c.args.right c.args.line c.requires.before c.requires.behind _ _ e f c.requires.first.some c.requires.first c.requires.second in
    grind (arith, few)

-- src/gather.rt:77:31
pub div_ceil-requires : goal.div_ceil-requires
div_ceil-requires c =
    let e = products c.args.left c.args.right c.args.line c.requires.before c.requires.behind _ _ _ _ c.from.ensures c.from-2.ensures c.from-3.ensures c.from-4.ensures in
    omega (arith, e, crossing_some c.args.left c.args.right c.args.line c.requires.before c.requires.behind c.requires.first.some)

-- src/gather.rt:77:31
pub overflow_cast-result-2 : goal.overflow_cast-result-2
overflow_cast-result-2 c =
    let e = number_is c.args.left c.args.right c.args.line c.requires.before c.requires.behind _ _ _ _ c.from-from.ensures c.from-to.ensures c.from-5.ensures c.from-6.ensures in
    let f = less_of _ _ _ (products c.args.left c.args.right c.args.line c.requires.before c.requires.behind _ _ _ _ c.from.ensures c.from-2.ensures c.from-3.ensures c.from-4.ensures) in
    let few = ceiling_few c.args.left c.args.right c.args.line c.requires.before c.requires.behind _ _ e f c.requires.first.some c.requires.first c.requires.second in
    grind (arith, few, c.div_ceil.ensures)

-- src/gather.rt:66:1
pub returns : goal.returns
returns c =
    let e = number_is c.args.left c.args.right c.args.line c.requires.before c.requires.behind _ _ _ _ c.from-from.ensures c.from-to.ensures c.from-5.ensures c.from-6.ensures in
    let f = less_of _ _ _ (products c.args.left c.args.right c.args.line c.requires.before c.requires.behind _ _ _ _ c.from.ensures c.from-2.ensures c.from-3.ensures c.from-4.ensures) in
    height_is c.args.left c.args.right c.args.line c.requires.before c.requires.behind _ _ _ _ e f refl c.div_ceil.ensures
