use Rattle.std.proofs.Common.{◌<◌, [], ◌∷◌, ◌++◌, length, get_or, subst, arith}
use Rattle.std.proofs.lemmas.List.{get_or_default}
use Rattle.tri_raster.specs.declared.triangle.Shadow.{Shadow}
use Rattle.tri_raster.specs.Bounds.{bound_at}
use Rattle.tri_raster.specs.Rows.{shadow_of}
use Rattle.tri_raster.specs.Columns.{StandFor}
use Rattle.tri_raster.proofs.SweepLaws.{added_none, added_more, added_all}
use Rattle.tri_raster.proofs.sweep.add_shadows.Goals as goal

pub loop-x-init : goal.loop-x-init
loop-x-init c = (added_none c.args.bounds.now c.args.hits c.args.area c.args.columns.now, omega arith, omega arith)

pub loop-x-preserved : goal.loop-x-preserved
loop-x-preserved c =
    let columns = c.loop-x.columns in
    let x = c.loop-x.x in
    let here = get_or columns x c.index-columns-x.result in
    let inside : x < length c.args.columns.now = omega (arith, c.loop-x-test.true, c.requires.within) in
    let there : x < length columns = omega (arith, inside, c.loop-x.invariant.0.same) in
    let S : Shadow → Type 0 = λ shadow. StandFor (here ++ shadow ∷ []) c.add.new.self in
    let stand : StandFor (here ++ shadow_of (bound_at c.args.bounds.now x) c.args.area ∷ []) c.add.new.self = subst S c.shadow_of.ensures c.in_ok-add.ensures in (
      added_more c.args.bounds.now c.args.hits x c.args.area c.args.columns.now columns here c.add.new.self c.loop-x.invariant.0 c.loop-x.invariant.1 inside
          (get_or_default columns x c.index-columns-x.result [] there) stand,
      omega (arith, c.loop-x.invariant.1),
      omega (
        arith,
        c.loop-x.invariant.1,
        c.loop-x-test.true,
      ),
    )

pub returns : goal.returns
returns c =
    added_all c.args.bounds.now c.args.hits c.loop-x.x c.args.area c.args.columns.now c.loop-x.columns c.loop-x.invariant.0 c.loop-x-test.false
    c.loop-x.invariant.2
