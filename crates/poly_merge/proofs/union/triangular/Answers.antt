use Rattle.std.proofs.Common.{◌∙◌, ap, map, sym}
use Rattle.std.proofs.lemmas.List.{map_more, take_all}
use Rattle.mesh_types.specs.Words.{piece_of}
use Rattle.poly_merge.proofs.union.triangular.Goals as goal

pub loop-triangle-preserved : goal.loop-triangle-preserved
loop-triangle-preserved c =
    rw (c.in_ok-push.ensures.items, c.loop-triangle.invariant, c.in_ok-piece_of.ensures)
    (sym (map_more piece_of c.args.triangles.now c.loop-triangle.triangle-index (record { a = 0; b = 0; c = 0 }) c.loop-triangle-test.true))

pub returns : goal.returns
returns c = c.loop-triangle.invariant ∙ ap (map piece_of) (take_all c.loop-triangle.triangle-index c.args.triangles.now c.loop-triangle-test.false)
