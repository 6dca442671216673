use Rattle.std.proofs.Common.{◌≡◌, ◌∙◌, ◌++◌, ◌∷◌, [], arith}
use Rattle.std.proofs.lemmas.Grind.{common_steps}
use Rattle.tri_raster.proofs.TextLaws.{HasTris_more, tris_fail, tris_cut, tris_end}
use Rattle.tri_raster.proofs.text.read_tris.Goals as goal

pub returns-in-End : goal.returns-in-End
returns-in-End c =
    tris_end _ _ _ _ _ c.in-Some.after.now _ _ _ _ c.loop-line.invariant c.in-Some.ensures.lines c.in-Some.ensures.ended c.tri_line.ensures
    (c.len-in-Some.ensures ∙ c.loop-line.tris.ok.0) c.in-End.is (c.len.ensures ∙ c.loop-line.tris.ok.0) c.read_end.ensures

pub returns-in-Fails : goal.returns-in-Fails
returns-in-Fails c =
    tris_fail _ _ _ _ _ c.in-Some.after.now _ _ _ _ _ c.loop-line.invariant c.in-Some.ensures.lines c.tri_line.ensures (c.len-in-Some.ensures ∙ c.loop-line.tris.ok.0)
    c.in-Fails.is c.refused.ensures (c.len.ensures ∙ c.loop-line.tris.ok.0)

pub loop-line-preserved : goal.loop-line-preserved
loop-line-preserved c =
    let items : c.push.new.self.items ≡ c.loop-line.tris.items ++ c.in-Triangle.tri ∷ [] = grind (arith, common_steps) in
    HasTris_more _ _ _ _ _ _ _ _ c.in-Triangle.tri _ c.loop-line.invariant c.in-Some.ensures.lines c.in-Some.ensures.ended c.tri_line.ensures
    (c.len-in-Some.ensures ∙ c.loop-line.tris.ok.0) c.in-Triangle.is items

pub returns : goal.returns
returns c =
    tris_cut _ _ _ _ _ _ c.loop-line.invariant c.in_default.ensures.lines c.refused-2.ensures (c.len-2.ensures ∙ c.loop-line.tris.ok.0)
