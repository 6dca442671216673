use Rattle.std.proofs.Common.{inl, arith, sym, ◌∙◌, ap, subst, List, length, map}
use Rattle.std.specs.List.{All}
use Rattle.tri_raster.specs.declared.triangle.Mark.{Mark}
use Rattle.tri_raster.specs.declared.triangle.Hits.{Hits}
use Rattle.tri_raster.specs.Spots.{IsSpotOf, mark_of, row_spots}
use Rattle.tri_raster.specs.Bounds.{AreAbout, AreAboutCrossings, IsMark}
use Rattle.tri_raster.specs.Rows.{AreRowShadows, hits_of}
use Rattle.tri_raster.proofs.Assembled.{are_marks, marks_of, shadows_are}
use Rattle.tri_raster.proofs.row.row_shadows.Goals as goal

-- src/row.rt:53:5
pub gather-requires-clause-marks : goal.gather-requires-clause-marks
gather-requires-clause-marks c = subst (All IsMark) (sym (c.row_marks-count.ensures.items)) (are_marks c.args.tri.now c.args.z c.requires.triangle)

-- src/row.rt:41:1
pub returns-clause-shadows : goal.returns-clause-shadows
returns-clause-shadows c =
    let tri = c.args.tri.now in
    let z = c.args.z in
    let new = c.gather.new.bounds in
    let marks = c.row_marks-count.ensures.items in
    let same = c.gather.ensures.wider.same ∙ c.clear.ensures.same in
    let hits = c.hits-hits.ensures ∙ ap (λ (ms : List Mark). hits_of ms (length c.args.bounds.now)) marks ∙ ap (hits_of (map mark_of (row_spots tri z))) (sym same) in
    subst (AreRowShadows tri z new) (sym hits)
    (shadows_are tri z c.requires.triangle c.requires.row new (omega (arith, same, c.requires.width))
    (subst (All (λ (mark : Mark). AreAbout mark.spot new)) marks c.gather.ensures.about)
    (subst (λ (ms : List Mark). All (λ (left : Mark). All (λ (right : Mark). AreAboutCrossings left.spot right.spot new) ms) ms) marks c.gather.ensures.crossings)
    (λ x from until. c.gather.ensures.filled tri z (subst (All (λ (mark : Mark). IsSpotOf tri z mark.spot)) (sym marks) (marks_of tri z c.requires.triangle)) x
    (inl (c.clear.ensures.fresh x (omega (arith, from, ap (λ (h : Hits). h.first) hits)) (omega (arith, until, ap (λ (h : Hits). h.end) hits))))))
