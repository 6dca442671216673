use Rattle.std.proofs.Common.{sym, ap, ◌∙◌}
use Rattle.tri_raster.specs.TriFormat.{wrong_behind}
use Rattle.tri_raster.proofs.TextLaws.{end_line, end_open, end_well}
use Rattle.tri_raster.proofs.text.read_end.Goals as goal

pub returns-in-Some : goal.returns-in-Some
returns-in-Some c =
    end_line c.args.rest.now c.in-Some.line.now c.in-Some.field-0-1.now c.args.tris.items c.args.count _ _ c.in-Some.ensures.lines
    (c.wrong_behind.ensures ∙ ap (λ n. wrong_behind n c.in-Some.line.now) (c.len.ensures ∙ c.args.tris.ok.0)) c.refused.ensures

pub returns-then-not-is_empty : goal.returns-then-not-is_empty
returns-then-not-is_empty c =
    end_open c.args.rest.now c.args.tris.items c.args.count _ c.in_default.ensures.lines (c.in_default.ensures.ended ∙ sym c.if-not-is_empty.ensures) c.refused-then-not-is_empty.ensures

pub returns : goal.returns
returns c = rw c.from_vec.ensures (end_well c.args.rest.now c.args.tris.items c.args.count c.in_default.ensures.lines (c.in_default.ensures.ended ∙ sym c.if-not-is_empty.ensures))
