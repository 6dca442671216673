use Rattle.std.proofs.Common.{List, Err, take, ap, subst, ◌≡◌, ◌∙◌}
use Rattle.nav_ground.specs.declared.field.Span.{Span}
use Rattle.tri_raster.specs.declared.triangle.Tri.{Tri}
use Rattle.tri_raster.specs.Rasters.{IsRaster, HasManySpans}
use Rattle.top_call.specs.Triangles.{field_text}
use Rattle.top_call.proofs.TriangleLaws.{read_alone, raster_text_reads, tri_line_right, no_tri_fault}
use Rattle.top_call.proofs.answer.answer_to_triangles.Goals as goal

pub returns-in-Err-Fault : goal.returns-in-Err-Fault
returns-in-Err-Fault c =
    let is = c.in-Err-Fault.is ∙ ap Err c.in-Err-Fault.field-0-is in
    tri_line_right c.args.bytes.now c.in-Err-Fault.fault c.fault_text.result (c.read_triangles.ensures.first c.in-Err-Fault.fault is)
    (no_tri_fault c.args.bytes.now c.read_triangles.result c.in-Err-Fault.fault c.read_triangles.ensures.only is) c.fault_text.ensures

pub returns-in-Err-TooManySpans : goal.returns-in-Err-TooManySpans
returns-in-Err-TooManySpans c =
    let text = c.in-Ok.text in
    let M : List Tri → Type 0 = λ tris. HasManySpans text.setting tris in
    record {
      one = record {
        level = record { setting = text.setting; header = text.header; tris = text.tris; there = c.in-Ok.ensures.found };
        only = read_alone c.args.bytes.now c.read_triangles.result text c.read_triangles.ensures.only c.in-Ok.is;
      };
      many = subst M c.as_slice.ensures (c.raster.ensures.many (c.in-Err-TooManySpans.is ∙ ap Err c.in-Err-TooManySpans.field-0-is));
    }

pub returns-in-Ok-spelled : goal.returns-in-Ok-spelled
returns-in-Ok-spelled c =
    let text = c.in-Ok.text in
    let field = c.in-Ok-raster.field in
    let R : List Tri → Type 0 = λ tris. IsRaster text.setting tris field in
    let raster : IsRaster text.setting text.tris field = subst R c.as_slice.ensures c.in-Ok-raster.ensures.field in
    let spelled : c.in-Ok-spelled.text.items ≡ field_text (take text.header c.args.bytes.now) field.spans =
    c.in-Ok-spelled.ensures
    ∙ ap (λ xs. field_text xs c.as_slice-2.result.now) c.split_at.ensures.front
    ∙ ap (λ (spans : List Span). field_text (take text.header c.args.bytes.now) spans) c.as_slice-2.ensures in
    record {
      one = record {
        level = record { setting = text.setting; header = text.header; tris = text.tris; there = c.in-Ok.ensures.found };
        only = read_alone c.args.bytes.now c.read_triangles.result text c.read_triangles.ensures.only c.in-Ok.is;
      };
      field = field;
      raster = raster;
      few = c.in-Ok-raster.ensures.rules.few;
      spelled = spelled;
      reads = raster_text_reads c.args.bytes.now c.in-Ok-spelled.text.items text.setting text.header text.tris field c.in-Ok.ensures.found raster spelled;
    }
