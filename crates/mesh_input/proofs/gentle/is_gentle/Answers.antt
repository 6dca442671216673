use Rattle.std.proofs.Common.{ap, subst, ◌∙◌, sym}
use Rattle.std.specs.Int.RustNames.{unsigned_abs}
use Rattle.mesh_input.specs.Slopes.{IsUpper}
use Rattle.mesh_input.proofs.Products.{read_shadow}
use Rattle.mesh_input.proofs.GentleLaws.{by_flat, by_upper}
use Rattle.mesh_input.proofs.gentle.is_gentle.Goals as goal

pub returns-then-is_upper : goal.returns-then-is_upper
returns-then-is_upper c =
    let p = c.args.p in
    let q = c.args.q in
    let up = read_shadow c.shadow-up.result p.z q.x p.x q.z p.z_most q.x_most p.x_most q.z_most c.shadow-up.ensures.small c.shadow-up.ensures.value in
    let x = read_shadow c.shadow.result p.y q.z p.z q.y p.y_most q.z_most p.z_most q.y_most c.shadow.ensures.small c.shadow.ensures.value in
    let z = read_shadow c.shadow-2.result p.x q.y p.y q.x p.x_most q.y_most p.y_most q.x_most c.shadow-2.ensures.small c.shadow-2.ensures.value in
    by_flat c.args.slope p q c.is_flat.result c.unsigned_abs-x.result c.unsigned_abs.result c.unsigned_abs-z.result (subst (IsUpper c.args.slope) up c.if-is_upper.ensures)
    (c.unsigned_abs-x.ensures.value ∙ ap unsigned_abs x) (c.unsigned_abs.ensures.value ∙ ap unsigned_abs up) (c.unsigned_abs-z.ensures.value ∙ ap unsigned_abs z) c.is_flat.ensures

pub returns-else-is_upper : goal.returns-else-is_upper
returns-else-is_upper c =
    let p = c.args.p in
    let q = c.args.q in
    let up = read_shadow c.shadow-up.result p.z q.x p.x q.z p.z_most q.x_most p.x_most q.z_most c.shadow-up.ensures.small c.shadow-up.ensures.value in
    by_upper c.args.slope p q c.is_upper.result c.if-is_upper.false (λ upper. c.if-is_upper.ensures (subst (IsUpper c.args.slope) (sym up) upper))
