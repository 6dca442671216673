use Rattle.std.proofs.Common.{◌≤◌, ℤ, ◌*ℤ◌, sym, subst}
use Rattle.std.specs.Int.RustNames.{unsigned_abs}
use Rattle.mesh_input.proofs.Products.{found_product, read_difference, product_small, difference_small}
use Rattle.mesh_input.proofs.gentle.shadow.Goals as goal

pub returns-clause-value : goal.returns-clause-value
returns-clause-value c =
    let r = c.requires in
    read_difference c.product.result c.product-2.result c.args.a c.args.d c.args.b c.args.c r.a r.d r.b r.c
    (found_product c.product.result c.args.a c.args.d r.a r.d c.product.ensures.small c.product.ensures.value)
    (found_product c.product-2.result c.args.b c.args.c r.b r.c c.product-2.ensures.small c.product-2.ensures.value)

pub returns-clause-small : goal.returns-clause-small
returns-clause-small c =
    let r = c.requires in
    subst (λ (n : ℤ). unsigned_abs n ≤ 50000000000000)
    (sym (read_difference c.product.result c.product-2.result c.args.a c.args.d c.args.b c.args.c r.a r.d r.b r.c
    (found_product c.product.result c.args.a c.args.d r.a r.d c.product.ensures.small c.product.ensures.value)
    (found_product c.product-2.result c.args.b c.args.c r.b r.c c.product-2.ensures.small c.product-2.ensures.value)))
    (difference_small (c.args.a *ℤ c.args.d) (c.args.b *ℤ c.args.c) (product_small c.args.a c.args.d r.a r.d) (product_small c.args.b c.args.c r.b r.c))
