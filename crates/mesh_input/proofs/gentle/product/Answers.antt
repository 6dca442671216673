use Rattle.std.proofs.Common.{ap, ◌∙◌, ℤ, w64, to_z, of_z, arith}
use Rattle.mesh_input.proofs.Products.{reads, product_small, read_product}
use Rattle.mesh_input.proofs.gentle.product.Goals as goal

pub returns-clause-value : goal.returns-clause-value
returns-clause-value c =
    let small = product_small c.args.a c.args.b c.requires.a c.requires.b in
    ap (λ (z : ℤ). to_z w64 (of_z w64 z)) (read_product c.args.a c.args.b c.requires.a c.requires.b) ∙ reads _ (omega (arith, small))
