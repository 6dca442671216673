use Rattle.std.proofs.Common.{rules, w32, ℤ, subst}
use Rattle.std.specs.Prelude.{FitsSigned}
use Rattle.std.proofs.lemmas.Int.{to_z-of_z}
use Rattle.mesh_place.specs.Lines.{IsItOrFarther}
use Rattle.wall_slide.proofs.rows.nearest_place.Goals as goal

pub returns-clause-nearest : goal.returns-clause-nearest
returns-clause-nearest c x in_span =
    let fits : FitsSigned w32 c.args.p.x = search rules in
    subst (λ (n : ℤ). IsItOrFarther n c.nearest_in.result x) (to_z-of_z w32 c.args.p.x fits) (c.nearest_in.ensures.nearest x in_span)
