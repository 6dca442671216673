-- Which shape a solid is.
use Rattle.std.proofs.Common.{◌≡◌, Option, Some, None, sym, ap, ◌∙◌, subst}
use Rattle.std.specs.Prelude.{◌↔◌, IfSome, IsNone, ◌==◌, if◌then◌else◌}
use Rattle.std.proofs.lemmas.Bool.{ne_eqb}
use Rattle.nav_ground.specs.Limits.{IsShape}
use Rattle.nav_ground.specs.declared.shape.Shape.{Shape}
use Rattle.nav_handle.specs.Wire.{block_of, cylinder_of}
use Rattle.registry_handle.specs.Solids.{IsSolid, disc_of, prism_of, shape_by}
use Rattle.registry_handle.specs.declared.solids.NavdSolid.{NavdSolid}

-- what was found of the solid's kind is its shape
pub found_is : (solid : NavdSolid) (shape : Shape) (found : Option Shape) → shape_by solid.kind solid ≡ Some shape → IfSome found (λ s. s ≡ shape)
    → IfSome found IsShape → IfSome found (IsSolid solid)
found_is solid shape None is same limits = tt
found_is solid shape (Some s) is same limits = record { is = is ∙ ap Some (sym same); limits = limits }

-- and where none was, its numbers are out of their limits
pub none_is : (solid : NavdSolid) (shape : Shape) (found : Option Shape) → shape_by solid.kind solid ≡ Some shape → IsNone found ↔ (IsShape shape → ⊥)
    → IsNone found → (other : Shape) → IsSolid solid other → ⊥
none_is solid shape found is none gone other it =
    let both : Some other ≡ Some shape = sym it.is ∙ is in
    let same : other ≡ shape = cc in
    none.0 gone (subst IsShape same it.limits)

-- no other number is a kind
pub no_kind : (solid : NavdSolid) → (solid.kind ≡ 0 → ⊥) → (solid.kind ≡ 1 → ⊥) → (solid.kind ≡ 2 → ⊥) → (solid.kind ≡ 3 → ⊥)
    → (other : Shape) → IsSolid solid other → ⊥
no_kind solid zeroth first second third other it =
    let is : shape_by solid.kind solid ≡ None =
    ap (λ b. if b then Some (block_of solid.area solid.block) else if solid.kind == 1 then Some (cylinder_of solid.area solid.cylinder)
    else if solid.kind == 2 then Some (prism_of solid.area solid.prism) else if solid.kind == 3 then Some (disc_of solid.area solid.disc) else None)
    (ne_eqb solid.kind 0 zeroth)
    ∙ ap (λ b. if b then Some (cylinder_of solid.area solid.cylinder)
    else if solid.kind == 2 then Some (prism_of solid.area solid.prism) else if solid.kind == 3 then Some (disc_of solid.area solid.disc) else None)
    (ne_eqb solid.kind 1 first)
    ∙ ap (λ b. if b then Some (prism_of solid.area solid.prism) else if solid.kind == 3 then Some (disc_of solid.area solid.disc) else None)
    (ne_eqb solid.kind 2 second)
    ∙ ap (λ b. if b then Some (disc_of solid.area solid.disc) else None) (ne_eqb solid.kind 3 third) in
    let wrong : None ≡ Some other = sym is ∙ it.is in
    absurd (cc)
