use Rattle.std.proofs.Common.{◌≡◌, ℕ, ◌↔◌, ◌∙◌, Bool, true, false, ap, sym}
use Rattle.std.specs.Prelude.{◌&&◌}
use Rattle.nav_ground.specs.declared.prism.PrismBase.{PrismBase}
use Rattle.nav_ground.specs.declared.shape.Shape.{Shape}
use Rattle.nav_ground.specs.declared.shape.Shape.TheVariants.{Prism}
use Rattle.nav_ground.specs.Prisms.{corners_of, is_under_base}
use Rattle.nav_ground.specs.Shapes.{Covers, is_covering, is_in}
use Rattle.nav_ground.proofs.ShapeLaws.{is_covering-Covers}
use Rattle.nav_ground.proofs.shape.covers.Goals as goal

told : (shape : Shape) (x z floor : ℕ) (r : Bool) → r ≡ is_covering shape x z floor → (r ≡ true) ↔ Covers shape x z floor
told shape x z floor r is =
    let both = is_covering-Covers shape x z floor in (λ h. both.0 (sym is ∙ h), λ covered. is ∙ both.1 covered)

-- the two tests together are that of the prism
under : (shape : Shape) (base : PrismBase) (area y0 y1 x z floor : ℕ) (b r : Bool) → shape ≡ Prism base area y0 y1
    → b ≡ is_under_base area (corners_of base) x z → r ≡ is_in y0 y1 floor → b ≡ true → r ≡ is_covering shape x z floor
under shape base area y0 y1 x z floor b r e is high holds =
    high ∙ ap (λ t. t && is_in y0 y1 floor) (sym holds ∙ is) ∙ ap (λ (s : Shape). is_covering s x z floor) (sym e)

not_under : (shape : Shape) (base : PrismBase) (area y0 y1 x z floor : ℕ) (b : Bool) → shape ≡ Prism base area y0 y1
    → b ≡ is_under_base area (corners_of base) x z → b ≡ false → b ≡ is_covering shape x z floor
not_under shape base area y0 y1 x z floor b e is none =
    none ∙ ap (λ t. t && is_in y0 y1 floor) (sym none ∙ is) ∙ ap (λ (s : Shape). is_covering s x z floor) (sym e)

pub returns-then-is_under_base-clause-covered : goal.returns-then-is_under_base-clause-covered
returns-then-is_under_base-clause-covered c =
    let p = c.in-Prism in
    told c.args.shape.now c.args.x c.args.z c.args.floor _
    (under c.args.shape.now p.base p.area p.y0 p.y1 c.args.x c.args.z c.args.floor c.is_under_base.result _ p.is c.is_under_base.ensures
    c.is_in-then-is_under_base.ensures c.if-is_under_base.true)

pub returns-else-is_under_base-clause-covered : goal.returns-else-is_under_base-clause-covered
returns-else-is_under_base-clause-covered c =
    let p = c.in-Prism in
    told c.args.shape.now c.args.x c.args.z c.args.floor _
    (not_under c.args.shape.now p.base p.area p.y0 p.y1 c.args.x c.args.z c.args.floor c.is_under_base.result p.is c.is_under_base.ensures c.if-is_under_base.false)
