use Rattle.std.proofs.Common.{◌≡◌, ◌∙◌, ◌⊎◌, inl, inr, ℕ, [], map, ap, arith, sym, subst}
use Rattle.nav_ground.specs.declared.cell.Cell.{Cell}
use Rattle.nav_ground.specs.declared.direction.Direction.{Direction}
use Rattle.nav_ground.specs.declared.direction.Direction.TheVariants.{Left, Above, Below}
use Rattle.nav_ground.specs.Directions.{number}
use Rattle.nav_ground.proofs.DirectionLaws.{number-below}
use Rattle.mesh_types.specs.Runs.{runs_of, label_if}
use Rattle.mesh_types.specs.Crossings.{is_at_side, is_crossing}
use Rattle.strip_mesh.specs.Indexed.{run_in}
use Rattle.strip_mesh.specs.Strips.{last_of}
use Rattle.strip_mesh.proofs.AwayLaws.{no_rim, no_rim_right}
use Rattle.strip_mesh.proofs.RowLaws.{row_is}
use Rattle.strip_mesh.proofs.rim.may_reach.Goals as goal

pub returns-in-Right : goal.returns-in-Right
returns-in-Right c = λ away.
    let window = c.args.of.window.now in
    let own = run_in c.args.of.strips.now c.args.of.strip in
    let two : number c.args.dir ≡ 2 = ap number c.in-Right.is in
    let side = ap (λ (cell : Cell). is_at_side window (number c.args.dir) cell.at) (sym c.last.ensures.value)
    ∙ sym (c.is_at_side.ensures ∙ ap (is_at_side window (number c.args.dir)) c.at.ensures) ∙ away in
    subst (λ (dir : ℕ). runs_of (map (λ (cell : Cell). label_if (is_crossing window dir cell)) own) ≡ []) (sym two)
    (no_rim_right window own (row_is c.args.of.strips.now.free.cells c.requires.rules.cut c.args.of.strip c.requires.there)
    (ap (λ (dir : ℕ). is_at_side window dir (last_of own).at) (sym two) ∙ side))

-- the other directions
not_right : (dir : Direction) → (dir ≡ Left) ⊎ ((dir ≡ Above) ⊎ (dir ≡ Below)) → number dir ≡ 2 → ⊥
not_right dir (inl is) two = omega (arith, two, ap number is)
not_right dir (inr (inl is)) two = omega (arith, two, ap number is)
not_right dir (inr (inr is)) two = omega (arith, two, ap number is)

pub returns-in-Left : goal.returns-in-Left
returns-in-Left c = λ away.
    let dir = number c.args.dir in
    no_rim dir c.args.of.window.now (run_in c.args.of.strips.now c.args.of.strip) (number-below c.args.dir) (not_right c.args.dir c.in-Left.is)
    (row_is c.args.of.strips.now.free.cells c.requires.rules.cut c.args.of.strip c.requires.there)
    (ap (λ (cell : Cell). is_at_side c.args.of.window.now dir cell.at) (sym c.first.ensures.value)
    ∙ sym (c.is_at_side-in-Left.ensures ∙ ap (is_at_side c.args.of.window.now dir) c.at-in-Left.ensures) ∙ away)
