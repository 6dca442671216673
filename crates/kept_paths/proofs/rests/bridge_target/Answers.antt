use Rattle.std.proofs.Common.{◌∙◌, refl, sym, arith}
use Rattle.std.specs.Prelude.{IfNone, Option, Some, None}
use Rattle.std.proofs.lemmas.Bool.{false≢true}
use Rattle.std.proofs.lemmas.List.{drop_all}
use Rattle.kept_paths.proofs.RepairLaws.{located-target}
use Rattle.kept_paths.proofs.rests.bridge_target.Goals as goal
use Rattle.kept_paths.proofs.rests.bridge_target.Goals.{then-repair+in_default, else-repair}

if-none : {X : Type 0} (found : Option X) (P : Type 0) → P → IfNone found P
if-none (Some x) P is = tt
if-none None P is = is

pub returns-in_err-to-clause-none : goal.returns-in_err-to-clause-none
returns-in_err-to-clause-none c = if-none c.from_residual.result _ (c.in_err-to.ensures.none.0 refl)

pub returns-clause-some : goal.returns-clause-some
returns-clause-some c =
    located-target c.args.mesh.now c.args.repair.now c.args.cut c.len.result c.in_ok-to.to
    (drop_all c.len.result c.args.repair.now.path.links (omega (arith, c.len.ensures)))
    (elim c.if-repair.branch [
      | then-repair+in_default w ↦ λ may. w.in_default.ensures.none
      | else-repair w ↦ λ may. absurd (false≢true (sym w.if-repair.false ∙ may))
    ])
    c.in_ok-to.ensures.located
