use Rattle.std.proofs.Common.{List, subst}
use Rattle.std.proofs.lemmas.Result.{IfOk-weaker}
use Rattle.mesh_types.specs.declared.answers.Jump.{Jump}
use Rattle.mesh_types.specs.Hops.{IsHopRight}
use Rattle.mesh_types.proofs.HopLaws.{alike_hops, as_path}
use Rattle.off_links.proofs.hops.hop.Goals as goal

pub returns-clause-alike : goal.returns-clause-alike
returns-clause-alike c =
    let q = c.args.question.now in
    IfOk-weaker c.right_hop.result _ _ (λ answer right other is. alike_hops c.args.mesh.now q.from q.from_y q.to q.to_y q.jumps answer other right is) c.right_hop.ensures.right

pub returns-clause-no_jumps : goal.returns-clause-no_jumps
returns-clause-no_jumps c =
    let q = c.args.question.now in
    IfOk-weaker c.right_hop.result _ _
    (λ answer right none path is.
    as_path c.args.mesh.now q.from q.from_y q.to q.to_y answer path
    (subst (λ (jumps : List Jump). IsHopRight c.args.mesh.now jumps q.from q.from_y q.to q.to_y answer) none right) is) c.right_hop.ensures.right
