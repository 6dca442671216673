use Rattle.std.proofs.Common.{sym, subst}
use Rattle.std.proofs.lemmas.Result.{IfOk-weaker}
use Rattle.nav_base.specs.declared.point.Question.{Question}
use Rattle.mesh_types.specs.declared.answers.Answer.{Answer}
use Rattle.mesh_types.specs.Right.{AreAlike, IsRight, IsRightPath, IsRightRay}
use Rattle.mesh_types.proofs.RightLaws.{alike}
use Rattle.nav_query.proofs.answering.answer_in.Goals as goal

pub returns-in-Path-clause-only : goal.returns-in-Path-clause-only
returns-in-Path-clause-only c =
    let mesh = c.args.mesh.now in
    IfOk-weaker c.path.result (λ (answer : Answer). IsRightPath mesh c.in-Path.from c.in-Path.from_y c.in-Path.to c.in-Path.to_y answer)
    (λ (answer : Answer). (other : Answer) → IsRight mesh c.args.question.now other → AreAlike answer other)
    (λ answer right other right'. alike mesh c.args.question.now answer other
    (subst (λ (question : Question). IsRight mesh question answer) (sym c.in-Path.is) right) right')
    c.path.ensures.right

pub returns-in-Ray-clause-only : goal.returns-in-Ray-clause-only
returns-in-Ray-clause-only c =
    let mesh = c.args.mesh.now in
    IfOk-weaker c.ray.result (λ (answer : Answer). IsRightRay mesh c.in-Ray.from c.in-Ray.from_y c.in-Ray.to answer)
    (λ (answer : Answer). (other : Answer) → IsRight mesh c.args.question.now other → AreAlike answer other)
    (λ answer right other right'. alike mesh c.args.question.now answer other
    (subst (λ (question : Question). IsRight mesh question answer) (sym c.in-Ray.is) right) right')
    c.ray.ensures.right
