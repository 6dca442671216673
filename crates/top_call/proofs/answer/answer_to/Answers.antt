use Rattle.top_call.proofs.AnswerLaws.{script_right, script_stepped, triangles_right, triangles_stepped}
use Rattle.top_call.proofs.answer.answer_to.Goals as goal

pub returns-in-Script-clause-right : goal.returns-in-Script-clause-right
returns-in-Script-clause-right g c =
    script_right _ _ _ _ c.in-Script.is c.answer_to_script.ensures.right c.answer_to_script.ensures.complete

pub returns-in-Script-clause-steps : goal.returns-in-Script-clause-steps
returns-in-Script-clause-steps g c = script_stepped _ _ _ _ _ c.in-Script.is c.answer_to_script.ensures.steps

pub returns-in-Triangles-clause-right : goal.returns-in-Triangles-clause-right
returns-in-Triangles-clause-right g c = triangles_right _ _ _ _ c.in-Triangles.is c.as_slice.ensures.value c.answer_to_triangles.ensures

pub returns-in-Triangles-clause-steps : goal.returns-in-Triangles-clause-steps
returns-in-Triangles-clause-steps g c = triangles_stepped _ _ _ c.in-Triangles.is
