use Rattle.std.proofs.Common.{◌∙◌, ap, List, [], ◌∷◌, ◌++◌}
use Rattle.contour_simplify.specs.declared.run.RunHalf.{RunHalf}
use Rattle.contour_simplify.proofs.run.push_parts.Goals as goal

pub returns : goal.returns
returns c = λ d. record {
  before = c.before-2.result;
  after = c.after.result;
  pushed = c.in_ok-push-2.ensures.items ∙ ap (λ (hs : List RunHalf). hs ++ c.before-2.result ∷ []) c.in_ok-push.ensures.items;
  first = c.before-2.ensures d;
  second = c.after.ensures d;
}
