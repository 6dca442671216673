use Rattle.std.proofs.Common.{arith}
use Rattle.std.proofs.lemmas.Result.{IfOk-weaker}
use Rattle.span_text.proofs.front.read_front.Goals as goal

pub returns-clause-past : goal.returns-clause-past
returns-clause-past c =
    let bytes = c.args.bytes.now in
    let front = c.in_ok-setting.ensures.past bytes c.in_ok-sizes.ensures.past in
    IfOk-weaker c.read_clear.result _ _ (λ x past. past bytes front) c.read_clear.ensures.past

pub returns-clause-sides : goal.returns-clause-sides
returns-clause-sides c =
    let sizes = c.in_ok-sizes.ensures.sides in
    let setting = c.in_ok-setting.ensures.sides in
    IfOk-weaker c.read_clear.result _ _ (λ x same. (omega (arith, same.0, setting.0, sizes.0), omega (arith, same.1, setting.1, sizes.1))) c.read_clear.ensures.sides
