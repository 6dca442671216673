use Rattle.std.proofs.Common.{arith}
use Rattle.span_text.proofs.OnePassLaws.{behind_space, longer_by}
use Rattle.span_text.proofs.body.next_number.Goals as goal

pub returns-then-one-eq0-clause-text : goal.returns-then-one-eq0-clause-text
returns-then-one-eq0-clause-text c =
    behind_space c.args.bytes.now c.in_ok-one.one.1.now c.in_ok-one.one.0 c.if-bytes-ne32.false c.in_ok-one.ensures.most c.in_ok-one.ensures.text

pub returns-in_default-clause-text : goal.returns-in_default-clause-text
returns-in_default-clause-text c =
    behind_space c.args.bytes.now c.in_ok-one.one.1.now c.in_ok-one.one.0 c.if-bytes-ne32.false c.in_ok-one.ensures.most c.in_ok-one.ensures.text

pub returns-in_default-with_digit-clause-text : goal.returns-in_default-with_digit-clause-text
returns-in_default-with_digit-clause-text c =
    let one = behind_space c.args.bytes.now c.in_ok-one.one.1.now c.in_ok-one.one.0 c.if-bytes-ne32.false c.in_ok-one.ensures.most c.in_ok-one.ensures.text in
    longer_by c.args.bytes.now c.in_ok-one.one.1.now c.in-Some.two.1.now c.in_ok-one.one.0 c.in-Some.two.0 one (omega (arith, c.in_ok-one.ensures.most)) (omega (arith, c.in_ok-one.ensures.most)) c.in-Some.ensures.least c.in-Some.ensures.most c.in-Some.ensures.text

pub returns-in-Some-with_digit-2-clause-text : goal.returns-in-Some-with_digit-2-clause-text
returns-in-Some-with_digit-2-clause-text c =
    let one = behind_space c.args.bytes.now c.in_ok-one.one.1.now c.in_ok-one.one.0 c.if-bytes-ne32.false c.in_ok-one.ensures.most c.in_ok-one.ensures.text in
    let two = longer_by c.args.bytes.now c.in_ok-one.one.1.now c.in-Some.two.1.now c.in_ok-one.one.0 c.in-Some.two.0 one (omega (arith, c.in_ok-one.ensures.most)) (omega (arith, c.in_ok-one.ensures.most)) c.in-Some.ensures.least c.in-Some.ensures.most c.in-Some.ensures.text in
    let three = longer_by c.args.bytes.now c.in-Some.two.1.now c.in-Some-with_digit.three.1.now c.in-Some.two.0 c.in-Some-with_digit.three.0 two (omega (arith, c.in_ok-one.ensures.most, c.in-Some.ensures.least, c.in-Some.ensures.most)) (omega (arith, c.in_ok-one.ensures.most, c.in-Some.ensures.least, c.in-Some.ensures.most)) c.in-Some-with_digit.ensures.least c.in-Some-with_digit.ensures.most c.in-Some-with_digit.ensures.text in
    longer_by c.args.bytes.now c.in-Some-with_digit.three.1.now c.in-Some-with_digit-2.four.1.now c.in-Some-with_digit.three.0 c.in-Some-with_digit-2.four.0 three (omega (arith, c.in_ok-one.ensures.most, c.in-Some.ensures.least, c.in-Some.ensures.most, c.in-Some-with_digit.ensures.least, c.in-Some-with_digit.ensures.most)) (omega (arith, c.in_ok-one.ensures.most, c.in-Some.ensures.least, c.in-Some.ensures.most, c.in-Some-with_digit.ensures.least, c.in-Some-with_digit.ensures.most)) c.in-Some-with_digit-2.ensures.least c.in-Some-with_digit-2.ensures.most c.in-Some-with_digit-2.ensures.text

pub returns-in-None-clause-text : goal.returns-in-None-clause-text
returns-in-None-clause-text c =
    let one = behind_space c.args.bytes.now c.in_ok-one.one.1.now c.in_ok-one.one.0 c.if-bytes-ne32.false c.in_ok-one.ensures.most c.in_ok-one.ensures.text in
    let two = longer_by c.args.bytes.now c.in_ok-one.one.1.now c.in-Some.two.1.now c.in_ok-one.one.0 c.in-Some.two.0 one (omega (arith, c.in_ok-one.ensures.most)) (omega (arith, c.in_ok-one.ensures.most)) c.in-Some.ensures.least c.in-Some.ensures.most c.in-Some.ensures.text in
    longer_by c.args.bytes.now c.in-Some.two.1.now c.in-Some-with_digit.three.1.now c.in-Some.two.0 c.in-Some-with_digit.three.0 two (omega (arith, c.in_ok-one.ensures.most, c.in-Some.ensures.least, c.in-Some.ensures.most)) (omega (arith, c.in_ok-one.ensures.most, c.in-Some.ensures.least, c.in-Some.ensures.most)) c.in-Some-with_digit.ensures.least c.in-Some-with_digit.ensures.most c.in-Some-with_digit.ensures.text
