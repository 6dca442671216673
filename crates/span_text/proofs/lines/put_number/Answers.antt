use Rattle.std.proofs.Common.{◌≡◌, ◌+◌, ◌-◌, ◌≤◌, length, decimal, arith}
use Rattle.std.proofs.lemmas.Fmt.{length-decimal-le}
use Rattle.std.proofs.lemmas.List.{drop-set}
use Rattle.span_text.proofs.lines.put_number.Goals as goal

-- src/lines.rt:37:14
pub write_digits-at-requires : goal.write_digits-at-requires
write_digits-at-requires c =
    let short : length (decimal c.from.result) ≤ 10 = length-decimal-le 10 c.from.result (omega arith) (omega (arith, c.from.ensures, c.ranges.number.fits)) (omega (arith, c.from.ensures, c.ranges.number.fits)) in (
      omega (arith, short, c.requires.room),
      c.requires.within,
    )

-- src/lines.rt:37:14
pub overflow_sub-at : goal.overflow_sub-at
overflow_sub-at c =
    let short : length (decimal c.from.result) ≤ 10 = length-decimal-le 10 c.from.result (omega arith) (omega (arith, c.from.ensures, c.ranges.number.fits)) (omega (arith, c.from.ensures, c.ranges.number.fits)) in
    omega (arith, short, c.requires.room, c.write_digits-at.ensures.start)

-- src/lines.rt:28:1
pub returns-clause-text : goal.returns-clause-text
returns-clause-text c =
    let short : length (decimal c.from.result) ≤ 10 = length-decimal-le 10 c.from.result (omega arith) (omega (arith, c.from.ensures, c.ranges.number.fits)) (omega (arith, c.from.ensures, c.ranges.number.fits)) in
    let next : c.write_digits-at.result - 1 + 1 ≡ c.write_digits-at.result = omega (arith, short, c.requires.room, c.write_digits-at.ensures.start) in
    rw (drop-set c.write_digits-at.new.buf (c.write_digits-at.result - 1) 32 (omega (arith, short, c.requires.room, c.requires.within, c.write_digits-at.ensures.start, c.write_digits-at.auto.buf)), next, c.write_digits-at.ensures.written, c.from.ensures)

-- src/lines.rt:28:1
pub returns-clause-most : goal.returns-clause-most
returns-clause-most c =
    let short : length (decimal c.from.result) ≤ 10 = length-decimal-le 10 c.from.result (omega arith) (omega (arith, c.from.ensures, c.ranges.number.fits)) (omega (arith, c.from.ensures, c.ranges.number.fits)) in
    omega (arith, short, c.write_digits-at.ensures.start)
