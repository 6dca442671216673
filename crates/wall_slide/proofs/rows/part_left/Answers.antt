use Rattle.std.proofs.Common.{◌≡◌, ◌+◌, ◌-◌, ◌∙◌, arith}
use Rattle.std.specs.Int.{div_ceil}
use Rattle.wall_slide.specs.Rows.{span_of}
use Rattle.mesh_place.specs.Lines.{right_of}
use Rattle.wall_slide.proofs.LineParts.{turn_on, both_left, both_right, rise_of, rising, fall_of, falling}
use Rattle.wall_slide.proofs.rows.part_left.Goals as goal

pub returns-then-first-eq0 : goal.returns-then-first-eq0
returns-then-first-eq0 c =
    both_left c.args.begin c.args.end c.args.z (span_of c.args.row) c.requires.part
    (omega (arith, c.right_by-first.ensures, c.if-first-eq0.true)) (omega (arith, c.right_by-last.ensures, c.if-last-eq0.true))

pub div_ceil-requires : goal.div_ceil-requires
div_ceil-requires c =
    let rise = rise_of c.args.begin c.args.end c.args.z (span_of c.args.row) c.requires.part
    (omega (arith, c.right_by-first.ensures, c.if-first-eq0.false)) (omega (arith, c.right_by-last.ensures, c.if-last-eq0.true)) in
    omega (arith, rise.some, c.rise.ensures)

pub overflow_cast-result : goal.overflow_cast-result
overflow_cast-result c =
    let rise = rise_of c.args.begin c.args.end c.args.z (span_of c.args.row) c.requires.part
    (omega (arith, c.right_by-first.ensures, c.if-first-eq0.false)) (omega (arith, c.right_by-last.ensures, c.if-last-eq0.true)) in
    let first = c.right_by-first.ensures in
    let each = c.rise.ensures in
    let steps : c.div_ceil.result ≡ div_ceil (right_of (turn_on c.args.begin c.args.end c.args.z c.args.row.first)) _ =
    c.div_ceil.ensures ∙ (λ i. div_ceil (first i) (each i)) in
    record { fits = omega (arith, steps, rise.few, c.requires.part.last) }

pub overflow_add-result : goal.overflow_add-result
overflow_add-result c =
    let rise = rise_of c.args.begin c.args.end c.args.z (span_of c.args.row) c.requires.part
    (omega (arith, c.right_by-first.ensures, c.if-first-eq0.false)) (omega (arith, c.right_by-last.ensures, c.if-last-eq0.true)) in
    let first = c.right_by-first.ensures in
    let each = c.rise.ensures in
    let steps : c.div_ceil.result ≡ div_ceil (right_of (turn_on c.args.begin c.args.end c.args.z c.args.row.first)) _ =
    c.div_ceil.ensures ∙ (λ i. div_ceil (first i) (each i)) in
    record { fits = omega (arith, steps, rise.few, c.requires.part.order, c.requires.part.last) }

pub returns-then-last-eq0 : goal.returns-then-last-eq0
returns-then-last-eq0 c =
    let rise = rise_of c.args.begin c.args.end c.args.z (span_of c.args.row) c.requires.part
    (omega (arith, c.right_by-first.ensures, c.if-first-eq0.false)) (omega (arith, c.right_by-last.ensures, c.if-last-eq0.true)) in
    let first = c.right_by-first.ensures in
    let each = c.rise.ensures in
    let steps : c.div_ceil.result ≡ div_ceil (right_of (turn_on c.args.begin c.args.end c.args.z c.args.row.first)) _ =
    c.div_ceil.ensures ∙ (λ i. div_ceil (first i) (each i)) in
    rising c.args.begin c.args.end c.args.z (span_of c.args.row) c.requires.part rise (c.args.row.first + c.div_ceil.result) (omega (arith, steps))

pub returns-then-first-gt0 : goal.returns-then-first-gt0
returns-then-first-gt0 c =
    both_right c.args.begin c.args.end c.args.z (span_of c.args.row) c.requires.part
    (omega (arith, c.right_by-first.ensures, c.if-first-gt0.true)) (omega (arith, c.right_by-last.ensures, c.if-last-eq0.false))

pub div_ceil-requires-2 : goal.div_ceil-requires-2
div_ceil-requires-2 c =
    let fall = fall_of c.args.begin c.args.end c.args.z (span_of c.args.row) c.requires.part
    (omega (arith, c.right_by-first.ensures, c.if-first-gt0.false)) (omega (arith, c.right_by-last.ensures, c.if-last-eq0.false)) in
    omega (arith, fall.some, c.rise-2.ensures)

pub overflow_cast-result-2 : goal.overflow_cast-result-2
overflow_cast-result-2 c =
    let fall = fall_of c.args.begin c.args.end c.args.z (span_of c.args.row) c.requires.part
    (omega (arith, c.right_by-first.ensures, c.if-first-gt0.false)) (omega (arith, c.right_by-last.ensures, c.if-last-eq0.false)) in
    let last = c.right_by-last.ensures in
    let each = c.rise-2.ensures in
    let steps : c.div_ceil-2.result ≡ div_ceil (right_of (turn_on c.args.begin c.args.end c.args.z c.args.row.last)) _ =
    c.div_ceil-2.ensures ∙ (λ i. div_ceil (last i) (each i)) in
    record { fits = omega (arith, steps, fall.few, c.requires.part.last) }

pub overflow_sub-result : goal.overflow_sub-result
overflow_sub-result c =
    let fall = fall_of c.args.begin c.args.end c.args.z (span_of c.args.row) c.requires.part
    (omega (arith, c.right_by-first.ensures, c.if-first-gt0.false)) (omega (arith, c.right_by-last.ensures, c.if-last-eq0.false)) in
    let last = c.right_by-last.ensures in
    let each = c.rise-2.ensures in
    let steps : c.div_ceil-2.result ≡ div_ceil (right_of (turn_on c.args.begin c.args.end c.args.z c.args.row.last)) _ =
    c.div_ceil-2.ensures ∙ (λ i. div_ceil (last i) (each i)) in
    omega (arith, steps, fall.few)

pub returns : goal.returns
returns c =
    let fall = fall_of c.args.begin c.args.end c.args.z (span_of c.args.row) c.requires.part
    (omega (arith, c.right_by-first.ensures, c.if-first-gt0.false)) (omega (arith, c.right_by-last.ensures, c.if-last-eq0.false)) in
    let last = c.right_by-last.ensures in
    let each = c.rise-2.ensures in
    let steps : c.div_ceil-2.result ≡ div_ceil (right_of (turn_on c.args.begin c.args.end c.args.z c.args.row.last)) _ =
    c.div_ceil-2.ensures ∙ (λ i. div_ceil (last i) (each i)) in
    falling c.args.begin c.args.end c.args.z (span_of c.args.row) c.requires.part fall (c.args.row.last - c.div_ceil-2.result) (omega (arith, steps))
