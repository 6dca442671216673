use Rattle.std.proofs.Common.{rules, ◌≡◌, ℕ, ◌/◌, ◌≤◌, FitsSigned, w64, to_z-of_z, ap, sym, subst, ◌∙◌, arith}
use Rattle.std.specs.Int.{div_ceil}
use Rattle.std.specs.Int.RustNames.{unsigned_abs}
use Rattle.std.proofs.lemmas.Int.{ints}
use Rattle.surface_move.proofs.Turns.{lasts, takes}
use Rattle.surface_move.proofs.parts.narrowed.Goals as goal

pub returns-else-turn-ge0-2-clause-all : goal.returns-else-turn-ge0-2-clause-all
returns-else-turn-ge0-2-clause-all c g among not =
    let start = c.args.turn.start in
    let each = c.args.turn.each in
    let in_start : FitsSigned w64 start = search rules in
    let in_each : FitsSigned w64 each = search rules in
    let size : c.unsigned_abs-start.result ≡ unsigned_abs start = c.unsigned_abs-start.ensures.value ∙ ap unsigned_abs (to_z-of_z in_start) in
    let slope : c.unsigned_abs-each.result ≡ unsigned_abs each = c.unsigned_abs-each.ensures.value ∙ ap unsigned_abs (to_z-of_z in_each) in
    let last = lasts start each g (search (rules, arith, ints)) (search (rules, arith, ints)) not in
    let last' = subst (λ (x : ℕ). g ≤ x / c.unsigned_abs-each.result) (sym size) (subst (λ (y : ℕ). g ≤ unsigned_abs start / y) (sym slope) last) in
    record { least = among.least; most = omega (arith, among.most, last', c.min.ensures) }

pub returns-else-turn-le0-clause-all : goal.returns-else-turn-le0-clause-all
returns-else-turn-le0-clause-all c g among not =
    let start = c.args.turn.start in
    let each = c.args.turn.each in
    let in_start : FitsSigned w64 start = search rules in
    let in_each : FitsSigned w64 each = search rules in
    let size : c.unsigned_abs-start.result ≡ unsigned_abs start = c.unsigned_abs-start.ensures.value ∙ ap unsigned_abs (to_z-of_z in_start) in
    let slope : c.unsigned_abs-each.result ≡ unsigned_abs each = c.unsigned_abs-each.ensures.value ∙ ap unsigned_abs (to_z-of_z in_each) in
    let first = takes start each g (search (rules, arith, ints)) (search (rules, arith, ints)) not in
    let first' =
    subst (λ (x : ℕ). div_ceil x c.unsigned_abs-each.result ≤ g) (sym size) (subst (λ (y : ℕ). div_ceil (unsigned_abs start) y ≤ g) (sym slope) first) in
    let first'' = subst (λ (x : ℕ). x ≤ g) (sym c.div_ceil.ensures) first' in
    record { least = omega (arith, among.least, first'', c.max-else-turn-ge0.ensures); most = among.most }
