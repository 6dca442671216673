use Rattle.std.proofs.Common.{ap, sym, ℕ, List, drop, ◌+◌, ◌∷◌, ◌++◌, take, get_or, decimal, Err}
use Rattle.std.specs.List.{flat_map}
use Rattle.std.proofs.lemmas.List.{append-nil, take_all}
use Rattle.nav_text.proofs.AppendLaws.{extended, spelled, and_then, longer, handed, one_more, and_rest}
use Rattle.nav_text.proofs.line.append_line.Goals as goal

-- a number behind a space
abbrev spaced : ℕ → List ℕ
spaced n = 32 ∷ decimal n

pub loop-number-init : goal.loop-number-init
loop-number-init c =
    let taken = c.in_ok-extend_from_slice.ensures in
    spelled _ _ (sym (append-nil c.args.word.now)) (extended _ _ _ c.args.word.now taken.items taken.capacity taken.succeeds)

pub returns-in_err-extend_from_slice : goal.returns-in_err-extend_from_slice
returns-in_err-extend_from_slice c =
    let taken = c.in_err-extend_from_slice.ensures in
    handed _ _ c.from_residual.ensures.0 (longer c.args.word.now (flat_map spaced c.args.numbers.now) (extended {T = Unit {0}} _ _ (Err c.in_err-extend_from_slice.field-0.0) c.args.word.now taken.items taken.capacity taken.succeeds))

pub loop-number-preserved : goal.loop-number-preserved
loop-number-preserved c =
    let i = c.loop-number.number-index in
    let numbers = c.args.numbers.now in
    let so_far = c.args.word.now ++ flat_map spaced (take i numbers) in
    spelled _ _ (one_more spaced c.args.word.now numbers i 0 c.loop-number-test.true)
    (and_then so_far (spaced (get_or numbers i 0)) c.loop-number.invariant c.in_ok-append_number.ensures)

pub returns-in_err-append_number : goal.returns-in_err-append_number
returns-in_err-append_number c =
    let i = c.loop-number.number-index in
    let numbers = c.args.numbers.now in
    let so_far = c.args.word.now ++ flat_map spaced (take i numbers) in
    handed _ _ c.from_residual-in_err-append_number.ensures.0
    (spelled _ _ (and_rest spaced c.args.word.now numbers i 0 c.loop-number-test.true)
    (longer _ (flat_map spaced (drop (i + 1) numbers)) (and_then so_far (spaced (get_or numbers i 0)) c.loop-number.invariant c.in_err-append_number.ensures)))

pub returns : goal.returns
returns c = spelled _ _ (ap (λ ys. c.args.word.now ++ flat_map spaced ys) (take_all c.loop-number.number-index c.args.numbers.now c.loop-number-test.false)) c.loop-number.invariant
