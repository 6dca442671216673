use Rattle.std.proofs.Common.{ℕ, ◌++◌, ◌∷◌, [], ◌∙◌, ◌/◌, List, length, w32, ap, arith, length-drop, length-take}
use Rattle.std.specs.Int.{from_le_bytes}
use Rattle.registry_format.specs.Reading.{words_in}
use Rattle.registry_format.proofs.Loops.{four_cells, words_done, words_read}
use Rattle.registry_format.proofs.reading.words_in.Goals as goal

pub loop-preserved : goal.loop-preserved
loop-preserved c =
    let front_long = ap (λ (bs : List ℕ). length bs) c.split_at.ensures.front in
    let taken = length-take 4 c.loop.rest.now in
    let word = c.from_le_bytes.ensures
    ∙ ap (from_le_bytes w32) (four_cells c.split_at.result.0.now (omega (arith, front_long, taken, c.loop.invariant.1, c.loop-test.true)) ∙ c.split_at.ensures.front) in (
      words_read c.loop.words.items c.push.new.self.items (length c.args.bytes.now / 4) c.loop.counter c.loop.rest.now c.split_at.result.1.now
          (words_in (length c.args.bytes.now / 4) c.args.bytes.now) c.loop-test.true c.loop.invariant.0
          (c.in_ok-push.ensures.items ∙ ap (λ n. c.loop.words.items ++ n ∷ []) word) c.split_at.ensures.back,
      omega (arith, c.loop.invariant.1, c.loop-test.true, length-drop 4 c.loop.rest.now, ap (λ (ws : List ℕ). length ws) c.split_at.ensures.back),
    )

pub returns : goal.returns
returns c =
    words_done c.loop.words.items (length c.args.bytes.now / 4) c.loop.counter c.loop.rest.now (words_in (length c.args.bytes.now / 4) c.args.bytes.now)
    (omega (arith, c.loop-test.false)) c.loop.invariant.0
