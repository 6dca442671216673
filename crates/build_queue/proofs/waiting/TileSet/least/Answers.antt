use Rattle.std.proofs.Common.{◌≡◌, ℕ, ◌+◌, ◌*◌, ◌<◌, Bool, List, length, get_or, ap, subst, ◌∙◌}
use Rattle.std.specs.Int.{bit_at}
use Rattle.std.proofs.lemmas.List.{get_or_read}
use Rattle.build_queue.specs.Flags.{flag_of, least_below}
use Rattle.build_queue.proofs.WordLaws.{least_found, least_is, none_is, word_there}
use Rattle.build_queue.proofs.waiting.TileSet.least.Goals as goal

pub returns-in_err-word : goal.returns-in_err-word
returns-in_err-word c =
    let none = rw c.as_slice.ensures.value at c.in_err-word.ensures.none in
    c.from_residual.ensures ∙ none_is c.self.inside.count c.self.inside.words.items c.self.inside.filled.items c.self.invariant none
    ∙ ap (λ (flags : List Bool). least_below (length flags) (flag_of flags)) c.self.view_is

pub returns : goal.returns
returns c =
    let words : List ℕ = c.self.inside.words.items in
    let word : ℕ = c.in_ok-word.word in
    let low : ℕ = c.lowest_bit.result in
    let first = rw c.as_slice.ensures.value at c.in_ok-word.ensures.some in
    let there = word_there c.self.inside.count words c.self.inside.filled.items word c.self.invariant first.member in
    let read : c.index.result.now ≡ get_or words word 0 = get_or_read words word c.index.result.now there.0 c.index.ensures 0 in
    least_is c.self.inside.count words c.self.inside.filled.items (64 * word + low) c.self.invariant
    (least_found c.self.inside.count words c.self.inside.filled.items word low c.self.invariant first c.lowest_bit.ensures.there
    (subst (λ (w : ℕ). bit_at w low ≡ 1) read c.lowest_bit.ensures.set)
    (subst (λ (w : ℕ). (other : ℕ) → other < low → bit_at w other ≡ 0) read c.lowest_bit.ensures.before))
    ∙ ap (λ (flags : List Bool). least_below (length flags) (flag_of flags)) c.self.view_is
