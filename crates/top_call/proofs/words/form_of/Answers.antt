use Rattle.std.proofs.Common.{◌≡◌, sym, rules}
use Rattle.std.specs.Prelude.{string_bytes, codes}
use Rattle.top_call.specs.Words.{AskBehindGen}
use Rattle.top_call.proofs.WordLaws.{asked_behind, three_words}
use Rattle.top_call.proofs.words.form_of.Goals as goal

pub returns-in-len3 : goal.returns-in-len3
returns-in-len3 c =
    let word = c.word-item-then-words-lt4.result in
    let is : string_bytes word ≡ codes "gen" = search rules in
    let behind : AskBehindGen (string_bytes c.number-item.result) (string_bytes c.size-item.result) c.gen_form.result =
    rw (sym c.as_str-in-len3.ensures.value) (rw (sym c.as_str-in-len3-2.ensures.value) c.gen_form.ensures) in
    asked_behind c.args.words.now word c.number-item.result c.size-item.result c.gen_form.result
    (three_words c.args.words.now word c.number-item.result c.size-item.result c.in-len3.len_at_least c.in-len3.len_below c.word-item-then-words-lt4.is
    c.number-item.is c.size-item.is) is behind
