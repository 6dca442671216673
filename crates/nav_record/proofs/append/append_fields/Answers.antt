use Rattle.std.proofs.Common.{◌∙◌, ap, sym, drop, ◌+◌, ◌++◌, take, Err}
use Rattle.std.specs.List.{flat_map}
use Rattle.std.proofs.lemmas.List.{append-nil, take_all}
use Rattle.nav_record.specs.Appending.{field_text}
use Rattle.nav_text.proofs.AppendLaws.{extended, spelled, and_then, longer, handed, one_more, and_rest}
use Rattle.nav_record.proofs.AppendLaws.{fields_behind}
use Rattle.nav_record.proofs.append.append_fields.Goals as goal

pub loop-field-init : goal.loop-field-init
loop-field-init c =
    let taken = c.in_ok-extend_from_slice.ensures in
    spelled _ _ (sym (append-nil c.args.word.now)) (extended _ _ _ c.args.word.now taken.items taken.capacity taken.succeeds)

pub returns-in_err-extend_from_slice : goal.returns-in_err-extend_from_slice
returns-in_err-extend_from_slice c =
    let word = c.args.word.now in
    let taken = c.in_err-extend_from_slice.ensures in
    handed _ _ c.from_residual.ensures.0
    (spelled _ _ (fields_behind word c.args.fields.now) (longer word (flat_map field_text c.args.fields.now) (extended {T = Unit {0}} _ _ (Err c.in_err-extend_from_slice.field-0.0) word taken.items taken.capacity taken.succeeds)))

pub loop-field-preserved : goal.loop-field-preserved
loop-field-preserved c =
    let i = c.loop-field.field-index in
    let fields = c.args.fields.now in
    let so_far = c.args.word.now ++ flat_map field_text (take i fields) in
    spelled _ _ (one_more field_text c.args.word.now fields i _ c.loop-field-test.true)
    (and_then so_far _ c.loop-field.invariant c.in_ok-append_field.ensures)

pub returns-in_err-append_field : goal.returns-in_err-append_field
returns-in_err-append_field c =
    let i = c.loop-field.field-index in
    let word = c.args.word.now in
    let fields = c.args.fields.now in
    let so_far = word ++ flat_map field_text (take i fields) in
    handed _ _ c.from_residual-in_err-append_field.ensures.0
    (spelled _ _ (and_rest field_text word fields i _ c.loop-field-test.true ∙ fields_behind word fields)
    (longer _ (flat_map field_text (drop (i + 1) fields)) (and_then so_far _ c.loop-field.invariant c.in_err-append_field.ensures)))

pub returns : goal.returns
returns c =
    let fields = c.args.fields.now in
    let all = take_all c.loop-field.field-index fields c.loop-field-test.false in
    spelled _ _ (ap (λ ys. c.args.word.now ++ flat_map field_text ys) all ∙ fields_behind c.args.word.now fields) c.loop-field.invariant
