use Rattle.std.proofs.Common.{◌≡◌, ◌++◌, ◌∙◌, ap, map, List, ℕ}
use Rattle.nav_text.specs.Lines.{text_of}
use Rattle.span_text.specs.FieldText.{span_text}
use Rattle.top_call.proofs.TriangleLaws.{spans_all}
use Rattle.top_call.proofs.answer.spelled.Goals as goal

pub returns : goal.returns
returns c =
    let header : c.extend_from_slice.new.self.items ≡ c.args.header.now = c.in_ok-extend_from_slice.ensures.items ∙ ap (λ (xs : List ℕ). xs ++ c.args.header.now) c.in_ok-text.ensures.items in
    spans_all c.args.header.now c.args.spans.now c.write_spans.new.out.items c.extend_from_slice-2.new.self.items
    (c.in_ok-write_spans.ensures ∙ ap (λ (xs : List ℕ). xs ++ text_of (map span_text c.args.spans.now)) header)
    c.in_ok-extend_from_slice-2.ensures.items
