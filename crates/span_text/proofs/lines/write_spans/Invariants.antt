use Rattle.std.proofs.Common.{◌≡◌, ◌++◌, map, take}
use Rattle.nav_text.specs.Lines.{text_of}
use Rattle.span_text.specs.FieldText.{span_text}
use Rattle.span_text.specs.LineFront.{IsFrontOf}
use Rattle.span_text.proofs.lines.write_spans.Given as goal

-- the front of the last column, and the lines so far
abbrev pub invariant-loop-packed : goal.invariant-loop-packed
invariant-loop-packed l = record {
  front : IsFrontOf l.front.x l.front.z l.front.bytes l.front.from;
  text : l.out.items ≡ l.initial.out.items ++ text_of (map span_text (take l.packed-index l.spans));
}
