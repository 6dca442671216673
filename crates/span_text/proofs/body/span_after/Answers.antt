use Rattle.std.proofs.Common.{rules}
use Rattle.span_text.proofs.body.span_after.Goals as goal

pub returns-then-span-top : goal.returns-then-span-top
returns-then-span-top c = search rules

pub returns-else-is_column_of : goal.returns-else-is_column_of
returns-else-is_column_of c = search rules
