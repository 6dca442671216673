use Rattle.std.proofs.Common.{◌≡◌, arith, sym, ◌∙◌}
use Rattle.std.proofs.lemmas.Bool.{leb-true}
use Rattle.corridor_search.specs.Landmarks.{heights_at, gap_of, are_alike}
use Rattle.corridor_search.proofs.landmarks.is_gentle.Goals as goal

pub returns-then-are_alike : goal.returns-then-are_alike
returns-then-are_alike c within =
    let p = sym c.heights-heights.ensures in
    let q = sym c.heights-others.ensures in
    let same : gap_of 8 (heights_at c.args.marks.now c.args.link.now.from) (heights_at c.args.marks.now c.args.link.now.to) ≡ gap_of 8 c.heights-heights.result c.heights-others.result = λ i. gap_of 8 (p i) (q i) in
    record {
      gap = omega (arith, leb-true _ _ within, same, c.gap.ensures, c.weight_over.ensures);
      alike = (λ i. are_alike 8 (p i) (q i)) ∙ sym c.if-are_alike.ensures;
    }
