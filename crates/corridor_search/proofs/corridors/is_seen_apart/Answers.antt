use Rattle.std.proofs.Common.{sym, ◌∙◌}
use Rattle.std.specs.Option.{option_copied}
use Rattle.corridor_search.specs.Landmarks.{are_alike}
use Rattle.corridor_search.proofs.Alike.{unlike-apart}
use Rattle.corridor_search.proofs.corridors.is_seen_apart.Goals as goal

pub returns-then-not-are_alike : goal.returns-then-not-are_alike
returns-then-not-are_alike c _ =
    let p = sym c.heights_of-heights.ensures in
    let q = sym c.heights_of-others.ensures in
    unlike-apart c.args.mesh.now (option_copied c.args.landmarks) c.args.from c.args.to c.requires.landmarks
    ((λ i. are_alike 8 (p i) (q i)) ∙ sym c.if-not-are_alike.ensures)
