use Rattle.std.proofs.Common.{sym, ◌∙◌}
use Rattle.std.proofs.lemmas.Bool.{true≢false}
use Rattle.std.proofs.lemmas.Option.{none-some}
use Rattle.mesh_place.proofs.heights.is_place.Goals as goal

pub returns-in-None : goal.returns-in-None
returns-in-None c =
    (λ is. absurd (true≢false (sym is)), λ place. absurd (none-some place.held.polygon (sym (sym c.poly.ensures ∙ c.in-None.is) ∙ place.held.there)))
