use Rattle.std.proofs.Common.{[], ◌∷◌, ◌∙◌, subst}
use Rattle.nav_ground.specs.SmallCells.{IsSmall}
use Rattle.nav_ground.proofs.SmallCellLaws.{small_with}
use Rattle.layer_cut.proofs.neighbours.layer_cell.Goals as goal

pub kept_level-requires-clause-small : goal.kept_level-requires-clause-small
kept_level-requires-clause-small c = subst IsSmall c.get-whole.ensures.value c.get-whole.ensures.small

pub kept_level-requires-2-clause-small : goal.kept_level-requires-2-clause-small
kept_level-requires-2-clause-small c = subst IsSmall c.get-whole.ensures.value c.get-whole.ensures.small

pub kept_level-requires-3-clause-small : goal.kept_level-requires-3-clause-small
kept_level-requires-3-clause-small c = subst IsSmall c.get-whole.ensures.value c.get-whole.ensures.small

pub kept_level-requires-4-clause-small : goal.kept_level-requires-4-clause-small
kept_level-requires-4-clause-small c = subst IsSmall c.get-whole.ensures.value c.get-whole.ensures.small

pub new-requires : goal.new-requires
new-requires c =
    let small = c.get-whole.ensures.small in
    small_with c.get-whole.result c.get-whole.result.area _ _ _ _ small small.area
    c.kept_level.ensures.small c.kept_level-2.ensures.small c.kept_level-3.ensures.small c.kept_level-4.ensures.small

pub returns : goal.returns
returns c = λ p marked.
    c.new.ensures
    ∙ (λ i.
    record (c.get-whole.ensures.value i) {
      next = c.kept_level.ensures.level p marked i ∷ c.kept_level-2.ensures.level p marked i
          ∷ c.kept_level-3.ensures.level p marked i ∷ c.kept_level-4.ensures.level p marked i ∷ [];
    })
