use Rattle.std.proofs.Common.{ap, ◌∙◌, sym, map, rules}
use Rattle.std.proofs.lemmas.Bool.Decides.{Decides-eqb}
use Rattle.std.proofs.lemmas.Slice.Eq.{slice_eq-Decides}
use Rattle.nav_ground.specs.declared.cell.Cell.{Cell}
use Rattle.nav_ground.specs.Levels.{number_of}
use Rattle.nav_ground.specs.Packing.{numbers_back}
use Rattle.nav_ground.proofs.packed.PackedCell.is.Goals as goal

-- the levels give their numbers back
pub returns-then-self-other-6 : goal.returns-then-self-other-6
returns-then-self-other-6 c = (
  search rules,
  λ same. (slice_eq-Decides Decides-eqb _ _ _ c.eq.ensures).1
      (sym (numbers_back c.self.inside.levels)
      ∙ ap (λ (cell : Cell). map number_of cell.next) (c.self.view_is ∙ same ∙ sym c.other.view_is)
      ∙ numbers_back c.other.inside.levels),
)
