-- Cells that are made row by row.
use Rattle.std.proofs.Common.{◌≡◌, ℕ, ◌+◌, ◌<◌, List, [], ◌∷◌, ◌++◌, length, map, take, get_or, ap, sym, ◌∙◌}
use Rattle.std.proofs.lemmas.List.{map_more}
use Rattle.nav_ground.specs.declared.cell.Cell.{Cell}

-- one more cell
pub made_more : {R : Type 0} (f : R → Cell) (rows : List R) (i : ℕ) (d : R) (before after : List Cell) (made : Cell) → i < length rows → before ≡ map f (take i rows)
    → made ≡ f (get_or rows i d) → after ≡ before ++ made ∷ [] → after ≡ map f (take (i + 1) rows)
made_more f rows i d before after made below so is more =
    more ∙ ap (λ (cells : List Cell). cells ++ made ∷ []) so ∙ ap (λ (cell : Cell). map f (take i rows) ++ cell ∷ []) is ∙ sym (map_more f rows i d below)
