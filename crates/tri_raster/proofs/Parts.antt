-- The marks of a row, one part after another.
use Rattle.std.proofs.Common.{◌≡◌, List, ◌++◌, map, sym, ◌∙◌, ap}
use Rattle.std.proofs.lemmas.List.{map-append}
use Rattle.tri_raster.specs.declared.triangle.Spot.{Spot}
use Rattle.tri_raster.specs.declared.triangle.Mark.{Mark}
use Rattle.tri_raster.specs.Spots.{mark_of}

pub and_then : (spots more : List Spot) (before after : List Mark) → before ≡ map mark_of spots → after ≡ before ++ map mark_of more → after ≡ map mark_of (spots ++ more)
and_then spots more before after first then = then ∙ ap (λ (marks : List Mark). marks ++ map mark_of more) first ∙ sym (map-append mark_of spots more)
