use Rattle.std.proofs.Common.{◌≡◌, ◌++◌, take}
use Rattle.std.specs.List.{flat_map}
use Rattle.registry_format.specs.Spelling.{corner_words}
use Rattle.registry_format.proofs.shapes.append_corners.Given as goal

-- the corners so far
abbrev pub invariant-loop-corner : goal.invariant-loop-corner
invariant-loop-corner l = l.words.items ≡ l.fn.words.items ++ flat_map corner_words (take l.corner-index l.corners)
