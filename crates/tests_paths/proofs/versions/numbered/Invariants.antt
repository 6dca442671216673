use Rattle.std.proofs.Common.{◌≡◌, take}
use Rattle.tests_paths.specs.OneTile.{numbered_tiles}
use Rattle.tests_paths.proofs.versions.numbered.Given as goal

-- those so far, with their numbers
abbrev pub invariant-loop-tile : goal.invariant-loop-tile
invariant-loop-tile l = l.news.items ≡ numbered_tiles (take l.tile-index l.fn.tiles)
