use Rattle.std.proofs.Common.{◌≡◌, take}
use Rattle.std.specs.List.{filter}
use Rattle.tile_links.specs.KeptLinks.{leads_to_old}
use Rattle.tile_links.proofs.new_tiles.kept_links.Given as goal

-- those of the links so far that lead to tiles that stay
abbrev pub invariant-loop-link : goal.invariant-loop-link
invariant-loop-link l = l.kept.items ≡ filter (leads_to_old l.news) (take l.link-index l.links)
