use Rattle.corridor_search.specs.Changes.{AreSameBut}
use Rattle.corridor_search.proofs.changed.with_rows.Given as goal

-- the rows of the tiles so far are written
abbrev pub invariant-loop-new : goal.invariant-loop-new
invariant-loop-new l = AreSameBut l.tiles.items l.old l.rows
