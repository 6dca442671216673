use Rattle.contour_walk.proofs.codes.code_of.Goals as goal

pub is_crossing-requires : goal.is_crossing-requires
is_crossing-requires c = c.requires.rim.cells.each c.args.index c.index-rim-index.result c.requires.index
