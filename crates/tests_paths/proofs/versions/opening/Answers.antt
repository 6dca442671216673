use Rattle.std.proofs.Common.{[], ◌∙◌, rules, sym}
use Rattle.nav_book.proofs.GroundTiles.{whole_build}
use Rattle.nav_book.proofs.Opening.{opening_is}
use Rattle.tests_paths.proofs.versions.opening.Goals as goal

pub returns-clause-rules : goal.returns-clause-rules
returns-clause-rules g c =
    opening_is c.args.level _ c.requires.level (search rules) (search rules) (search rules ∙ c.in_ok-mesh.ensures.mesh ∙ sym (whole_build c.args.level [] 0))
    (search rules)
