use Rattle.std.proofs.Common.{◌∙◌, ap, List, Option, None, length, replicate}
use Rattle.mesh_types.specs.declared.mesh.TileMesh.{TileMesh}
use Rattle.nav_book.proofs.FreshLists.{emptied}
use Rattle.nav_book.proofs.builds.NewMeshes.clear.Goals as goal

pub returns : goal.returns
returns c =
    emptied c.self.inside.tiles c.self.inside.news.items c.clear.new.self.items c.clear.ensures.items
    ∙ ap (λ (places : List (Option TileMesh)). replicate (length places) None) c.self.view_is
