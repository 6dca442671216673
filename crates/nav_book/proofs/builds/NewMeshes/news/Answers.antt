use Rattle.std.proofs.Common.{◌∙◌, ap, sym}
use Rattle.nav_book.specs.Fresh.{news_of}
use Rattle.nav_book.proofs.FreshLists.{again}
use Rattle.nav_book.proofs.builds.NewMeshes.news.Goals as goal

pub returns : goal.returns
returns c = c.as_slice.ensures.value ∙ sym (again c.self.inside.tiles _ c.self.inside.news.items c.self.invariant) ∙ ap news_of c.self.view_is
