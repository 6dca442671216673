use Rattle.std.proofs.Common.{◌∙◌, sym}
use Rattle.nav_book.proofs.FreshLists.{empty_place}
use Rattle.nav_book.proofs.builds.NewMeshes.has.Goals as goal

pub returns : goal.returns
returns c off =
    let is = rw c.as_slice.ensures.value at c.place_for.ensures in
    empty_place c.self.inside.tiles c.self.inside.news.items c.args.self.now c.args.tile c.place_for.result c.self.view_is c.requires is
    (sym c.is_ok.ensures.value ∙ off)
