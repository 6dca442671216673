use Rattle.nav_book.proofs.FreshLists.{all_empty}
use Rattle.nav_book.proofs.builds.NewMeshes.new.Goals as goal

pub returns : goal.returns
returns c = all_empty c.args.tiles c.in_ok-with_capacity.field-0.items c.in_ok-with_capacity.ensures.items
