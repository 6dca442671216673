use Rattle.std.proofs.Common.{◌%◌, get_or, arith, ap, ◌∙◌}
use Rattle.nav_lists.proofs.ChunkLaws.{there_in, within_in, at_in}
use Rattle.nav_lists.proofs.chunks.Chunks.at.Goals as goal

pub index-requires : goal.index-requires
index-requires g c =
    let there = there_in c.self.inside.chunks.items c.args.index c.self.invariant.full (rw c.self.view_is c.requires) in
    omega (arith, there, c.self.inside.chunks.ok.0)

pub bounds-as_slice-index : goal.bounds-as_slice-index
bounds-as_slice-index g c =
    rw (c.as_slice.ensures, c.get.ensures)
    (within_in c.self.inside.chunks.items c.args.index c.index.result.now c.self.invariant.full (rw c.self.view_is c.requires) c.index.ensures)

pub offset_bounds-as_slice-index : goal.offset_bounds-as_slice-index
offset_bounds-as_slice-index g c = let below = bounds-as_slice-index g c in omega (arith, below)

pub returns : goal.returns
returns g c =
    at_in c.self.inside.chunks.items c.args.index c.index.result.now c.index-as_slice-index.result c.self.invariant.full (rw c.self.view_is c.requires) c.index.ensures
    (c.index-as_slice-index.is ∙ ap (λ xs. get_or xs (c.args.index % 32) c.index-as_slice-index.result) (c.as_slice.ensures ∙ c.get.ensures))
    ∙ ap (λ xs. get_or xs c.args.index c.index-as_slice-index.result) c.self.view_is
