use Rattle.std.proofs.Common.{arith, ap, length}
use Rattle.mono_regions.proofs.Cuts.{cut_count}
use Rattle.mono_regions.proofs.index.IndexLists.len.Goals as goal

pub returns : goal.returns
returns c =
    let count = cut_count c.self.inside.items.items c.self.inside.starts.items c.self.invariant in
    let same = ap length c.self.view_is in
    omega (arith, count, same)
