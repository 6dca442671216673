use Rattle.std.proofs.Common.{◌/◌, ◌%◌, length, get_or, arith, ap, ◌∙◌}
use Rattle.std.specs.Prelude.{slice_get}
use Rattle.nav_lists.proofs.ChunkLaws.{get_in, get_none}
use Rattle.nav_lists.proofs.chunks.Chunks.get.Goals as goal

pub returns-in-Some : goal.returns-in-Some
returns-in-Some g c =
    c.get-in-Some-2.ensures
    ∙ ap (λ xs. slice_get xs (c.args.index % 32)) c.get-in-Some.ensures
    ∙ get_in c.self.inside.chunks.items c.args.index c.in-Some.chunk.now c.self.invariant.full
    (let there = c.in-Some.ensures.lookup.3.0 in let same = ap length c.deref.ensures.value in omega (arith, there, same))
    (c.in-Some.ensures.lookup.1 ∙ ap (λ xs. get_or xs (c.args.index / 32) c.in-Some.chunk.now) c.deref.ensures.value)
    ∙ ap (λ xs. slice_get xs c.args.index) c.self.view_is

pub returns-in-None : goal.returns-in-None
returns-in-None g c =
    get_none c.self.inside.chunks.items c.args.index c.self.invariant.full
    (let past = c.in-None.ensures.lookup.3 in let same = ap length c.deref.ensures.value in omega (arith, past, same))
    ∙ ap (λ xs. slice_get xs c.args.index) c.self.view_is
