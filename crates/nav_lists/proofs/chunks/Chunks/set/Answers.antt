use Rattle.std.proofs.Common.{◌%◌, ap, ◌∙◌, sym, set, arith}
use Rattle.nav_lists.proofs.ChunkLaws.{put_in, put_chunks, put_past}
use Rattle.nav_lists.proofs.chunks.Chunks.set.Goals as goal

pub invariant_of-self : goal.invariant_of-self
invariant_of-self g c =
    put_chunks c.self.inside.chunks.items c.self.inside.count c.args.index c.index.result.now c.in_ok-chunk.chunk c.args.item c.self.invariant
    (omega (arith, c.if-place-len.true, c.self.inside.chunks.ok.0)) c.index.ensures
    (c.in_ok-chunk.ensures ∙ ap (λ xs. set xs (c.args.index % 32) c.args.item) c.get.ensures)

pub returns-in_ok-chunk-clause-ok : goal.returns-in_ok-chunk-clause-ok
returns-in_ok-chunk-clause-ok g c =
    put_in c.self.inside.chunks.items c.args.index c.index.result.now c.in_ok-chunk.chunk c.args.item c.self.invariant.full
    (omega (arith, c.if-place-len.true, c.self.inside.chunks.ok.0)) c.index.ensures
    (c.in_ok-chunk.ensures ∙ ap (λ xs. set xs (c.args.index % 32) c.args.item) c.get.ensures)
    ∙ ap (λ xs. set xs c.args.index c.args.item) c.self.view_is

pub returns-else-place-len-clause-ok : goal.returns-else-place-len-clause-ok
returns-else-place-len-clause-ok g c =
    sym c.self.view_is
    ∙ put_past c.self.inside.chunks.items c.args.index c.args.item c.self.invariant.full (omega (arith, c.if-place-len.false, c.self.inside.chunks.ok.0))
    ∙ ap (λ xs. set xs c.args.index c.args.item) c.self.view_is
