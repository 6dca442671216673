use Rattle.std.proofs.Common.{ℕ, ◌/◌, ◌%◌, Bool, List, ap, sym, ◌∙◌, arith}
use Rattle.std.specs.Int.{bit_at}
use Rattle.std.specs.Prelude.{◌==◌}
use Rattle.std.proofs.lemmas.List.{get_or_read}
use Rattle.build_queue.specs.Flags.{flag_of}
use Rattle.build_queue.proofs.WordLaws.{flag_is, tile_there}
use Rattle.build_queue.proofs.waiting.TileSet.has.Goals as goal

pub index-requires : goal.index-requires
index-requires c =
    let there = tile_there c.self.inside.count c.self.inside.words.items c.args.self.now c.args.tile c.self.view_is c.requires in
    omega (arith, there, c.self.invariant.each, c.self.inside.words.ok.0)

pub returns : goal.returns
returns c =
    let there = tile_there c.self.inside.count c.self.inside.words.items c.args.self.now c.args.tile c.self.view_is c.requires in
    c.has_bit.ensures
    ∙ ap (λ (w : ℕ). bit_at w (c.args.tile % 64) == 1)
    (get_or_read c.self.inside.words.items (c.args.tile / 64) c.index.result.now (omega (arith, there, c.self.invariant.each)) c.index.ensures 0)
    ∙ sym (flag_is c.self.inside.count c.self.inside.words.items c.args.tile there)
    ∙ ap (λ (flags : List Bool). flag_of flags c.args.tile) c.self.view_is
