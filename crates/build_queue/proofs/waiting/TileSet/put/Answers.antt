use Rattle.std.proofs.Common.{ℕ, ◌/◌, Bool, not, List, set, ap, ◌∙◌, arith}
use Rattle.std.specs.Prelude.{◌==◌}
use Rattle.std.proofs.lemmas.List.{get_or_read}
use Rattle.build_queue.proofs.WordLaws.{flags_put, kept_put, tile_there}
use Rattle.build_queue.proofs.waiting.TileSet.put.Goals as goal

pub put_bit-requires : goal.put_bit-requires
put_bit-requires c =
    let there = tile_there c.self.inside.count c.self.inside.words.items c.args.self.now c.args.tile c.self.view_is c.requires in
    omega (arith, there, c.self.invariant.each)

pub index-requires : goal.index-requires
index-requires c =
    let there = tile_there c.self.inside.count c.self.inside.words.items c.args.self.now c.args.tile c.self.view_is c.requires in
    omega (arith, there, c.self.invariant.each, c.put_bit.ensures.each, c.put_bit.new.words.ok.0)

pub put_bit-requires-2 : goal.put_bit-requires-2
put_bit-requires-2 c =
    let there = tile_there c.self.inside.count c.self.inside.words.items c.args.self.now c.args.tile c.self.view_is c.requires in
    omega (arith, there, c.self.invariant.each, c.self.invariant.over)

pub invariant_of-self : goal.invariant_of-self
invariant_of-self c =
    let there = tile_there c.self.inside.count c.self.inside.words.items c.args.self.now c.args.tile c.self.view_is c.requires in
    kept_put c.self.inside.count c.self.inside.words.items c.self.inside.filled.items c.put_bit.new.words.items c.put_bit-2.new.words.items c.args.tile
    c.args.member _ there c.self.invariant c.put_bit.ensures
    (ap (λ (w : ℕ). not (w == 0))
    (get_or_read c.put_bit.new.words.items (c.args.tile / 64) c.index.result.now (omega (arith, there, c.self.invariant.each, c.put_bit.ensures.each)) c.index.ensures 0))
    c.put_bit-2.ensures

pub returns : goal.returns
returns c =
    let there = tile_there c.self.inside.count c.self.inside.words.items c.args.self.now c.args.tile c.self.view_is c.requires in
    flags_put c.self.inside.count c.self.inside.words.items c.put_bit.new.words.items c.args.tile c.args.member there c.put_bit.ensures
    ∙ ap (λ (flags : List Bool). set flags c.args.tile c.args.member) c.self.view_is
