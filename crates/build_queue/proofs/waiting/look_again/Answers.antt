use Rattle.std.proofs.Common.{◌≡◌, ℕ, ◌<◌, Bool, false, List, [], length, get_or, set, ap, sym, subst, ◌∙◌, arith}
use Rattle.std.specs.Prelude.{if◌then◌else◌}
use Rattle.std.proofs.lemmas.List.{length-set}
use Rattle.build_queue.specs.Awaiting.{awaits}
use Rattle.build_queue.specs.Flags.{flag_of, set_count}
use Rattle.build_queue.specs.Waiting.{Waiting}
use Rattle.build_queue.proofs.FlagLaws.{one_less, looked_more}
use Rattle.build_queue.proofs.Leasts.{least_passes, none_below}
use Rattle.build_queue.proofs.waiting.look_again.Goals as goal

pub put-requires : goal.put-requires
put-requires c =
    let found = least_passes _ c.in-Some.tile (flag_of c.loop-tile.dirty) (sym c.in-Some.ensures) in
    found.0

pub look_at-requires-clause-there : goal.look_at-requires-clause-there
look_at-requires-clause-there c =
    let found = (least_passes _ c.in-Some.tile (flag_of c.loop-tile.dirty) (sym c.in-Some.ensures)).0 in
    omega (arith, found, c.loop-tile.invariant.marks, c.requires.marks)

pub loop-tile-smaller : goal.loop-tile-smaller
loop-tile-smaller c =
    let marks : List Bool = c.loop-tile.dirty in
    let found = least_passes _ c.in-Some.tile (flag_of marks) (sym c.in-Some.ensures) in
    let after : c.put.new.self ≡ set marks c.in-Some.tile false = c.put.ensures in
    subst (λ (m : List Bool). set_count m < set_count marks) (sym after) (one_less marks c.in-Some.tile found.0 found.1)

pub loop-tile-preserved : goal.loop-tile-preserved
loop-tile-preserved c =
    let marks : List Bool = c.loop-tile.dirty in
    let flags : List Bool = c.loop-tile.waiting.awaited in
    let tile : ℕ = c.in-Some.tile in
    let fresh : ℕ → Bool = λ k. awaits c.args.setting.now c.args.aimed.now k (get_or c.args.stored.now k []) in
    let found = least_passes _ tile (flag_of marks) (sym c.in-Some.ensures) in
    let there = found.0 in
    let marks_after : c.put.new.self ≡ set marks tile false = c.put.ensures in
    let flags_after : c.look_at.new.waiting.awaited ≡ set flags tile (fresh tile) = ap (λ (w : Waiting). w.awaited) c.look_at.ensures in
    record {
      marks = ap length marks_after ∙ length-set marks tile false ∙ c.loop-tile.invariant.marks;
      flags = ap length flags_after ∙ length-set flags tile (fresh tile) ∙ c.loop-tile.invariant.flags;
      claimed = ap (λ (w : Waiting). w.claimed) c.look_at.ensures ∙ c.loop-tile.invariant.claimed;
      left = λ k.
          ap (λ (m : List Bool). if flag_of m k then fresh k else flag_of c.look_at.new.waiting.awaited k) marks_after
          ∙ ap (λ (f : List Bool). if flag_of (set marks tile false) k then fresh k else flag_of f k) flags_after
          ∙ looked_more marks flags tile k fresh there
          (omega (arith, there, c.loop-tile.invariant.marks, c.requires.marks, c.loop-tile.invariant.flags, c.requires.flags)) found.1
          ∙ c.loop-tile.invariant.left k;
    }

pub returns-clause-clean : goal.returns-clause-clean
returns-clause-clean c = λ tile there.
    (none_below _ (flag_of c.loop-tile.dirty) tile (sym c.in_default.ensures) (omega (arith, there, c.loop-tile.invariant.marks, c.requires.marks)))

pub returns-clause-awaited : goal.returns-clause-awaited
returns-clause-awaited c = λ tile there.
    let clean = none_below _ (flag_of c.loop-tile.dirty) tile (sym c.in_default.ensures) (omega (arith, there, c.loop-tile.invariant.marks, c.requires.marks)) in
    sym (ap (λ (b : Bool). if b then awaits c.args.setting.now c.args.aimed.now tile (get_or c.args.stored.now tile []) else flag_of c.loop-tile.waiting.awaited tile) clean)
    ∙ c.loop-tile.invariant.left tile
