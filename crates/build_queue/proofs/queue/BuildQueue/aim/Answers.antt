use Rattle.std.proofs.Common.{◌≡◌, ◌∙◌, [], length, get_or, ap, sym, arith}
use Rattle.std.specs.Arc.{arc_value}
use Rattle.nav_ground.specs.Touching.{touching_shapes}
use Rattle.build_queue.specs.Flags.{flag_of}
use Rattle.build_queue.specs.LiveTable.{shapes_in}
use Rattle.build_queue.specs.Representation.{state_of}
use Rattle.build_queue.proofs.Keeping.{is_book, looked_at}
use Rattle.build_queue.proofs.Tables.{table_shapes}
use Rattle.build_queue.proofs.queue.BuildQueue.aim.Goals as goal

pub invariant_of-self : goal.invariant_of-self
invariant_of-self c =
    let history = c.self.inside.entries.items in
    let kept = c.self.invariant in
    let len : c.length-len.result ≡ length history = rw (← c.self.view_is) at c.length-len.ensures in
    let taken = rw c.as_slice.ensures.value at c.take_over.ensures.shapes in
    let looked = rw (c.deref.ensures, c.as_slice-2.ensures.value, c.as_slice-3.ensures.value, taken) at c.look_again.ensures in
    record {
      ground = kept.ground;
      history = kept.history;
      room = kept.room;
      table = kept.table;
      few = kept.few;
      live_room = kept.live_room;
      aims = omega (arith, len);
      shows = omega (arith, len, kept.shows, kept.aims);
      shapes = rw (taken, len) (table_shapes history c.self.inside.live.items kept.table);
      aimed_room = rw c.take_over.ensures.room kept.aimed_room;
      lists = kept.lists;
      marks = looked.marks_after ∙ kept.marks;
      flags = looked.flags_after ∙ kept.flags;
      claims = ap length looked.claimed ∙ kept.claims;
      clean = λ tile there unmarked. ap (touching_shapes (arc_value c.self.inside.ground).setting tile) (sym taken);
      awaited = λ tile there. rw taken
          (looked_at (arc_value c.self.inside.ground).setting (shapes_in c.self.inside.live.items) c.self.inside.aimed.items tile (get_or c.self.inside.stored.items tile [])
          (flag_of c.self.inside.dirty tile) (flag_of c.self.inside.waiting.awaited tile) (flag_of c.look_again.new.waiting.awaited tile)
          (looked.awaited tile there) (kept.clean tile there) (kept.awaited tile there));
    }

pub returns : goal.returns
returns c =
    let len : c.length-len.result ≡ length c.self.inside.entries.items = rw (← c.self.view_is) at c.length-len.ensures in
    record {
      aimed = rw (← c.self.view_is) (λ i. record (state_of c.self.inside) { target = len i; claimed = c.look_again.ensures.claimed i });
      length = c.length-len.ensures;
      rules = is_book _ (invariant_of-self c);
    }

pub take_over-requires : goal.take_over-requires
take_over-requires c = rw c.as_slice.ensures.value (omega (arith, c.self.invariant.few, c.self.invariant.aimed_room))

pub look_again-requires-clause-setting : goal.look_again-requires-clause-setting
look_again-requires-clause-setting c = rw c.deref.ensures c.self.invariant.ground.setting

pub look_again-requires-clause-lists : goal.look_again-requires-clause-lists
look_again-requires-clause-lists c = rw (c.deref.ensures, c.as_slice-3.ensures.value) c.self.invariant.lists

pub look_again-requires-clause-marks : goal.look_again-requires-clause-marks
look_again-requires-clause-marks c = rw c.deref.ensures c.self.invariant.marks

pub look_again-requires-clause-flags : goal.look_again-requires-clause-flags
look_again-requires-clause-flags c = rw c.deref.ensures c.self.invariant.flags

pub look_again-requires-clause-claims : goal.look_again-requires-clause-claims
look_again-requires-clause-claims c = rw c.deref.ensures c.self.invariant.claims
