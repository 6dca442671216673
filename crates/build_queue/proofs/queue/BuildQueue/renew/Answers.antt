use Rattle.std.proofs.Common.{◌≡◌, ◌∙◌, ℕ, List, length, ap, refl, subst, sym, arith, rules}
use Rattle.std.proofs.lemmas.List.{length-map, length-replicate}
use Rattle.std.specs.Arc.{arc_value}
use Rattle.nav_ground.specs.Touching.{touching_shapes}
use Rattle.nav_ground.specs.History.{shapes_alive}
use Rattle.build_queue.specs.declared.live.Live.{Live}
use Rattle.build_queue.specs.Flags.{flag_of}
use Rattle.build_queue.specs.Renewal.{AddsAgain}
use Rattle.build_queue.specs.Waiting.{Waiting}
use Rattle.build_queue.proofs.Keeping.{is_book}
use Rattle.build_queue.proofs.Tables.{table_shapes}
use Rattle.build_queue.proofs.queue.BuildQueue.renew.Goals as goal

pub overflow_cast-count : goal.overflow_cast-count
overflow_cast-count c =
    let count = c.begin_again.ensures.count in
    let len : c.len-count.result ≡ length c.begin_again.new.live.items = search rules in
    omega (arith, len, count, c.self.invariant.few, c.self.invariant.ground.setting.limit_most)

pub invariant_of-self : goal.invariant_of-self
invariant_of-self c =
    let old = c.self.inside.entries.items in
    let new = c.begin_again.new.entries.items in
    let kept = c.self.invariant in
    let begun = c.begin_again.ensures in
    let made = begun.kept (arc_value c.self.inside.ground).setting.limit kept.few kept.history in
    let shown = rw (← c.self.view_is) at c.requires.shown in
    let ground : c.self.inside.target ≡ length old = omega (arith, shown, kept.aims, kept.shows) in
    let len : c.len-count.result ≡ length c.begin_again.new.live.items = search rules in
    let each = length-map c.self.inside.live.items (λ (row : Live). row.number) in
    let count : c.len-count.result ≡ length new = omega (arith, len, begun.count, begun.again.each, each) in
    record {
      ground = kept.ground;
      history = made.0;
      room = rw begun.room kept.room;
      table = made.1;
      few = rw begun.count kept.few;
      live_room = rw begun.live_room kept.live_room;
      aims = omega (arith, count);
      shows = omega arith;
      shapes = kept.shapes ∙ ap (shapes_alive old) ground ∙ sym (table_shapes old c.self.inside.live.items kept.table) ∙ sym begun.shapes
          ∙ table_shapes new c.begin_again.new.live.items made.1 ∙ ap (shapes_alive new) (sym count);
      aimed_room = kept.aimed_room;
      lists = kept.lists;
      marks = kept.marks;
      flags = ap (λ (w : Waiting). length w.awaited) c.release_all.ensures ∙ kept.flags;
      claims = ap (λ (w : Waiting). length w.claimed) c.release_all.ensures ∙ length-replicate _ _ ∙ kept.claims;
      clean = λ tile there unmarked. ap (touching_shapes (arc_value c.self.inside.ground).setting tile) begun.shapes ∙ kept.clean tile there unmarked;
      awaited = λ tile there. ap (λ (w : Waiting). flag_of w.awaited tile) c.release_all.ensures ∙ kept.awaited tile there;
    }

pub returns : goal.returns
returns c =
    let old = c.self.inside.entries.items in
    let new = c.begin_again.new.entries.items in
    let kept = c.self.invariant in
    let begun = c.begin_again.ensures in
    let made = begun.kept (arc_value c.self.inside.ground).setting.limit kept.few kept.history in
    let len : c.len-count.result ≡ length c.begin_again.new.live.items = search rules in
    let each = length-map c.self.inside.live.items (λ (row : Live). row.number) in
    let count : c.len-count.result ≡ length new = omega (arith, len, begun.count, begun.again.each, each) in
    record {
      renewed = rw (← c.self.view_is)
          (record {
            history = subst (λ (numbers : List ℕ). AddsAgain old numbers new) kept.table.numbers begun.again;
            target = count;
            published = count;
            free = ap (λ (w : Waiting). w.claimed) c.release_all.ensures;
            ground = refl;
            stored = refl;
          });
      alive = rw (← c.self.view_is)
          (sym (table_shapes new c.begin_again.new.live.items made.1) ∙ begun.shapes ∙ table_shapes old c.self.inside.live.items kept.table);
      rules = is_book _ (invariant_of-self c);
    }
