use Rattle.std.proofs.Common.{◌≡◌, ◌≢◌, ◌<◌, ◌∙◌, ℕ, List, Ok, length, ◌+◌, ap, refl, subst, sym, true≢false, arith}
use Rattle.std.specs.Arc.{arc_value}
use Rattle.std.proofs.lemmas.List.{length_push}
use Rattle.nav_ground.specs.declared.history.Entry.{Entry}
use Rattle.nav_ground.specs.declared.setting.Setting.{Setting}
use Rattle.nav_ground.specs.History.{history_limit}
use Rattle.nav_ground.specs.Touching.{is_touching}
use Rattle.nav_ground.proofs.AliveLaws.{shapes_alive-append}
use Rattle.build_queue.specs.Representation.{state_of}
use Rattle.build_queue.specs.Steps.{after_request, next_reply}
use Rattle.build_queue.proofs.FlagLaws.{unset}
use Rattle.build_queue.proofs.Histories.{request_kept, table_limits}
use Rattle.build_queue.proofs.Keeping.{is_book, room_step}
use Rattle.build_queue.proofs.Tables.{table_rises}
use Rattle.build_queue.proofs.queue.BuildQueue.request.Goals as goal

pub answer-answered-requires-clause-rising : goal.answer-answered-requires-clause-rising
answer-answered-requires-clause-rising c = table_rises c.self.inside.entries.items c.self.inside.live.items c.self.invariant.table

pub answer-answered-requires-clause-shapes : goal.answer-answered-requires-clause-shapes
answer-answered-requires-clause-shapes c = table_limits c.self.inside.entries.items c.self.inside.live.items c.self.invariant.history.requests c.self.invariant.table

pub invariant_of-self : goal.invariant_of-self
invariant_of-self c =
    let history : List Entry = c.self.inside.entries.items in
    let setting : Setting = (arc_value c.self.inside.ground).setting in
    let limit : ℕ = setting.limit in
    let kept = c.self.invariant in
    let len : c.length-len.result ≡ length history = rw (← c.self.view_is) at c.length-len.ensures in
    let room : length history < history_limit = omega (arith, kept.history.few, len, c.if-len-eq-HISTORY_LIMIT.false) in
    let answered = rw c.deref.ensures at c.answer-answered.ensures in
    let marked = rw c.deref-2.ensures at c.mark_changed.ensures in
    let request = request_kept limit c.args.lane (c.length-len.result + 1) history c.self.inside.live.items c.args.request c.answer-answered.result.reply
    kept.history kept.table room c.requires (ap (λ n. n + 1) len) answered.reply in
    record {
      ground = kept.ground;
      history = rw c.push_reserved.ensures.items request.1;
      room = rw c.push_reserved.ensures.capacity kept.room;
      table = rw (c.push_reserved.ensures.items, answered.table) request.2;
      few = answered.few_after;
      live_room = rw answered.room_after kept.live_room;
      aims = rw (c.push_reserved.ensures.items, length_push) (omega (arith, kept.aims));
      shows = kept.shows;
      shapes = rw (c.push_reserved.ensures.items, shapes_alive-append history _ c.self.inside.target kept.aims) kept.shapes;
      aimed_room = kept.aimed_room;
      lists = kept.lists;
      marks = marked.tiles_after ∙ kept.marks;
      flags = kept.flags;
      claims = kept.claims;
      clean = λ tile there unmarked.
          answered.changed (is_touching setting tile) (unset _ _ (marked.marked tile there) unmarked) ∙ kept.clean tile there (unset _ _ (marked.kept tile) unmarked);
      awaited = kept.awaited;
    }

pub returns : goal.returns
returns c =
    let state = c.args.self.now in
    let history : List Entry = c.self.inside.entries.items in
    let limit : ℕ = (arc_value c.self.inside.ground).setting.limit in
    let len : c.length-len.result ≡ length history = rw (← c.self.view_is) at c.length-len.ensures in
    let below : length history < history_limit = omega (arith, c.self.invariant.history.few, len, c.if-len-eq-HISTORY_LIMIT.false) in
    let answered = rw c.deref.ensures at c.answer-answered.ensures in
    let kept = request_kept limit c.args.lane (c.length-len.result + 1) history c.self.inside.live.items c.args.request c.answer-answered.result.reply
    c.self.invariant.history c.self.invariant.table below c.requires (ap (λ n. n + 1) len) answered.reply in
    let reply : c.answer-answered.result.reply ≡ next_reply state c.args.request = rw (← c.self.view_is) kept.0 in
    let reply_inside = rw (← c.self.view_is) at reply in
    let appended : record (state_of c.self.inside) { history = c.push_reserved.new.self.items } ≡ after_request state c.args.lane c.args.request =
    rw (← c.self.view_is, c.push_reserved.ensures.items, reply_inside) refl in
    let room : length state.history ≢ history_limit = subst (λ (n : ℕ). n ≢ history_limit) c.length-len.ensures c.if-len-eq-HISTORY_LIMIT.false in
    let step = room_step state c.args.lane c.args.request room in
    let number : c.length-len.result + 1 ≡ length state.history + 1 = ap (λ n. n + 1) c.length-len.ensures in
    record {
      state = appended ∙ step.0;
      answer = (λ i. Ok (number i, reply i)) ∙ step.1;
      appended = appended;
      number = number;
      reply = reply;
      full = (λ wrong. absurd (true≢false (sym wrong)), λ is. absurd (room is));
      len = tt;
      refused = tt;
      rules = is_book _ (invariant_of-self c);
    }

pub answer-answered-requires-clause-few : goal.answer-answered-requires-clause-few
answer-answered-requires-clause-few c = rw c.deref.ensures c.self.invariant.few

pub answer-answered-requires-clause-room : goal.answer-answered-requires-clause-room
answer-answered-requires-clause-room c = rw c.deref.ensures c.self.invariant.live_room

pub mark_changed-requires-clause-setting : goal.mark_changed-requires-clause-setting
mark_changed-requires-clause-setting c = rw c.deref-2.ensures c.self.invariant.ground.setting

pub mark_changed-requires-clause-shape : goal.mark_changed-requires-clause-shape
mark_changed-requires-clause-shape c = c.answer-answered.ensures.shape

pub mark_changed-requires-clause-tiles : goal.mark_changed-requires-clause-tiles
mark_changed-requires-clause-tiles c = rw c.deref-2.ensures c.self.invariant.marks
