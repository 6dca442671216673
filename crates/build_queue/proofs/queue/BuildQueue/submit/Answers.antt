use Rattle.std.proofs.Common.{◌≡◌, ◌<◌, ◌∙◌, Bool, true, false, length, ap, arith, refl, sym}
use Rattle.std.specs.Prelude.{if◌then◌else◌, slice_set}
use Rattle.std.specs.Arc.{arc_value}
use Rattle.std.proofs.lemmas.List.{length-set}
use Rattle.nav_ground.specs.Tiling.{tile_count}
use Rattle.nav_ground.specs.Touching.{touching_shapes}
use Rattle.build_queue.specs.declared.live.Submitted.TheVariants.{Taken, Stale}
use Rattle.build_queue.specs.BookState.{BookState}
use Rattle.build_queue.specs.Flags.{flag_of}
use Rattle.build_queue.specs.Representation.{state_of}
use Rattle.build_queue.specs.SameShapes.{are_same}
use Rattle.build_queue.specs.Steps.{is_taken}
use Rattle.build_queue.specs.Waiting.{Waiting}
use Rattle.build_queue.proofs.Keeping.{awaited_after, is_book, is_taken_is, kept_claims}
use Rattle.build_queue.proofs.queue.BuildQueue.submit.Goals as goal

-- the tile is there, it is awaited, and the list is its own
there_is : (c : goal.After-set_awaited) → c.args.tile < tile_count (arc_value c.self.inside.ground).setting
there_is c = rw (← c.self.view_is) at c.requires

flag_is : (c : goal.After-set_awaited) → flag_of c.self.inside.waiting.awaited c.args.tile ≡ true
flag_is c = sym (ap (λ (w : Waiting). flag_of w.awaited c.args.tile) c.set_claimed.ensures) ∙ sym c.is_awaited.ensures ∙ c.if-not-is_awaited.false

same_is : (c : goal.After-set_awaited) → are_same c.args.shapes (touching_shapes (arc_value c.self.inside.ground).setting c.args.tile c.self.inside.aimed.items) ≡ true
same_is c =
    let touching = rw (c.deref.ensures, c.as_slice.ensures.value, c.as_slice-2.ensures) at c.is_touching_list.ensures.test in
    sym touching ∙ c.if-not-is_touching_list.false

pub invariant_of-self-2 : goal.invariant_of-self-2
invariant_of-self-2 c =
    let kept = c.self.invariant in
    let waiting = c.set_awaited.ensures ∙ ap (λ (w : Waiting). record w { awaited = slice_set w.awaited c.args.tile false }) c.set_claimed.ensures in
    record {
      ground = kept.ground;
      history = kept.history;
      room = kept.room;
      table = kept.table;
      few = kept.few;
      live_room = kept.live_room;
      aims = kept.aims;
      shows = kept.shows;
      shapes = kept.shapes;
      aimed_room = kept.aimed_room;
      lists = length-set c.self.inside.stored.items c.args.tile c.args.shapes ∙ kept.lists;
      marks = kept.marks;
      flags = ap (λ (w : Waiting). length w.awaited) waiting ∙ length-set c.self.inside.waiting.awaited c.args.tile false ∙ kept.flags;
      claims = ap (λ (w : Waiting). length w.claimed) waiting ∙ length-set c.self.inside.waiting.claimed c.args.tile false ∙ kept.claims;
      clean = kept.clean;
      awaited = λ k within. ap (λ (w : Waiting). flag_of w.awaited k) waiting ∙ awaited_after c.self.inside c.args.tile c.args.shapes kept (there_is c) (same_is c) k within;
    }

pub returns : goal.returns
returns c =
    let state : BookState = state_of c.self.inside in
    let claimed = slice_set state.claimed c.args.tile false in
    let taken = is_taken_is c.self.inside c.args.tile c.args.shapes true true c.self.invariant (there_is c) (flag_is c) (same_is c) in
    record {
      answer = rw (← c.self.view_is) (sym (ap (λ (b : Bool). if b then Taken else Stale) taken));
      stored = rw (← c.self.view_is, c.set_awaited.ensures, c.set_claimed.ensures)
          (sym (ap (λ (b : Bool). record state { claimed = claimed; stored = if b then slice_set state.stored c.args.tile c.args.shapes else state.stored }) taken));
      rules = is_book _ (invariant_of-self-2 c);
    }

-- where only the claim has ended
pub invariant_of-self : goal.invariant_of-self
invariant_of-self c =
    kept_claims c.self.inside c.set_claimed.new.self c.self.invariant (ap (λ (w : Waiting). w.awaited) c.set_claimed.ensures)
    (ap (λ (w : Waiting). length w.claimed) c.set_claimed.ensures ∙ length-set c.self.inside.waiting.claimed c.args.tile false)

-- the tile is not awaited
not_awaited : (c : goal.After-drop-shapes-inside) → is_taken (state_of c.self.inside) c.args.tile c.args.shapes ≡ false
not_awaited c =
    let there = rw (← c.self.view_is) at c.requires in
    is_taken_is c.self.inside c.args.tile c.args.shapes false (are_same c.args.shapes (touching_shapes (arc_value c.self.inside.ground).setting c.args.tile c.self.inside.aimed.items))
    c.self.invariant there
    (sym (ap (λ (w : Waiting). flag_of w.awaited c.args.tile) c.set_claimed.ensures) ∙ sym c.is_awaited.ensures ∙ c.if-not-is_awaited.true) refl

pub returns-then-not-is_awaited : goal.returns-then-not-is_awaited
returns-then-not-is_awaited c =
    let state : BookState = state_of c.self.inside in
    let claimed = slice_set state.claimed c.args.tile false in
    record {
      answer = rw (← c.self.view_is) (sym (ap (λ (b : Bool). if b then Taken else Stale) (not_awaited c)));
      stored = rw (← c.self.view_is, c.set_claimed.ensures)
          (sym (ap (λ (b : Bool). record state { claimed = claimed; stored = if b then slice_set state.stored c.args.tile c.args.shapes else state.stored }) (not_awaited c)));
      rules = is_book _ (invariant_of-self c);
    }

-- the list is not its own
not_same : (c : goal.After-drop-shapes-inside-then-not-is_touching_list) → is_taken (state_of c.self.inside) c.args.tile c.args.shapes ≡ false
not_same c =
    let there = rw (← c.self.view_is) at c.requires in
    let touching = rw (c.deref.ensures, c.as_slice.ensures.value, c.as_slice-2.ensures) at c.is_touching_list.ensures.test in
    is_taken_is c.self.inside c.args.tile c.args.shapes true false c.self.invariant there
    (sym (ap (λ (w : Waiting). flag_of w.awaited c.args.tile) c.set_claimed.ensures) ∙ sym c.is_awaited.ensures ∙ c.if-not-is_awaited.false)
    (sym touching ∙ c.if-not-is_touching_list.true)

pub invariant_of-self-then-not-is_touching_list : goal.invariant_of-self-then-not-is_touching_list
invariant_of-self-then-not-is_touching_list c =
    kept_claims c.self.inside c.set_claimed.new.self c.self.invariant (ap (λ (w : Waiting). w.awaited) c.set_claimed.ensures)
    (ap (λ (w : Waiting). length w.claimed) c.set_claimed.ensures ∙ length-set c.self.inside.waiting.claimed c.args.tile false)

pub returns-then-not-is_touching_list : goal.returns-then-not-is_touching_list
returns-then-not-is_touching_list c =
    let state : BookState = state_of c.self.inside in
    let claimed = slice_set state.claimed c.args.tile false in
    record {
      answer = rw (← c.self.view_is) (sym (ap (λ (b : Bool). if b then Taken else Stale) (not_same c)));
      stored = rw (← c.self.view_is, c.set_claimed.ensures)
          (sym (ap (λ (b : Bool). record state { claimed = claimed; stored = if b then slice_set state.stored c.args.tile c.args.shapes else state.stored }) (not_same c)));
      rules = is_book _ (invariant_of-self-then-not-is_touching_list c);
    }

pub set_claimed-requires : goal.set_claimed-requires
set_claimed-requires c =
    let there = rw (← c.self.view_is) at c.requires in
    omega (arith, there, c.self.invariant.flags)

pub is_awaited-requires : goal.is_awaited-requires
is_awaited-requires c =
    let there = rw (← c.self.view_is) at c.requires in
    omega (arith, there, c.self.invariant.flags, ap (λ (w : Waiting). length w.awaited) c.set_claimed.ensures)

pub is_touching_list-requires-clause-setting : goal.is_touching_list-requires-clause-setting
is_touching_list-requires-clause-setting c = rw c.deref.ensures c.self.invariant.ground.setting

pub is_touching_list-requires-clause-there : goal.is_touching_list-requires-clause-there
is_touching_list-requires-clause-there c =
    let there = rw (← c.self.view_is) at c.requires in
    rw c.deref.ensures there

pub set_awaited-requires : goal.set_awaited-requires
set_awaited-requires c =
    let there = rw (← c.self.view_is) at c.requires in
    omega (arith, there, c.self.invariant.flags, ap (λ (w : Waiting). length w.awaited) c.set_claimed.ensures)
