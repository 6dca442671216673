use Rattle.std.proofs.Common.{◌≡◌, ◌≤◌, ◌<◌, ◌∙◌, length, ap, sym, subst, Ok, Err, true, false}
use Rattle.std.specs.Prelude.{◌==◌}
use Rattle.std.specs.Box.{with_value}
use Rattle.std.specs.List.{list_any}
use Rattle.nav_ground.specs.declared.history.Request.TheVariants.{Remove}
use Rattle.nav_ground.specs.History.{history_limit}
use Rattle.build_queue.specs.BookState.{BookState}
use Rattle.build_queue.specs.Steps.{requested}
use Rattle.obstacle_registry.specs.declared.live.LiveLevel.TheInside.{Inside}
use Rattle.obstacle_registry.specs.Changes.{taken_down}
use Rattle.obstacle_registry.specs.LiveNumbers.{AreAtHand}
use Rattle.obstacle_registry.specs.Registry.{alive_now, is_crowded}
use Rattle.obstacle_registry.proofs.Keeping.{entered, found_at_hand, not_crowded, taken_at_hand}
use Rattle.obstacle_registry.proofs.live.LiveLevel.take_down.Goals as goal
use Rattle.obstacle_registry.proofs.live.LiveLevel.take_down.Goals.{in-Ok, in_default}

pub invariant_of-self : goal.invariant_of-self
invariant_of-self c =
    let level : BookState = c.self.inside.level.value in
    let there : list_any (λ alive. alive == c.args.number) (alive_now level) ≡ true =
    subst (λ (b : BookState). list_any (λ alive. alive == c.args.number) (alive_now b) ≡ true) (sym c.self.view_is) c.requires.there in
    let room : length level.history < history_limit = subst (λ (b : BookState). length b.history < history_limit) (sym c.self.view_is) c.requires.room in
    elim c.match-binary_search.branch [
      | in-Ok w ↦
          let found = found_at_hand level c.self.inside.numbers.items c.deref.result.now c.args.number (Ok w.in-Ok.place) c.deref.ensures.value
          c.self.invariant.numbers there w.in-Ok.ensures.bound w.in-Ok.ensures.position in
          let taken = taken_at_hand level c.self.inside.numbers.items w.remove.new.self.items c.args.number c.self.invariant.numbers c.self.invariant.few there
          (w.remove.ensures.items ∙ sym found) in
          let is : c.request.new.self ≡ taken_down c.args.number level =
          c.request.ensures.state ∙ ap (λ (b : BookState). requested b 0 (Remove c.args.number)) c.deref_mut.ensures.value
          ∙ ap (λ (s : Inside). requested s.level.value 0 (Remove c.args.number)) w.self-inside-is ∙ entered level (Remove c.args.number) room in
          let made : AreAtHand (record { level = with_value c.match-binary_search.self-inside.level c.request.new.self; numbers = w.remove.new.self }) = record {
            rules = c.request.ensures.rules;
            numbers = taken.0 ∙ sym (ap alive_now is);
            few = subst (λ (b : BookState). length w.remove.new.self.items ≤ b.ground.setting.limit) (sym is) taken.1;
            room = rw (w.remove.ensures.capacity, is) c.self.invariant.room;
          } in
          subst (λ (s : Inside). AreAtHand (record { level = with_value c.match-binary_search.self-inside.level c.request.new.self; numbers = s.numbers })) (sym w.self-inside-is) made
      | in_default w ↦ absurd (found_at_hand level c.self.inside.numbers.items c.deref.result.now c.args.number (Err w.in_default.field-0) c.deref.ensures.value
          c.self.invariant.numbers there w.in_default.ensures.bound w.in_default.ensures.position)
    ]

pub returns-clause-few : goal.returns-clause-few
returns-clause-few c =
    let level : BookState = c.self.inside.level.value in
    let there : list_any (λ alive. alive == c.args.number) (alive_now level) ≡ true =
    subst (λ (b : BookState). list_any (λ alive. alive == c.args.number) (alive_now b) ≡ true) (sym c.self.view_is) c.requires.there in
    let room : length level.history < history_limit = subst (λ (b : BookState). length b.history < history_limit) (sym c.self.view_is) c.requires.room in
    let same : c.match-binary_search.self-inside.level.value ≡ level = elim c.match-binary_search.branch [
      | in-Ok w ↦ ap (λ (s : Inside). s.level.value) w.self-inside-is
      | in_default w ↦ ap (λ (s : Inside). s.level.value) w.self-inside-is
    ] in
    let is : c.request.new.self ≡ taken_down c.args.number level =
    c.request.ensures.state ∙ ap (λ (b : BookState). requested b 0 (Remove c.args.number)) (c.deref_mut.ensures.value ∙ same) ∙ entered level (Remove c.args.number) room in
    subst (λ (b : BookState). is_crowded b ≡ false) (sym is)
    (not_crowded level c.self.inside.numbers.items c.args.number c.self.invariant.numbers c.self.invariant.few there)
