use Rattle.std.proofs.Common.{◌≡◌, ◌≤◌, ◌∙◌, length, ap, sym, subst}
use Rattle.std.specs.Prelude.{false}
use Rattle.build_queue.specs.BookState.{BookState}
use Rattle.obstacle_registry.specs.Changes.{next_number, put_up}
use Rattle.obstacle_registry.specs.Registry.{alive_now, is_crowded}
use Rattle.obstacle_registry.proofs.Keeping.{put_at_hand}
use Rattle.obstacle_registry.proofs.live.LiveLevel.put_up.Goals as goal

pub invariant_of-self : goal.invariant_of-self
invariant_of-self c =
    let few : is_crowded c.self.inside.level.value ≡ false = subst (λ (b : BookState). is_crowded b ≡ false) (sym c.self.view_is) c.requires.few in
    let put = put_at_hand c.self.inside.level.value c.args.shape c.self.inside.numbers.items c.push_reserved.new.self.items c.in-Ok.number
    c.self.invariant.numbers c.self.invariant.few few c.push_reserved.ensures.items (c.in-Ok.ensures.number ∙ ap next_number c.deref_mut.ensures.value) in
    let made : c.request.new.self ≡ put_up c.args.shape c.self.inside.level.value = c.in-Ok.ensures.appended ∙ ap (put_up c.args.shape) c.deref_mut.ensures.value in
    record {
      rules = c.request.ensures.rules;
      numbers = put.0 ∙ sym (ap alive_now made);
      few = subst (λ (b : BookState). length c.push_reserved.new.self.items ≤ b.ground.setting.limit) (sym made) put.1;
      room = rw (c.push_reserved.ensures.capacity, made) c.self.invariant.room;
    }
