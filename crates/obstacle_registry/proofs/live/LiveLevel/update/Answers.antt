use Rattle.std.proofs.Common.{◌≡◌, ◌≤◌, length, List, ap, sym, subst, ◌∙◌}
use Rattle.std.specs.Prelude.{vec_capacity}
use Rattle.build_queue.specs.BookState.{BookState}
use Rattle.nav_ground.specs.declared.history.Entry.{Entry}
use Rattle.nav_ground.specs.declared.history.Ground.{Ground}
use Rattle.nav_ground.specs.History.{alive_after}
use Rattle.obstacle_registry.proofs.live.LiveLevel.update.Goals as goal

pub invariant_of-self : goal.invariant_of-self
invariant_of-self g c =
    let history : c.update.new.level.history ≡ c.self.inside.level.value.history =
    c.update.ensures.history ∙ ap (λ (b : BookState). b.history) c.deref_mut.ensures.value in
    let ground : c.update.new.level.ground ≡ c.self.inside.level.value.ground =
    c.update.ensures.ground ∙ ap (λ (b : BookState). b.ground) c.deref_mut.ensures.value in
    record {
      rules = c.update.ensures.rules;
      numbers = c.self.invariant.numbers ∙ ap (λ (h : List Entry). alive_after h (length h)) (sym history);
      few = subst (λ (base : Ground). length c.self.inside.numbers.items ≤ base.setting.limit) (sym ground) c.self.invariant.few;
      room = subst (λ (base : Ground). base.setting.limit ≤ vec_capacity c.self.inside.numbers) (sym ground) c.self.invariant.room;
    }
