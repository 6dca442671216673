use Rattle.std.proofs.Common.{◌≡◌, ◌≤◌, ℕ, List, length, arith, ap, sym, subst, ◌∙◌}
use Rattle.std.specs.Prelude.{vec_capacity}
use Rattle.std.specs.List.{range_with_len}
use Rattle.std.specs.Vec.{with_items}
use Rattle.std.proofs.lemmas.List.{with_items_is}
use Rattle.build_queue.specs.BookState.{BookState}
use Rattle.build_queue.specs.Renewal.{IsRenewed}
use Rattle.nav_ground.specs.declared.history.Ground.{Ground}
use Rattle.obstacle_registry.specs.Registry.{alive_now}
use Rattle.obstacle_registry.proofs.Renewing.{alive_renewed, renewed_long}
use Rattle.obstacle_registry.proofs.live.LiveLevel.begin_again.Goals as goal

pub invariant_of-self : goal.invariant_of-self
invariant_of-self c =
    let old : BookState = c.self.inside.level.value in
    let new : BookState = c.begin_again.new.self in
    let renewed : IsRenewed old new = subst (λ (b : BookState). IsRenewed b new) c.deref_mut.ensures.value c.begin_again.ensures.did.renewed in
    let counted : c.count_up.new.numbers ≡ alive_now new =
    c.count_up.ensures ∙ ap (λ (ns : List ℕ). range_with_len 1 (length ns)) (c.as_mut_slice.ensures.value ∙ c.self.invariant.numbers)
    ∙ sym (alive_renewed old new renewed) in
    let kept : length c.count_up.new.numbers ≡ c.self.inside.numbers.len =
    c.count_up.auto.numbers ∙ ap (λ (ns : List ℕ). length ns) c.as_mut_slice.ensures.value ∙ sym c.self.inside.numbers.ok.0 in
    let is = with_items_is c.self.inside.numbers c.count_up.new.numbers kept in
    let numbers' : (with_items c.self.inside.numbers c.count_up.new.numbers).items ≡ alive_now new = is ∙ counted in
    let long = ap (λ (ns : List ℕ). length ns) numbers' in
    let before = ap (λ (ns : List ℕ). length ns) c.self.invariant.numbers in
    let few' : length (with_items c.self.inside.numbers c.count_up.new.numbers).items ≤ old.ground.setting.limit = omega (arith, long, renewed_long old new renewed, before, c.self.invariant.few) in
    record {
      rules = c.begin_again.ensures.did.rules;
      numbers = numbers';
      few = subst (λ (base : Ground). length (with_items c.self.inside.numbers c.count_up.new.numbers).items ≤ base.setting.limit) (sym renewed.ground) few';
      room = subst (λ (base : Ground). base.setting.limit ≤ vec_capacity c.self.inside.numbers) (sym renewed.ground) c.self.invariant.room;
    }
