use Rattle.std.proofs.Common.{◌≡◌, ℕ, ◌+◌, ◌<◌, ◌∙◌, List, ◌++◌, ◌∷◌, [], ap, arith, get_or, length, sym, take}
use Rattle.std.proofs.lemmas.Result.{IfOk-from_err}
use Rattle.std.proofs.lemmas.List.{take_more, take_all}
use Rattle.nav_lists.proofs.items.ItemsDuplicate.duplicate.Goals as goal

-- the copy of one more element behind those so far
copied_more : {X : Type 0} (xs lent made next : List X) (i : ℕ) (item copy : X) → lent ≡ xs → i < length lent → made ≡ take i xs → item ≡ get_or lent i item
    → copy ≡ item → next ≡ made ++ copy ∷ [] → next ≡ take (i + 1) xs
copied_more xs lent made next i item copy same there so_far at equal is =
    is ∙ (λ k. so_far k ++ (equal ∙ at ∙ ap (λ ys. get_or ys i item) same) k ∷ [])
    ∙ sym (take_more xs i item (rw (sym (ap length same)) there))

pub returns-in_err-items : goal.returns-in_err-items
returns-in_err-items g c = IfOk-from_err c.from_residual.result _ c.from_residual.ensures.0

pub returns-in_err-duplicate : goal.returns-in_err-duplicate
returns-in_err-duplicate g c = IfOk-from_err c.from_residual-in_err-duplicate.result _ c.from_residual-in_err-duplicate.ensures.0

pub returns-in_err-push : goal.returns-in_err-push
returns-in_err-push g c = IfOk-from_err c.from_residual-in_err-push.result _ c.from_residual-in_err-push.ensures.0

pub loop-item-preserved : goal.loop-item-preserved
loop-item-preserved g c =
    copied_more c.args.self.now c.as_slice-item-items.result.now c.loop-item.items.items c.push.new.self.items c.loop-item.item-index c.item-item.result
    c.in_ok-duplicate.field-0 c.as_slice-item-items.ensures c.loop-item-test.true c.loop-item.invariant c.item-item.is c.in_ok-duplicate.ensures
    c.in_ok-push.ensures.items

pub returns : goal.returns
returns g c =
    c.from_vec.ensures ∙ c.loop-item.invariant
    ∙ take_all c.loop-item.item-index c.args.self.now (omega (arith, c.loop-item-test.false, ap length c.as_slice-item-items.ensures))
