use Rattle.std.proofs.Common.{◌∙◌, List, ℕ, [], ◌∷◌, ◌++◌, ap, replicate, sym}
use Rattle.std.proofs.lemmas.List.{append-nil, append_assoc, replicate_more}
use Rattle.contour_mesh.proofs.storeys.push_times.Goals as goal

pub loop-time-preserved : goal.loop-time-preserved
loop-time-preserved c =
    let n : ℕ = c.args.number in
    let before : List ℕ = c.args.numbers.now.items in
    c.in_ok-push.ensures.items ∙ ap (λ (xs : List ℕ). xs ++ n ∷ []) c.loop-time.invariant
    ∙ append_assoc before (replicate c.loop-time._time n) (n ∷ [])
    ∙ ap (λ (xs : List ℕ). before ++ xs) (replicate_more c.loop-time._time n)

pub loop-time-init : goal.loop-time-init
loop-time-init c = sym (append-nil c.args.numbers.now.items)
