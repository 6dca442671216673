use Rattle.std.proofs.Common.{◌≡◌, List, [], ◌∷◌, ◌++◌, ◌∙◌, ap, sym, append_assoc}
use Rattle.tile_links.proofs.join.shared.Goals as goal

-- one more of those to come goes behind those that came
one_moved : {A : Type 0} (came after to_come more all : List A) (x given : A) → after ≡ came ++ x ∷ [] → x ≡ given → to_come ≡ given ∷ more → came ++ to_come ≡ all
    → after ++ more ≡ all
one_moved came after to_come more all x given pushed same next is =
    (λ i. pushed i ++ more) ∙ append_assoc came (x ∷ []) more ∙ (λ i. came ++ same i ∷ more) ∙ ap (λ rest. came ++ rest) (sym next) ∙ is

pub loop-tile-preserved : goal.loop-tile-preserved
loop-tile-preserved c = one_moved _ _ _ _ _ _ _ c.in_ok-push.ensures.items c.in_ok-new.ensures.ok c.in-Some.ensures.steps.0 c.loop-tile.invariant
