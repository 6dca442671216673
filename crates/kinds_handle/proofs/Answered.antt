-- What is told by the answer that each kind gives.
use Rattle.std.proofs.Common.{◌≡◌, List, ap, ◌∙◌}
use Rattle.std.specs.Prelude.{All}
use Rattle.build_queue.specs.BookState.{BookState}

-- what a function tells of an answer of all kinds
pub told_of_all : {X Y : Type 0} (told : X → Y) (said : BookState → X) (answer : X) (is : Y) (states : List BookState)
    → All (λ (state : BookState). answer ≡ said state) states → is ≡ told answer → All (λ (state : BookState). is ≡ told (said state)) states
told_of_all told said answer is states all same = λ k d there. same ∙ ap told (all k d there)
