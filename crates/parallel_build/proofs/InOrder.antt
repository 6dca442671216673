-- What is collected of answers in order, where all were made.
use Rattle.std.proofs.Common.{◌≡◌, List, [], ◌∷◌, map, refl, ap, ◌∙◌, subst}
use Rattle.std.specs.Prelude.{IfOk, Ok, Err, Result, MatchResult, Contains}
use Rattle.std.specs.List.{AllZip}

-- an answer is what a function gives, wherever it was made
abbrev pub Answers : {A B E : Type 0} → (A → B) → A → Result B E → Type 0
Answers f x answer = IfOk answer (λ y. y ≡ f x)

in_order : {A B : Type 0} (E : Type 0) (f : A → B) (xs : List A) (made : List B) → AllZip (λ (x : A) (answer : Result B E). Answers f x answer) xs (map Ok made)
    → made ≡ map f xs
in_order E f [] [] each = refl
in_order E f [] (y ∷ made) each = absurd each
in_order E f (x ∷ xs) [] each = absurd each
in_order E f (x ∷ xs) (y ∷ made) each = ap (λ z. z ∷ made) each.0 ∙ ap (λ l. f x ∷ l) (in_order E f xs made each.1)

-- where each answer is what a function gives, and all of them were made, what was collected of them is the function's values in order
pub all_made : {A B C E : Type 0} (f : A → B) (xs : List A) (answers : List (Result B E)) (items : C → List B) (made : Result C E)
    → AllZip (λ (x : A) (answer : Result B E). Answers f x answer) xs answers
    → MatchResult made (λ c. (ys : List B) × (answers ≡ map Ok ys) × (items c ≡ ys)) (λ e. Contains answers (Err e))
    → IfOk made (λ c. items c ≡ map f xs)
all_made {A = A} {B = B} {E = E} f xs answers items (Ok c) each told =
    told.2 ∙ in_order E f xs told.0 (subst (AllZip (λ (x : A) (answer : Result B E). Answers f x answer) xs) told.1 each)
all_made f xs answers items (Err e) each told = tt
