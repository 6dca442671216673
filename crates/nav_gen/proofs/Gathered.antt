-- What is written piece by piece, and the lines that it is made of.
use Rattle.std.proofs.Common.{◌≡◌, ℕ, ◌+◌, Ok, Err, List, [], ◌∷◌, ◌++◌, map, flat_map, refl, sym, ap, ◌∙◌, arith, append_assoc}
use Rattle.std.specs.Prelude.{Result, OnOk}
use Rattle.std.specs.List.{range_with_len}
use Rattle.std.proofs.lemmas.List.{flat_map_more, append-nil}
use Rattle.std.proofs.lemmas.List.Folds.{flat_map-map}
use Rattle.nav_ground.proofs.Selections.{range-push}
use Rattle.nav_text.specs.Lines.{ended, text_of}

-- one piece more
pub piece_more : (piece : ℕ → List ℕ) (count : ℕ) (start made new : List ℕ) → made ≡ start ++ flat_map piece (range_with_len 0 count) → new ≡ made ++ piece count
    → new ≡ start ++ flat_map piece (range_with_len 0 (count + 1))
piece_more piece count start made new before pushed =
    pushed
    ∙ ap (λ xs. xs ++ piece count) before
    ∙ flat_map_more piece start (range_with_len 0 count) count
    ∙ ap (λ k. start ++ flat_map piece (range_with_len 0 count ++ k ∷ [])) {x = count} {y = 0 + count} (omega arith)
    ∙ ap (λ ks. start ++ flat_map piece ks) (sym (range-push 0 count))

-- the lines of elements that are made one for each number
pub text_of-made : {X : Type 0} (spell : X → List ℕ) (make : ℕ → X) (numbers : List ℕ)
    → flat_map (λ k. ended (spell (make k))) numbers ≡ text_of (map spell (map make numbers))
text_of-made spell make numbers =
    sym (flat_map-map ended spell (map make numbers) ∙ flat_map-map (λ x. ended (spell x)) make numbers)

-- the lines of two lists
pub text_of-append : (some more : List (List ℕ)) → text_of (some ++ more) ≡ text_of some ++ text_of more
text_of-append [] more = refl
text_of-append (line ∷ some) more =
    ap (λ text. ended line ++ text) (text_of-append some more) ∙ sym (append_assoc (ended line) (text_of some) (text_of more))

-- the lines of lists that are made one for each number
pub text_of-gathered : {X : Type 0} (spell : X → List ℕ) (make : ℕ → List X) (numbers : List ℕ)
    → flat_map (λ k. text_of (map spell (make k))) numbers ≡ text_of (map spell (flat_map make numbers))
text_of-gathered spell make [] = refl
text_of-gathered {X = X} spell make (k ∷ numbers) =
    ap (λ text. text_of (map spell (make k)) ++ text) (text_of-gathered spell make numbers)
    ∙ sym (text_of-append (map spell (make k)) (map spell (flat_map make numbers)))
    ∙ ap text_of (sym (map_two (make k) (flat_map make numbers)))
  where
    map_two : (xs ys : List X) → map spell (xs ++ ys) ≡ map spell xs ++ map spell ys
    map_two [] ys = refl
    map_two (x ∷ xs) ys = ap (λ ls. spell x ∷ ls) (map_two xs ys)

-- six pieces one after the other are one text
pub six_pieces : {T E : Type 0} (result : Result T E) (old a b c d e f one two three four five all : List ℕ)
    → one ≡ old ++ a → two ≡ one ++ b → three ≡ two ++ c → four ≡ three ++ d → five ≡ four ++ e → OnOk result (all ≡ five ++ f)
    → OnOk result (all ≡ old ++ (a ++ (b ++ (c ++ (d ++ (e ++ (f ++ [])))))))
six_pieces (Err error) old a b c d e f one two three four five all first second third fourth fifth last = tt
six_pieces (Ok value) old a b c d e f one two three four five all first second third fourth fifth last =
    last ∙ ap (λ t. t ++ f) (fifth ∙ ap (λ t. t ++ e) (fourth ∙ ap (λ t. t ++ d) (third ∙ ap (λ t. t ++ c) (second ∙ ap (λ t. t ++ b) first))))
    ∙ regroup
  where
    regroup : old ++ a ++ b ++ c ++ d ++ e ++ f ≡ old ++ (a ++ (b ++ (c ++ (d ++ (e ++ (f ++ []))))))
    regroup = simp (append_assoc, append-nil)
