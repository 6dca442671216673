-- A list that is laid into a room place by place.
use Rattle.std.proofs.Common.{◌≡◌, ◌+◌, ◌<◌, ℕ, zero, suc, List, [], ◌∷◌, ◌++◌, refl, sym, ap, ◌∙◌, subst, arith, length, map, take, drop, get_or, set}
use Rattle.std.proofs.lemmas.List.{get_or-map, length-map}

place_more : {A : Type 0} (ys room : List A) (p : ℕ) (d : A) → p < length ys → p < length room
    → set (take p ys ++ drop p room) p (get_or ys p d) ≡ take (suc p) ys ++ drop (suc p) room
place_more [] room p d there room_there = absurd (omega (arith, there))
place_more (y ∷ ys) [] p d there room_there = absurd (omega (arith, room_there))
place_more (y ∷ ys) (r ∷ room) zero d there room_there = refl
place_more {A = A} (y ∷ ys) (r ∷ room) (suc p) d there room_there =
    ap (λ (rest : List A). y ∷ rest) (place_more ys room p d (omega (arith, there)) (omega (arith, room_there)))

-- one place more
pub placed_more : {A : Type 0} (ys room now : List A) (p : ℕ) (d : A) (said : A) → p < length ys → p < length room
    → now ≡ take p ys ++ drop p room → said ≡ get_or ys p d → set now p said ≡ take (p + 1) ys ++ drop (p + 1) room
placed_more {A = A} ys room now p d said there room_there so_far is =
    let more : suc p ≡ p + 1 = omega arith in
    ap (λ (zs : List A). set zs p said) so_far ∙ ap (λ (y : A). set (take p ys ++ drop p room) p y) is
    ∙ place_more ys room p d there room_there ∙ ap (λ (n : ℕ). take n ys ++ drop n room) more

-- one place more, by what is told of an element
pub told_more : {X A : Type 0} (told : X → A) (xs : List X) (room now : List A) (p : ℕ) (d : X) (said : A) → p < length xs → p < length room
    → now ≡ take p (map told xs) ++ drop p room → said ≡ told (get_or xs p d) → set now p said ≡ take (p + 1) (map told xs) ++ drop (p + 1) room
told_more told xs room now p d said there room_there so_far is =
    placed_more (map told xs) room now p (told d) said (subst (λ (n : ℕ). p < n) (sym (length-map xs told)) there) room_there so_far
    (is ∙ sym (get_or-map told xs p d (told d) there))
