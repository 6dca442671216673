-- What walking a run leaves, without the depth: what is left of its halves.
use Rattle.std.proofs.Common.{◌≡◌, ℕ, zero, suc, ◌+◌, ◌*◌, ◌<◌, ◌≤◌, Bool, true, false, List, [], ◌∷◌, ◌++◌, length, get_or, take, drop, arith, refl, sym, subst, ap, ◌∙◌}
use Rattle.std.specs.Prelude.{reverse, if◌then◌else◌, All}
use Rattle.std.specs.List.{list_any, flat_map, sum_by}
use Rattle.std.proofs.lemmas.List.{length-take-le, length-drop, append_assoc, get_or_default, reverse-append, get_or_append_left, length_push, get_or_push}
use Rattle.std.proofs.lemmas.List.Elements.{All-push, All-take, All-drop}
use Rattle.std.proofs.lemmas.List.Sums.{sum_by-append}
use Rattle.nav_base.specs.declared.point.Point.{Point}
use Rattle.nav_base.specs.Point.{IsCellCorner}
use Rattle.mesh_types.specs.Choices.{first_best_place}
use Rattle.mesh_types.specs.Simplified.{deviates_more, deviates_over, kept_walking}
use Rattle.contour_simplify.specs.declared.run.RunHalf.{RunHalf}
use Rattle.contour_simplify.specs.Halves.{IsHalf, IsPart, IsStraight, IsSplit}
use Rattle.contour_simplify.proofs.Bests.{best_there}
use Rattle.contour_simplify.proofs.Deviations.{deviations_order}

-- what is kept with a depth that is enough
abbrev whole : ℕ → Point → List Point → Point → List Point
whole error a inner b = kept_walking (length inner) error a inner b

some_if : {X : Type 0} (p : X → Bool) (xs : List X) → list_any p xs ≡ true → 0 < length xs
some_if p [] is = absurd cc
some_if p (x ∷ xs) is = omega arith

split_there : (error : ℕ) (a : Point) (inner : List Point) (b : Point) → list_any (deviates_over error a b) inner ≡ true
    → first_best_place (deviates_more a b) inner < length inner
split_there error a inner b is = best_there (deviates_more a b) (deviations_order a b) inner a (some_if (deviates_over error a b) inner is)

-- more depth than there are inner corners changes nothing
enough : (error m n : ℕ) (a : Point) (inner : List Point) (b : Point) → length inner ≤ m → length inner ≤ n
    → kept_walking m error a inner b ≡ kept_walking n error a inner b
unfolding kept_walking
enough error zero zero a inner b first second = refl
enough error zero (suc n) a [] b first second = refl
enough error zero (suc n) a (p ∷ inner) b first second = absurd (omega (arith, first))
enough error (suc m) zero a [] b first second = refl
enough error (suc m) zero a (p ∷ inner) b first second = absurd (omega (arith, second))
enough error (suc m) (suc n) a inner b first second =
    let place : ℕ = first_best_place (deviates_more a b) inner in
    let at : Point = get_or inner place a in
    halves_alike (list_any (deviates_over error a b) inner) refl place refl
    (λ shorter. enough error m n a (take place inner) at (omega (arith, first, shorter, length-take-le place inner (omega (arith, shorter)))) (omega (arith, second, shorter, length-take-le place inner (omega (arith, shorter)))))
    (λ shorter. enough error m n at (drop (place + 1) inner) b (omega (arith, first, shorter, length-drop (place + 1) inner)) (omega (arith, second, shorter, length-drop (place + 1) inner)))
  where
    halves_alike : (test : Bool) → list_any (deviates_over error a b) inner ≡ test → (place : ℕ) → first_best_place (deviates_more a b) inner ≡ place
        → (place < length inner → kept_walking m error a (take place inner) (get_or inner place a) ≡ kept_walking n error a (take place inner) (get_or inner place a))
        → (place < length inner → kept_walking m error (get_or inner place a) (drop (place + 1) inner) b ≡ kept_walking n error (get_or inner place a) (drop (place + 1) inner) b)
        → (if test then kept_walking m error a (take place inner) (get_or inner place a) ++ get_or inner place a ∷ kept_walking m error (get_or inner place a) (drop (place + 1) inner) b else [])
        ≡ (if test then kept_walking n error a (take place inner) (get_or inner place a) ++ get_or inner place a ∷ kept_walking n error (get_or inner place a) (drop (place + 1) inner) b else [])
    halves_alike false is place at left right = refl
    halves_alike true is place at left right =
        let there : place < length inner = omega (arith, at, split_there error a inner b is) in
        rw (left there, right there) refl

-- the halves of what is kept
halved : (error : ℕ) (a : Point) (inner : List Point) (b : Point) (place : ℕ) (d : Point) → list_any (deviates_over error a b) inner ≡ true
    → first_best_place (deviates_more a b) inner ≡ place
    → whole error a inner b ≡ whole error a (take place inner) (get_or inner place d) ++ get_or inner place d ∷ whole error (get_or inner place d) (drop (place + 1) inner) b
unfolding kept_walking
halved error a inner b place d is best =
    let there : place < length inner = omega (arith, best, split_there error a inner b is) in
    let size : length (take place inner) ≡ place = length-take-le place inner (omega (arith, there)) in
    enough error (length inner) (suc (length inner)) a inner b (omega arith) (omega arith)
    ∙ rw (
      is,
      best,
      get_or_default inner place a d there,
      enough error (length inner) (length (take place inner)) a (take place inner) (get_or inner place d) (omega (arith, there, size)) (omega arith),
      enough error (length inner) (length (drop (place + 1) inner)) (get_or inner place d) (drop (place + 1) inner) b (omega (arith, length-drop (place + 1) inner)) (omega arith),
    ) refl

-- nothing is kept where none deviates over the error
pub straight : (error : ℕ) (a : Point) (inner : List Point) (b : Point) → list_any (deviates_over error a b) inner ≡ false → whole error a inner b ≡ []
unfolding kept_walking
straight error a inner b none = enough error (length inner) (suc (length inner)) a inner b (omega arith) (omega arith) ∙ rw none refl

-- what a half leaves, with its last corner
abbrev pub left_of : ℕ → RunHalf → List Point
left_of error half = kept_walking (length half.inner.now) error half.first half.inner.now half.last ++ half.last ∷ []

left_part : (error : ℕ) (half : RunHalf) (a : Point) (inner : List Point) (b : Point) → IsPart half a inner b → left_of error half ≡ whole error a inner b ++ b ∷ []
left_part error half a inner b is = rw (is.begins, is.between, is.ends) refl

pub left_straight : (error : ℕ) (half : RunHalf) → IsStraight error half → left_of error half ≡ half.last ∷ []
left_straight error half is = ap (λ kept. kept ++ half.last ∷ []) (straight error half.first half.inner.now half.last is.none)

pub left_split : (error : ℕ) (half before after : RunHalf) (place : ℕ) (d : Point) → IsSplit error half place
    → IsPart before half.first (take place half.inner.now) (get_or half.inner.now place d)
    → IsPart after (get_or half.inner.now place d) (drop (place + 1) half.inner.now) half.last
    → left_of error half ≡ left_of error before ++ left_of error after
left_split error half before after place d is first second =
    let at : Point = get_or half.inner.now place d in
    let left : List Point = whole error half.first (take place half.inner.now) at in
    let right : List Point = whole error at (drop (place + 1) half.inner.now) half.last in
    ap (λ kept. kept ++ half.last ∷ []) (halved error half.first half.inner.now half.last place d is.some is.best)
    ∙ regrouped left right at half.last
    ∙ rw (left_part error before half.first (take place half.inner.now) at first, left_part error after at (drop (place + 1) half.inner.now) half.last second) refl
  where
    regrouped : (left right : List Point) (at last : Point) → (left ++ at ∷ right) ++ last ∷ [] ≡ (left ++ at ∷ []) ++ (right ++ last ∷ [])
    regrouped left right at last = append_assoc left (at ∷ right) (last ∷ []) ∙ sym (append_assoc left (at ∷ []) (right ++ last ∷ []))

-- a number that is less for two halves than for the whole
abbrev pub size_of : RunHalf → ℕ
size_of half = 2 * length half.inner.now + 1

-- the top of the stack comes first
pub top_first : {X Y : Type 0} (f : X → List Y) (rest : List X) (top : X) → flat_map f (reverse (rest ++ top ∷ [])) ≡ f top ++ flat_map f (reverse rest)
top_first f rest top = ap (flat_map f) (reverse-append rest (top ∷ []))

-- both halves together are smaller
pub smaller : (half before after : RunHalf) (place : ℕ) (a b : Point) → place < length half.inner.now
    → IsPart before half.first (take place half.inner.now) a → IsPart after b (drop (place + 1) half.inner.now) half.last
    → size_of before + size_of after < size_of half
smaller half before after place a b there first second =
    omega (
      arith,
      there,
      ap (λ (ps : List Point). length ps) first.between,
      ap (λ (ps : List Point). length ps) second.between,
      length-take-le place half.inner.now (omega (arith, there)),
      length-drop (place + 1) half.inner.now,
    )

-- the corners of a half are corners of the half that is split
part_corners : (part : RunHalf) (a : Point) (inner : List Point) (b : Point) → IsPart part a inner b → IsCellCorner a → All IsCellCorner inner → IsCellCorner b → IsHalf part
part_corners part a inner b is first between last = record {
  first = subst IsCellCorner (sym is.begins) first;
  inner = subst (All IsCellCorner) (sym is.between) between;
  last = subst IsCellCorner (sym is.ends) last;
}

-- a half is taken from the stack and split
pub walked_split : (error : ℕ) (kept : List Point) (rest : List RunHalf) (half before after : RunHalf) (place : ℕ) (d : Point) (all : List Point)
    → kept ++ flat_map (left_of error) (reverse (rest ++ half ∷ [])) ≡ all → IsSplit error half place
    → IsPart before half.first (take place half.inner.now) (get_or half.inner.now place d)
    → IsPart after (get_or half.inner.now place d) (drop (place + 1) half.inner.now) half.last
    → kept ++ flat_map (left_of error) (reverse ((rest ++ after ∷ []) ++ before ∷ [])) ≡ all
walked_split error kept rest half before after place d all told is first second =
    let left : List RunHalf → List Point = flat_map (left_of error) in
    ap (λ ps. kept ++ ps) (top_first (left_of error) (rest ++ after ∷ []) before
    ∙ ap (λ ps. left_of error before ++ ps) (top_first (left_of error) rest after)
    ∙ sym (append_assoc (left_of error before) (left_of error after) (left (reverse rest)))
    ∙ ap (λ ps. ps ++ left (reverse rest)) (sym (left_split error half before after place d is first second))
    ∙ sym (top_first (left_of error) rest half))
    ∙ told

-- a half is taken from the stack, and its last corner is kept
pub walked_straight : (error : ℕ) (kept : List Point) (rest : List RunHalf) (half : RunHalf) (all : List Point)
    → kept ++ flat_map (left_of error) (reverse (rest ++ half ∷ [])) ≡ all → IsStraight error half
    → (kept ++ half.last ∷ []) ++ flat_map (left_of error) (reverse rest) ≡ all
walked_straight error kept rest half all told is =
    append_assoc kept (half.last ∷ []) (flat_map (left_of error) (reverse rest))
    ∙ ap (λ ps. kept ++ ps) (ap (λ ps. ps ++ flat_map (left_of error) (reverse rest)) (sym (left_straight error half is)) ∙ sym (top_first (left_of error) rest half))
    ∙ told

-- the halves on the stack get smaller
pub less_on_stack : (rest : List RunHalf) (half before after : RunHalf) → size_of before + size_of after < size_of half
    → sum_by size_of ((rest ++ after ∷ []) ++ before ∷ []) < sum_by size_of (rest ++ half ∷ [])
less_on_stack rest half before after less =
    omega (arith, less, sum_by-append size_of (rest ++ after ∷ []) (before ∷ []), sum_by-append size_of rest (after ∷ []), sum_by-append size_of rest (half ∷ []))

-- what holds of all halves on the stack holds of those below the top, and of the top
pub rest_of : (rest : List RunHalf) (half : RunHalf) → All IsHalf (rest ++ half ∷ []) → All IsHalf rest
rest_of rest half each = λ k d there. subst IsHalf (get_or_append_left rest (half ∷ []) d k there) (each k d (omega (arith, there, length_push rest half)))

last_of : (rest : List RunHalf) (half : RunHalf) → All IsHalf (rest ++ half ∷ []) → IsHalf half
last_of rest half each = subst IsHalf (get_or_push rest half half (length rest) refl) (each (length rest) half (omega (arith, length_push rest half)))

-- the corners of all halves on the stack are corners of cells
pub parts_corners : (rest : List RunHalf) (half before after : RunHalf) (place : ℕ) (d : Point) → All IsHalf (rest ++ half ∷ []) → place < length half.inner.now
    → IsPart before half.first (take place half.inner.now) (get_or half.inner.now place d)
    → IsPart after (get_or half.inner.now place d) (drop (place + 1) half.inner.now) half.last
    → All IsHalf ((rest ++ after ∷ []) ++ before ∷ [])
parts_corners rest half before after place d each there first second =
    let own : IsHalf half = last_of rest half each in
    let at : IsCellCorner (get_or half.inner.now place d) = own.inner place d there in
    All-push IsHalf (rest ++ after ∷ []) before
    (All-push IsHalf rest after (rest_of rest half each)
    (part_corners after (get_or half.inner.now place d) (drop (place + 1) half.inner.now) half.last second at (All-drop IsCellCorner (place + 1) half.inner.now own.inner) own.last))
    (part_corners before half.first (take place half.inner.now) (get_or half.inner.now place d) first own.first (All-take IsCellCorner place half.inner.now own.inner) at)
