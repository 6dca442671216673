-- Steps of loops that gather lists.
use Rattle.std.proofs.Common.{◌≡◌, ℕ, ◌+◌, ◌-◌, ◌<◌, ◌≤◌, Bool, true, false, cond, Option, length, List, [], ◌∷◌, ◌++◌, map, filter, take, get_or, ap, ◌∙◌, sym, refl, arith}
use Rattle.std.specs.List.{range_with_len, flat_map, filter_map, cons_option}
use Rattle.std.proofs.lemmas.List.{append-nil, append_assoc, map-append, map_more, map_push, take_more}
use Rattle.std.proofs.lemmas.List.Elements.{filter-append, filter_map-append}
use Rattle.std.proofs.lemmas.Grind.{flat_map-append}
use Rattle.nav_ground.proofs.Selections.{range-push}

-- one element more is made from a list, after what stood before
pub one_more_made : {A B : Type 0} (f : A → B) (start : List B) (xs : List A) (k : ℕ) (d : A) (made next : List B) (y : B) → k < length xs
    → made ≡ start ++ map f (take k xs) → next ≡ made ++ y ∷ [] → y ≡ f (get_or xs k d) → next ≡ start ++ map f (take (k + 1) xs)
one_more_made {B = B} f start xs k d made next y there before is made_is =
    is ∙ ap (λ (ys : List B). ys ++ y ∷ []) before
    ∙ append_assoc start (map f (take k xs)) (y ∷ [])
    ∙ ap (λ (z : B). start ++ (map f (take k xs) ++ z ∷ [])) made_is
    ∙ ap (λ (ys : List B). start ++ ys) (sym (map_more f xs k d there))

-- the same from the numbers of a range
pub one_more_counted : {B : Type 0} (f : ℕ → B) (start : List B) (first count next_count : ℕ) (made next : List B) (y : B)
    → made ≡ start ++ map f (range_with_len first count) → next ≡ made ++ y ∷ [] → y ≡ f (first + count) → next_count ≡ count + 1
    → next ≡ start ++ map f (range_with_len first next_count)
one_more_counted {B = B} f start first count next_count made next y before is made_is more =
    is ∙ ap (λ (ys : List B). ys ++ y ∷ []) before
    ∙ append_assoc start (map f (range_with_len first count)) (y ∷ [])
    ∙ ap (λ (z : B). start ++ (map f (range_with_len first count) ++ z ∷ [])) made_is
    ∙ ap (λ (ys : List B). start ++ ys) (sym (map_push f (range_with_len first count) (first + count)))
    ∙ ap (λ ns. start ++ map f ns) (sym (range-push first count))
    ∙ ap (λ n. start ++ map f (range_with_len first n)) (sym more)

-- the same from the numbers from 0 on
pub one_more_numbered : {B : Type 0} (f : ℕ → B) (start : List B) (n : ℕ) (made next : List B) (y : B) → made ≡ start ++ map f (range_with_len 0 n)
    → next ≡ made ++ y ∷ [] → y ≡ f n → next ≡ start ++ map f (range_with_len 0 (n + 1))
one_more_numbered f start n made next y before is made_is =
    one_more_counted f start 0 n (n + 1) made next y before is (made_is ∙ ap f {x = n} {y = 0 + n} (omega arith)) refl

-- what one element more gives is appended
pub one_more_gathered : {A B : Type 0} (f : A → List B) (xs : List A) (k : ℕ) (d : A) (made next : List B) → k < length xs
    → made ≡ flat_map f (take k xs) → next ≡ made ++ f (get_or xs k d) → next ≡ flat_map f (take (k + 1) xs)
one_more_gathered {B = B} f xs k d made next there before is =
    is ∙ ap (λ (ys : List B). ys ++ f (get_or xs k d)) before
    ∙ ap (λ (ys : List B). flat_map f (take k xs) ++ ys) (sym (append-nil (f (get_or xs k d))))
    ∙ sym (flat_map-append f (take k xs) (get_or xs k d ∷ []))
    ∙ ap (flat_map f) (sym (take_more xs k d there))

-- and where it gives one at most
pub one_more_found : {A B : Type 0} (h : A → Option B) (xs : List A) (k : ℕ) (d : A) (made next : List B) → k < length xs
    → made ≡ filter_map h (take k xs) → next ≡ made ++ cons_option (h (get_or xs k d)) [] → next ≡ filter_map h (take (k + 1) xs)
one_more_found {B = B} h xs k d made next there before is =
    is ∙ ap (λ (ys : List B). ys ++ cons_option (h (get_or xs k d)) []) before
    ∙ sym (filter_map-append h (take k xs) (get_or xs k d ∷ []))
    ∙ ap (filter_map h) (sym (take_more xs k d there))

-- a number more of a range that a test keeps, or not
pub one_more_kept : {B : Type 0} (f : ℕ → B) (p : ℕ → Bool) (n : ℕ) (start made next : List B) → made ≡ start ++ map f (filter p (range_with_len 0 n))
    → next ≡ made ++ cond (p n) (f n ∷ []) [] → next ≡ start ++ map f (filter p (range_with_len 0 (n + 1)))
one_more_kept {B = B} f p n start made next before is =
    is ∙ ap (λ (ys : List B). ys ++ cond (p n) (f n ∷ []) []) before
    ∙ append_assoc start (map f (filter p (range_with_len 0 n))) (cond (p n) (f n ∷ []) [])
    ∙ ap (λ (ys : List B). start ++ ys) (ap (λ (ys : List B). map f (filter p (range_with_len 0 n)) ++ ys) (single (p n))
    ∙ sym (map-append f (filter p (range_with_len 0 n)) (cond (p n) (n ∷ []) []))
    ∙ ap (map f) (sym (filter-append p (range_with_len 0 n) (n ∷ [])))
    ∙ ap (λ ns. map f (filter p ns)) (ap (λ m. range_with_len 0 n ++ m ∷ []) {x = n} {y = 0 + n} (omega arith) ∙ sym (range-push 0 n)))
  where
    single : (b : Bool) → cond b (f n ∷ []) [] ≡ map f (cond b (n ∷ []) [])
    single true = refl
    single false = refl

-- elements made from the numbers from one on, up to one that is not past an end
pub record AreMadeUpTo {B : Type 0} (f : ℕ → B) (start : List B) (first end next : ℕ) (made : List B) : Type 0 where
  pub are : made ≡ start ++ map f (range_with_len first (next - first))
  pub most : next - first ≤ end - first

pub made_more : {B : Type 0} (f : ℕ → B) (start : List B) (first end next : ℕ) (made after : List B) (y : B) → first ≤ next → next < end
    → AreMadeUpTo f start first end next made → after ≡ made ++ y ∷ [] → y ≡ f next → AreMadeUpTo f start first end (next + 1) after
made_more f start first end next made after y least there before is made_is = record {
  are = one_more_counted f start first (next - first) (next + 1 - first) made after y before.are is
      (made_is ∙ ap f {x = next} {y = first + (next - first)} (omega (arith, least))) (omega (arith, least));
  most = omega (arith, least, there);
}

pub made_all : {B : Type 0} (f : ℕ → B) (start : List B) (first end next : ℕ) (made : List B) → end ≤ next → AreMadeUpTo f start first end next made
    → made ≡ start ++ map f (range_with_len first (end - first))
made_all f start first end next made past before =
    before.are ∙ ap (λ n. start ++ map f (range_with_len first n)) {x = next - first} {y = end - first} (omega (arith, past, before.most))
