-- Texts that are written part by part.
use Rattle.std.proofs.Common.{◌≡◌, ℕ, ◌+◌, ◌<◌, ◌≤◌, List, [], ◌∷◌, ◌++◌, length, drop, get_or, ap, ◌∙◌, refl, sym, append_assoc, append-nil, arith, Ok, Err}
use Rattle.std.specs.Prelude.{Result, is_ok, if◌then◌else◌, vec_len}
use Rattle.std.specs.declared.alloc.Global.{Global}
use Rattle.std.specs.declared.vec.Vec.{Vec}
use Rattle.std.specs.List.{enumerate_from, flat_map, range_with_len}
use Rattle.std.proofs.lemmas.List.{at_drop_all, at_drop_more, take-append-drop}
use Rattle.std.proofs.lemmas.List.FromFn.{get_or-range_with_len, length-range_with_len}
use Rattle.std.proofs.lemmas.Grind.{flat_map-append}
use Rattle.nav_lists.specs.Chunked.{joined}
use Rattle.nav_text.specs.Appends.{Appends}
use Rattle.nav_play.specs.Scenes.{StandsInFront}

-- nothing is written
pub stands_same : (before after : List ℕ) → after ≡ before → StandsInFront before after
stands_same before after same = ([], same ∙ sym (append-nil before))

-- what is written behind what is written
pub stands_further : (a b c : List ℕ) → StandsInFront a b → StandsInFront b c → StandsInFront a c
stands_further a b c (first, b_is) (second, c_is) = (first ++ second, c_is ∙ ap (λ xs. xs ++ second) b_is ∙ append_assoc a first second)

-- what a call says that appends to a vector
pub stands_told : {T E : Type 0} (old new : Vec ℕ Global) (result : Result T E) (text : List ℕ) → Appends old new result text → StandsInFront old.items new.items
stands_told old new (Ok x) text appends = (text, appends.ok)
stands_told old new (Err e) text appends =
    (drop (vec_len old) new.items, sym (take-append-drop (vec_len old) new.items) ∙ ap (λ xs. xs ++ drop (vec_len old) new.items) appends.err)

pub stands_grown : {T E : Type 0} (old new : List ℕ) (result : Result T E) (text : List ℕ) → new ≡ (if is_ok result then old ++ text else old) → StandsInFront old new
stands_grown old new (Ok x) text items = (text, items)
stands_grown old new (Err e) text items = stands_same old new items

-- one part more is written, and the rest is left
pub part_written : (before after part rest whole : List ℕ) → before ++ (part ++ rest) ≡ whole → after ≡ before ++ part → after ++ rest ≡ whole
part_written before after part rest whole left is = ap (λ t. t ++ rest) is ∙ append_assoc before part rest ∙ left

module _ {A : Type 0} (xs : List A) (i : ℕ) (before whole : List ℕ) where
  -- the text of one element more of a list
  pub one_written : (f : A → List ℕ) (d e : A) (after : List ℕ) → before ++ flat_map f (drop i xs) ≡ whole → i < length xs → e ≡ get_or xs i d
      → after ≡ before ++ f e → after ++ flat_map f (drop (i + 1) xs) ≡ whole
  one_written f d e after left there here is =
      part_written before after (f (get_or xs i d)) (flat_map f (drop (i + 1) xs)) whole
      (sym (at_drop_more (λ ys. before ++ flat_map f ys) xs i d there) ∙ left) (is ∙ ap (λ x. before ++ f x) here)

  -- and of all
  pub all_written : (f : A → List ℕ) → before ++ flat_map f (drop i xs) ≡ whole → length xs ≤ i → before ≡ whole
  all_written f left end = sym (append-nil before) ∙ sym (at_drop_all (λ ys. before ++ flat_map f ys) xs i end) ∙ left

  -- the same with the numbers of the elements
  pub one_counted : (f : ℕ × A → List ℕ) (n : ℕ) (d e : A) (after : List ℕ) → before ++ flat_map f (enumerate_from n (drop i xs)) ≡ whole → i < length xs
      → e ≡ get_or xs i d → after ≡ before ++ f (n, e) → after ++ flat_map f (enumerate_from (n + 1) (drop (i + 1) xs)) ≡ whole
  one_counted f n d e after left there here is =
      part_written before after (f (n, get_or xs i d)) (flat_map f (enumerate_from (n + 1) (drop (i + 1) xs))) whole
      (sym (at_drop_more (λ ys. before ++ flat_map f (enumerate_from n ys)) xs i d there) ∙ left) (is ∙ ap (λ x. before ++ f (n, x)) here)

  pub all_counted : (f : ℕ × A → List ℕ) (n : ℕ) → before ++ flat_map f (enumerate_from n (drop i xs)) ≡ whole → length xs ≤ i → before ≡ whole
  all_counted f n left end = sym (append-nil before) ∙ sym (at_drop_all (λ ys. before ++ flat_map f (enumerate_from n ys)) xs i end) ∙ left

-- and of numbers from 0
module _ (n end i : ℕ) (before whole : List ℕ) (f : ℕ → List ℕ) where
  pub one_numbered : (after : List ℕ) → end ≡ n → before ++ flat_map f (drop i (range_with_len 0 n)) ≡ whole → i < end → after ≡ before ++ f i
      → after ++ flat_map f (drop (i + 1) (range_with_len 0 n)) ≡ whole
  one_numbered after all left there is =
      let below : i < n = omega (arith, all, there) in
      one_written (range_with_len 0 n) i before whole f 0 i after left (omega (arith, below, length-range_with_len 0 n))
      (let at = get_or-range_with_len 0 n i 0 below in omega (arith, at)) is

  pub all_numbered : end ≡ n → before ++ flat_map f (drop i (range_with_len 0 n)) ≡ whole → end ≤ i → before ≡ whole
  all_numbered all left over = all_written (range_with_len 0 n) i before whole f left (omega (arith, all, over, length-range_with_len 0 n))

-- what is written of the elements of chunks, chunk by chunk, is written of all elements
pub chunks_written : {A : Type 0} (f : A → List ℕ) (chunks : List (List A)) → flat_map (flat_map f) chunks ≡ flat_map f (joined chunks)
chunks_written f [] = refl
chunks_written f (chunk ∷ chunks) = ap (λ (text : List ℕ). flat_map f chunk ++ text) (chunks_written f chunks) ∙ sym (flat_map-append f chunk (joined chunks))
