-- Lists that the elements of another give one after another, each with its place.
use Rattle.std.proofs.Common.{◌≡◌, ℕ, zero, suc, ◌+◌, ◌-◌, ◌≤◌, ◌<◌, inl, inr, List, [], ◌∷◌, ◌++◌, length, get_or, drop, take, refl, sym, ap, ◌∙◌, arith}
use Rattle.std.specs.Prelude.{Some, None, slice_get, sum_by, flat_map}
use Rattle.std.specs.List.{enumerate_from}
use Rattle.std.proofs.lemmas.Bool.{cases_lt}
use Rattle.std.proofs.lemmas.List.{drop_more, drop_all, length-append}
use Rattle.std.proofs.lemmas.List.Sums.{sum_by-cons}

pub slice_get-append_left : {Y : Type 0} (xs ys : List Y) (n : ℕ) → n < length xs → slice_get (xs ++ ys) n ≡ slice_get xs n
slice_get-append_left [] ys n there = absurd (omega (arith, there))
slice_get-append_left (x ∷ xs) ys zero there = refl
slice_get-append_left (x ∷ xs) ys (suc n) there = slice_get-append_left xs ys n (omega (arith, there))

pub slice_get-append_right : {Y : Type 0} (xs ys : List Y) (n k : ℕ) → n ≡ length xs + k → slice_get (xs ++ ys) n ≡ slice_get ys k
slice_get-append_right [] ys n k is = ap (slice_get ys) (omega (arith, is))
slice_get-append_right (x ∷ xs) ys zero k is = absurd (omega (arith, is))
slice_get-append_right (x ∷ xs) ys (suc n) k is = slice_get-append_right xs ys n k (omega (arith, is))

-- an element of such a list is one of what an element gives
pub record IsGivenBy {X Y : Type 0} (f : ℕ × X → List Y) (first : ℕ) (xs : List X) (y : Y) : Type 0 where
  pub place : ℕ
  pub x : X
  pub number : ℕ
  pub is : slice_get xs place ≡ Some x
  pub gives : slice_get (f (first + place, x)) number ≡ Some y

module _ {X Y : Type 0} (f : ℕ × X → List Y) where
  -- how long the list is
  pub length_numbered : (g : X → ℕ) → ((n : ℕ) (x : X) → length (f (n, x)) ≡ g x) → (n : ℕ) (xs : List X)
      → length (flat_map f (enumerate_from n xs)) ≡ sum_by g xs
  length_numbered g each n [] = refl
  length_numbered g each n (x ∷ xs) =
      omega (
        arith,
        length-append (f (n, x)) (flat_map f (enumerate_from (n + 1) xs)),
        each n x,
        length_numbered g each (n + 1) xs,
        sum_by-cons g x xs,
      )

  at_element : (n i : ℕ) (xs : List X) (x : X) → i < length xs → x ≡ get_or xs i x
      → flat_map f (enumerate_from n (drop i xs)) ≡ f (n, x) ++ flat_map f (enumerate_from (n + 1) (drop (i + 1) xs))
  at_element n i xs x there is = ap (λ ys. flat_map f (enumerate_from n ys)) (drop_more xs i x there ∙ ap (λ y. y ∷ drop (i + 1) xs) (sym is))

  -- the element with a number is one of those that the element at a place gives
  pub in_this : (n i : ℕ) (xs : List X) (x : X) (k count : ℕ) → i < length xs → x ≡ get_or xs i x → length (f (n, x)) ≡ count → k < count
      → slice_get (flat_map f (enumerate_from n (drop i xs))) k ≡ slice_get (f (n, x)) k
  in_this n i xs x k count there is counted within =
      ap (λ ys. slice_get ys k) (at_element n i xs x there is)
      ∙ slice_get-append_left (f (n, x)) (flat_map f (enumerate_from (n + 1) (drop (i + 1) xs))) k (omega (arith, counted, within))

  -- or it stands behind those
  pub past_this : (n i : ℕ) (xs : List X) (x : X) (k count : ℕ) → i < length xs → x ≡ get_or xs i x → length (f (n, x)) ≡ count → count ≤ k
      → slice_get (flat_map f (enumerate_from n (drop i xs))) k ≡ slice_get (flat_map f (enumerate_from (n + 1) (drop (i + 1) xs))) (k - count)
  past_this n i xs x k count there is counted past =
      ap (λ ys. slice_get ys k) (at_element n i xs x there is)
      ∙ slice_get-append_right (f (n, x)) (flat_map f (enumerate_from (n + 1) (drop (i + 1) xs))) k (k - count) (omega (arith, counted, past))

  -- an element whose number lies between the sums before an element and with it is one of those that this gives
  pub number_in : (g : X → ℕ) → ((n : ℕ) (x : X) → length (f (n, x)) ≡ g x) → (i n : ℕ) (xs : List X) (x : X) (k : ℕ) → i < length xs → x ≡ get_or xs i x
      → sum_by g (take i xs) ≤ k → k < sum_by g (take (suc i) xs)
      → slice_get (flat_map f (enumerate_from n xs)) k ≡ slice_get (f (n + i, x)) (k - sum_by g (take i xs))
  number_in g each i n [] x k there is least less = absurd (omega (arith, there))
  number_in g each zero n (y ∷ ys) x k there is least less =
      slice_get-append_left (f (n, y)) (flat_map f (enumerate_from (n + 1) ys)) k (omega (arith, each n y, less, sum_by-cons g y []))
      ∙ ap (λ z. slice_get (f (n, z)) k) (sym is)
      ∙ ap (λ m. slice_get (f (m, x)) k) (omega arith)
      ∙ ap (slice_get (f (n + 0, x))) (omega arith)
  number_in g each (suc i) n (y ∷ ys) x k there is least less =
      let first = sum_by-cons g y (take i ys) in
      let with_it = sum_by-cons g y (take (suc i) ys) in
      slice_get-append_right (f (n, y)) (flat_map f (enumerate_from (n + 1) ys)) k (k - g y) (omega (arith, each n y, least, first))
      ∙ number_in g each i (n + 1) ys x (k - g y) (omega (arith, there)) is (omega (arith, least, first)) (omega (arith, less, least, first, with_it))
      ∙ ap (λ m. slice_get (f (m, x)) (k - g y - sum_by g (take i ys))) (omega arith)
      ∙ ap (slice_get (f (n + suc i, x))) (omega (arith, first))

  -- there is none behind the last element
  pub past_all : (n i : ℕ) (xs : List X) (k : ℕ) → length xs ≤ i → slice_get (flat_map f (enumerate_from n (drop i xs))) k ≡ None
  past_all n i xs k past = ap (λ ys. slice_get (flat_map f (enumerate_from n ys)) k) (drop_all i xs past)

  -- what each element of the list comes from
  pub given_by : (first : ℕ) (xs : List X) (n : ℕ) (y : Y) → slice_get (flat_map f (enumerate_from first xs)) n ≡ Some y → IsGivenBy f first xs y
  given_by first [] n y is = absurd cc
  given_by first (x ∷ xs) n y is =
      elim (cases_lt n (length (f (first, x)))) [
        | inl less ↦ record {
          place = 0;
          x = x;
          number = n;
          is = refl;
          gives = ap (λ k. slice_get (f (k, x)) n) (omega arith) ∙ sym (slice_get-append_left (f (first, x)) (flat_map f (enumerate_from (first + 1) xs)) n less) ∙ is;
        }
        | inr least ↦
            let rest = given_by (first + 1) xs (n - length (f (first, x))) y
            (sym (slice_get-append_right (f (first, x)) (flat_map f (enumerate_from (first + 1) xs)) n (n - length (f (first, x))) (omega (arith, least))) ∙ is) in
            record {
              place = suc rest.place;
              x = rest.x;
              number = rest.number;
              is = rest.is;
              gives = ap (λ k. slice_get (f (k, rest.x)) rest.number) (omega arith) ∙ rest.gives;
            }
      ]
