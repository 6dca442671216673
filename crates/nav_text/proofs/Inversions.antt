-- What an equation says of its parts, where one side is a chain of options or results.
use Rattle.std.proofs.Common.{ℕ, List, [], ◌∷◌, length, slice_index, ap, arith, ◌≡◌, Bool, true, false, cond, Option, Some, None, Result, Ok, Err, refl, option_and_then}
use Rattle.std.specs.Option.{option_map}

pub some_is : {A : Type 0} {x y : A} → Some x ≡ Some y → x ≡ y
some_is e = cc

pub ok_is : {A E : Type 0} {x y : A} → ◌≡◌ {A = Result A E} (Ok x) (Ok y) → x ≡ y
ok_is e = cc

pub err_is : {A E : Type 0} {x y : E} → ◌≡◌ {A = Result A E} (Err x) (Err y) → x ≡ y
err_is e = cc

-- a choice that is `Some` where it is nothing otherwise
pub when : {A : Type 0} (b : Bool) (x : Option A) (y : A) → cond b x None ≡ Some y → (b ≡ true) × (x ≡ Some y)
when true x y e = (refl, e)
when false x y e = absurd cc

-- a chain that is `Some` has a first part that is
pub bind_some : {A B : Type 0} (f : A → Option B) (o : Option A) (y : B) → option_and_then f o ≡ Some y → (x : A) × (o ≡ Some x) × (f x ≡ Some y)
bind_some f (Some x) y e = (x, refl, e)
bind_some f None y e = absurd cc

pub map_some : {A B : Type 0} (f : A → B) (o : Option A) (y : B) → option_map f o ≡ Some y → (x : A) × (o ≡ Some x) × (f x ≡ y)
map_some f (Some x) y e = (x, refl, some_is e)
map_some f None y e = absurd cc

-- a choice that is `Ok` where it is an error otherwise
pub unless : {A E : Type 0} (b : Bool) (error : E) (x : Result A E) (y : A) → cond b (Err error) x ≡ Ok y → (b ≡ false) × (x ≡ Ok y)
unless true error x y e = absurd cc
unless false error x y e = (refl, e)

-- a list of known length is the list of its elements
pub one_is : (xs : List ℕ) → length xs ≡ 1 → xs ≡ slice_index xs 0 ∷ []
one_is [] long = absurd (omega arith)
one_is (a ∷ []) long = refl
one_is (a ∷ b ∷ xs) long = absurd (omega arith)

pub two_is : (xs : List ℕ) → length xs ≡ 2 → xs ≡ slice_index xs 0 ∷ slice_index xs 1 ∷ []
two_is [] long = absurd (omega arith)
two_is (a ∷ xs) long = ap (λ t. a ∷ t) (one_is xs (omega arith))

pub three_is : (xs : List ℕ) → length xs ≡ 3 → xs ≡ slice_index xs 0 ∷ slice_index xs 1 ∷ slice_index xs 2 ∷ []
three_is [] long = absurd (omega arith)
three_is (a ∷ xs) long = ap (λ t. a ∷ t) (two_is xs (omega arith))

pub four_is : (xs : List ℕ) → length xs ≡ 4 → xs ≡ slice_index xs 0 ∷ slice_index xs 1 ∷ slice_index xs 2 ∷ slice_index xs 3 ∷ []
four_is [] long = absurd (omega arith)
four_is (a ∷ xs) long = ap (λ t. a ∷ t) (three_is xs (omega arith))

pub five_is : (xs : List ℕ) → length xs ≡ 5 → xs ≡ slice_index xs 0 ∷ slice_index xs 1 ∷ slice_index xs 2 ∷ slice_index xs 3 ∷ slice_index xs 4 ∷ []
five_is [] long = absurd (omega arith)
five_is (a ∷ xs) long = ap (λ t. a ∷ t) (four_is xs (omega arith))
