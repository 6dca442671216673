-- Beginnings of lists.
use Rattle.std.proofs.Common.{◌≡◌, ◌<◌, ◌≤◌, Bool, true, false, List, [], ◌∷◌, ◌++◌, length, refl, ap, sym, ◌∙◌, arith, append-nil, append_assoc}
use Rattle.std.specs.Prelude.{MatchBool}
use mathlib.Core.List.{IsPrefix}

module _ {A : Type 0} where
  -- each list begins with itself
  pub IsPrefix-self : (xs : List A) → IsPrefix xs xs
  IsPrefix-self xs = ([], append-nil xs)

  pub IsPrefix-append : (xs ys zs : List A) → ys ≡ xs ++ zs → IsPrefix xs ys
  IsPrefix-append xs ys zs is = (zs, sym is)

  pub IsPrefix-trans : (xs ys zs : List A) → IsPrefix xs ys → IsPrefix ys zs → IsPrefix xs zs
  IsPrefix-trans xs ys zs p q = (p.0 ++ q.0, sym (append_assoc xs p.0 q.0) ∙ ap (λ (part : List A). part ++ q.0) p.1 ∙ q.1)

  -- of two beginnings of one list the shorter begins the longer
  pub IsPrefix-shorter : (xs ys zs : List A) → IsPrefix xs zs → IsPrefix ys zs → length xs ≤ length ys → IsPrefix xs ys
  IsPrefix-shorter [] ys zs p q le = (ys, refl)
  IsPrefix-shorter (x ∷ xs) [] zs p q le = absurd (omega arith)
  IsPrefix-shorter (x ∷ xs) (y ∷ ys) [] p q le = absurd (cc (p.1))
  IsPrefix-shorter (x ∷ xs) (y ∷ ys) (z ∷ zs) p q le =
      let heads : x ≡ y = cc (p.1, q.1) in
      let rest = IsPrefix-shorter xs ys zs (p.0, cc (p.1)) (q.0, cc (q.1)) (omega arith) in
      (rest.0, cc (heads, rest.1))

  -- a beginning as long as the whole is the whole
  pub IsPrefix-whole : (xs ys : List A) → IsPrefix xs ys → length ys ≤ length xs → xs ≡ ys
  IsPrefix-whole [] [] p le = refl
  IsPrefix-whole [] (y ∷ ys) p le = absurd (omega arith)
  IsPrefix-whole (x ∷ xs) [] p le = absurd (cc (p.1))
  IsPrefix-whole (x ∷ xs) (y ∷ ys) p le = let rest = IsPrefix-whole xs ys (p.0, cc (p.1)) (omega arith) in cc (p.1, rest)

  -- of two beginnings of one list the longer goes on from the other
  pub IsPrefix-one : (own from both : List A) (b : Bool) → IsPrefix own both → IsPrefix from both → MatchBool b (length from ≤ length own) (length own < length from)
      → MatchBool b (IsPrefix from own) (IsPrefix own from)
  IsPrefix-one own from both true p q le = IsPrefix-shorter from own both q p le
  IsPrefix-one own from both false p q lt = IsPrefix-shorter own from both p q (omega arith)
