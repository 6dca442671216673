-- Lemmas on the lists of a table.
use Rattle.std.proofs.Common.{◌≡◌, ℕ, zero, suc, ◌<◌, ◌⊎◌, List, [], ◌∷◌, ◌++◌, length, refl, sym, ◌∙◌, ap, inl, inr, get_or, set, subst, arith}
use Rattle.std.specs.Prelude.{All}
use mathlib.Core.Option as maybe
use mathlib.Core.Option.{some-injective, some-ne-none}
use lib.ListN.{get_elem?}

module _ {A : Type 0} where
  pub at_below : (l : List A) (i : ℕ) (a : A) → get_elem? l i ≡ maybe.some a → i < length l
  at_below [] i a e = absurd (some-ne-none a (sym e))
  at_below (x ∷ xs) zero a e = omega arith
  at_below (x ∷ xs) (suc i) a e = let below = at_below xs i a e in omega arith

  -- the element at j after a push: one that was there, or the new one
  pub at_end : (l : List A) (a b : A) (j : ℕ) → get_elem? (l ++ a ∷ []) j ≡ maybe.some b → (get_elem? l j ≡ maybe.some b) ⊎ ((j ≡ length l) × (a ≡ b))
  at_end [] a b zero e = inr (refl, some-injective a b e)
  at_end [] a b (suc j) e = absurd (some-ne-none b (sym e))
  at_end (x ∷ xs) a b zero e = inl e
  at_end (x ∷ xs) a b (suc j) e = elim (at_end xs a b j e) [ inl here ↦ inl here | inr (at, is) ↦ inr (ap suc at, is) ]

  pub same_at : (l : List A) (i : ℕ) (a b : A) → get_elem? l i ≡ maybe.some a → get_elem? l i ≡ maybe.some b → a ≡ b
  same_at l i a b e f = some-injective a b (sym e ∙ f)

  at_read : (l : List A) (i : ℕ) (a d : A) → get_elem? l i ≡ maybe.some a → get_or l i d ≡ a
  at_read [] i a d e = absurd (some-ne-none a (sym e))
  at_read (x ∷ xs) zero a d e = some-injective x a e
  at_read (x ∷ xs) (suc i) a d e = at_read xs i a d e

  pub All-at : (P : A → Type 0) (l : List A) (i : ℕ) (a : A) → get_elem? l i ≡ maybe.some a → All P l → P a
  All-at P l i a e all = subst P (at_read l i a a e) (all i a (at_below l i a e))

-- a word that is set to itself
pub set_itself : (l : List ℕ) (i : ℕ) → i < length l → set l i (get_or l i 0) ≡ l
set_itself [] i below = absurd (omega arith)
set_itself (x ∷ xs) zero below = refl
set_itself (x ∷ xs) (suc i) below = ap (λ l. x ∷ l) (set_itself xs i (omega arith))
