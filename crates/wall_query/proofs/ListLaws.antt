-- What is appended to a list: nothing, one, and one after the other.
use Rattle.std.proofs.Common.{◌≡◌, ℕ, ◌-◌, ◌<◌, ◌≤◌, ◌⊎◌, inl, inr, List, [], ◌∷◌, ◌++◌, length, take, get_or, sym, ap, subst, ◌∙◌, arith}
use Rattle.std.specs.Prelude.{Contains, min}
use Rattle.std.proofs.lemmas.Bool.{cases_lt}
use Rattle.std.proofs.lemmas.List.{append-nil, append_assoc, get_or_append_left, get_or-append_right, get_or-take, length-append, length-take}
use Rattle.std.proofs.lemmas.List.Elements.{Contains-append_cases, Contains-append_left, Contains-append_right, Contains-get_or, Contains-push, Contains-push_cases}
use Rattle.wall_query.specs.Lists.{Adds}
use Rattle.wall_slide.proofs.Listed.{contains_none}

-- an element of the first ones of a list is one of the list
pub taken_element : {X : Type 0} (n : ℕ) (xs : List X) (x : X) → Contains (take n xs) x → Contains xs x
taken_element n xs x held =
    let low : held.0 < min n (length xs) = omega (arith, held.1, length-take n xs) in
    (held.0, omega (arith, low), sym (get_or-take n xs held.0 x (omega (arith, low))) ∙ held.2)

module _ {X : Type 0} (before : X → X → Type 0) where
  -- nothing, where none has the property
  pub adds_none : (P : X → Type 0) (list : List X) → ((x : X) → P x → ⊥) → Adds before P list list
  adds_none P list none = record {
    more = [];
    is = sym (append-nil list);
    each = λ x held. absurd (contains_none x held);
    all = λ x is. absurd (none x is);
    order = λ i k d less below. absurd (omega (arith, below));
  }

  -- the one that has it
  pub adds_one : (P : X → Type 0) (list : List X) (one : X) → P one → ((x : X) → P x → x ≡ one) → Adds before P list (list ++ one ∷ [])
  adds_one P list one is only = record {
    more = one ∷ [];
    is = λ i. list ++ one ∷ [];
    each = λ x held. elim (Contains-push_cases [] one x held) [
      | inl none ↦ absurd (contains_none x none)
      | inr same ↦ subst P same is
    ];
    all = λ x has. subst (Contains (one ∷ [])) (sym (only x has)) (Contains-push [] one);
    order = λ i k d less below. absurd (omega (arith, less, below));
  }

  -- those of one property, then those of another
  pub adds_both : (P Q R : X → Type 0) (old mid new : List X) → Adds before P old mid → Adds before Q mid new
      → ((x : X) → P x → R x) → ((x : X) → Q x → R x) → ((x : X) → R x → P x ⊎ Q x) → ((x y : X) → P x → Q y → before x y) → Adds before R old new
  adds_both P Q R old mid new first second to to' from ordered = record {
    more = first.more ++ second.more;
    is = second.is ∙ ap (λ (list : List X). list ++ second.more) first.is ∙ append_assoc old first.more second.more;
    each = λ x held. elim (Contains-append_cases first.more second.more x held) [
      | inl left ↦ to x (first.each x left)
      | inr right ↦ to' x (second.each x right)
    ];
    all = λ x is. elim (from x is) [
      | inl p ↦ Contains-append_left first.more second.more x (first.all x p)
      | inr q ↦ Contains-append_right first.more second.more x (second.all x q)
    ];
    order = λ i k d less below. in_order i k d less below (cases_lt k n) (cases_lt i n);
  }
    where
      n : ℕ
      n = length first.more

      xs : List X
      xs = first.more ++ second.more

      left_is : (i : ℕ) (d : X) → i < n → get_or xs i d ≡ get_or first.more i d
      left_is i d below = get_or_append_left first.more second.more d i below

      right_is : (i : ℕ) (d : X) → n ≤ i → get_or xs i d ≡ get_or second.more (i - n) d
      right_is i d least = get_or-append_right first.more second.more n i d (λ j. n) least

      in_order : (i k : ℕ) (d : X) → i < k → k < length xs → (k < n) ⊎ (n ≤ k) → (i < n) ⊎ (n ≤ i) → before (get_or xs i d) (get_or xs k d)
      in_order i k d less below (inl low) _ =
          subst (λ (x : X). before x (get_or xs k d)) (sym (left_is i d (omega (arith, less, low))))
          (subst (before (get_or first.more i d)) (sym (left_is k d low)) (first.order i k d less low))
      in_order i k d less below (inr high) (inl low) =
          subst (λ (x : X). before x (get_or xs k d)) (sym (left_is i d low))
          (subst (before (get_or first.more i d)) (sym (right_is k d high))
          (ordered (get_or first.more i d) (get_or second.more (k - n) d) (first.each (get_or first.more i d) (Contains-get_or first.more i d low))
          (second.each (get_or second.more (k - n) d) (Contains-get_or second.more (k - n) d (omega (arith, high, below, length-append first.more second.more))))))
      in_order i k d less below (inr high) (inr high') =
          subst (λ (x : X). before x (get_or xs k d)) (sym (right_is i d high'))
          (subst (before (get_or second.more (i - n) d)) (sym (right_is k d high))
          (second.order (i - n) (k - n) d (omega (arith, less, high')) (omega (arith, high, below, length-append first.more second.more))))

  -- the same of another property that is the same
  pub adds_same : (P R : X → Type 0) (old new : List X) → Adds before P old new → ((x : X) → P x → R x) → ((x : X) → R x → P x) → Adds before R old new
  adds_same P R old new adds to from = record {
    more = adds.more;
    is = adds.is;
    each = λ x held. to x (adds.each x held);
    all = λ x is. adds.all x (from x is);
    order = adds.order;
  }
