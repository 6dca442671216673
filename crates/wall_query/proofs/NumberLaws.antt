-- Polygons are in order as their numbers are.
use Rattle.std.proofs.Common.{◌≡◌, ℕ, ◌+◌, ◌*◌, ◌<◌, inl, inr, sym, ap, ◌∙◌, arith}
use Rattle.std.specs.Ordering.{nat_cmp, ordering_then}
use Rattle.std.specs.Cmp.{nat_cmp_is}
use Rattle.std.specs.declared.cmp.Ordering.{Ordering}
use Rattle.std.specs.declared.cmp.Ordering.TheVariants.{Less, Equal, Greater}
use Rattle.std.proofs.lemmas.Bool.{cases_lt}

pub by_numbers : (t i u j : ℕ) → i < 4294967296 → j < 4294967296
    → nat_cmp (t * 4294967296 + i) (u * 4294967296 + j) ≡ ordering_then (nat_cmp t u) (nat_cmp i j)
by_numbers t i u j small few =
    elim (cases_lt t u) [
      | inl less ↦
          sym (nat_cmp_is (t * 4294967296 + i) (u * 4294967296 + j) Less (omega (arith, less, small)))
          ∙ ap (λ (o : Ordering). ordering_then o (nat_cmp i j)) (nat_cmp_is t u Less less)
      | inr least ↦
          elim (cases_lt u t) [
            | inl more ↦
                sym (nat_cmp_is (t * 4294967296 + i) (u * 4294967296 + j) Greater (omega (arith, more, few)))
                ∙ ap (λ (o : Ordering). ordering_then o (nat_cmp i j)) (nat_cmp_is t u Greater more)
            | inr most ↦
                within (omega (arith, least, most)) ∙ ap (λ (o : Ordering). ordering_then o (nat_cmp i j)) (nat_cmp_is t u Equal (omega (arith, least, most)))
          ]
    ]
  where
    within : t ≡ u → nat_cmp (t * 4294967296 + i) (u * 4294967296 + j) ≡ nat_cmp i j
    within same =
        elim (cases_lt i j) [
          | inl less ↦ sym (nat_cmp_is (t * 4294967296 + i) (u * 4294967296 + j) Less (omega (arith, same, less))) ∙ nat_cmp_is i j Less less
          | inr least ↦
              elim (cases_lt j i) [
                | inl more ↦ sym (nat_cmp_is (t * 4294967296 + i) (u * 4294967296 + j) Greater (omega (arith, same, more))) ∙ nat_cmp_is i j Greater more
                | inr most ↦
                    sym (nat_cmp_is (t * 4294967296 + i) (u * 4294967296 + j) Equal (omega (arith, same, least, most)))
                    ∙ nat_cmp_is i j Equal (omega (arith, least, most))
              ]
        ]
