-- The line of a span, as it is written from its end.
use Rattle.std.proofs.Common.{◌≡◌, ℕ, ◌+◌, ◌-◌, ◌≤◌, ◌++◌, ◌∷◌, [], List, length, drop, take, decimal, ap, sym, ◌∙◌, arith, append_assoc, append-nil}
use Rattle.std.specs.Prelude.{codes}
use Rattle.std.proofs.lemmas.List.{drop-drop, drop_at, drop-append-le, length-take-le}
use borrow.Rule.Slice.PartMut.{put_mid, post_of, Post-is}
use Rattle.nav_ground.specs.declared.field.Span.{Span}
use Rattle.nav_text.specs.Lines.{ended}
use Rattle.span_text.specs.FieldText.{span_text}
use Rattle.span_text.specs.LineFront.{front_text}

-- what stands from a place in a part that was written over
pub drop_within : (a e f : ℕ) (xs ys : List ℕ) → a ≤ e → e ≤ length xs → f ≤ length ys → drop (a + f) (put_mid a (e - a) xs ys) ≡ drop f ys ++ drop e xs
drop_within a e f xs ys up within few =
    sym (drop-drop f a (put_mid a (e - a) xs ys))
    ∙ ap (λ (l : List ℕ). drop f l) (drop_at (take a xs) (ys ++ post_of a (e - a) xs) a (length-take-le a xs (omega (arith, up, within))))
    ∙ drop-append-le f ys (post_of a (e - a) xs) few
    ∙ ap (λ (l : List ℕ). drop f ys ++ l) (Post-is a e xs up)

step : (u v s : List ℕ) → (u ++ 32 ∷ v) ++ s ≡ u ++ 32 ∷ (v ++ s)
step u v s = append_assoc u (32 ∷ v) s

joined : (x z b t a s : List ℕ) → (x ++ 32 ∷ (z ++ [])) ++ 32 ∷ (b ++ 32 ∷ (t ++ 32 ∷ (a ++ s))) ≡ (x ++ 32 ∷ (z ++ 32 ∷ (b ++ 32 ∷ (t ++ 32 ∷ (a ++ []))))) ++ s
joined x z b t a s = step x (z ++ []) rest ∙ ap (λ (l : List ℕ). x ++ 32 ∷ (l ++ rest)) (append-nil z) ∙ sym whole
  where
    rest : List ℕ
    rest = 32 ∷ (b ++ 32 ∷ (t ++ 32 ∷ (a ++ s)))

    whole : (x ++ 32 ∷ (z ++ 32 ∷ (b ++ 32 ∷ (t ++ 32 ∷ (a ++ []))))) ++ s ≡ x ++ 32 ∷ (z ++ rest)
    whole =
        step x (z ++ 32 ∷ (b ++ 32 ∷ (t ++ 32 ∷ (a ++ [])))) s
        ∙ ap (λ (l : List ℕ). x ++ 32 ∷ l)
        (step z (b ++ 32 ∷ (t ++ 32 ∷ (a ++ []))) s ∙ ap (λ (l : List ℕ). z ++ 32 ∷ l)
        (step b (t ++ 32 ∷ (a ++ [])) s ∙ ap (λ (l : List ℕ). b ++ 32 ∷ l) (step t (a ++ []) s ∙ ap (λ (l : List ℕ). t ++ 32 ∷ l) (append_assoc a [] s))))

-- the front of a line, three numbers and the line feed are the whole of it
pub line_is : (span : Span) → front_text span.x span.z ++ 32 ∷ (decimal span.bottom ++ 32 ∷ (decimal span.top ++ 32 ∷ (decimal span.area ++ 10 ∷ []))) ≡ ended (span_text span)
line_is span = ap (λ (l : List ℕ). codes "span" ++ 32 ∷ l) (joined (decimal span.x) (decimal span.z) (decimal span.bottom) (decimal span.top) (decimal span.area) (10 ∷ []))
