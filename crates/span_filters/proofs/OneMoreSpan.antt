-- The areas that a filter leaves, and what spans have passed, span by span.
use Rattle.std.proofs.Common.{◌≡◌, ℕ, ◌+◌, ◌<◌, ◌≤◌, Bool, length, List, [], ◌∷◌, ◌++◌, take, get_or, map, ap, ap₂, ◌∙◌, sym, refl, arith, zero, suc}
use Rattle.std.specs.Prelude.{if◌then◌else◌}
use Rattle.std.proofs.lemmas.List.{map_more}
use Rattle.nav_ground.specs.declared.field.Span.{Span}
use Rattle.nav_ground.specs.Filters.{areas_without}
use Rattle.span_filters.specs.declared.filters.PassedSpans.{PassedSpans}
use Rattle.span_filters.specs.Columns.{AreSpans, IsPassed, column_beside, place_of}
use Rattle.span_filters.specs.Looks.{ArePassed}
use Rattle.span_filters.proofs.Neighbours.{beside_rises}

-- one more element, mapped
pub mapped_more : {X Y : Type 0} (f : X → Y) (xs : List X) (made : List Y) (i : ℕ) (y : Y) (d : X) → i < length xs → made ≡ map f (take i xs) → y ≡ f (get_or xs i d)
    → made ++ y ∷ [] ≡ map f (take (i + 1) xs)
mapped_more f xs made i y d there before is = ap₂ (λ ys z. ys ++ z ∷ []) before is ∙ sym (map_more f xs i d there)

-- one more span and the area beside it
without_next : (p : Span → Bool) (spans : List Span) (areas : List ℕ) (i : ℕ) (d : Span) (e : ℕ) → i < length spans → i < length areas
    → areas_without p (take (suc i) spans) (take (suc i) areas)
    ≡ areas_without p (take i spans) (take i areas) ++ (if p (get_or spans i d) then 0 else get_or areas i e) ∷ []
without_next p [] areas i d e there there' = absurd (omega (arith, there))
without_next p (s ∷ spans) [] i d e there there' = absurd (omega (arith, there'))
without_next p (s ∷ spans) (a ∷ areas) zero d e there there' = refl
without_next p (s ∷ spans) (a ∷ areas) (suc i) d e there there' =
    ap (λ (xs : List ℕ). (if p s then 0 else a) ∷ xs) (without_next p spans areas i d e (omega (arith, there)) (omega (arith, there')))

pub without_more : (p : Span → Bool) (spans : List Span) (areas left : List ℕ) (i area : ℕ) (d : Span) (e : ℕ) → i < length spans → i < length areas
    → left ≡ areas_without p (take i spans) (take i areas) → area ≡ (if p (get_or spans i d) then 0 else get_or areas i e)
    → left ++ area ∷ [] ≡ areas_without p (take (i + 1) spans) (take (i + 1) areas)
without_more p spans areas left i area d e there there' before is =
    let next : i + 1 ≡ suc i = omega arith in
    ap (λ (xs : List ℕ). xs ++ area ∷ []) before
    ∙ ap (λ n. areas_without p (take i spans) (take i areas) ++ n ∷ []) is
    ∙ sym (without_next p spans areas i d e there there')
    ∙ ap (λ n. areas_without p (take n spans) (take n areas)) (sym next)

-- what is passed before a place is passed before a later one
passed_later : (spans : List Span) (n place place' : ℕ) → place ≤ place' → IsPassed spans n place → IsPassed spans n place'
passed_later spans n place place' later passed = record {
  most = passed.most;
  before = λ k d below. let h = passed.before k d below in omega (arith, h, later);
}

-- what one span has passed each later one has passed too
pub passed_after : (spans : List Span) (passed : PassedSpans) (height i : ℕ) → AreSpans spans → height ≤ 255
    → ((d : Span) → ArePassed spans passed height (get_or spans i d))
    → (j : ℕ) (d : Span) → i + 1 ≤ j → j < length spans → ArePassed spans passed height (get_or spans j d)
passed_after spans passed height i rules' low here j d later there =
    let at = here d in
    let before = rules'.order i j d (omega (arith, later)) there in
    let rises : (dir : ℕ) → dir < 4
    → place_of (column_beside dir (get_or spans i d)) ((get_or spans i d).top + height) ≤ place_of (column_beside dir (get_or spans j d)) ((get_or spans j d).top + height) =
    λ dir small. beside_rises dir height _ _ small low (rules'.each i d (omega arith)) (rules'.each j d there) before in
    record {
      left = passed_later spans passed.left _ _ (rises 0 (omega arith)) at.left;
      above = passed_later spans passed.above _ _ (rises 1 (omega arith)) at.above;
      right = passed_later spans passed.right _ _ (rises 2 (omega arith)) at.right;
      below = passed_later spans passed.below _ _ (rises 3 (omega arith)) at.below;
    }
