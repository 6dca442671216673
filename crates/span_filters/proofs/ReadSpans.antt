-- Spans that were read at a place of a list.
use Rattle.std.proofs.Common.{◌≡◌, ℕ, ◌+◌, ◌<◌, length, map, List, ◌∷◌, drop, get_or, cond, ap, ◌∙◌, sym, subst, subst₂, inl, inr, arith}
use Rattle.std.specs.Prelude.{filter}
use Rattle.std.proofs.lemmas.Bool.{cases_lt, eq-eqb}
use Rattle.std.proofs.lemmas.List.{get_or_default, get_or-map, length-map, drop_more}
use Rattle.nav_ground.specs.declared.field.Span.{Span}
use Rattle.span_filters.specs.Columns.{AreSpans, IsLargestSpan, IsSameColumn, IsPassed, column_of, ceiling_over, start_of, is_in}

-- what was read is what any reading gives
pub read_at : (spans : List Span) (i : ℕ) (span d : Span) → i < length spans → span ≡ get_or spans i span → span ≡ get_or spans i d
read_at spans i span d there is = is ∙ get_or_default spans i span d there

-- also where it was read from a list that is the same
pub read_from : (spans own : List Span) (i : ℕ) (span d : Span) → spans ≡ own → i < length own → span ≡ get_or spans i span → span ≡ get_or own i d
read_from spans own i span d same there is = is ∙ ap (λ (xs : List Span). get_or xs i span) same ∙ get_or_default own i span d there

pub largest_read : (spans : List Span) (i : ℕ) (span : Span) → AreSpans spans → i < length spans → span ≡ get_or spans i span → IsLargestSpan span
largest_read spans i span rules' there is = subst IsLargestSpan (sym is) (rules'.each i span there)

-- two spans that were read lie in one column where those of the list do
pub same_read : (spans : List Span) (i j : ℕ) (a b e : Span) → i < length spans → j < length spans → a ≡ get_or spans i a → b ≡ get_or spans j b
    → IsSameColumn a b → IsSameColumn (get_or spans i e) (get_or spans j e)
same_read spans i j a b e there there' is is' = subst₂ IsSameColumn (read_at spans i a e there is) (read_at spans j b e there' is')

pub apart_read : (spans : List Span) (i j : ℕ) (a b e : Span) → i < length spans → j < length spans → a ≡ get_or spans i a → b ≡ get_or spans j b
    → (IsSameColumn a b → ⊥) → IsSameColumn (get_or spans i e) (get_or spans j e) → ⊥
apart_read spans i j a b e there there' is is' apart same =
    apart (subst₂ IsSameColumn (sym (read_at spans i a e there is)) (sym (read_at spans j b e there' is')) same)

-- as many places stand beside spans as there are spans
pub starts_beside : (spans : List Span) (starts : List ℕ) → starts ≡ map start_of spans → length starts ≡ length spans
starts_beside spans starts are = ap length are ∙ length-map spans start_of

-- the place where a span begins that stands beside it
pub start_read : (spans : List Span) (starts : List ℕ) (i e : ℕ) (d : Span) → starts ≡ map start_of spans → i < length spans
    → get_or starts i e ≡ start_of (get_or spans i d)
start_read spans starts i e d are there = ap (λ (xs : List ℕ). get_or xs i e) are ∙ get_or-map start_of spans i d e there

-- the bottom of the first span of a column from one on, and where there is none
pub ceiling_read : (spans : List Span) (i column : ℕ) (d : Span) → i < length spans → column_of (get_or spans i d) ≡ column
    → (get_or spans i d).bottom ≡ ceiling_over (filter (is_in column) (drop i spans))
ceiling_read spans i column d there same =
    let span = get_or spans i d in
    let rest = filter (is_in column) (drop (i + 1) spans) in
    sym (ap (λ (xs : List Span). ceiling_over (filter (is_in column) xs)) (drop_more spans i d there)
    ∙ ap (λ b. ceiling_over (cond b (span ∷ rest) rest)) (eq-eqb _ _ same))

-- one more span that begins before a place
pub passed_more : (spans : List Span) (n place : ℕ) (d : Span) → n < length spans → start_of (get_or spans n d) < place
    → IsPassed spans n place → IsPassed spans (n + 1) place
passed_more spans n place e there before passed = record {
  most = omega (arith, there);
  before = λ k d small.
      elim (cases_lt k n) [
        | inl less ↦ passed.before k d less
        | inr more ↦
            let P : ℕ → Type 0 = λ m. start_of (get_or spans m d) < place in
            let here = ap start_of (get_or_default spans n e d there) in
            let last : n ≡ k = omega (arith, more, small) in
            subst P last (omega (arith, here, before))
      ];
}
