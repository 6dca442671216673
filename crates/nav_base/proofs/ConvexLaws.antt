-- The laws of strict convexity.
use Rattle.std.proofs.Common.{◌≡◌, ◌≢◌, ℕ, zero, suc, ◌+◌, ◌-◌, ◌≤◌, ◌<◌, ℤ, pos, ◌≤ℤ◌, ◌<ℤ◌, List, [], ◌∷◌, ◌++◌, length, Bool, true, false, EachIndex, refl, sym, ap, subst, ◌∙◌, inl, inr, arith, length-append, lit<}
use Rattle.std.specs.Prelude.{nat_lt, if◌then◌else◌}
use Rattle.std.proofs.lemmas.Int.{ints}
use Rattle.std.proofs.lemmas.List.{get_or_append_left, get_or-append-add, get_or-append_right}
use Rattle.std.proofs.lemmas.Bool.{cases_eq}
use Rattle.std.proofs.lemmas.Bool.Decides.{nat_tests}
use Rattle.nav_base.specs.declared.point.Point.{Point}
use Rattle.nav_base.specs.Point.{orient_of}
use Rattle.nav_base.specs.Convex.{IsStrictlyConvex, LiesLeft, corner_at, place_after, side_of_edge}
use Rattle.nav_base.proofs.OrientLaws.{orient_of-rotated, orient_of-start, orient_of-end, orient_of-still}

-- a triangle is strictly convex where its third corner lies to the left of the walk from the first to the second
pub IsStrictlyConvex-triangle : (a b c : Point) → pos 0 <ℤ orient_of a b c → IsStrictlyConvex (a ∷ b ∷ c ∷ [])
IsStrictlyConvex-triangle a b c left = record { enough = omega arith; left = each }
  where
    each : (i : ℕ) → i < 3 → (j : ℕ) → j < 3 → LiesLeft (a ∷ b ∷ c ∷ []) i j
    each zero i-in zero j-in ne after = absurd (ne refl)
    each zero i-in (suc zero) j-in ne after = absurd (after refl)
    each zero i-in (suc (suc zero)) j-in ne after = left
    each zero i-in (suc (suc (suc j))) j-in ne after = absurd (omega arith)
    each (suc zero) i-in zero j-in ne after = subst (λ (n : ℤ). pos 0 <ℤ n) (sym (orient_of-rotated a b c)) left
    each (suc zero) i-in (suc zero) j-in ne after = absurd (ne refl)
    each (suc zero) i-in (suc (suc zero)) j-in ne after = absurd (after refl)
    each (suc zero) i-in (suc (suc (suc j))) j-in ne after = absurd (omega arith)
    each (suc (suc zero)) i-in zero j-in ne after = absurd (after refl)
    each (suc (suc zero)) i-in (suc zero) j-in ne after = subst (λ (n : ℤ). pos 0 <ℤ n) (sym (orient_of-rotated b c a ∙ orient_of-rotated a b c)) left
    each (suc (suc zero)) i-in (suc (suc zero)) j-in ne after = absurd (ne refl)
    each (suc (suc zero)) i-in (suc (suc (suc j))) j-in ne after = absurd (omega arith)
    each (suc (suc (suc i))) i-in j j-in ne after = absurd (omega arith)

-- and only there
pub orient_of-convex : (a b c : Point) → IsStrictlyConvex (a ∷ b ∷ c ∷ []) → pos 0 <ℤ orient_of a b c
orient_of-convex a b c is = is.left 0 (lit< tt) 2 (lit< tt) (omega arith) (omega arith)

-- an edge begins and ends on its own line
pub side_of_edge-start : (corners : List Point) (i : ℕ) → side_of_edge corners i i ≡ pos 0
side_of_edge-start corners i = orient_of-start (corner_at corners i) (corner_at corners (place_after (length corners) i))

pub side_of_edge-end : (corners : List Point) (i : ℕ) → side_of_edge corners i (place_after (length corners) i) ≡ pos 0
side_of_edge-end corners i = orient_of-end (corner_at corners i) (corner_at corners (place_after (length corners) i))

-- every corner of a strictly convex polygon lies to the left of each edge or on it
pub IsStrictlyConvex-sides : (corners : List Point) → IsStrictlyConvex corners → EachIndex corners (λ i. EachIndex corners (λ j. pos 0 ≤ℤ side_of_edge corners i j))
IsStrictlyConvex-sides corners is i i-in j j-in =
    elim (cases_eq j i) [
      | inl same ↦ on_line (side_of_edge corners i j) (ap (side_of_edge corners i) same ∙ side_of_edge-start corners i)
      | inr ne ↦ elim (cases_eq j (place_after (length corners) i)) [
        | inl same ↦ on_line (side_of_edge corners i j) (ap (side_of_edge corners i) same ∙ side_of_edge-end corners i)
        | inr after ↦ to_left (side_of_edge corners i j) (is.left i i-in j j-in ne after)
      ]
    ]
  where
    on_line : (n : ℤ) → n ≡ pos 0 → pos 0 ≤ℤ n
    on_line n e = omega (arith, ints)

    to_left : (n : ℤ) → pos 0 <ℤ n → pos 0 ≤ℤ n
    to_left n h = omega (arith, ints)

-- ---- a rotation of the list

-- where the corner at i stood before the first f corners were moved behind the other b
abbrev turned : ℕ → ℕ → ℕ → ℕ
turned f b i = if nat_lt i b then f + i else i - b

turned-in : (f b i : ℕ) → i < b + f → turned f b i < f + b
turned-in f b i i-in = grind (arith, nat_tests)

turned-apart : (f b i j : ℕ) → i < b + f → j < b + f → j ≢ i → turned f b j ≢ turned f b i
turned-apart f b i j i-in j-in ne = grind (arith, nat_tests)

turned-after : (f b i : ℕ) → i < b + f → turned f b (place_after (b + f) i) ≡ place_after (f + b) (turned f b i)
turned-after f b i i-in = grind (arith, nat_tests)

-- the place after a place of the list is one too, and it and the one after it are others where there are at least three
pub place_after-in : (n i : ℕ) → i < n → place_after n i < n
place_after-in n i i-in = grind (arith, nat_tests)

pub place_after-apart : (n i : ℕ) → 2 ≤ n → place_after n i ≢ i
place_after-apart n i enough = grind (arith, nat_tests)

pub place_after-twice : (n i : ℕ) → 3 ≤ n → i < n → place_after n (place_after n i) ≢ i
place_after-twice n i enough i-in = grind (arith, nat_tests)

corner_at-turned : (front back : List Point) (i : ℕ) → i < length back + length front → corner_at (back ++ front) i ≡ corner_at (front ++ back) (turned (length front) (length back) i)
corner_at-turned front back i i-in = by (nat_lt i (length back)) refl
  where
    by : (behind : Bool) → nat_lt i (length back) ≡ behind → corner_at (back ++ front) i ≡ corner_at (front ++ back) (if behind then length front + i else i - length back)
    by true e = get_or_append_left back front (record { x = pos 0; z = pos 0 }) i (grind (arith, nat_tests)) ∙ sym (get_or-append-add front back i (record { x = pos 0; z = pos 0 }))
    by false e =
        get_or-append_right back front (length back) i (record { x = pos 0; z = pos 0 }) refl (grind (arith, nat_tests))
        ∙ sym (get_or_append_left front back (record { x = pos 0; z = pos 0 }) (i - length back) (grind (arith, nat_tests)))

-- what is seen of the corner at j from the edge at i, before and after
side_of_edge-turned : (front back : List Point) (i j : ℕ) → i < length back + length front → j < length back + length front
    → side_of_edge (back ++ front) i j ≡ side_of_edge (front ++ back) (turned (length front) (length back) i) (turned (length front) (length back) j)
side_of_edge-turned front back i j i-in j-in =
    λ k. orient_of (corner_at-turned front back i i-in k) (after k) (corner_at-turned front back j j-in k)
  where
    after : corner_at (back ++ front) (place_after (length (back ++ front)) i) ≡ corner_at (front ++ back) (place_after (length (front ++ back)) (turned (length front) (length back) i))
    after =
        ap (λ (n : ℕ). corner_at (back ++ front) (place_after n i)) (length-append back front)
        ∙ corner_at-turned front back (place_after (length back + length front) i) (place_after-in (length back + length front) i i-in)
        ∙ ap (corner_at (front ++ back)) (turned-after (length front) (length back) i i-in)
        ∙ ap (λ (n : ℕ). corner_at (front ++ back) (place_after n (turned (length front) (length back) i))) (sym (length-append front back))

-- a rotation of the list of corners changes nothing
pub IsStrictlyConvex-rotated : (front back : List Point) → IsStrictlyConvex (front ++ back) → IsStrictlyConvex (back ++ front)
IsStrictlyConvex-rotated front back is = record {
  enough = omega (arith, is.enough, long, long');
  left = λ i i-in j j-in ne after. left i (subst (λ (n : ℕ). i < n) long i-in) j (subst (λ (n : ℕ). j < n) long j-in) ne (λ e. after (e ∙ ap (λ (n : ℕ). place_after n i) (sym long)));
}
  where
    long : length (back ++ front) ≡ length back + length front
    long = length-append back front

    long' : length (front ++ back) ≡ length front + length back
    long' = length-append front back

    left : (i : ℕ) → i < length back + length front → (j : ℕ) → j < length back + length front → j ≢ i → j ≢ place_after (length back + length front) i → pos 0 <ℤ side_of_edge (back ++ front) i j
    left i i-in j j-in ne after =
        let f = length front in
        let b = length back in
        let apart = turned-apart f b (place_after (b + f) i) j (place_after-in (b + f) i i-in) j-in after in
        subst (λ (n : ℤ). pos 0 <ℤ n) (sym (side_of_edge-turned front back i j i-in j-in))
        (is.left (turned f b i) (subst (λ (n : ℕ). turned f b i < n) (sym long') (turned-in f b i i-in)) (turned f b j) (subst (λ (n : ℕ). turned f b j < n) (sym long') (turned-in f b j j-in))
        (turned-apart f b i j i-in j-in ne) (λ e. apart (e ∙ ap (λ (n : ℕ). place_after n (turned f b i)) long' ∙ sym (turned-after f b i i-in))))

-- the corners are different points
pub IsStrictlyConvex-apart : (corners : List Point) → IsStrictlyConvex corners → (i j : ℕ) → i < length corners → j < length corners → i ≢ j → corner_at corners i ≢ corner_at corners j
IsStrictlyConvex-apart corners is i j i-in j-in ne same =
    elim (cases_eq j (place_after n i)) [
      | inr after ↦ none (side_of_edge corners i j) (ap (λ (p : Point). orient_of (corner_at corners i) (corner_at corners (place_after n i)) p) (sym same) ∙ side_of_edge-start corners i) (is.left i i-in j j-in (λ e. ne (sym e)) after)
      | inl next ↦
          let still : corner_at corners (place_after n i) ≡ corner_at corners i = ap (corner_at corners) (sym next) ∙ sym same in
          let k = place_after n (place_after n i) in
          none (side_of_edge corners i k) (ap (λ (p : Point). orient_of (corner_at corners i) p (corner_at corners k)) still ∙ orient_of-still (corner_at corners i) (corner_at corners k))
          (is.left i i-in k (place_after-in n (place_after n i) (place_after-in n i i-in)) (place_after-twice n i is.enough i-in) (place_after-apart n (place_after n i) (omega (arith, is.enough))))
    ]
  where
    n : ℕ
    n = length corners

    none : (m : ℤ) → m ≡ pos 0 → pos 0 <ℤ m → ⊥
    none m e h = omega (arith, ints)
