-- The walk round a stack of strips is closed: each edge ends where the next begins, and the last where the first begins.
use Rattle.std.proofs.Common.{◌≡◌, ℕ, ◌+◌, ◌-◌, List, [], ◌∷◌, ◌++◌, ap, ◌∙◌, sym, refl, subst, arith, zero, suc, inl, inr}
use Rattle.std.specs.Prelude.{map, reverse, take, drop}
use Rattle.std.specs.List.{range_with_len}
use Rattle.std.proofs.lemmas.Bool.{cases_lt}
use Rattle.std.proofs.lemmas.List.{map-append, reverse-append}
use Rattle.mesh_types.specs.declared.region.Strip.{Strip}
use Rattle.contour_walk.specs.Walk.{bottoms, tops, to_right_end, to_left_end, right_side, top_side, left_side, round}
use Rattle.contour_walk.proofs.Sums.{AreRows, first_ordered}

module _ {X P : Type 0} (from to : X → P) where
  -- each begins where the one before ends, from one point to another
  abbrev pub IsPath : P → List X → P → Type 0
  IsPath a [] b = a ≡ b
  IsPath a (x ∷ xs) b = (from x ≡ a) × IsPath (to x) xs b

  pub path_append : (a b c : P) (xs ys : List X) → IsPath a xs b → IsPath b ys c → IsPath a (xs ++ ys) c
  path_append a b c [] ys same path =
      let Q : P → Type 0 = λ p. IsPath p ys c in
      subst Q (sym same) path
  path_append a b c (x ∷ xs) ys first path = (first.0, path_append (to x) b c xs ys first.1 path)

  pub path_between : (a a' b b' : P) (xs : List X) → a ≡ a' → b ≡ b' → IsPath a xs b → IsPath a' xs b'
  path_between a a' b b' xs same same' path =
      let Q : P → Type 0 = λ p. IsPath p xs b' in
      let R : P → Type 0 = λ p. IsPath a xs p in
      subst Q same (subst R same' path)

  -- where a path is cut
  pub path_cut : (a c : P) (xs ys : List X) → IsPath a (xs ++ ys) c → (b : P) × IsPath a xs b × IsPath b ys c
  path_cut a c [] ys path = (a, refl, path)
  path_cut a c (x ∷ xs) ys path = let rest = path_cut (to x) c xs ys path.1 in (rest.0, (path.0, rest.1), rest.2)

  -- a round may begin at any of its points
  pub path_turned : (a : P) (xs ys : List X) → IsPath a (xs ++ ys) a → (b : P) × IsPath b (ys ++ xs) b
  path_turned a xs ys path = let cut = path_cut a a xs ys path in (cut.0, path_append cut.0 a cut.0 ys xs cut.2 cut.1)

  ends_follow : (a b : P) (xs : List X) → IsPath a xs b → a ∷ map to xs ≡ map from xs ++ b ∷ []
  ends_follow a b [] same = ap (λ p. p ∷ []) same
  ends_follow a b (x ∷ xs) path =
      ap (λ p. p ∷ to x ∷ map to xs) (sym path.0) ∙ ap (λ (ps : List P). from x ∷ ps) (ends_follow (to x) b xs path.1)

  pub path_closed : (a : P) (xs : List X) → IsPath a xs a → map to xs ≡ drop 1 (map from xs) ++ take 1 (map from xs)
  path_closed a [] path = refl
  path_closed a (x ∷ xs) path = ends_follow (to x) a xs path.1 ∙ ap (λ p. map from xs ++ p ∷ []) (sym path.0)

-- edges drawn with their cell on the left, by what stands for the corner at a column and a row
pub record AreDrawn {X P : Type 0} (from to : X → P) (at : ℕ → ℕ → P) (edge : ℕ → Strip → ℕ → X) : Type 0 where
  pub left_from : (strip : Strip) (x : ℕ) → from (edge 0 strip x) ≡ at x (strip.z + 1)
  pub left_to : (strip : Strip) (x : ℕ) → to (edge 0 strip x) ≡ at x strip.z
  pub top_from : (strip : Strip) (x : ℕ) → from (edge 1 strip x) ≡ at (x + 1) (strip.z + 1)
  pub top_to : (strip : Strip) (x : ℕ) → to (edge 1 strip x) ≡ at x (strip.z + 1)
  pub right_from : (strip : Strip) (x : ℕ) → from (edge 2 strip x) ≡ at (x + 1) strip.z
  pub right_to : (strip : Strip) (x : ℕ) → to (edge 2 strip x) ≡ at (x + 1) (strip.z + 1)
  pub bottom_from : (strip : Strip) (x : ℕ) → from (edge 3 strip x) ≡ at x strip.z
  pub bottom_to : (strip : Strip) (x : ℕ) → to (edge 3 strip x) ≡ at (x + 1) strip.z

module _ {X P : Type 0} (from to : X → P) (at : ℕ → ℕ → P) (edge : ℕ → Strip → ℕ → X) (drawn : AreDrawn from to at edge) where
  at_same : (x x' z z' : ℕ) → x ≡ x' → z ≡ z' → at x z ≡ at x' z'
  at_same x x' z z' same same' = ap (λ k. at k z) same ∙ ap (at x') same'

  right_path : (strip : Strip) (first count : ℕ)
      → IsPath from to (at first strip.z) (map (edge 3 strip) (range_with_len first count)) (at (first + count) strip.z)
  right_path strip first zero = at_same first (first + 0) strip.z strip.z (omega arith) refl
  right_path strip first (suc count) = (
    drawn.bottom_from strip first,
    path_between from to _ _ _ _ (map (edge 3 strip) (range_with_len (first + 1) count)) (sym (drawn.bottom_to strip first))
        (at_same (first + 1 + count) (first + suc count) strip.z strip.z (omega arith) refl) (right_path strip (first + 1) count),
  )

  left_path : (strip : Strip) (first count : ℕ)
      → IsPath from to (at (first + count) (strip.z + 1)) (map (edge 1 strip) (reverse (range_with_len first count))) (at first (strip.z + 1))
  left_path strip first zero = at_same (first + 0) first (strip.z + 1) (strip.z + 1) (omega arith) refl
  left_path strip first (suc count) =
      let Q : List X → Type 0 = λ es. IsPath from to (at (first + suc count) (strip.z + 1)) es (at first (strip.z + 1)) in
      let parts : map (edge 1 strip) (reverse (range_with_len (first + 1) count) ++ first ∷ [])
      ≡ map (edge 1 strip) (reverse (range_with_len (first + 1) count)) ++ edge 1 strip first ∷ [] = map-append (edge 1 strip) (reverse (range_with_len (first + 1) count)) (first ∷ []) in
      subst Q (sym (ap (map (edge 1 strip)) (reverse-append (first ∷ []) (range_with_len (first + 1) count)) ∙ parts))
      (path_append from to _ (at (first + 1) (strip.z + 1)) _ (map (edge 1 strip) (reverse (range_with_len (first + 1) count))) (edge 1 strip first ∷ [])
      (path_between from to _ _ _ _ (map (edge 1 strip) (reverse (range_with_len (first + 1) count)))
      (at_same (first + 1 + count) (first + suc count) (strip.z + 1) (strip.z + 1) (omega arith) refl) refl (left_path strip (first + 1) count))
      (drawn.top_from strip first, drawn.top_to strip first))

  -- from one end to another at the height between two strips: one of the two parts is empty
  across_path : (lower upper : Strip) (a b : ℕ) → upper.z ≡ lower.z + 1
      → IsPath from to (at b (lower.z + 1)) (tops edge lower a b ++ bottoms edge upper b a) (at a (lower.z + 1))
  across_path lower upper a b row =
      path_append from to _ (at (b - (b - a)) (lower.z + 1)) _ (tops edge lower a b) (bottoms edge upper b a) back out
    where
      back : IsPath from to (at b (lower.z + 1)) (tops edge lower a b) (at (b - (b - a)) (lower.z + 1))
      back = elim (cases_lt a b) [
        | inl less ↦ path_between from to _ _ _ _ (tops edge lower a b) (at_same (a + (b - a)) b (lower.z + 1) (lower.z + 1) (omega (arith, less)) refl)
            (at_same a (b - (b - a)) (lower.z + 1) (lower.z + 1) (omega (arith, less)) refl) (left_path lower a (b - a))
        | inr most ↦
            let none : b - a ≡ 0 = omega (arith, most) in
            let Q : ℕ → Type 0 = λ n. IsPath from to (at b (lower.z + 1)) (map (edge 1 lower) (reverse (range_with_len a n))) (at (b - n) (lower.z + 1)) in
            subst Q (sym none) (at_same b (b - 0) (lower.z + 1) (lower.z + 1) (omega arith) refl)
      ]

      out : IsPath from to (at (b - (b - a)) (lower.z + 1)) (bottoms edge upper b a) (at a (lower.z + 1))
      out = elim (cases_lt b a) [
        | inl less ↦ path_between from to _ _ _ _ (bottoms edge upper b a) (at_same b (b - (b - a)) upper.z (lower.z + 1) (omega (arith, less)) row)
            (at_same (b + (a - b)) a upper.z (lower.z + 1) (omega (arith, less)) row) (right_path upper b (a - b))
        | inr most ↦
            let none : a - b ≡ 0 = omega (arith, most) in
            let Q : ℕ → Type 0 = λ n. IsPath from to (at (b - (b - a)) (lower.z + 1)) (map (edge 3 upper) (range_with_len b n)) (at a (lower.z + 1)) in
            subst Q (sym none) (at_same (b - (b - a)) a (lower.z + 1) (lower.z + 1) (omega (arith, most)) refl)
      ]

  abbrev pub last_of : Strip → List Strip → Strip
  last_of strip [] = strip
  last_of strip (next ∷ rest) = last_of next rest

  right_side_path : (strip : Strip) (rest : List Strip) → AreRows (strip ∷ rest)
      → IsPath from to (at (strip.x1 + 1) strip.z) (right_side edge (strip ∷ rest)) (at ((last_of strip rest).x1 + 1) ((last_of strip rest).z + 1))
  right_side_path strip [] rows = (drawn.right_from strip strip.x1, drawn.right_to strip strip.x1)
  right_side_path strip (next ∷ rest) rows = (
    drawn.right_from strip strip.x1,
    path_append from to _ (at (next.x1 + 1) next.z) _ (to_right_end edge strip next) (right_side edge (next ∷ rest))
        (path_between from to _ _ _ _ (to_right_end edge strip next) (sym (drawn.right_to strip strip.x1)) (at_same (next.x1 + 1) (next.x1 + 1) (strip.z + 1) next.z refl (sym rows.1))
        (across_path strip next (next.x1 + 1) (strip.x1 + 1) rows.1))
        (right_side_path next rest rows.4),
  )

  top_side_path : (strip : Strip) (rest : List Strip) → AreRows (strip ∷ rest)
      → IsPath from to (at ((last_of strip rest).x1 + 1) ((last_of strip rest).z + 1)) (top_side edge (strip ∷ rest)) (at (last_of strip rest).x0 ((last_of strip rest).z + 1))
  top_side_path strip [] rows =
      path_between from to _ _ _ _ (tops edge strip strip.x0 (strip.x1 + 1))
      (at_same (strip.x0 + (strip.x1 + 1 - strip.x0)) (strip.x1 + 1) (strip.z + 1) (strip.z + 1) (omega (arith, rows)) refl) refl
      (left_path strip strip.x0 (strip.x1 + 1 - strip.x0))
  top_side_path strip (next ∷ rest) rows = top_side_path next rest rows.4

  left_side_path : (strip : Strip) (rest : List Strip) → AreRows (strip ∷ rest)
      → IsPath from to (at (last_of strip rest).x0 ((last_of strip rest).z + 1)) (left_side edge (strip ∷ rest)) (at strip.x0 strip.z)
  left_side_path strip [] rows = (drawn.left_from strip strip.x0, drawn.left_to strip strip.x0)
  left_side_path strip (next ∷ rest) rows =
      path_append from to _ (at next.x0 next.z) _ (left_side edge (next ∷ rest)) (to_left_end edge strip next ++ edge 0 strip strip.x0 ∷ [])
      (left_side_path next rest rows.4)
      (path_append from to _ (at strip.x0 (strip.z + 1)) _ (to_left_end edge strip next) (edge 0 strip strip.x0 ∷ [])
      (path_between from to _ _ _ _ (to_left_end edge strip next) (at_same next.x0 next.x0 (strip.z + 1) next.z refl (sym rows.1)) refl
      (across_path strip next strip.x0 next.x0 rows.1))
      (drawn.left_from strip strip.x0, drawn.left_to strip strip.x0))

  -- so the walk round leads back to where it begins
  pub round_path : (strip : Strip) (rest : List Strip) → AreRows (strip ∷ rest)
      → IsPath from to (at strip.x0 strip.z) (round edge (strip ∷ rest)) (at strip.x0 strip.z)
  round_path strip rest rows =
      let ordered = first_ordered strip rest rows in
      path_append from to _ (at (strip.x1 + 1) strip.z) _ (bottoms edge strip strip.x0 (strip.x1 + 1)) (right_side edge (strip ∷ rest) ++ (top_side edge (strip ∷ rest) ++ left_side edge (strip ∷ rest)))
      (path_between from to _ _ _ _ (bottoms edge strip strip.x0 (strip.x1 + 1)) refl
      (at_same (strip.x0 + (strip.x1 + 1 - strip.x0)) (strip.x1 + 1) strip.z strip.z (omega (arith, ordered)) refl) (right_path strip strip.x0 (strip.x1 + 1 - strip.x0)))
      (path_append from to _ (at ((last_of strip rest).x1 + 1) ((last_of strip rest).z + 1)) _ (right_side edge (strip ∷ rest)) (top_side edge (strip ∷ rest) ++ left_side edge (strip ∷ rest))
      (right_side_path strip rest rows)
      (path_append from to _ (at (last_of strip rest).x0 ((last_of strip rest).z + 1)) _ (top_side edge (strip ∷ rest)) (left_side edge (strip ∷ rest))
      (top_side_path strip rest rows) (left_side_path strip rest rows)))
