-- One step more of the loops along the sides of a region.
use Rattle.std.proofs.Common.{◌≡◌, ℕ, ◌+◌, ◌-◌, ◌<◌, ◌≤◌, List, [], ◌∷◌, ◌++◌, length, get_or, map, ap, ◌∙◌, sym, subst, arith, zero, suc}
use Rattle.std.specs.Prelude.{reverse, take, drop}
use Rattle.std.specs.List.{range_with_len}
use Rattle.std.proofs.Math.Seq.{take-append_seam}
use Rattle.std.proofs.lemmas.List.{append_assoc, append-nil, get_or_default, map-append, reverse-append, drop_more, drop_all}
use Rattle.std.proofs.lemmas.List.FromFn.{map-range_with_len_more}
use Rattle.mesh_types.specs.declared.region.Strip.{Strip}
use Rattle.mesh_types.specs.Regions.{IsUpon}
use Rattle.contour_walk.specs.Walk.{AreUpon, tops, bottoms, to_right_end, to_left_end, right_side, top_side, left_side, round}

-- a vector all of whose elements were written through a slice
pub written_back : {X : Type 0} (n : ℕ) (old new : List X) → n ≡ length new → take n (new ++ drop (length new) old) ≡ new
written_back n old new same =
    ap (λ i. take i (new ++ drop (length new) old)) same ∙ take-append_seam new (drop (length new) old)

-- one element more, at the end
pub one_more : {X : Type 0} (old before more so_far next : List X) (e x : X) → before ≡ old ++ so_far → more ≡ before ++ e ∷ [] → e ≡ x
    → next ≡ so_far ++ x ∷ [] → more ≡ old ++ next
one_more old before more so_far next e x is pushed same grown =
    pushed ∙ ap (λ es. es ++ e ∷ []) is ∙ append_assoc old so_far (e ∷ []) ∙ ap (λ y. old ++ (so_far ++ y ∷ [])) same ∙ ap (λ es. old ++ es) (sym grown)

-- one column more to the right
pub more_right : {X : Type 0} (f : ℕ → X) (first x : ℕ) → first ≤ x
    → map f (range_with_len first (x + 1 - first)) ≡ map f (range_with_len first (x - first)) ++ f x ∷ []
more_right f first x least =
    ap (λ n. map f (range_with_len first n)) {x = x + 1 - first} {y = x - first + 1} (omega (arith, least))
    ∙ map-range_with_len_more f first (x - first) x (omega (arith, least))

-- one column more to the left
pub more_left : {X : Type 0} (f : ℕ → X) (x end : ℕ) → 0 < x → x ≤ end
    → map f (reverse (range_with_len (x - 1) (end - (x - 1)))) ≡ map f (reverse (range_with_len x (end - x))) ++ f (x - 1) ∷ []
more_left f x end some most =
    ap (λ n. map f (reverse (range_with_len (x - 1) n))) {x = end - (x - 1)} {y = suc (end - x)} (omega (arith, some, most))
    ∙ ap (map f) (reverse-append ((x - 1) ∷ []) (range_with_len (x - 1 + 1) (end - x)))
    ∙ map-append f (reverse (range_with_len (x - 1 + 1) (end - x))) ((x - 1) ∷ [])
    ∙ ap (λ n. map f (reverse (range_with_len n (end - x))) ++ f (x - 1) ∷ []) {x = x - 1 + 1} {y = x} (omega (arith, some))

-- a range by where it begins and how long it is, where it is not empty
pub same_range : (m n c c' : ℕ) → c ≡ c' → (0 < c' → m ≡ n) → range_with_len m c ≡ range_with_len n c'
same_range m n c zero same begins = ap (range_with_len m) same
same_range m n c (suc c') same begins = ap (range_with_len m) same ∙ ap (λ k. range_with_len k (suc c')) (begins (omega arith))

module _ {X : Type 0} (edge : ℕ → Strip → ℕ → X) (strips : List Strip) (k : ℕ) (s : Strip) (is : s ≡ get_or strips k s) where
  one_left : k < length strips → length strips ≤ k + 1 → drop k strips ≡ s ∷ []
  one_left there last = drop_more strips k s there ∙ ap (λ y. y ∷ drop (k + 1) strips) (sym is) ∙ ap (λ (rest : List Strip). s ∷ rest) (drop_all (k + 1) strips last)

  -- the last strip's right end
  pub right_ended : (before ended whole : List X) → k < length strips → length strips ≤ k + 1
      → before ++ right_side edge (drop k strips) ≡ whole → ended ≡ before ++ edge 2 s s.x1 ∷ []
      → ended ++ right_side edge (drop (k + 1) strips) ≡ whole
  right_ended before ended whole there last invariant end =
      ap (λ rest. ended ++ right_side edge rest) (drop_all (k + 1) strips last)
      ∙ append-nil ended ∙ end
      ∙ ap (λ rest. before ++ right_side edge rest) (sym (one_left there last))
      ∙ invariant

  -- the last strip's left end
  pub left_begun : (n : ℕ) (old before ended : List X) → n ≡ k + 1 → k < length strips → length strips ≤ k + 1
      → before ≡ old ++ left_side edge (drop n strips) → ended ≡ before ++ edge 0 s s.x0 ∷ []
      → ended ≡ old ++ left_side edge (drop k strips)
  left_begun n old before ended next there last invariant end =
      end
      ∙ ap (λ es. es ++ edge 0 s s.x0 ∷ [])
      (invariant ∙ ap (λ rest. old ++ left_side edge rest) (ap (λ m. drop m strips) next ∙ drop_all (k + 1) strips last) ∙ append-nil old)
      ∙ ap (λ rest. old ++ left_side edge rest) (sym (one_left there last))

  module _ (t : Strip) (is' : t ≡ get_or strips (k + 1) t) (there : k + 1 < length strips) where
    next_left : drop (k + 1) strips ≡ t ∷ drop (k + 1 + 1) strips
    next_left = drop_more strips (k + 1) t there ∙ ap (λ y. y ∷ drop (k + 1 + 1) strips) (sym is')

    two_left : drop k strips ≡ s ∷ t ∷ drop (k + 1 + 1) strips
    two_left =
        drop_more strips k s (omega (arith, there)) ∙ ap (λ y. y ∷ drop (k + 1) strips) (sym is) ∙ ap (λ (rest : List Strip). s ∷ rest) next_left

    right_more : right_side edge (drop k strips) ≡ edge 2 s s.x1 ∷ (to_right_end edge s t ++ right_side edge (drop (k + 1) strips))
    right_more =
        ap (right_side edge) two_left ∙ ap (λ rest. edge 2 s s.x1 ∷ (to_right_end edge s t ++ right_side edge rest)) (sym next_left)

    left_more : left_side edge (drop k strips) ≡ left_side edge (drop (k + 1) strips) ++ (to_left_end edge s t ++ edge 0 s s.x0 ∷ [])
    left_more =
        ap (left_side edge) two_left ∙ ap (λ rest. left_side edge rest ++ (to_left_end edge s t ++ edge 0 s s.x0 ∷ [])) (sym next_left)

    -- a strip's right end and the way to that of the next, put into the list
    pub right_pushed : (before ended next whole : List X) → before ++ right_side edge (drop k strips) ≡ whole
        → ended ≡ before ++ edge 2 s s.x1 ∷ [] → next ≡ ended ++ to_right_end edge s t
        → next ++ right_side edge (drop (k + 1) strips) ≡ whole
    right_pushed before ended next whole invariant end way =
        let e = edge 2 s s.x1 in
        let rest = right_side edge (drop (k + 1) strips) in
        ap (λ es. es ++ rest) (way ∙ ap (λ es. es ++ to_right_end edge s t) end)
        ∙ append_assoc (before ++ e ∷ []) (to_right_end edge s t) rest
        ∙ append_assoc before (e ∷ []) (to_right_end edge s t ++ rest)
        ∙ ap (λ es. before ++ es) (sym right_more)
        ∙ invariant

    -- the way to a strip's left end, and that end
    pub left_pushed : (n : ℕ) (old before next ended : List X) → n ≡ k + 1 → before ≡ old ++ left_side edge (drop n strips)
        → next ≡ before ++ to_left_end edge s t → ended ≡ next ++ edge 0 s s.x0 ∷ []
        → ended ≡ old ++ left_side edge (drop k strips)
    left_pushed n old before next ended upper invariant way end =
        let e = edge 0 s s.x0 in
        let side = left_side edge (drop (k + 1) strips) in
        end
        ∙ ap (λ es. es ++ e ∷ []) way
        ∙ append_assoc before (to_left_end edge s t) (e ∷ [])
        ∙ ap (λ es. es ++ (to_left_end edge s t ++ e ∷ [])) (invariant ∙ ap (λ m. old ++ left_side edge (drop m strips)) upper)
        ∙ append_assoc old side (to_left_end edge s t ++ e ∷ [])
        ∙ ap (λ es. old ++ es) (sym left_more)

-- a strip lies on the one before, as they were looked up
pub upon_at : (strips : List Strip) (k : ℕ) (s t : Strip) → AreUpon strips → k + 1 < length strips → s ≡ get_or strips k s → t ≡ get_or strips (k + 1) t → IsUpon s t
upon_at strips k s t upon there is is' =
    subst (λ (y : Strip). IsUpon s y) (sym (is' ∙ get_or_default strips (k + 1) t s there))
    (subst (λ (x : Strip). IsUpon x (get_or strips (k + 1) s)) (sym is) (upon k s there))

-- the top side is the top of the last strip
top_of_last : {X : Type 0} (edge : ℕ → Strip → ℕ → X) (strip last : Strip) (rest : List Strip) → last ≡ get_or (strip ∷ rest) (length rest) last
    → top_side edge (strip ∷ rest) ≡ tops edge last last.x0 (last.x1 + 1)
top_of_last edge strip last [] is = ap (λ (s : Strip). tops edge s s.x0 (s.x1 + 1)) (sym is)
top_of_last edge strip last (next ∷ rest) is = top_of_last edge next last rest is

-- the four sides, one after the other
pub walked : {X : Type 0} (edge : ℕ → Strip → ℕ → X) (strips : List Strip) (first last : Strip) (a b c d e : List X) → 0 < length strips
    → first ≡ get_or strips 0 first → last ≡ get_or strips (length strips - 1) last
    → b ≡ a ++ bottoms edge first first.x0 (first.x1 + 1) → c ≡ b ++ right_side edge strips → d ≡ c ++ tops edge last last.x0 (last.x1 + 1)
    → e ≡ d ++ left_side edge strips → e ≡ a ++ round edge strips
walked edge [] first last a b c d e some is is' bottom right top left = absurd (omega (arith, some))
walked {X = X} edge (strip ∷ rest) first last a b c d e some is is' bottom right top left =
    let strips : List Strip = strip ∷ rest in
    let under : List X = bottoms edge strip strip.x0 (strip.x1 + 1) in
    let bottom' : b ≡ a ++ under = bottom ∙ ap (λ (s : Strip). a ++ bottoms edge s s.x0 (s.x1 + 1)) is in
    let one : length strips - 1 ≡ length rest = omega arith in
    let top' : tops edge last last.x0 (last.x1 + 1) ≡ top_side edge strips = sym (top_of_last edge strip last rest (is' ∙ ap (λ k. get_or strips k last) one)) in
    left
    ∙ ap (λ es. es ++ left_side edge strips) (top ∙ ap (λ es. c ++ es) top' ∙ ap (λ es. es ++ top_side edge strips) (right ∙ ap (λ es. es ++ right_side edge strips) bottom'))
    ∙ append_assoc ((a ++ under) ++ right_side edge strips) (top_side edge strips) (left_side edge strips)
    ∙ append_assoc (a ++ under) (right_side edge strips) (top_side edge strips ++ left_side edge strips)
    ∙ append_assoc a under (right_side edge strips ++ (top_side edge strips ++ left_side edge strips))
