-- The merges that may be made after one was: those of other pieces, and those of the united one.
use Rattle.std.proofs.Common.{◌≡◌, ◌≢◌, ℕ, ◌+◌, ◌-◌, ◌<◌, ◌≤◌, Bool, true, false, List, [], ◌++◌, length, get_or, map, All, Option, refl, sym, ap, subst, ◌∙◌, inl, inr, arith}
use Rattle.std.specs.Prelude.{None, Some, IfSome, Contains, nat_le, nat_lt, ◌==◌, ◌&&◌, ◌||◌, slice_set, if◌then◌else◌}
use Rattle.std.specs.Option.{option_map}
use Rattle.std.specs.List.{filter_map, find, range_with_len}
use Rattle.std.proofs.Math.ListN.{length-set}
use Rattle.std.proofs.lemmas.Bool.{cases_eq, cases_lt}
use Rattle.std.proofs.lemmas.Bool.Decides.{nat_tests}
use Rattle.std.proofs.lemmas.List.{get_or-set_other}
use Rattle.std.proofs.lemmas.List.Edits.{get_or-remove_above, get_or-remove_below}
use Rattle.std.proofs.lemmas.List.Elements.{All-append, All-weaker, Contains-append_left, Contains-append_right}
use Rattle.nav_base.specs.declared.point.Point.{Point}
use Rattle.nav_base.specs.Convex.{corner_at}
use Rattle.mesh_types.specs.declared.region.Piece.{Piece}
use Rattle.mesh_types.specs.Merging.{IsPieceOf, Merge, best_merge, is_admissible, is_convex, is_facing, joined, merges_from, merges_of, past_edge, places_at, union_of}
use Rattle.mesh_types.proofs.MergeLaws.{best_merge-admissible, joined-pieces, length-joined}
use Rattle.poly_merge.specs.declared.edge.Merge as code
use Rattle.poly_merge.specs.Seen.{AreChoices, IsCandidate, IsChoice, IsMergeOf, admissible_of, after_removal, left_over, merges_onto, merges_with, seen}
use Rattle.poly_merge.proofs.Listed.{all_found, contains_found, kept_if_passes}
use Rattle.poly_merge.proofs.Choosing.{admissible_each, all_choices, from_candidates, from_has, onto_candidates, onto_has}

-- ---- places after one was taken out

removed-above : (i s : ℕ) → s < i → after_removal i s ≡ i - 1
removed-above i s above = ap (λ b. if b then i - 1 else i) (yes above)
  where
    yes : s < i → nat_lt s i ≡ true
    yes above = grind (arith, nat_tests)

removed-below : (i s : ℕ) → i ≤ s → after_removal i s ≡ i
removed-below i s below = ap (λ b. if b then i - 1 else i) (not_yet below)
  where
    not_yet : i ≤ s → nat_lt s i ≡ false
    not_yet below = grind (arith, nat_tests)

removed-rises : (i j s : ℕ) → i < j → i ≢ s → j ≢ s → after_removal i s < after_removal j s
removed-rises i j s less not_i not_j =
    elim (cases_lt s i) [
      | inl high ↦ omega (arith, high, less, removed-above i s high, removed-above j s (omega (arith, high, less)))
      | inr low ↦ elim (cases_lt s j) [
        | inl high ↦ omega (arith, high, low, not_i, removed-below i s low, removed-above j s high)
        | inr low' ↦ omega (arith, less, removed-below i s low, removed-below j s low')
      ]
    ]

removed-same_order : (i j s : ℕ) → after_removal i s < after_removal j s → i ≢ s → j ≢ s → i < j
removed-same_order i j s less not_i not_j =
    elim (cases_lt i j) [
      | inl before ↦ before
      | inr behind ↦ elim (cases_eq i j) [
        | inl same ↦ absurd (omega (arith, less, ap (λ k. after_removal k s) same))
        | inr differ ↦ absurd (omega (arith, less, removed-rises j i s (omega (arith, behind, differ)) not_j not_i))
      ]
    ]

-- tests that fail
apart_first : (f s a b : ℕ) → ((f == a || s == a) || (f == b || s == b)) ≡ false → f ≢ a
apart_first f s a b is same = grind (arith, nat_tests)

apart_second : (f s a b : ℕ) → ((f == a || s == a) || (f == b || s == b)) ≡ false → s ≢ a
apart_second f s a b is same = grind (arith, nat_tests)

apart_all : (f s a b : ℕ) → f ≢ a → s ≢ a → f ≢ b → s ≢ b → ((f == a || s == a) || (f == b || s == b)) ≡ false
apart_all f s a b fa sa fb sb = grind (arith, nat_tests)

swapped : (f s a b : ℕ) → ((f == a || s == a) || (f == b || s == b)) ≡ false → ((f == b || s == b) || (f == a || s == a)) ≡ false
swapped f s a b is = grind (arith, nat_tests)

-- ---- the same two pieces in two lists

abbrev mk : ℕ → ℕ → ℕ → ℕ → Merge
mk first second edge facing = record { first = first; second = second; edge = edge; facing = facing }

module _ (corners : List Point) where
  abbrev fits : List ℕ → ℕ → List ℕ → ℕ → Bool
  fits p edge q facing = nat_le (length (past_edge p edge ++ past_edge q facing)) 6 && is_convex (map (corner_at corners) (past_edge p edge ++ past_edge q facing))

  same_choice : (ps qs : List Piece) (f s f' s' e g : ℕ) → places_at ps f ≡ places_at qs f' → places_at ps s ≡ places_at qs s' → f' < s' → s' < length qs
      → IsChoice corners ps (mk f s e g) → IsChoice corners qs (mk f' s' e g)
  same_choice ps qs f s f' s' e g first second before there is = record {
    candidate = record {
      first = before;
      second = there;
      edge = omega (arith, is.candidate.edge, ap length first);
      found = sym (λ i. find (is_facing (first i) e (second i)) (range_with_len 0 (length (second i)))) ∙ is.candidate.found;
    };
    admissible = sym (λ i. fits (first i) e (second i) g) ∙ is.admissible;
  }

-- ---- after a merge

module _ (corners : List Point) (pieces : List Piece) (made : Merge) (before : made.first < made.second) (there : made.second < length pieces) where
  size : length (joined pieces made) + 1 ≡ length pieces
  size = length-joined pieces made there

  -- a piece that is not of the merge
  kept_place : (i : ℕ) → i < length pieces → i ≢ made.first → i ≢ made.second → places_at (joined pieces made) (after_removal i made.second) ≡ places_at pieces i
  kept_place i below not_first not_second =
      elim (cases_lt made.second i) [
        | inl high ↦ ap (places_at (joined pieces made)) (removed-above i made.second high)
            ∙ ap (λ (piece : Piece). piece.corners)
            (get_or-remove_above set made.second none (i - 1) (omega (arith, high)) (omega (arith, there, length-set pieces made.first united))
            ∙ ap (λ k. get_or set k none) {x = i - 1 + 1} {y = i} (omega (arith, high)) ∙ get_or-set_other pieces made.first i united none not_first)
        | inr low ↦ ap (places_at (joined pieces made)) (removed-below i made.second low)
            ∙ ap (λ (piece : Piece). piece.corners)
            (get_or-remove_below set made.second none i (omega (arith, low, not_second)) (omega (arith, there, length-set pieces made.first united))
            ∙ get_or-set_other pieces made.first i united none not_first)
      ]
    where
      none : Piece
      none = record { corners = [] }

      united : Piece
      united = record { corners = union_of pieces made }

      set : List Piece
      set = slice_set pieces made.first united

  -- a place of a piece that was not made stands for one before
  place_back : (i : ℕ) → i < length (joined pieces made) → i ≢ made.first
      → (k : ℕ) × (k < length pieces) × (k ≢ made.first) × (k ≢ made.second) × (after_removal k made.second ≡ i)
  place_back i below not_first =
      elim (cases_lt i made.second) [
        | inl low ↦ (i, omega (arith, below, size), not_first, omega (arith, low), removed-below i made.second (omega (arith, low)))
        | inr high ↦ (i + 1, omega (arith, below, size), omega (arith, high, before), omega (arith, high), removed-above (i + 1) made.second (omega (arith, high)) ∙ omega arith)
      ]

  -- a merge of other pieces may still be made
  each_left : (m n : Merge) → IsChoice corners pieces m → left_over made m ≡ Some n → IsChoice corners (joined pieces made) n
  each_left m n is left = by_test ((m.first == made.first || m.second == made.first) || (m.first == made.second || m.second == made.second)) refl left
    where
      moved : Merge
      moved = mk (after_removal m.first made.second) (after_removal m.second made.second) m.edge m.facing

      by_test : (b : Bool) → ((m.first == made.first || m.second == made.first) || (m.first == made.second || m.second == made.second)) ≡ b
          → (if b then None else Some moved) ≡ Some n → IsChoice corners (joined pieces made) n
      by_test true e left = absurd cc
      by_test false e left =
          let same : moved ≡ n = cc in
          let first_a = apart_first m.first m.second made.first made.second e in
          let second_a = apart_second m.first m.second made.first made.second e in
          let first_b = apart_first m.first m.second made.second made.first (swapped m.first m.second made.first made.second e) in
          let second_b = apart_second m.first m.second made.second made.first (swapped m.first m.second made.first made.second e) in
          let below : m.first < length pieces = omega (arith, is.candidate.first, is.candidate.second) in
          subst (IsChoice corners (joined pieces made)) same
          (same_choice corners pieces (joined pieces made) m.first m.second (after_removal m.first made.second) (after_removal m.second made.second) m.edge m.facing
          (sym (kept_place m.first below first_a first_b)) (sym (kept_place m.second is.candidate.second second_a second_b))
          (removed-rises m.first m.second made.second is.candidate.first first_b second_b) (short m.second is.candidate.second second_b) is)
        where
          short : (i : ℕ) → i < length pieces → i ≢ made.second → after_removal i made.second < length (joined pieces made)
          short i below differ =
              elim (cases_lt made.second i) [
                | inl high ↦ omega (arith, below, high, size, removed-above i made.second high)
                | inr low ↦ omega (arith, there, low, differ, size, removed-below i made.second low)
              ]

  -- a merge of pieces that were not made could be made before
  all_left : (merges : List Merge) → AreChoices corners pieces merges → (n : Merge) → IsChoice corners (joined pieces made) n → n.first ≢ made.first → n.second ≢ made.first
      → Contains (filter_map (left_over made) merges) n
  all_left merges are n is not_first not_second =
      let f = place_back n.first (omega (arith, is.candidate.first, is.candidate.second)) not_first in
      let s = place_back n.second is.candidate.second not_second in
      let order = removed-same_order f.0 s.0 made.second (omega (arith, is.candidate.first, f.4, s.4)) f.3 s.3 in
      let choice : IsChoice corners pieces (mk f.0 s.0 n.edge n.facing) =
      same_choice corners (joined pieces made) pieces n.first n.second f.0 s.0 n.edge n.facing (ap (places_at (joined pieces made)) (sym f.4) ∙ kept_place f.0 f.1 f.2 f.3)
      (ap (places_at (joined pieces made)) (sym s.4) ∙ kept_place s.0 s.1 s.2 s.3) order s.1 is in
      contains_found (left_over made) merges (mk f.0 s.0 n.edge n.facing) n (are.all (mk f.0 s.0 n.edge n.facing) choice)
      (ap (λ b. if b then None else Some (mk (after_removal f.0 made.second) (after_removal s.0 made.second) n.edge n.facing)) (apart_all f.0 s.0 made.first made.second f.2 s.2 f.3 s.3)
      ∙ (λ i. Some (mk (f.4 i) (s.4 i) n.edge n.facing)))

  pub renewed : (merges : List Merge) → AreChoices corners pieces merges
      → AreChoices corners (joined pieces made) (filter_map (left_over made) merges ++ admissible_of corners (joined pieces made) (merges_with (joined pieces made) made.first))
  renewed merges are = record {
    each = All-append (IsChoice corners after) left new
        (all_found (left_over made) (IsChoice corners after) merges
        (All-weaker (IsChoice corners pieces) (λ m. (n : Merge) → left_over made m ≡ Some n → IsChoice corners after n) (λ m is n left. each_left m n is left) merges are.each))
        (admissible_each corners after (merges_with after made.first)
        (All-append (IsCandidate after) (merges_onto after made.first) (merges_from after made.first) (onto_candidates corners after made.first (omega (arith, size, before, there)))
        (from_candidates corners after made.first)));
    all = λ n is.
        elim (cases_eq n.first made.first) [
          | inl same ↦ with_new n is (Contains-append_right (merges_onto after made.first) (merges_from after made.first) n
              (subst (λ (i : ℕ). Contains (merges_from after i) n) same (from_has corners after n is.candidate)))
          | inr differ ↦ elim (cases_eq n.second made.first) [
            | inl same ↦ with_new n is (Contains-append_left (merges_onto after made.first) (merges_from after made.first) n
                (subst (λ (i : ℕ). Contains (merges_onto after i) n) same (onto_has corners after n is.candidate)))
            | inr apart ↦ Contains-append_left left new n (all_left merges are n is differ apart)
          ]
        ];
  }
    where
      after : List Piece
      after = joined pieces made

      left : List Merge
      left = filter_map (left_over made) merges

      new : List Merge
      new = admissible_of corners after (merges_with after made.first)

      with_new : (n : Merge) → IsChoice corners after n → Contains (merges_with after made.first) n → Contains (left ++ new) n
      with_new n is held = Contains-append_right left new n (kept_if_passes (is_admissible corners after) (merges_with after made.first) n is.admissible held)

-- ---- lists as a loop holds them

-- the merges that may be made, found in lists that are equal
pub first_choices : (corners corners' : List Point) (pieces pieces' : List Piece) (choices : List Merge) → corners' ≡ corners → pieces' ≡ pieces
    → choices ≡ admissible_of corners' pieces' (merges_of pieces') → AreChoices corners pieces choices
first_choices corners corners' pieces pieces' choices same same' is =
    subst (AreChoices corners pieces) (sym (is ∙ (λ i. admissible_of (same i) (same' i) (merges_of (same' i))))) (all_choices corners pieces)

pub choices_in : (corners corners' : List Point) (pieces pieces' : List Piece) (merges merges' : List code.Merge) → corners' ≡ corners → pieces' ≡ pieces → merges' ≡ merges
    → AreChoices corners pieces (map seen merges) → AreChoices corners' pieces' (map seen merges')
choices_in corners corners' pieces pieces' merges merges' same same' same'' are =
    subst (λ (cs : List Point). AreChoices cs pieces' (map seen merges')) (sym same)
    (subst (λ (ps : List Piece). AreChoices corners ps (map seen merges')) (sym same') (subst (λ (ms : List code.Merge). AreChoices corners pieces (map seen ms)) (sym same'') are))

pub next_choices : (corners corners' : List Point) (pieces after after' : List Piece) (next : code.Merge) (merges merges' : List code.Merge) (choices : List Merge)
    → corners' ≡ corners → after' ≡ after → merges' ≡ merges → after ≡ joined pieces (seen next) → IsMergeOf pieces next → AreChoices corners pieces (map seen merges)
    → choices ≡ filter_map (left_over (seen next)) (map seen merges') ++ admissible_of corners' after' (merges_with after' next.first) → AreChoices corners after choices
next_choices corners corners' pieces after after' next merges merges' choices same same' same'' made there are is =
    let joins : after' ≡ joined pieces (seen next) = same' ∙ made in
    subst (λ (ps : List Piece). AreChoices corners ps choices) (sym made)
    (subst (AreChoices corners (joined pieces (seen next)))
    (sym (is ∙ (λ i. filter_map (left_over (seen next)) (map seen (same'' i)) ++ admissible_of (same i) (joins i) (merges_with (joins i) next.first))))
    (renewed corners pieces (seen next) there.first there.second (map seen merges) are))

-- the merge that a round makes
pub record IsNext (corners : List Point) (pieces : List Piece) (next : code.Merge) : Type 0 where
  pub best : best_merge corners pieces ≡ Some (seen next)
  pub there : IsMergeOf pieces next

pub next_is : (corners corners' : List Point) (pieces pieces' : List Piece) (found : Option code.Merge) (next : code.Merge) → corners' ≡ corners → pieces' ≡ pieces
    → option_map seen found ≡ best_merge corners' pieces' → IfSome found (IsMergeOf pieces') → found ≡ Some next → IsNext corners pieces next
next_is corners corners' pieces pieces' found next same same' value there is = record {
  best = (λ i. best_merge (sym same i) (sym same' i)) ∙ sym value ∙ ap (option_map seen) is;
  there = subst (λ (ps : List Piece). IsMergeOf ps next) same' (subst (λ (o : Option code.Merge). IfSome o (IsMergeOf pieces')) is there);
}

-- the pieces after it
pub next_pieces : (corners : List Point) (pieces after : List Piece) (next : code.Merge) → IsNext corners pieces next → after ≡ joined pieces (seen next) → All (IsPieceOf corners) pieces
    → All (IsPieceOf corners) after
next_pieces corners pieces after next is made are =
    subst (All (IsPieceOf corners)) (sym made)
    (joined-pieces corners pieces (seen next) are (omega (arith, is.there.first, is.there.second)) is.there.second (best_merge-admissible corners pieces (seen next) is.best))
