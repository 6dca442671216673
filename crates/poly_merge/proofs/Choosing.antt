-- The merge that comes next is the same in any list of all merges that may be made.
use Rattle.std.proofs.Common.{◌≡◌, ℕ, ◌+◌, ◌-◌, ◌<◌, ◌≤◌, Bool, true, false, List, [], ◌∷◌, length, get_or, map, All, Option, refl, sym, ap, subst, ◌∙◌, arith}
use Rattle.std.specs.Prelude.{None, Some, Contains, nat_lt, if◌then◌else◌}
use Rattle.std.specs.Option.{option_map}
use Rattle.std.specs.List.{cons_option, find, fold, range_with_len}
use Rattle.std.specs.Ordering.{is_lt, nat_cmp, ordering_then, ordering_reverse, on, flip_args}
use Rattle.std.specs.declared.cmp.Ordering.{Ordering}
use Rattle.std.specs.declared.cmp.Ordering.TheVariants.{Less, Equal, Greater}
use Rattle.std.specs.Cmp.{IsStrictWeakOrder, IsTotalOrder}
use Rattle.std.proofs.lemmas.Bool.{both_ways}
use Rattle.std.proofs.lemmas.Bool.Decides.{nat_tests}
use Rattle.std.proofs.lemmas.Cmp.{back_total, by_ranked, nat_cmp_total, on_total, ranked, then_total}
use Rattle.std.proofs.lemmas.List.Elements.{All-contains, All-cons, All-nil, All-weaker}
use Rattle.std.proofs.lemmas.List.MinMax.{ranks_by}
use Rattle.nav_base.specs.declared.point.Point.{Point}
use Rattle.mesh_types.specs.declared.region.Piece.{Piece}
use Rattle.mesh_types.specs.Choices.{first_best, or_earlier, or_later}
use Rattle.mesh_types.specs.Merging.{Merge, best_merge, is_admissible, is_facing, merge_over, merges_between, merges_from, merges_of, places_at, shared_length}
use Rattle.mesh_types.proofs.Words.{is_longer}
use Rattle.mesh_types.proofs.ChoiceLaws.{first_best-all, first_best-fold, filter-passes}
use Rattle.mesh_types.proofs.ContourLaws.{first_best-least}
use Rattle.mesh_types.proofs.Sorting.{Rises}
use Rattle.poly_merge.specs.declared.edge.Merge as code
use Rattle.poly_merge.specs.Seen.{AreChoices, IsCandidate, IsChoice, IsMergeOf, admissible_of, comes_before, merges_onto, place_cmp, seen}
use Rattle.poly_merge.proofs.Listed.{all_found, all_gathered, all_range, contains_found, contains_gathered, contains_map, contains_none, contains_range, each_of, kept_if_passes, rises_gathered, rises_kept}
use Rattle.poly_merge.proofs.Walks.{filter_map-gathered, find-passes}
use Rattle.poly_merge.proofs.Unions.{find-below}

-- ---- the orders

-- a test of two numbers
below_if : (a b : ℕ) → nat_lt a b ≡ true → a < b
below_if a b is = grind (arith, nat_tests)

below_if_not : (a b : ℕ) → nat_lt a b ≡ false → b ≤ a
below_if_not a b is = grind (arith, nat_tests)

-- numbers that are compared
cmp-same : (a b : ℕ) → a ≡ b → nat_cmp a b ≡ Equal
cmp-same a b same =
    by_ranked (a < b) (a ≡ b) (b < a) (nat_cmp a b) (ranked a b (nat_cmp a b) refl) (λ e less. absurd (omega (arith, less, same))) (λ e is. e) (λ e more. absurd (omega (arith, more, same)))

cmp-more : (a b : ℕ) → b < a → nat_cmp a b ≡ Greater
cmp-more a b more =
    by_ranked (a < b) (a ≡ b) (b < a) (nat_cmp a b) (ranked a b (nat_cmp a b) refl) (λ e less. absurd (omega (arith, less, more))) (λ e is. absurd (omega (arith, is, more))) (λ e is. e)

cmp-less : (a b : ℕ) → a < b → nat_cmp a b ≡ Less
cmp-less a b less =
    by_ranked (a < b) (a ≡ b) (b < a) (nat_cmp a b) (ranked a b (nat_cmp a b) refl) (λ e is. e) (λ e is. absurd (omega (arith, less, is))) (λ e is. absurd (omega (arith, less, is)))

nat_tie : (a b : ℕ) → nat_cmp a b ≡ Equal → a ≡ b
nat_tie a b is = ranked a b Equal (sym is)

both_tie : (first second : Ordering) → ordering_then first second ≡ Equal → (first ≡ Equal) × (second ≡ Equal)
both_tie Less second is = absurd cc
both_tie Equal second is = (refl, is)
both_tie Greater second is = absurd cc

-- two of which neither comes before the other tie
ties : {X : Type 0} (R : X → X → Ordering) → IsTotalOrder R → (a b : X) → is_lt (R a b) ≡ false → is_lt (R b a) ≡ false → R a b ≡ Equal
ties {X = X} R total a b ab ba = by_case (R a b) refl ab (ap is_lt (sym (total.antisymm b a)) ∙ ba)
  where
    by_case : (o : Ordering) → R a b ≡ o → is_lt (R a b) ≡ false → is_lt (ordering_reverse (R a b)) ≡ false → R a b ≡ Equal
    by_case Less is first second = absurd (both_ways _ first (ap is_lt is))
    by_case Equal is first second = is
    by_case Greater is first second = absurd (both_ways _ second (ap (λ o. is_lt (ordering_reverse o)) is))

place_total : IsTotalOrder place_cmp
place_total =
    then_total {R = on (λ (m : Merge). m.first) nat_cmp} (on_total (λ (m : Merge). m.first) nat_cmp_total)
    (then_total {R = on (λ (m : Merge). m.second) nat_cmp} {S = on (λ (m : Merge). m.edge) nat_cmp} (on_total (λ (m : Merge). m.second) nat_cmp_total) (on_total (λ (m : Merge). m.edge) nat_cmp_total))

abbrev place_lt : Merge → Merge → Bool
place_lt m other = is_lt (place_cmp m other)

-- ---- the list of all merges stands in order

one_edge : (pieces : List Piece) (first second edge : ℕ) → All (λ m. ((m.first ≡ first) × (m.second ≡ second)) × (m.edge ≡ edge)) (cons_option (merge_over pieces first second edge) [])
one_edge pieces first second edge = by_case (find (is_facing (places_at pieces first) edge (places_at pieces second)) (range_with_len 0 (length (places_at pieces second))))
  where
    P : Merge → Type 0
    P m = ((m.first ≡ first) × (m.second ≡ second)) × (m.edge ≡ edge)

    by_case : (o : Option ℕ) → All P (cons_option (option_map (λ facing. record { first = first; second = second; edge = edge; facing = facing }) o) [])
    by_case None = All-nil P
    by_case (Some facing) = All-cons P (record { first = first; second = second; edge = edge; facing = facing }) [] ((refl, refl), refl) (All-nil P)

one_rises : (o : Option Merge) → Rises place_lt (cons_option o [])
one_rises None = tt
one_rises (Some m) = (All-nil (λ n. place_lt n m ≡ false), tt)

between_rises : (pieces : List Piece) (first second : ℕ) → Rises place_lt (merges_between pieces first second)
between_rises pieces first second =
    subst (Rises place_lt) (sym (filter_map-gathered (merge_over pieces first second) (range_with_len 0 (length (places_at pieces first)))))
    (rises_gathered place_lt (λ m. (m.first ≡ first) × (m.second ≡ second)) (λ (m : Merge). m.edge) (λ edge. cons_option (merge_over pieces first second edge) [])
    (λ x y is is' less i. is_lt (ordering_then (cmp-same y.first x.first (is'.0 ∙ sym is.0) i) (ordering_then (cmp-same y.second x.second (is'.1 ∙ sym is.1) i) (cmp-more y.edge x.edge less i))))
    (one_edge pieces first second) (λ edge. one_rises (merge_over pieces first second edge)) 0 (length (places_at pieces first)))

-- what holds of the merges of two pieces
pub between_all : (pieces : List Piece) (first second : ℕ) (P : Merge → Type 0)
    → ((edge facing : ℕ) → edge < length (places_at pieces first)
    → find (is_facing (places_at pieces first) edge (places_at pieces second)) (range_with_len 0 (length (places_at pieces second))) ≡ Some facing
    → P (record { first = first; second = second; edge = edge; facing = facing })) → All P (merges_between pieces first second)
between_all pieces first second P each =
    all_found (merge_over pieces first second) P (range_with_len 0 (length (places_at pieces first)))
    (All-weaker (λ edge. (0 ≤ edge) × (edge < 0 + length (places_at pieces first))) (λ edge. (m : Merge) → merge_over pieces first second edge ≡ Some m → P m)
    (λ edge below m is. one edge (omega (arith, below.1)) m _ refl is) (range_with_len 0 (length (places_at pieces first))) (all_range 0 (length (places_at pieces first))))
  where
    at : ℕ → ℕ → Merge
    at edge facing = record { first = first; second = second; edge = edge; facing = facing }

    one : (edge : ℕ) → edge < length (places_at pieces first) → (m : Merge) (o : Option ℕ)
        → find (is_facing (places_at pieces first) edge (places_at pieces second)) (range_with_len 0 (length (places_at pieces second))) ≡ o
        → option_map (at edge) o ≡ Some m → P m
    one edge below m None e is = absurd (cc)
    one edge below m (Some facing) e is = let same : at edge facing ≡ m = cc in subst P same (each edge facing below e)

from_rises : (pieces : List Piece) (first : ℕ) → Rises place_lt (merges_from pieces first)
from_rises pieces first =
    rises_gathered place_lt (λ m. m.first ≡ first) (λ (m : Merge). m.second) (merges_between pieces first)
    (λ x y is is' less i. is_lt (ordering_then (cmp-same y.first x.first (is' ∙ sym is) i) (ordering_then (cmp-more y.second x.second less i) (nat_cmp y.edge x.edge))))
    (λ second. between_all pieces first second (λ m. (m.first ≡ first) × (m.second ≡ second)) (λ edge facing below found. (refl, refl)))
    (between_rises pieces first) (first + 1) (length pieces - (first + 1))

of_rises : (pieces : List Piece) → Rises place_lt (merges_of pieces)
of_rises pieces =
    rises_gathered place_lt (λ m. m ≡ m) (λ (m : Merge). m.first) (merges_from pieces)
    (λ x y is is' less i. is_lt (ordering_then (cmp-more y.first x.first less i) (ordering_then (nat_cmp y.second x.second) (nat_cmp y.edge x.edge))))
    (λ first. all_gathered (λ m. (m ≡ m) × (m.first ≡ first)) (merges_between pieces first) (range_with_len (first + 1) (length pieces - (first + 1)))
    (λ k d below. between_all pieces first _ (λ m. (m ≡ m) × (m.first ≡ first)) (λ edge facing below' found. (refl, refl))))
    (from_rises pieces) 0 (length pieces)

module _ (corners : List Point) (pieces : List Piece) where
  abbrev choice_cmp : Merge → Merge → Ordering
  choice_cmp m other = ordering_then (nat_cmp (shared_length corners pieces other) (shared_length corners pieces m)) (place_cmp m other)

  choice_total : IsTotalOrder choice_cmp
  choice_total =
      then_total {R = flip_args (on (shared_length corners pieces) nat_cmp)} {S = place_cmp} (back_total (on_total (shared_length corners pieces) nat_cmp_total)) place_total

  choice_order : IsStrictWeakOrder (comes_before corners pieces)
  choice_order = ranks_by choice_total (λ (m : Merge). m)

  -- ---- what stands in the list of the merges that may be made

  -- the admissible of candidates
  pub admissible_each : (merges : List Merge) → All (IsCandidate pieces) merges → All (IsChoice corners pieces) (admissible_of corners pieces merges)
  admissible_each merges each =
      All-weaker (λ m. IsCandidate pieces m × (is_admissible corners pieces m ≡ true)) (IsChoice corners pieces) (λ m is. record { candidate = is.0; admissible = is.1 })
      (admissible_of corners pieces merges) (filter-passes (is_admissible corners pieces) (IsCandidate pieces) merges each)

  pub between_candidates : (first second : ℕ) → first < second → second < length pieces → All (IsCandidate pieces) (merges_between pieces first second)
  between_candidates first second before there =
      between_all pieces first second (IsCandidate pieces) (λ edge facing below found. record { first = before; second = there; edge = below; found = found })

  pub from_candidates : (first : ℕ) → All (IsCandidate pieces) (merges_from pieces first)
  from_candidates first =
      all_gathered (IsCandidate pieces) (merges_between pieces first) (range_with_len (first + 1) (length pieces - (first + 1)))
      (All-weaker (λ i. (first + 1 ≤ i) × (i < first + 1 + (length pieces - (first + 1)))) (λ second. All (IsCandidate pieces) (merges_between pieces first second))
      (λ second is. between_candidates first second (omega (arith, is.0)) (omega (arith, is.0, is.1))) _ (all_range (first + 1) (length pieces - (first + 1))))

  pub onto_candidates : (second : ℕ) → second < length pieces → All (IsCandidate pieces) (merges_onto pieces second)
  onto_candidates second there =
      all_gathered (IsCandidate pieces) (λ first. merges_between pieces first second) (range_with_len 0 second)
      (All-weaker (λ i. (0 ≤ i) × (i < 0 + second)) (λ first. All (IsCandidate pieces) (merges_between pieces first second))
      (λ first is. between_candidates first second (omega (arith, is.1)) there) _ (all_range 0 second))

  pub of_candidates : All (IsCandidate pieces) (merges_of pieces)
  of_candidates = all_gathered (IsCandidate pieces) (merges_from pieces) (range_with_len 0 (length pieces)) (λ k d below. from_candidates _)

  -- a candidate is listed
  pub between_has : (m : Merge) → IsCandidate pieces m → Contains (merges_between pieces m.first m.second) m
  between_has m is =
      contains_found (merge_over pieces m.first m.second) (range_with_len 0 (length (places_at pieces m.first))) m.edge m
      (contains_range 0 (length (places_at pieces m.first)) m.edge (omega arith) (omega (arith, is.edge)))
      (ap (option_map (λ facing. record { first = m.first; second = m.second; edge = m.edge; facing = facing })) is.found)

  pub from_has : (m : Merge) → IsCandidate pieces m → Contains (merges_from pieces m.first) m
  from_has m is =
      contains_gathered (merges_between pieces m.first) (range_with_len (m.first + 1) (length pieces - (m.first + 1))) m.second m
      (contains_range (m.first + 1) (length pieces - (m.first + 1)) m.second (omega (arith, is.first)) (omega (arith, is.first, is.second))) (between_has m is)

  pub onto_has : (m : Merge) → IsCandidate pieces m → Contains (merges_onto pieces m.second) m
  onto_has m is =
      contains_gathered (λ first. merges_between pieces first m.second) (range_with_len 0 m.second) m.first m
      (contains_range 0 m.second m.first (omega arith) (omega (arith, is.first))) (between_has m is)

  of_has : (m : Merge) → IsCandidate pieces m → Contains (merges_of pieces) m
  of_has m is =
      contains_gathered (merges_from pieces) (range_with_len 0 (length pieces)) m.first m
      (contains_range 0 (length pieces) m.first (omega arith) (omega (arith, is.first, is.second))) (from_has m is)

  -- the merges that may be made, as they are first found
  pub all_choices : AreChoices corners pieces (admissible_of corners pieces (merges_of pieces))
  all_choices = record {
    each = admissible_each (merges_of pieces) of_candidates;
    all = λ m is. kept_if_passes (is_admissible corners pieces) (merges_of pieces) m is.admissible (of_has m is.candidate);
  }

  -- ---- the first of the longest

  shorter : (x y : Merge) → shared_length corners pieces x < shared_length corners pieces y → comes_before corners pieces x y ≡ false
  shorter x y less i = is_lt (ordering_then (cmp-more (shared_length corners pieces y) (shared_length corners pieces x) less i) (place_cmp x y))

  as_long : (x y : Merge) → shared_length corners pieces x ≡ shared_length corners pieces y → place_lt x y ≡ false → comes_before corners pieces x y ≡ false
  as_long x y same later =
      (λ i. is_lt (ordering_then (cmp-same (shared_length corners pieces y) (shared_length corners pieces x) (sym same) i) (place_cmp x y))) ∙ later

  not_longer : (x y : Merge) → comes_before corners pieces x y ≡ false → shared_length corners pieces x ≤ shared_length corners pieces y
  not_longer x y is =
      by_ranked (b < a) (b ≡ a) (a < b) (nat_cmp b a) (ranked b a (nat_cmp b a) refl)
      (λ e less. absurd (both_ways (comes_before corners pieces x y) is (ap (λ o. is_lt (ordering_then o (place_cmp x y))) e))) (λ e same. omega (arith, same)) (λ e more. omega (arith, more))
    where
      a : ℕ
      a = shared_length corners pieces x

      b : ℕ
      b = shared_length corners pieces y

  itself : (m : Merge) → comes_before corners pieces m m ≡ false
  itself m = by_case (comes_before corners pieces m m) refl
    where
      by_case : (b : Bool) → comes_before corners pieces m m ≡ b → b ≡ false
      by_case true before = sym before ∙ choice_order.one_way m m before
      by_case false after = refl

  -- in a list that stands in order, none comes before the first of the longest
  none_before : (xs : List Merge) (b : Merge) → Rises place_lt xs → first_best (is_longer corners pieces) xs ≡ Some b → All (λ x. comes_before corners pieces x b ≡ false) xs
  none_before [] b up is = absurd cc
  none_before (y ∷ []) b up is =
      let at : y ≡ b = cc in
      subst (λ (v : Merge). All (λ x. comes_before corners pieces x v ≡ false) (y ∷ [])) at
      (All-cons (λ x. comes_before corners pieces x y ≡ false) y [] (itself y) (All-nil (λ x. comes_before corners pieces x y ≡ false)))
  none_before (y ∷ z ∷ zs) b up is =
      let best : Merge = or_earlier (is_longer corners pieces) z (first_best (is_longer corners pieces) zs) in
      let at : (if is_longer corners pieces best y then best else y) ≡ b = cc in
      by_beat best (none_before (z ∷ zs) best up.1 refl) (is_longer corners pieces best y) refl at
    where
      behind : (best x : Merge) → comes_before corners pieces x best ≡ false → is_longer corners pieces best y ≡ false → place_lt x y ≡ false → comes_before corners pieces x y ≡ false
      behind best x is not later =
          let not_more = not_longer x best is in
          let no_more : shared_length corners pieces best ≤ shared_length corners pieces y = below_if_not (shared_length corners pieces y) (shared_length corners pieces best) not in
          by_ranked (shared_length corners pieces x < shared_length corners pieces y) (shared_length corners pieces x ≡ shared_length corners pieces y)
          (shared_length corners pieces y < shared_length corners pieces x) (nat_cmp (shared_length corners pieces x) (shared_length corners pieces y)) (ranked (shared_length corners pieces x) (shared_length corners pieces y) (nat_cmp (shared_length corners pieces x) (shared_length corners pieces y)) refl)
          (λ e less. shorter x y less) (λ e same. as_long x y same later) (λ e more. absurd (omega (arith, more, not_more, no_more)))

      by_beat : (best : Merge) → All (λ x. comes_before corners pieces x best ≡ false) (z ∷ zs) → (c : Bool) → is_longer corners pieces best y ≡ c → (if c then best else y) ≡ b
          → All (λ x. comes_before corners pieces x b ≡ false) (y ∷ z ∷ zs)
      by_beat best each true e same =
          subst (λ (v : Merge). All (λ x. comes_before corners pieces x v ≡ false) (y ∷ z ∷ zs)) same
          (All-cons (λ x. comes_before corners pieces x best ≡ false) y (z ∷ zs) (shorter y best (below_if (shared_length corners pieces y) (shared_length corners pieces best) e)) each)
      by_beat best each false e same =
          subst (λ (v : Merge). All (λ x. comes_before corners pieces x v ≡ false) (y ∷ z ∷ zs)) same
          (All-cons (λ x. comes_before corners pieces x y ≡ false) y (z ∷ zs) (itself y)
          (λ k d there. behind best (get_or (z ∷ zs) k d) (each k d there) e (up.0 k d there)))

  -- an empty choice has nothing to choose from
  has_first : (beats : Merge → Merge → Bool) (xs : List Merge) (x : Merge) → Contains xs x → first_best beats xs ≡ None → ⊥
  has_first beats [] x held is = contains_none x held
  has_first beats (y ∷ ys) x held is = absurd cc

  -- two that tie are one
  one_choice : (m b : Merge) → IsChoice corners pieces m → IsChoice corners pieces b → comes_before corners pieces m b ≡ false → comes_before corners pieces b m ≡ false → m ≡ b
  one_choice m b is is' mb bm =
      let places = (both_tie (nat_cmp (shared_length corners pieces b) (shared_length corners pieces m)) (place_cmp m b) (ties choice_cmp choice_total m b mb bm)).1 in
      let first = both_tie (nat_cmp m.first b.first) (ordering_then (nat_cmp m.second b.second) (nat_cmp m.edge b.edge)) places in
      let second = both_tie (nat_cmp m.second b.second) (nat_cmp m.edge b.edge) first.1 in
      same m.first m.second m.edge m.facing b.first b.second b.edge b.facing (nat_tie m.first b.first first.0) (nat_tie m.second b.second second.0) (nat_tie m.edge b.edge second.1)
      is.candidate.found is'.candidate.found
    where
      faced : ℕ → ℕ → ℕ → Option ℕ
      faced first second edge = find (is_facing (places_at pieces first) edge (places_at pieces second)) (range_with_len 0 (length (places_at pieces second)))

      same : (f s e g f' s' e' g' : ℕ) → f ≡ f' → s ≡ s' → e ≡ e' → faced f s e ≡ Some g → faced f' s' e' ≡ Some g'
          → Path Merge (record { first = f; second = s; edge = e; facing = g }) (record { first = f'; second = s'; edge = e'; facing = g' })
      same f s e g f' s' e' g' first second edge found found' =
          let facing : Some g ≡ Some g' = sym found ∙ (λ i. faced (first i) (second i) (edge i)) ∙ found' in
          let g-is : g ≡ g' = cc in
          (λ i. record { first = first i; second = second i; edge = edge i; facing = g-is i })

  -- the one that comes next of all that may be made
  pub next_merge : (merges : List Merge) → AreChoices corners pieces merges → fold (or_later (comes_before corners pieces)) None merges ≡ best_merge corners pieces
  unfolding best_merge
  next_merge merges are =
      first_best-fold (comes_before corners pieces) choice_order merges
      ∙ by_case (first_best (comes_before corners pieces) merges) (first_best (is_longer corners pieces) listed) refl refl
    where
      listed : List Merge
      listed = admissible_of corners pieces (merges_of pieces)

      held : (b : Merge) → first_best (is_longer corners pieces) listed ≡ Some b → IsChoice corners pieces b
      held b is = first_best-all (is_longer corners pieces) (IsChoice corners pieces) listed b all_choices.each is

      kept : (m : Merge) → first_best (comes_before corners pieces) merges ≡ Some m → IsChoice corners pieces m
      kept m is = first_best-all (comes_before corners pieces) (IsChoice corners pieces) merges m are.each is

      by_case : (o p : Option Merge) → first_best (comes_before corners pieces) merges ≡ o → first_best (is_longer corners pieces) listed ≡ p → o ≡ p
      by_case None None is is' = refl
      by_case None (Some b) is is' = absurd (has_first (comes_before corners pieces) merges b (are.all b (held b is')) is)
      by_case (Some m) None is is' = absurd (has_first (is_longer corners pieces) listed m (all_choices.all m (kept m is)) is')
      by_case (Some m) (Some b) is is' =
          ap Some (one_choice m b (kept m is) (held b is')
          (All-contains (λ x. comes_before corners pieces x b ≡ false) listed m (none_before listed b (rises_kept place_lt (is_admissible corners pieces) (merges_of pieces) (of_rises pieces)) is')
          (all_choices.all m (kept m is)))
          (All-contains (λ x. comes_before corners pieces x m ≡ false) merges b (first_best-least (comes_before corners pieces) choice_order merges m is) (are.all b (held b is'))))

-- merges of the code that may be made are merges of the pieces
pub choices_there : (corners : List Point) (pieces : List Piece) (merges : List code.Merge) → AreChoices corners pieces (map seen merges) → All (IsMergeOf pieces) merges
choices_there corners pieces merges are =
    each_of (IsMergeOf pieces) merges (λ m held. there m (All-contains (IsChoice corners pieces) (map seen merges) (seen m) are.each (contains_map seen merges m held)))
  where
    there : (m : code.Merge) → IsChoice corners pieces (seen m) → IsMergeOf pieces m
    there m is = record {
      first = is.candidate.first;
      second = is.candidate.second;
      edge = is.candidate.edge;
      facing = omega (arith, find-below (is_facing (places_at pieces m.first) m.edge (places_at pieces m.second)) 0 (length (places_at pieces m.second)) m.facing is.candidate.found);
      shared = find-passes (is_facing (places_at pieces m.first) m.edge (places_at pieces m.second)) (range_with_len 0 (length (places_at pieces m.second))) m.facing is.candidate.found;
    }
