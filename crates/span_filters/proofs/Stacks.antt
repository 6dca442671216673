-- Gaps of spans that stand one above the other: which of them show nothing.
use Rattle.std.proofs.Common.{◌≡◌, ℕ, ◌+◌, ◌<◌, ◌≤◌, Bool, true, false, length, List, [], ◌∷◌, ◌++◌, take, drop, get_or, ap, ◌∙◌, sym, refl, subst, Option, Some, None, arith, zero, suc, max, min}
use Rattle.std.specs.Prelude.{⊤, All, AllPairs, IfSome, filter, nat_le, if◌then◌else◌}
use Rattle.std.specs.Option.{option_map_or}
use Rattle.std.proofs.lemmas.Bool.{lt-leb, le-ltb, eqb-true}
use Rattle.std.proofs.lemmas.List.{take-append-drop, get_or-take, get_or-drop, length-take-le, length-drop}
use Rattle.std.proofs.lemmas.List.Elements.{All-head, All-tail, All-take, All-filter, filter-append, filter_passes}
use Rattle.std.proofs.lemmas.List.Kept.{AllPairs-filter}
use Rattle.nav_ground.specs.declared.field.Span.{Span}
use Rattle.nav_ground.specs.Column.{gaps_over, gaps_of}
use Rattle.nav_ground.specs.Fields.{IsSpan, IsSpanBefore}
use Rattle.span_filters.specs.declared.gaps.AgentStand.{AgentStand}
use Rattle.span_filters.specs.declared.gaps.GapsSeen.{GapsSeen}
use Rattle.span_filters.specs.Columns.{AreSpans, IsCutAt, column_of, is_in, place_of, start_of, floor_over, ceiling_over}
use Rattle.span_filters.specs.Gaps.{IsStand, is_open_to, with_gap, with_floor, seen_over}
use Rattle.span_filters.proofs.Neighbours.{stacked}

-- a height is not below a floor, if there is one
abbrev pub IsOver : Option ℕ → ℕ → Type 0
IsOver floor height = IfSome floor (λ f. f ≤ height)

-- spans stand one above the other over a floor
abbrev pub IsStack : Option ℕ → List Span → Type 0
IsStack floor [] = ⊤
IsStack floor (span ∷ above) = IsOver floor span.bottom × (span.bottom < span.top) × IsStack (Some span.top) above

-- the greater floor over which a gap is open is at least the own one, and at least the gap's
higher : ℕ → Option ℕ → ℕ
higher own floor = option_map_or (λ f. max own f) floor own

own_below : (own : ℕ) (floor : Option ℕ) → own ≤ higher own floor
unfolding higher
own_below own None = omega arith
own_below own (Some f) = omega arith

-- a gap whose ceiling is too low for the own floor shows nothing
closed_below : (stand : AgentStand) (seen : GapsSeen) (floor : Option ℕ) (ceiling : ℕ) → ceiling < stand.floor + stand.height
    → with_gap stand seen (record { floor = floor; ceiling = ceiling }) ≡ seen
unfolding higher
closed_below stand seen floor ceiling low =
    let over = own_below stand.floor floor in
    let closed : is_open_to stand (record { floor = floor; ceiling = ceiling }) ≡ false =
    lt-leb (higher stand.floor floor + stand.height) (min stand.ceiling ceiling) (omega (arith, low, over)) in
    ap (λ b. if b then option_map_or (with_floor stand seen) floor (record seen { beside_drop = true }) else seen) closed

-- a gap whose floor is more than the climb too high shows nothing
past_climb : (stand : AgentStand) (seen : GapsSeen) (floor ceiling : ℕ) → stand.floor + stand.climb < floor
    → with_gap stand seen (record { floor = Some floor; ceiling = ceiling }) ≡ seen
past_climb stand seen floor ceiling high =
    elim (is_open_to stand (record { floor = Some floor; ceiling = ceiling })) as (λ b. (if b then with_floor stand seen floor else seen) ≡ seen) [
      | true ↦ ap (λ b. if b then record seen { beside_drop = true }
          else (if nat_le floor (stand.floor + stand.climb) then record seen { least = min seen.least floor; greatest = max seen.greatest floor } else seen))
          (le-ltb (floor + stand.climb) stand.floor (omega (arith, high)))
          ∙ ap (λ b. if b then record seen { least = min seen.least floor; greatest = max seen.greatest floor } else seen)
          (lt-leb floor (stand.floor + stand.climb) high)
      | false ↦ refl
    ]

-- spans whose bottoms are too low show nothing
pub passed_gaps : (stand : AgentStand) (seen : GapsSeen) (floor : Option ℕ) (xs ys : List Span)
    → All (λ (s : Span). s.bottom < stand.floor + stand.height) xs
    → seen_over stand seen (gaps_over floor (xs ++ ys)) ≡ seen_over stand seen (gaps_over (floor_over floor xs) ys)
passed_gaps stand seen floor [] ys each = refl
passed_gaps stand seen floor (s ∷ xs) ys each =
    let P = λ (t : Span). t.bottom < stand.floor + stand.height in
    ap (λ (now : GapsSeen). seen_over stand now (gaps_over (Some s.top) (xs ++ ys))) (closed_below stand seen floor s.bottom (All-head P s xs each))
    ∙ passed_gaps stand seen (Some s.top) xs ys (All-tail P s xs each)

-- spans over a floor that is too high show nothing
gaps_too_high : (stand : AgentStand) (seen : GapsSeen) (floor : ℕ) (xs : List Span) → IsStack (Some floor) xs → stand.floor + stand.climb < floor
    → seen_over stand seen (gaps_over (Some floor) xs) ≡ seen
gaps_too_high stand seen floor [] stack high = past_climb stand seen floor 65535 high
gaps_too_high stand seen floor (s ∷ xs) stack high =
    ap (λ (now : GapsSeen). seen_over stand now (gaps_over (Some s.top) xs)) (past_climb stand seen floor s.bottom high)
    ∙ gaps_too_high stand seen s.top xs stack.2 (omega (arith, high, stack.0, stack.1))

-- of spans whose bottoms are high enough only the gap below the first shows something
first_gap : (stand : AgentStand) (seen : GapsSeen) (floor : Option ℕ) (xs : List Span) → IsStand stand → IsStack floor xs
    → All (λ (s : Span). stand.floor + stand.height ≤ s.bottom) xs
    → with_gap stand seen (record { floor = floor; ceiling = ceiling_over xs }) ≡ seen_over stand seen (gaps_over floor xs)
first_gap stand seen floor [] at stack high = refl
first_gap stand seen floor (s ∷ xs) at stack high =
    let bottom = All-head (λ (s : Span). stand.floor + stand.height ≤ s.bottom) s xs high in
    sym (gaps_too_high stand (with_gap stand seen (record { floor = floor; ceiling = s.bottom })) s.top xs stack.2 (omega (arith, bottom, at.climb, stack.1)))

-- the rest of a stack
pub rest_of_stack : (floor : Option ℕ) (xs ys : List Span) → IsStack floor (xs ++ ys) → IsStack (floor_over floor xs) ys
rest_of_stack floor [] ys stack = stack
rest_of_stack floor (s ∷ xs) ys stack = rest_of_stack (Some s.top) xs ys stack.2

-- spans of which each ends before each later one begins stand one above the other
AllPairs-rest : {A : Type 0} (R : A → A → Type 0) (x : A) (xs : List A) → AllPairs R (x ∷ xs) → All (R x) xs × AllPairs R xs
AllPairs-rest R x xs pairs = (
  λ k d there. pairs zero (suc k) d (omega arith) (omega (arith, there)),
  λ i j d before there. pairs (suc i) (suc j) d (omega (arith, before)) (omega (arith, there)),
)

stack_of : (floor : Option ℕ) (xs : List Span) → All (λ (s : Span). IsOver floor s.bottom) xs → All (λ (s : Span). s.bottom < s.top) xs
    → AllPairs (λ (a b : Span). a.top ≤ b.bottom) xs → IsStack floor xs
stack_of floor [] over solid pairs = tt
stack_of floor (s ∷ xs) over solid pairs =
    let rest = AllPairs-rest (λ (a b : Span). a.top ≤ b.bottom) s xs pairs in (
      All-head (λ (t : Span). IsOver floor t.bottom) s xs over,
      All-head (λ (t : Span). t.bottom < t.top) s xs solid,
      stack_of (Some s.top) xs rest.0 (All-tail (λ (t : Span). t.bottom < t.top) s xs solid) rest.1,
    )

-- the spans of a column stand one above the other
pub column_stack : (spans : List Span) (column : ℕ) → AreSpans spans → IsStack None (filter (is_in column) spans)
column_stack spans column rules' =
    let own = filter (is_in column) spans in
    let each = All-filter (is_in column) (IsSpan 1024 1024) spans rules'.each in
    let inside = filter_passes (is_in column) spans in
    let pairs = AllPairs-filter IsSpanBefore (is_in column) spans rules'.order in
    stack_of None own (λ k d there. tt) (λ k d there. (each k d there).solid)
    (λ i j d before there.
    let at = eqb-true _ _ (inside i d (omega arith)) in
    let at' = eqb-true _ _ (inside j d there) in
    stacked (get_or own i d) (get_or own j d) (each i d (omega arith)) (each j d there) (pairs i j d before there) (at ∙ sym at'))

-- a floor over spans is the top of one of them
floor_small : (floor : Option ℕ) (xs : List Span) → IfSome floor (λ f. f ≤ 8191) → All (IsSpan 1024 1024) xs → IfSome (floor_over floor xs) (λ f. f ≤ 8191)
floor_small floor [] small each = small
floor_small floor (s ∷ xs) small each =
    floor_small (Some s.top) xs (All-head (IsSpan 1024 1024) s xs each).top (All-tail (IsSpan 1024 1024) s xs each)

-- a list cut in two
cut : {A : Type 0} (p : A → Bool) (n : ℕ) (xs : List A) → filter p (take n xs) ++ filter p (drop n xs) ≡ filter p xs
cut p n xs = sym (filter-append p (take n xs) (drop n xs)) ∙ ap (filter p) (take-append-drop n xs)

module _ (stand : AgentStand) (spans : List Span) (n column : ℕ) (rules' : AreSpans spans) (at : IsStand stand)
    (first : IsCutAt spans n (place_of column (stand.floor + stand.height))) where
  -- the spans of the column before the first one are too low
  low_before : All (λ (s : Span). s.bottom < stand.floor + stand.height) (filter (is_in column) (take n spans))
  low_before k d there =
      let P : Span → Type 0 = λ (s : Span). start_of s < place_of column (stand.floor + stand.height) in
      let each : All P (take n spans) = λ j e within.
      let fewer = length-take-le n spans first.passed.most in
      subst P (sym (get_or-take n spans j e (omega (arith, fewer, within)))) (first.passed.before j e (omega (arith, fewer, within))) in
      let before = All-filter (is_in column) P (take n spans) each k d there in
      let inside = eqb-true _ _ (filter_passes (is_in column) (take n spans) k d there) in
      omega (arith, before, inside)

  -- and from the first one on high enough
  high_from : All (λ (s : Span). stand.floor + stand.height ≤ s.bottom) (filter (is_in column) (drop n spans))
  high_from k d there =
      let P : Span → Type 0 = λ (s : Span). place_of column (stand.floor + stand.height) ≤ start_of s in
      let each : All P (drop n spans) = λ j e within.
      let fewer = length-drop n spans in
      subst P (sym (get_or-drop n spans j e)) (first.after (n + j) e (omega arith) (omega (arith, fewer, within))) in
      let after = All-filter (is_in column) P (drop n spans) each k d there in
      let inside = eqb-true _ _ (filter_passes (is_in column) (drop n spans) k d there) in
      omega (arith, after, inside)

  -- from the first one on no span lies in an earlier column
  pub next_from : (k : ℕ) (d : Span) → n ≤ k → k < length spans → column ≤ column_of (get_or spans k d)
  next_from k d above there =
      let after = first.after k d above there in
      let solid = (rules'.each k d there).solid in
      let top = (rules'.each k d there).top in
      omega (arith, after, solid, top)

  module _ (floor : Option ℕ) (under : floor ≡ floor_over None (filter (is_in column) (take n spans))) where
    stack_from : IsStack floor (filter (is_in column) (drop n spans))
    stack_from =
        let P : Option ℕ → Type 0 = λ f. IsStack f (filter (is_in column) (drop n spans)) in
        let Q : List Span → Type 0 = λ xs. IsStack None xs in
        subst P (sym under) (rest_of_stack None (filter (is_in column) (take n spans)) (filter (is_in column) (drop n spans))
        (subst Q (sym (cut (is_in column) n spans)) (column_stack spans column rules')))

    seen_from : (seen : GapsSeen) → seen_over stand seen (gaps_over floor (filter (is_in column) (drop n spans)))
        ≡ seen_over stand seen (gaps_of (filter (is_in column) spans))
    seen_from seen =
        ap (λ f. seen_over stand seen (gaps_over f (filter (is_in column) (drop n spans)))) under
        ∙ sym (passed_gaps stand seen None (filter (is_in column) (take n spans)) (filter (is_in column) (drop n spans)) low_before)
        ∙ ap (λ xs. seen_over stand seen (gaps_over None xs)) (cut (is_in column) n spans)

    pub gap_from : (seen : GapsSeen) → with_gap stand seen (record { floor = floor; ceiling = ceiling_over (filter (is_in column) (drop n spans)) })
        ≡ seen_over stand seen (gaps_of (filter (is_in column) spans))
    gap_from seen = first_gap stand seen floor (filter (is_in column) (drop n spans)) at stack_from high_from ∙ seen_from seen

    pub floor_from : IfSome floor (λ f. f ≤ 8191)
    floor_from =
        let P : Option ℕ → Type 0 = λ f. IfSome f (λ h. h ≤ 8191) in
        subst P (sym under) (floor_small None (filter (is_in column) (take n spans)) tt
        (All-filter (is_in column) (IsSpan 1024 1024) (take n spans) (All-take (IsSpan 1024 1024) n spans rules'.each)))
