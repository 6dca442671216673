-- Places in order: those with one position and level stand together.
use Rattle.std.proofs.Common.{◌≡◌, ℕ, ◌+◌, ◌-◌, ◌<◌, ◌≤◌, ◌⊎◌, Bool, true, false, not, List, ◌++◌, length, take, drop, filter, get_or, ap, ◌∙◌, sym, refl, arith, tests, inl, inr}
use Rattle.std.specs.Prelude.{All}
use Rattle.std.specs.Bool.{IsTrue}
use Rattle.std.specs.List.{AllWithin, prefix_len}
use Rattle.std.specs.List.Sorted.{IsPartitionedBy, IsPartitionPoint}
use Rattle.std.specs.Ordering.{is_lt, nat_cmp, ordering_then, on}
use Rattle.std.specs.declared.cmp.Ordering.{Ordering}
use Rattle.std.specs.declared.cmp.Ordering.TheVariants.{Less, Equal}
use Rattle.std.specs.Cmp.{IsStrictWeakOrder, IsTotalOrder, nat_cmp_is}
use Rattle.std.proofs.lemmas.Bool.{both_ways, cases_order}
use Rattle.std.proofs.lemmas.Cmp.{then_total, on_total, nat_cmp_total}
use Rattle.std.proofs.lemmas.List.{get_or_default, take-append-drop, append-nil, get_or-take, get_or-drop, length-take, length-drop}
use Rattle.std.proofs.lemmas.List.Elements.{filter-append}
use Rattle.std.proofs.lemmas.List.MinMax.{ranks_by}
use Rattle.std.proofs.lemmas.List.Sorted.{sorted_far}
use Rattle.std.proofs.lemmas.List.Sums.{prefix_len_passes, prefix_len_stops}
use Rattle.nav_ground.proofs.Selections.{filter_all, filter_none}
use Rattle.tile_links.specs.declared.rim.RimPlace.{RimPlace}
use Rattle.tile_links.specs.RimPlaces.{place_cmp, AreInOrder, is_before_place, is_at_place}

place_total : IsTotalOrder place_cmp
place_total =
    then_total {R = on (λ (p : RimPlace). p.position) nat_cmp} {S = on (λ (p : RimPlace). p.level) nat_cmp}
    (on_total (λ (p : RimPlace). p.position) nat_cmp_total) (on_total (λ (p : RimPlace). p.level) nat_cmp_total)

abbrev pub comes_before : RimPlace → RimPlace → Bool
comes_before a b = is_lt (place_cmp a b)

pub places_order : IsStrictWeakOrder comes_before
places_order = ranks_by place_total (λ (place : RimPlace). place)

-- a place that another does not come before has no later position, and no later level at one position
IsNotAfter : RimPlace → RimPlace → Type 0
IsNotAfter a b = (a.position < b.position) ⊎ ((a.position ≡ b.position) × (a.level ≤ b.level))

later_position : (a b : RimPlace) → b.position < a.position → comes_before b a ≡ true
later_position a b less = ap (λ (o : Ordering). is_lt (ordering_then o (nat_cmp b.level a.level))) (sym (nat_cmp_is b.position a.position Less less))

later_level : (a b : RimPlace) → b.position ≡ a.position → b.level < a.level → comes_before b a ≡ true
later_level a b same less =
    ap (λ (o : Ordering). is_lt (ordering_then o (nat_cmp b.level a.level))) (sym (nat_cmp_is b.position a.position Equal same))
    ∙ ap (λ (o : Ordering). is_lt o) (sym (nat_cmp_is b.level a.level Less less))

not_after : (a b : RimPlace) → comes_before b a ≡ false → IsNotAfter a b
unfolding IsNotAfter
not_after a b after = elim (cases_order a.position b.position) [
  | inr (inl less) ↦ inl less
  | inr (inr more) ↦ absurd (both_ways (comes_before b a) after (later_position a b more))
  | inl same ↦ elim (cases_order a.level b.level) [
    | inl equal ↦ inr (same, omega (arith, equal))
    | inr (inl less) ↦ inr (same, omega (arith, less))
    | inr (inr more) ↦ absurd (both_ways (comes_before b a) after (later_level a b (sym same) more))
  ]
]

-- the tests, as facts
before_is : (position level : ℕ) (place : RimPlace) → is_before_place position level place ≡ true
    → (place.position < position) ⊎ ((place.position ≡ position) × (place.level < level))
before_is position level place h = grind (arith, tests)

before_from : (position level : ℕ) (place : RimPlace) → (place.position < position) ⊎ ((place.position ≡ position) × (place.level < level))
    → is_before_place position level place ≡ true
before_from position level place h = grind (arith, tests)

at_is : (position level : ℕ) (place : RimPlace) → is_at_place position level place ≡ true → (place.position ≡ position) × (place.level ≡ level)
at_is position level place h = grind (arith, tests)

at_from : (position level : ℕ) (place : RimPlace) → place.position ≡ position → place.level ≡ level → is_at_place position level place ≡ true
at_from position level place h k = grind (arith, tests)

early_not_at : (position level : ℕ) (place : RimPlace) → is_before_place position level place ≡ true → is_at_place position level place ≡ false
early_not_at position level place h = grind (arith, tests)

before_still : (a b : RimPlace) (position level : ℕ) → IsNotAfter a b → (b.position < position) ⊎ ((b.position ≡ position) × (b.level < level))
    → (a.position < position) ⊎ ((a.position ≡ position) × (a.level < level))
unfolding IsNotAfter
before_still a b position level near early = grind arith

at_still : (a b : RimPlace) (position level : ℕ) → IsNotAfter a b → b.position ≡ position → b.level ≡ level
    → ((a.position < position) ⊎ ((a.position ≡ position) × (a.level < level)) → ⊥) → (a.position ≡ position) × (a.level ≡ level)
unfolding IsNotAfter
at_still a b position level (inl less) at_position at_level late = absurd (late (inl (omega (arith, less, at_position))))
at_still a b position level (inr (same, most)) at_position at_level late = elim (cases_order a.level level) [
  | inl equal ↦ (same ∙ at_position, equal)
  | inr (inl less) ↦ absurd (late (inr (same ∙ at_position, less)))
  | inr (inr more) ↦ absurd (omega (arith, more, most, at_level))
]

-- so those that come before a position and level stand first,
pub before_first : (position level : ℕ) (places : List RimPlace) → AreInOrder places → IsPartitionedBy (is_before_place position level) places
before_first position level places order i j d le there later =
    let a : RimPlace = get_or places i d in
    let b : RimPlace = get_or places j d in
    before_from position level a
    (before_still a b position level (not_after a b (sorted_far comes_before places_order places order i j d le there)) (before_is position level b later))

-- a place of zeros
abbrev pub blank : RimPlace
blank = record { position = 0; level = 0; entry = 0 }

-- what cannot pass fails
fails_if : (b : Bool) → (b ≡ true → ⊥) → b ≡ false
fails_if true never = absurd (never refl)
fails_if false never = refl

-- so the last of some places tells whether they all come before them,
pub last_tells : (position level : ℕ) (places : List RimPlace) (count : ℕ) (test : Bool) → AreInOrder places → 0 < count → count ≤ length places
    → test ≡ is_before_place position level (get_or places (count - 1) blank)
    → (IsTrue test → AllWithin (λ (place : RimPlace). is_before_place position level place ≡ true) places 0 count)
    × (AllWithin (λ (place : RimPlace). is_before_place position level place ≡ true) places 0 count → IsTrue test)
last_tells position level places count test order some there is = (forward, λ each. is ∙ each (count - 1) blank (omega arith) (omega (arith, some)))
  where
    forward : IsTrue test → AllWithin (λ (place : RimPlace). is_before_place position level place ≡ true) places 0 count
    forward passes k d low below =
        before_first position level places order k (count - 1) d (omega (arith, below)) (omega (arith, some, there))
        (ap (is_before_place position level) (get_or_default places (count - 1) d blank (omega (arith, some, there))) ∙ sym is ∙ passes)

-- and the first of those from one on whether none of them does,
pub first_tells : (position level : ℕ) (places : List RimPlace) (first : ℕ) (test : Bool) → AreInOrder places → first < length places
    → test ≡ is_before_place position level (get_or places first blank)
    → (IsTrue (not test) → AllWithin (λ (place : RimPlace). is_before_place position level place ≡ false) places first (length places))
    × (AllWithin (λ (place : RimPlace). is_before_place position level place ≡ false) places first (length places) → IsTrue (not test))
first_tells position level places first test order there is = (forward test is, back)
  where
    forward : (b : Bool) → b ≡ is_before_place position level (get_or places first blank) → IsTrue (not b)
        → AllWithin (λ (place : RimPlace). is_before_place position level place ≡ false) places first (length places)
    forward true same fails k d low below = absurd cc
    forward false same fails k d low below =
        fails_if (is_before_place position level (get_or places k d))
        (λ early.
        both_ways (is_before_place position level (get_or places first d))
        (ap (is_before_place position level) (get_or_default places first d blank there) ∙ sym same)
        (before_first position level places order first k d low below early))

    back : AllWithin (λ (place : RimPlace). is_before_place position level place ≡ false) places first (length places) → IsTrue (not test)
    back each = ap not (is ∙ each first blank (omega arith) there)

-- as many as pass from the first on are all that do, where those that pass stand first
pub counted : {X : Type 0} (p : X → Bool) (xs : List X) → IsPartitionedBy p xs → IsPartitionPoint (λ x. p x ≡ true) (λ x. p x ≡ false) xs (prefix_len p xs)
counted p xs parted = (
  λ k d low below. prefix_len_passes p xs k d below,
  λ k d low below. fails_if (p (get_or xs k d))
      (λ passes. both_ways (p (get_or xs (prefix_len p xs) d)) (prefix_len_stops p xs d (omega (arith, low, below))) (parted (prefix_len p xs) k d low below passes)),
)

-- of the others those that have them,
pub at_first : (position level : ℕ) (places : List RimPlace) (first : ℕ) → AreInOrder places
    → AllWithin (λ (place : RimPlace). is_before_place position level place ≡ false) places first (length places)
    → IsPartitionedBy (is_at_place position level) (drop first places)
at_first position level places first order others i j d le inside later =
    let there : first + j < length places = omega (arith, inside, length-drop first places) in
    let a : RimPlace = get_or places (first + i) d in
    let b : RimPlace = get_or places (first + j) d in
    let at = at_is position level b (ap (is_at_place position level) (sym (get_or-drop first places j d)) ∙ later) in
    let near = not_after a b (sorted_far comes_before places_order places order (first + i) (first + j) d (omega (arith, le)) there) in
    let late : is_before_place position level a ≡ false = others (first + i) d (omega arith) (omega (arith, le, there)) in
    let same = at_still a b position level near at.0 at.1 (λ early. both_ways (is_before_place position level a) late (before_from position level a early)) in
    ap (is_at_place position level) (get_or-drop first places i d) ∙ at_from position level a same.0 same.1

-- and the slice between is the places that have them
pub found_at : (position level : ℕ) (places : List RimPlace) (first count : ℕ)
    → IsPartitionPoint (λ (place : RimPlace). is_before_place position level place ≡ true) (λ (place : RimPlace). is_before_place position level place ≡ false) places first
    → IsPartitionPoint (λ (place : RimPlace). is_at_place position level place ≡ true) (λ (place : RimPlace). is_at_place position level place ≡ false) (drop first places) count
    → take count (drop first places) ≡ filter (is_at_place position level) places
found_at position level places first count point place =
    sym (ap (filter inside) (sym (take-append-drop first places))
    ∙ filter-append inside (take first places) rest
    ∙ ap (λ (ps : List RimPlace). ps ++ filter inside rest) (filter_none inside (take first places) early)
    ∙ ap (filter inside) (sym (take-append-drop count rest))
    ∙ filter-append inside (take count rest) (drop count rest)
    ∙ ap (λ (ps : List RimPlace). ps ++ filter inside (drop count rest)) (filter_all inside (take count rest) there)
    ∙ ap (λ (ps : List RimPlace). take count rest ++ ps) (filter_none inside (drop count rest) late)
    ∙ append-nil (take count rest))
  where
    inside : RimPlace → Bool
    inside = is_at_place position level

    rest : List RimPlace
    rest = drop first places

    early : All (λ (p : RimPlace). is_at_place position level p ≡ false) (take first places)
    early k d within =
        let below : k < first = omega (arith, within, length-take first places) in
        ap inside (get_or-take first places k d below) ∙ early_not_at position level (get_or places k d) (point.0 k d (omega arith) below)

    there : All (λ (p : RimPlace). is_at_place position level p ≡ true) (take count (drop first places))
    there k d within =
        let below : k < count = omega (arith, within, length-take count (drop first places)) in
        ap inside (get_or-take count (drop first places) k d below) ∙ place.0 k d (omega arith) below

    late : All (λ (p : RimPlace). is_at_place position level p ≡ false) (drop count (drop first places))
    late k d within =
        ap inside (get_or-drop count (drop first places) k d)
        ∙ place.1 (count + k) d (omega arith) (omega (arith, within, length-drop count (drop first places)))
