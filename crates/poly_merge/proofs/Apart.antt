-- Pieces with no row in common share no edge.
use Rattle.std.proofs.Common.{◌≡◌, ℕ, zero, suc, ◌+◌, ◌<◌, Bool, true, false, List, Option, [], ◌∷◌, ◌++◌, length, get_or, take, All, refl, sym, ap, subst, ◌∙◌, true≢false, arith}
use Rattle.std.specs.Prelude.{ℤ, None, Some, int_le, ◌≤ℤ◌, ◌==◌, ◌&&◌, ◌||◌}
use Rattle.std.specs.Int.{int_min, int_max}
use Rattle.std.specs.Option.{option_map}
use Rattle.std.specs.List.{cons_option, filter_map, find, list_any, range_with_len}
use Rattle.std.proofs.lemmas.Int.{ints}
use Rattle.std.proofs.lemmas.Bool.{and_from, and_parts, eqb-true}
use Rattle.std.proofs.lemmas.List.{append-nil}
use Rattle.std.proofs.lemmas.List.Elements.{All-get_or, All-head, All-more, All-tail}
use Rattle.nav_base.specs.declared.point.Point.{Point}
use Rattle.nav_base.specs.Convex.{corner_at, place_after}
use Rattle.nav_base.proofs.ConvexLaws.{place_after-in}
use Rattle.mesh_types.specs.declared.region.Piece.{Piece}
use Rattle.mesh_types.specs.Merging.{Merge, is_facing, edge_end, merge_over, merges_between, places_at}
use Rattle.mesh_types.proofs.EarLaws.{all_below}
use Rattle.poly_merge.specs.declared.edge.CornerRows.{CornerRows}
use Rattle.poly_merge.specs.Rows.{lies_in}
use Rattle.poly_merge.specs.Seen.{admissible_of}
use Rattle.poly_merge.proofs.Unions.{find-below}
use Rattle.poly_merge.proofs.Walks.{find-passes}

-- a test that all of one list pass and none of another passes tells their elements apart
clash : (t : ℕ → Bool) (p q : List ℕ) (i j : ℕ) → i < length p → j < length q → All (λ n. t n ≡ true) p → list_any t q ≡ false → get_or p i 0 ≡ get_or q j 0 → ⊥
clash t p q i j here there each none same = none_at q j there none (ap t (sym same) ∙ All-get_or (λ n. t n ≡ true) p i 0 here each)
  where
    first : (b c : Bool) → (b || c) ≡ false → b ≡ false
    first true c off = absurd (true≢false off)
    first false c off = refl

    rest : (b c : Bool) → (b || c) ≡ false → c ≡ false
    rest true c off = absurd (true≢false off)
    rest false c off = off

    none_at : (ns : List ℕ) (k : ℕ) → k < length ns → list_any t ns ≡ false → t (get_or ns k 0) ≡ true → ⊥
    none_at [] k below none passed = absurd (omega (arith, below))
    none_at (n ∷ ns) zero below none passed = true≢false (sym passed ∙ first (t n) (list_any t ns) none)
    none_at (n ∷ ns) (suc k) below none passed = none_at ns k (omega (arith, below)) (rest (t n) (list_any t ns) none) passed

-- lists with no number in common share no edge
no_facing : (p q : List ℕ) (edge : ℕ) → edge < length p → ((i j : ℕ) → i < length p → j < length q → get_or p i 0 ≡ get_or q j 0 → ⊥)
    → find (is_facing p edge q) (range_with_len 0 (length q)) ≡ None
no_facing p q edge below differ = by_found (find (is_facing p edge q) (range_with_len 0 (length q))) refl
  where
    by_found : (o : Option ℕ) → find (is_facing p edge q) (range_with_len 0 (length q)) ≡ o → find (is_facing p edge q) (range_with_len 0 (length q)) ≡ None
    by_found None is = is
    by_found (Some facing) is =
        let there : facing < 0 + length q = find-below (is_facing p edge q) 0 (length q) facing is in
        let ends = and_parts (get_or q facing 0 == edge_end p edge) (edge_end q facing == get_or p edge 0) (find-passes (is_facing p edge q) _ facing is) in
        absurd (differ (place_after (length p) edge) facing (place_after-in (length p) edge below) (omega (arith, there)) (sym (eqb-true (get_or q facing 0) (edge_end p edge) ends.0)))

-- where nothing is found for any element, nothing is listed
nothing : {X Y : Type 0} (h : X → Option Y) (xs : List X) → All (λ x. h x ≡ None) xs → filter_map h xs ≡ []
nothing h [] each = refl
nothing h (x ∷ xs) each =
    (λ i. cons_option (All-head (λ y. h y ≡ None) x xs each i) (filter_map h xs)) ∙ nothing h xs (All-tail (λ y. h y ≡ None) x xs each)

no_merges : (pieces : List Piece) (first second : ℕ)
    → ((i j : ℕ) → i < length (places_at pieces first) → j < length (places_at pieces second) → get_or (places_at pieces first) i 0 ≡ get_or (places_at pieces second) j 0 → ⊥)
    → merges_between pieces first second ≡ []
no_merges pieces first second differ =
    nothing (merge_over pieces first second) (range_with_len 0 (length p))
    (λ k d below. ap (option_map (λ facing. record { first = first; second = second; edge = get_or (range_with_len 0 (length p)) k d; facing = facing }))
    (no_facing p (places_at pieces second) _ (All-get_or (λ edge. edge < length p) (range_with_len 0 (length p)) k d below (all_below (length p))) differ))
  where
    p : List ℕ
    p = places_at pieces first

-- no merges of two pieces of which the second has no corner where all those of the first lie, or the other way round
pub apart : (pieces : List Piece) (first second : ℕ) (p q : List ℕ) (t : ℕ → Bool) (b : Bool) → p ≡ places_at pieces first → q ≡ places_at pieces second
    → All (λ n. t n ≡ true) p → b ≡ list_any t q → b ≡ false → merges_between pieces first second ≡ []
apart pieces first second p q t b is_p is_q each any none =
    no_merges pieces first second
    (λ i j here there same. clash t (places_at pieces first) (places_at pieces second) i j here there (subst (All (λ n. t n ≡ true)) is_p each)
    (ap (list_any t) (sym is_q) ∙ sym any ∙ none) same)

pub apart_back : (pieces : List Piece) (first second : ℕ) (p q : List ℕ) (t : ℕ → Bool) (b : Bool) → p ≡ places_at pieces first → q ≡ places_at pieces second
    → All (λ n. t n ≡ true) q → b ≡ list_any t p → b ≡ false → merges_between pieces first second ≡ []
apart_back pieces first second p q t b is_p is_q each any none =
    no_merges pieces first second
    (λ i j here there same. clash t (places_at pieces second) (places_at pieces first) j i there here (subst (All (λ n. t n ≡ true)) is_q each)
    (ap (list_any t) (sym is_p) ∙ sym any ∙ none) (sym same))

-- nothing is added where there are none
pub none_added : (corners : List Point) (pieces : List Piece) (next found merges : List Merge) → next ≡ found → merges ≡ [] → next ≡ found ++ admissible_of corners pieces merges
none_added corners pieces next found merges same none = same ∙ sym (append-nil found) ∙ ap (λ ms. found ++ admissible_of corners pieces ms) (sym none)

-- ---- rows

at_least : (a b : ℤ) → int_le a b ≡ true → a ≤ℤ b
at_least a b h = grind (arith, ints)

is_least : (a b : ℤ) → a ≤ℤ b → int_le a b ≡ true
is_least a b h = grind (arith, ints)

-- the lesser of two numbers is at most what either is at most, and the greater at least
pub low_kept : (a z n : ℤ) → int_le a n ≡ true → int_le (int_min a z) n ≡ true
low_kept a z n h = grind (arith, ints)

pub low_there : (a z : ℤ) → int_le (int_min a z) z ≡ true
low_there a z = grind (arith, ints)

pub high_kept : (a z n : ℤ) → int_le n a ≡ true → int_le n (int_max a z) ≡ true
high_kept a z n h = grind (arith, ints)

pub high_there : (a z : ℤ) → int_le z (int_max a z) ≡ true
high_there a z = grind (arith, ints)

-- rows that are widened to hold one more corner hold those that they held, too
pub more_rows : (corners : List Point) (places : List ℕ) (rows made : CornerRows) (i : ℕ) → i < length places
    → made.low ≡ int_min rows.low (corner_at corners (get_or places i 0)).z → made.high ≡ int_max rows.high (corner_at corners (get_or places i 0)).z
    → All (λ n. lies_in rows (corner_at corners n) ≡ true) (take i places) → All (λ n. lies_in made (corner_at corners n) ≡ true) (take (i + 1) places)
more_rows corners places rows made i below low high each =
    All-more (λ n. lies_in made (corner_at corners n) ≡ true) places i 0 below
    (λ k d there. kept (corner_at corners (get_or (take i places) k d)) (each k d there))
    (both (int_le made.low z) (int_le z made.high) (ap (λ a. int_le a z) low ∙ low_there rows.low z) (ap (int_le z) high ∙ high_there rows.high z))
  where
    z : ℤ
    z = (corner_at corners (get_or places i 0)).z

    both : (b c : Bool) → b ≡ true → c ≡ true → (b && c) ≡ true
    both b c h g = and_from b c h g

    kept : (p : Point) → lies_in rows p ≡ true → lies_in made p ≡ true
    kept p held =
        let ends = and_parts (int_le rows.low p.z) (int_le p.z rows.high) held in
        both (int_le made.low p.z) (int_le p.z made.high) (ap (λ a. int_le a p.z) low ∙ low_kept rows.low z p.z ends.0) (ap (int_le p.z) high ∙ high_kept rows.high z p.z ends.1)
