-- Walks over merges: what one more step of a loop adds to what was gathered.
use Rattle.std.proofs.Common.{◌≡◌, ℕ, suc, ◌+◌, ◌-◌, ◌<◌, ◌≤◌, Bool, true, false, cond, List, [], ◌∷◌, ◌++◌, Option, append_assoc, refl, sym, ap, ◌∙◌, arith}
use Rattle.std.specs.Prelude.{None, Some}
use Rattle.std.specs.List.{filter_map, find, flat_map, cons_option, range_with_len}
use Rattle.std.proofs.lemmas.List.{append-nil}
use Rattle.std.proofs.lemmas.List.Elements.{filter-append}
use Rattle.std.proofs.lemmas.Grind.{flat_map-append}
use Rattle.nav_ground.proofs.Selections.{range-push}
use Rattle.nav_base.specs.declared.point.Point.{Point}
use Rattle.mesh_types.specs.declared.region.Piece.{Piece}
use Rattle.mesh_types.specs.Merging.{Merge, is_admissible}
use Rattle.poly_merge.specs.declared.edge.Merge as code
use Rattle.poly_merge.specs.Seen.{admissible_of}

-- one more of what a walk goes over, where each gives merges
pub gather-more : (corners : List Point) (pieces : List Piece) (merges : ℕ → List Merge) (start count at : ℕ) (before found next : List Merge) → at ≡ start + count
    → found ≡ before ++ admissible_of corners pieces (flat_map merges (range_with_len start count))
    → next ≡ found ++ admissible_of corners pieces (merges at)
    → next ≡ before ++ admissible_of corners pieces (flat_map merges (range_with_len start (count + 1)))
gather-more corners pieces merges start count at before found next is so_far step =
    step ∙ ap (λ ms. ms ++ admissible_of corners pieces (merges at)) so_far
    ∙ append_assoc before (admissible_of corners pieces (flat_map merges (range_with_len start count))) (admissible_of corners pieces (merges at))
    ∙ ap (λ ms. before ++ ms) (sym (filter-append (is_admissible corners pieces) (flat_map merges (range_with_len start count)) (merges at)))
    ∙ ap (λ n. before ++ admissible_of corners pieces (flat_map merges (range_with_len start count) ++ merges n)) is
    ∙ ap (λ ms. before ++ admissible_of corners pieces (flat_map merges (range_with_len start count) ++ ms)) (sym (append-nil (merges (start + count))))
    ∙ ap (λ ms. before ++ admissible_of corners pieces ms) (sym (flat_map-append merges (range_with_len start count) ((start + count) ∷ [])))
    ∙ ap (λ ns. before ++ admissible_of corners pieces (flat_map merges ns)) (sym (range-push start count))

-- what a look-up finds for the elements of a list, one after the other
pub filter_map-gathered : {X Y : Type 0} (h : X → Option Y) (xs : List X) → filter_map h xs ≡ flat_map (λ x. cons_option (h x) []) xs
filter_map-gathered h [] = refl
filter_map-gathered {X = X} {Y = Y} h (x ∷ xs) = split (h x) (filter_map h xs) ∙ ap (λ ys. cons_option (h x) [] ++ ys) (filter_map-gathered h xs)
  where
    split : (o : Option Y) (ys : List Y) → cons_option o ys ≡ cons_option o [] ++ ys
    split None ys = refl
    split (Some y) ys = refl

-- a search along a range: the first number passes, or the search goes on behind it
pub find-here : (p : ℕ → Bool) (n i : ℕ) → i < n → p i ≡ true → find p (range_with_len i (n - i)) ≡ Some i
find-here p n i below passed =
    ap (λ k. find p (range_with_len i k)) {x = n - i} {y = suc (n - i - 1)} (omega arith) ∙ ap (λ b. cond b (Some i) (find p (range_with_len (i + 1) (n - i - 1)))) passed

pub find-next : (p : ℕ → Bool) (n i : ℕ) → i < n → p i ≡ false → find p (range_with_len i (n - i)) ≡ find p (range_with_len (i + 1) (n - (i + 1)))
find-next p n i below failed =
    ap (λ k. find p (range_with_len i k)) {x = n - i} {y = suc (n - (i + 1))} (omega arith) ∙ ap (λ b. cond b (Some i) (find p (range_with_len (i + 1) (n - (i + 1))))) failed

pub find-end : (p : ℕ → Bool) (n i : ℕ) → n ≤ i → find p (range_with_len i (n - i)) ≡ None
find-end p n i end = ap (λ k. find p (range_with_len i k)) {x = n - i} {y = 0} (omega arith)

-- what a search finds passes
pub find-passes : (p : ℕ → Bool) (xs : List ℕ) (i : ℕ) → find p xs ≡ Some i → p i ≡ true
find-passes p [] i is = absurd (cc)
find-passes p (x ∷ xs) i is = by_test (p x) refl is (find-passes p xs i)
  where
    by_test : (b : Bool) → p x ≡ b → cond b (Some x) (find p xs) ≡ Some i → (find p xs ≡ Some i → p i ≡ true) → p i ≡ true
    by_test true passed found later = let same : x ≡ i = cc in ap p (sym same) ∙ passed
    by_test false failed found later = later found

-- a merge with nothing in it, which elements of lists of merges are read with
abbrev pub no_merge : code.Merge
no_merge = record { first = 0; second = 0; edge = 0; facing = 0 }
