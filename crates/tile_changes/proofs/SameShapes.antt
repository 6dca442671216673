-- A tile that is not changed is touched by the same shapes at both lengths.
use Rattle.std.proofs.Common.{◌≡◌, ℕ, zero, suc, ◌+◌, ◌-◌, ◌<◌, ◌≤◌, Bool, true, false, not, cond, List, [], ◌∷◌, ◌++◌, filter, Option, Some, None, refl, sym, ap, ◌∙◌, arith, inl, inr}
use Rattle.std.specs.Prelude.{All, ◌⊎◌}
use Rattle.std.specs.List.{range_with_len, filter_map, cons_option}
use Rattle.std.proofs.lemmas.Bool.{both_ways}
use Rattle.std.proofs.lemmas.List.{append-nil}
use Rattle.std.proofs.lemmas.List.Elements.{filter-append}
use Rattle.nav_ground.specs.declared.history.Entry.{Entry}
use Rattle.nav_ground.specs.declared.history.Ground.{Ground}
use Rattle.nav_ground.specs.declared.shape.Shape.{Shape}
use Rattle.nav_ground.specs.History.{IsRequest, alive_after, is_alive, shape_of, shapes_alive}
use Rattle.nav_ground.specs.Limits.{IsSetting}
use Rattle.nav_ground.specs.Tiling.{tile_count}
use Rattle.nav_ground.specs.Touching.{is_touching, touching_shapes}
use Rattle.nav_ground.proofs.Selections.{range-push}
use Rattle.nav_ground.proofs.TouchLaws.{is_touching_Touches}
use Rattle.build_queue.proofs.Histories.{shape_limits}
use Rattle.tile_changes.specs.Changes.{IsChanged}
use Rattle.tile_changes.proofs.AliveBetween.{not_yet}

-- numbers beyond a length add none that are there after it
alive_longer : (history : List Entry) (a more : ℕ) → filter (is_alive history a) (range_with_len 1 (a + more)) ≡ alive_after history a
alive_longer history a zero = ap (λ n. filter (is_alive history a) (range_with_len 1 n)) {x = a + 0} {y = a} (omega arith)
alive_longer history a (suc more) =
    ap (λ n. filter (is_alive history a) (range_with_len 1 n)) {x = a + suc more} {y = (a + more) + 1} (omega arith)
    ∙ ap (filter (is_alive history a)) (range-push 1 (a + more))
    ∙ filter-append (is_alive history a) (range_with_len 1 (a + more)) ((1 + (a + more)) ∷ [])
    ∙ ap (λ c. filter (is_alive history a) (range_with_len 1 (a + more)) ++ cond c ((1 + (a + more)) ∷ []) []) (not_yet history a (1 + (a + more)) (omega arith))
    ∙ append-nil (filter (is_alive history a) (range_with_len 1 (a + more)))
    ∙ alive_longer history a more

module _ {Y : Type 0} (p : Y → Bool) (f : ℕ → Option Y) where
  -- what one element more adds to what a test keeps, where there is one
  with_one : (o : Option Y) (ys zs : List Y) → filter p ys ≡ filter p zs → filter p (cons_option o ys) ≡ filter p (cons_option o zs)
  with_one None ys zs same = same
  with_one (Some y) ys zs same = ap (λ (list : List Y). cond (p y) (y ∷ list) list) same

  without_one : (o : Option Y) (ys : List Y) → ((y : Y) → o ≡ Some y → p y ≡ true → ⊥) → filter p (cons_option o ys) ≡ filter p ys
  without_one None ys none = refl
  without_one (Some y) ys none = by_test (p y) (none y refl)
    where
      by_test : (b : Bool) → (b ≡ true → ⊥) → cond b (y ∷ filter p ys) (filter p ys) ≡ filter p ys
      by_test true never = absurd (never refl)
      by_test false never = refl

  -- tests of numbers that agree wherever something is kept in the end
  same_kept : (q r : ℕ → Bool) (xs : List ℕ) → ((n : ℕ) (y : Y) → f n ≡ Some y → p y ≡ true → q n ≡ r n)
      → filter p (filter_map f (filter q xs)) ≡ filter p (filter_map f (filter r xs))
  same_kept q r [] agree = refl
  same_kept q r (n ∷ xs) agree = by_tests (q n) (r n) refl refl (same_kept q r xs agree)
    where
      apart : (b c : Bool) → q n ≡ b → r n ≡ c → (b ≡ c → ⊥) → (y : Y) → f n ≡ Some y → p y ≡ true → ⊥
      apart b c is is' differ y found passes = differ (sym is ∙ agree n y found passes ∙ is')

      by_tests : (b c : Bool) → q n ≡ b → r n ≡ c → filter p (filter_map f (filter q xs)) ≡ filter p (filter_map f (filter r xs))
          → filter p (filter_map f (cond b (n ∷ filter q xs) (filter q xs))) ≡ filter p (filter_map f (cond c (n ∷ filter r xs) (filter r xs)))
      by_tests true true is is' rest = with_one (f n) (filter_map f (filter q xs)) (filter_map f (filter r xs)) rest
      by_tests false false is is' rest = rest
      by_tests true false is is' rest =
          without_one (f n) (filter_map f (filter q xs)) (apart true false is is' (λ same. both_ways false refl (sym same))) ∙ rest
      by_tests false true is is' rest =
          rest ∙ sym (without_one (f n) (filter_map f (filter r xs)) (apart false true is is' (λ same. both_ways false refl same)))

same_or_not : (x y : Bool) → (x ≡ y) ⊎ (x ≡ not y)
same_or_not true true = inl refl
same_or_not true false = inr refl
same_or_not false true = inr refl
same_or_not false false = inl refl

pub same_touching : (ground : Ground) (history : List Entry) (a b tile : ℕ) → IsSetting ground.setting → All (λ (entry : Entry). IsRequest entry.request) history
    → a ≤ b → tile < tile_count ground.setting → (IsChanged ground history a b tile → ⊥)
    → touching_shapes ground.setting tile (shapes_alive history a) ≡ touching_shapes ground.setting tile (shapes_alive history b)
same_touching ground history a b tile limits requests order there unchanged =
    ap (λ (numbers : List ℕ). touching_shapes ground.setting tile (filter_map (shape_of history) numbers))
    (sym (alive_longer history a (b - a)) ∙ ap (λ n. filter (is_alive history a) (range_with_len 1 n)) {x = a + (b - a)} {y = b} (omega (arith, order)))
    ∙ same_kept (is_touching ground.setting tile) (shape_of history) (is_alive history a) (is_alive history b) (range_with_len 1 b) agree
  where
    agree : (number : ℕ) (shape : Shape) → shape_of history number ≡ Some shape → is_touching ground.setting tile shape ≡ true
        → is_alive history a number ≡ is_alive history b number
    agree number shape is touching = elim (same_or_not (is_alive history a number) (is_alive history b number)) [
      | inl same ↦ same
      | inr once ↦ absurd (unchanged (record {
        there = there;
        shape = shape;
        once = record { number = number; is = is; once = once };
        touches = (is_touching_Touches ground.setting tile shape limits there (shape_limits history number shape requests is)).0 touching;
      }))
    ]
