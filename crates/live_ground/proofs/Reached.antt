-- The list of the tiles in reach of a rectangle.
use Rattle.std.proofs.Common.{◌≡◌, ◌≢◌, ℕ, zero, suc, ◌+◌, ◌<◌, ◌≤◌, Bool, true, false, cond, List, [], ◌∷◌, ◌++◌, arith, sym, ap, ◌∙◌, subst, inl, inr, ⊎_elim}
use Rattle.std.specs.Prelude.{filter, Contains}
use Rattle.std.specs.List.{range_with_len}
use Rattle.std.proofs.lemmas.Bool.{cases_Bool, cases_eq, cond-true, cond-false}
use Rattle.std.proofs.lemmas.List.{map-id, append-nil}
use Rattle.std.proofs.lemmas.List.FromFn.{filter_of_map_range_with_len_more}
use Rattle.nav_ground.specs.declared.setting.Setting.{Setting}
use Rattle.nav_ground.specs.declared.cell.Window.{Window}
use Rattle.nav_ground.specs.Tiling.{tile_count}
use Rattle.live_ground.specs.Changes.{is_in_reach, reached_tiles}

tile_next : (p : ℕ → Bool) (tile : ℕ) → filter p (range_with_len 0 (tile + 1)) ≡ filter p (range_with_len 0 tile) ++ cond (p tile) (tile ∷ []) []
tile_next p tile =
    ap (filter p) (sym (map-id (range_with_len 0 (tile + 1))))
    ∙ filter_of_map_range_with_len_more p (λ k. k) 0 tile tile (omega arith)
    ∙ ap (λ ks. filter p ks ++ cond (p tile) (tile ∷ []) []) (map-id (range_with_len 0 tile))

-- one tile more, which is in reach or not
pub tile_more : (p : ℕ → Bool) (tile : ℕ) (found : List ℕ) → found ≡ filter p (range_with_len 0 tile) → p tile ≡ true
    → found ++ tile ∷ [] ≡ filter p (range_with_len 0 (tile + 1))
tile_more p tile found before is =
    ap (λ ks. ks ++ tile ∷ []) before ∙ sym (tile_next p tile ∙ ap (λ test. filter p (range_with_len 0 tile) ++ cond test (tile ∷ []) []) is)

pub tile_less : (p : ℕ → Bool) (tile : ℕ) (found : List ℕ) → found ≡ filter p (range_with_len 0 tile) → p tile ≡ false
    → found ≡ filter p (range_with_len 0 (tile + 1))
tile_less p tile found before is =
    before ∙ sym (tile_next p tile ∙ ap (λ test. filter p (range_with_len 0 tile) ++ cond test (tile ∷ []) []) is ∙ append-nil (filter p (range_with_len 0 tile)))

-- a number of a range that passes a test is among those that pass
among : (p : ℕ → Bool) (a n t : ℕ) → a ≤ t → t < a + n → p t ≡ true → Contains (filter p (range_with_len a n)) t
among p a zero t least most passes = absurd (omega (arith, least, most))
among p a (suc n) t least most passes =
    let later : List ℕ = filter p (range_with_len (a + 1) n) in
    ⊎_elim
    (λ (here : t ≡ a). subst (λ (list : List ℕ). Contains list t) (sym (cond-true (p a) (a ∷ later) later (ap p (sym here) ∙ passes))) (0, omega arith, sym here))
    (λ (apart : t ≢ a).
    let beyond : a + 1 ≤ t = omega (arith, least, apart) in
    let below : t < a + 1 + n = omega (arith, most) in
    let held : Contains later t = among p (a + 1) n t beyond below passes in
    let shifted : Contains (a ∷ later) t = (suc held.0, omega (arith, held.1), held.2) in
    elim (cases_Bool (p a)) [
      | inl passing ↦ subst (λ (list : List ℕ). Contains list t) (sym (cond-true (p a) (a ∷ later) later passing)) shifted
      | inr failing ↦ subst (λ (list : List ℕ). Contains list t) (sym (cond-false (p a) (a ∷ later) later failing)) held
    ])
    (cases_eq t a)

-- a tile that the list does not name is not in reach
pub unnamed_unreached : (setting : Setting) (window : Window) (tile : ℕ) → tile < tile_count setting → (Contains (reached_tiles setting window) tile → ⊥)
    → is_in_reach setting window tile ≡ false
unnamed_unreached setting window tile there unnamed =
    elim (cases_Bool (is_in_reach setting window tile)) [
      | inl passes ↦ absurd (unnamed (among (is_in_reach setting window) 0 (tile_count setting) tile (omega arith) (omega (arith, there)) passes))
      | inr fails ↦ fails
    ]
