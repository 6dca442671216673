-- Fresh tile meshes with their numbers are new tile meshes, and put into the published tiles they make the stored ones.
use Rattle.std.proofs.Common.{◌≡◌, ℕ, zero, suc, ◌+◌, ◌<◌, Bool, List, [], ◌∷◌, length, get_or, ap, ◌∙◌, refl, sym, subst, arith, Option, Some, None}
use Rattle.std.specs.Prelude.{All, ◌==◌, unwrap_or}
use Rattle.std.specs.List.{find}
use Rattle.std.specs.Option.{option_map}
use Rattle.std.proofs.lemmas.Bool.{cond-true, cond-false, eq-eqb, ne_eqb}
use Rattle.std.proofs.lemmas.List.{length-map, get_or-map, ext_get_or}
use Rattle.std.proofs.lemmas.List.Elements.{All-nil, All-cons}
use Rattle.std.proofs.lemmas.List.Kept.{AllPairs-cons}
use Rattle.nav_ground.specs.declared.setting.Setting.{Setting}
use Rattle.nav_ground.specs.Tiling.{tile_count}
use Rattle.mesh_types.specs.declared.mesh.TileMesh.{TileMesh}
use Rattle.mesh_types.specs.Soundness.{AreTiles}
use Rattle.mesh_types.specs.FitTiles.{IsFit}
use Rattle.tile_links.specs.NewTiles.{New, AreNew, AreRising, new_tile, tile_after, tiles_after}
use Rattle.nav_book.specs.Fresh.{news_from, news_of}

-- the test of a number
abbrev has_number : ℕ → New → Bool
has_number number new = new.0 == number

-- no tile before the first place has a new mesh
none_before : (places : List (Option TileMesh)) (first number : ℕ) → number < first → new_tile (news_from first places) number ≡ None
none_before [] first number before = refl
none_before (None ∷ places) first number before = none_before places (first + 1) number (omega (arith, before))
none_before (Some mesh ∷ places) first number before =
    ap (option_map (λ (new : New). new.1))
    (cond-false (first == number) (Some (first, mesh)) (find (has_number number) (news_from (first + 1) places))
    (ne_eqb first number (λ same. omega (arith, before, same))))
    ∙ none_before places (first + 1) number (omega (arith, before))

-- the new mesh of a tile is what its place has
found_at : (places : List (Option TileMesh)) (first t : ℕ) → t < length places → new_tile (news_from first places) (first + t) ≡ get_or places t None
found_at [] first t there = absurd (omega (arith, there))
found_at (None ∷ places) first zero there = none_before places (first + 1) (first + 0) (omega arith)
found_at (None ∷ places) first (suc t) there =
    let moved : first + 1 + t ≡ first + suc t = omega arith in
    subst (λ n. new_tile (news_from (first + 1) places) n ≡ get_or places t None) moved (found_at places (first + 1) t (omega (arith, there)))
found_at (Some mesh ∷ places) first zero there =
    ap (option_map (λ (new : New). new.1))
    (cond-true (first == first + 0) (Some (first, mesh)) (find (has_number (first + 0)) (news_from (first + 1) places)) (eq-eqb first (first + 0) (omega arith)))
found_at (Some mesh ∷ places) first (suc t) there =
    let moved : first + 1 + t ≡ first + suc t = omega arith in
    ap (option_map (λ (new : New). new.1))
    (cond-false (first == first + suc t) (Some (first, mesh)) (find (has_number (first + suc t)) (news_from (first + 1) places))
    (ne_eqb first (first + suc t) (λ same. omega (arith, same))))
    ∙ subst (λ n. new_tile (news_from (first + 1) places) n ≡ get_or places t None) moved (found_at places (first + 1) t (omega (arith, there)))

-- what holds of each place that has a mesh holds of the new meshes
pub all_from : (P : New → Type 0) (places : List (Option TileMesh)) (first : ℕ)
    → ((t : ℕ) (mesh : TileMesh) → t < length places → get_or places t None ≡ Some mesh → P (first + t, mesh)) → All P (news_from first places)
all_from P [] first each = All-nil P
all_from P (None ∷ places) first each =
    all_from P places (first + 1) (λ t mesh there is.
    let moved : first + suc t ≡ first + 1 + t = omega arith in
    subst (λ n. P (n, mesh)) moved (each (suc t) mesh (omega (arith, there)) is))
all_from P (Some mesh ∷ places) first each =
    let here : first + 0 ≡ first = omega arith in
    All-cons P (first, mesh) (news_from (first + 1) places) (subst (λ n. P (n, mesh)) here (each 0 mesh (omega arith) refl))
    (all_from P places (first + 1) (λ t other there is.
    let moved : first + suc t ≡ first + 1 + t = omega arith in
    subst (λ n. P (n, other)) moved (each (suc t) other (omega (arith, there)) is)))

rising_from : (places : List (Option TileMesh)) (first : ℕ) → AreRising (news_from first places)
rising_from [] first = λ i j d apart within. absurd (omega (arith, within))
rising_from (None ∷ places) first = rising_from places (first + 1)
rising_from (Some mesh ∷ places) first =
    AllPairs-cons (λ (a b : New). a.0 < b.0) (first, mesh) (news_from (first + 1) places)
    (all_from (λ (new : New). first < new.0) places (first + 1) (λ t other there is. omega arith))
    (rising_from places (first + 1))

-- the fresh meshes are new ones where each is the one of its tile among tiles of the setting
pub are_new : (setting : Setting) (places : List (Option TileMesh)) (after : List TileMesh) → AreTiles setting after → length places ≡ length after
    → ((t : ℕ) (mesh : TileMesh) → t < length places → get_or places t None ≡ Some mesh → mesh ≡ get_or after t mesh) → AreNew setting (news_of places)
are_new setting places after are one_each each = record {
  rising = rising_from places 0;
  there = all_from (λ (new : New). new.0 < tile_count setting) places 0 (λ t mesh there is. omega (arith, there, one_each, are.each));
  own = all_from (λ (new : New). new.1.tile ≡ new.0) places 0 (λ t mesh there is.
      let from_zero : t ≡ 0 + t = omega arith in
      ap (λ (m : TileMesh). m.tile) (each t mesh there is) ∙ are.in_order t mesh (omega (arith, there, one_each)) ∙ from_zero);
  fit = all_from (λ (new : New). IsFit setting new.1) places 0 (λ t mesh there is.
      subst (IsFit setting) (sym (each t mesh there is)) (are.fit t mesh (omega (arith, there, one_each))));
}

-- tiles with the fresh meshes in place are those that stand in each place
pub tiles_with_news : (places : List (Option TileMesh)) (tiles after : List TileMesh) → length places ≡ length tiles → length tiles ≡ length after
    → ((t : ℕ) (d : TileMesh) → t < length tiles → (get_or tiles t d).tile ≡ t)
    → ((t : ℕ) (d : TileMesh) → t < length tiles → unwrap_or (get_or places t None) (get_or tiles t d) ≡ get_or after t d)
    → tiles_after (news_of places) tiles ≡ after
tiles_with_news places [] [] one_each same in_order each = refl
tiles_with_news places [] (other ∷ after) one_each same in_order each = absurd (omega (arith, same))
tiles_with_news places (tile ∷ tiles) after one_each same in_order each =
    ext_get_or tile (tiles_after (news_of places) (tile ∷ tiles)) after (length-map (tile ∷ tiles) (tile_after (news_of places)) ∙ same)
    (λ t there. at t (omega (arith, there, length-map (tile ∷ tiles) (tile_after (news_of places)))))
  where
    at : (t : ℕ) → t < length (tile ∷ tiles) → get_or (tiles_after (news_of places) (tile ∷ tiles)) t tile ≡ get_or after t tile
    at t within =
        let here : TileMesh = get_or (tile ∷ tiles) t tile in
        let from_zero : here.tile ≡ 0 + t = in_order t tile within ∙ omega arith in
        get_or-map (tile_after (news_of places)) (tile ∷ tiles) t tile tile within
        ∙ ap (λ n. unwrap_or (new_tile (news_of places) n) here) from_zero
        ∙ ap (λ (found : Option TileMesh). unwrap_or found here) (found_at places 0 t (omega (arith, within, one_each)))
        ∙ each t tile within
