-- Where the cells of a strip lie, and which strip lies beyond.
use Rattle.std.proofs.Common.{◌≡◌, ℕ, ◌+◌, ◌<◌, Bool, true, false, length, List, [], map, get_or, ap, ◌∙◌, sym, refl, subst, arith}
use Rattle.std.specs.Prelude.{All, Some, None, ◌==◌, if◌then◌else◌}
use Rattle.std.specs.List.{position}
use Rattle.std.proofs.lemmas.Bool.{eqb-false}
use Rattle.std.proofs.lemmas.List.{get_or-map, get_or_default, length-map}
use Rattle.std.proofs.lemmas.List.Elements.{All-map, Contains-get_or}
use Rattle.std.proofs.lemmas.List.Folds.{Any-from_list_any}
use Rattle.std.proofs.lemmas.List.Quantifiers.{position-Some}
use Rattle.std.proofs.lemmas.Option.{option_and_then_some}
use Rattle.nav_ground.specs.declared.cell.Cell.{Cell}
use Rattle.nav_ground.specs.Cells.{IsCell, IsCells, IsCut, is_naming, opposite}
use Rattle.mesh_types.specs.StripPolygons.{some_cell, first_of, strip_runs}
use Rattle.mesh_types.specs.StripLinks.{strip_beyond, holds_named}
use Rattle.mono_regions.specs.Indices.{cell_at, index_runs, AreIndices}
use Rattle.mono_regions.proofs.RunLaws.{runs_are, runs_indices}
use Rattle.mono_regions.proofs.StripLaws.{run_columns, ends_meet}

-- cells stand one beside the other in a row
pub record IsRow (own : List Cell) : Type 0 where
  pub some : 0 < length own
  pub x : (k : ℕ) (d : Cell) → k < length own → (get_or own k d).at.x ≡ (first_of own).at.x + k
  pub z : (k : ℕ) (d : Cell) → k < length own → (get_or own k d).at.z ≡ (first_of own).at.z
  pub each : All IsCell own

pub count_same : (cells : List Cell) → length (strip_runs cells) ≡ length (index_runs cells)
count_same cells = ap length (runs_are cells) ∙ length-map (index_runs cells) (map (cell_at cells))

pub own_is : (cells : List Cell) (s : ℕ) → s < length (strip_runs cells) → get_or (strip_runs cells) s [] ≡ map (cell_at cells) (get_or (index_runs cells) s [])
own_is cells s there =
    ap (λ rs. get_or rs s []) (runs_are cells) ∙ get_or-map (map (cell_at cells)) (index_runs cells) s [] [] (omega (arith, there, count_same cells))

pub indices_are : (cells : List Cell) → IsCells cells → (s : ℕ) → s < length (strip_runs cells) → AreIndices cells (get_or (index_runs cells) s [])
indices_are cells rules' s there = runs_indices cells rules' s [] (omega (arith, there, count_same cells))

pub own_length : (cells : List Cell) (s : ℕ) → s < length (strip_runs cells) → length (get_or (strip_runs cells) s []) ≡ length (get_or (index_runs cells) s [])
own_length cells s there = ap length (own_is cells s there) ∙ length-map (get_or (index_runs cells) s []) (cell_at cells)

pub own_cell : (cells : List Cell) (s k : ℕ) (d : Cell) → s < length (strip_runs cells) → k < length (get_or (strip_runs cells) s [])
    → get_or (get_or (strip_runs cells) s []) k d ≡ cell_at cells (get_or (get_or (index_runs cells) s []) k 0)
own_cell cells s k d there inside =
    ap (λ own. get_or own k d) (own_is cells s there)
    ∙ get_or-map (cell_at cells) (get_or (index_runs cells) s []) k 0 d (omega (arith, inside, own_length cells s there))

-- what holds of all cells holds of those of a strip
pub own_all : (cells : List Cell) (P : Cell → Type 0) → IsCells cells → All P cells → (s : ℕ) → s < length (strip_runs cells)
    → All P (get_or (strip_runs cells) s [])
own_all cells P rules' each s there =
    let indices = indices_are cells rules' s there in
    let Q : List Cell → Type 0 = All P in
    subst Q (sym (own_is cells s there))
    (All-map P (cell_at cells) (get_or (index_runs cells) s []) (λ k d inside. each (get_or (get_or (index_runs cells) s []) k d) some_cell (indices.each k d inside)))

pub row_is : (cells : List Cell) → IsCut cells → (s : ℕ) → s < length (strip_runs cells) → IsRow (get_or (strip_runs cells) s [])
row_is cells cut s there =
    let some' : 0 < length (get_or (strip_runs cells) s []) = omega (arith, (indices_are cells cut.rules s there).some, own_length cells s there) in
    let first_cell = own_cell cells s 0 some_cell there some' in
    record {
      some = some';
      x = λ k d inside.
          let at = run_columns cells cut.rules s k 0 (omega (arith, there, count_same cells)) (omega (arith, inside, own_length cells s there)) in
          ap (λ (c : Cell). c.at.x) (own_cell cells s k d there inside) ∙ at.x ∙ ap (λ (c : Cell). c.at.x + k) (sym first_cell);
      z = λ k d inside.
          let at = run_columns cells cut.rules s k 0 (omega (arith, there, count_same cells)) (omega (arith, inside, own_length cells s there)) in
          ap (λ (c : Cell). c.at.z) (own_cell cells s k d there inside) ∙ at.z ∙ ap (λ (c : Cell). c.at.z) (sym first_cell);
      each = own_all cells IsCell cut.rules cut.rules.each s there;
    }

-- the strip beyond a cell
pub record IsBeyond (runs : List (List Cell)) (s dir label : ℕ) (cell : Cell) : Type 0 where
  pub there : label < length runs
  pub apart : s ≡ label → ⊥
  pub place : ℕ
  pub inside : place < length (get_or runs label [])
  pub named : is_naming dir cell (get_or (get_or runs label []) place some_cell).at ≡ true

other_strip : (b : Bool) (t label s : ℕ) → (t == s) ≡ b → (if b then None else Some t) ≡ Some label → (t ≡ label) × (s ≡ label → ⊥)
other_strip true t label s is h = absurd cc
other_strip false t label s is h =
    let same : t ≡ label = cc in
    (same, λ e. eqb-false t s is (same ∙ sym e))

pub beyond_found : (runs : List (List Cell)) (s dir label : ℕ) (cell : Cell) → strip_beyond runs s dir cell ≡ Some label → IsBeyond runs s dir label cell
beyond_found runs s dir label cell is =
    option_and_then_some (λ t. if t == s then None else Some t) (position (holds_named dir cell) runs) label is
    (λ t found h.
    let other = other_strip (t == s) t label s refl h in
    let P : ℕ → Type 0 = λ n. IsBeyond runs s dir n cell in
    let at = position-Some (holds_named dir cell) runs t [] found in
    let any = Any-from_list_any (λ (to : Cell). is_naming dir cell to.at) (get_or runs t []) at.1 in
    subst P other.0 (record {
      there = at.0;
      apart = λ e. other.1 (e ∙ other.0);
      place = any.0;
      inside = any.2;
      named = ap (λ (c : Cell). is_naming dir cell c.at) (get_or_default (get_or runs t []) any.0 some_cell any.1 any.2 ∙ any.3) ∙ any.4;
    }))

-- the same of ends that meet, cell by cell
pub own_ends_meet : (cells : List Cell) → IsCut cells → (s t k j : ℕ) → s < length (strip_runs cells) → t < length (strip_runs cells) → (s ≡ t → ⊥)
    → k < length (get_or (strip_runs cells) s []) → j < length (get_or (strip_runs cells) t [])
    → is_naming 2 (get_or (get_or (strip_runs cells) s []) k some_cell) (get_or (get_or (strip_runs cells) t []) j some_cell).at ≡ true
    → (k + 1 ≡ length (get_or (strip_runs cells) s [])) × (j ≡ 0)
own_ends_meet cells cut s t k j s-in t-in apart k-in j-in named =
    let P : Cell → Cell → Type 0 = λ a b. is_naming 2 a b.at ≡ true in
    let a : Cell = get_or (get_or (strip_runs cells) s []) k some_cell in
    let b' : Cell = cell_at cells (get_or (get_or (index_runs cells) t []) j 0) in
    let named' = subst (λ (c : Cell). P c b') (own_cell cells s k some_cell s-in k-in) (subst (P a) (own_cell cells t j some_cell t-in j-in) named) in
    let meet = ends_meet cells cut s t k j (omega (arith, s-in, count_same cells)) (omega (arith, t-in, count_same cells)) apart
    (omega (arith, k-in, own_length cells s s-in)) (omega (arith, j-in, own_length cells t t-in))
    (indices_are cells cut.rules s s-in).each (indices_are cells cut.rules t t-in).each named' in
    (omega (arith, meet.0, own_length cells s s-in), meet.1)

-- cells of strips name each other back
pub own_named_back : (cells : List Cell) → IsCut cells → (dir s t k j : ℕ) → dir < 4 → s < length (strip_runs cells) → t < length (strip_runs cells)
    → k < length (get_or (strip_runs cells) s []) → j < length (get_or (strip_runs cells) t [])
    → is_naming dir (get_or (get_or (strip_runs cells) s []) k some_cell) (get_or (get_or (strip_runs cells) t []) j some_cell).at ≡ true
    → is_naming (opposite dir) (get_or (get_or (strip_runs cells) t []) j some_cell) (get_or (get_or (strip_runs cells) s []) k some_cell).at ≡ true
own_named_back cells cut dir s t k j small s-in t-in k-in j-in named =
    let P : Cell → Type 0 = λ c. (k' : ℕ) × (k' < length cells) × (get_or cells k' c ≡ c) in
    let a : Cell = get_or (get_or (strip_runs cells) s []) k some_cell in
    let b : Cell = get_or (get_or (strip_runs cells) t []) j some_cell in
    let i = get_or (get_or (index_runs cells) s []) k 0 in
    let i' = get_or (get_or (index_runs cells) t []) j 0 in
    let has = Contains-get_or cells i some_cell ((indices_are cells cut.rules s s-in).each k 0 (omega (arith, k-in, own_length cells s s-in))) in
    let has' = Contains-get_or cells i' some_cell ((indices_are cells cut.rules t t-in).each j 0 (omega (arith, j-in, own_length cells t t-in))) in
    cut.named_back dir a b small (subst P (sym (own_cell cells s k some_cell s-in k-in)) has) (subst P (sym (own_cell cells t j some_cell t-in j-in)) has') named
