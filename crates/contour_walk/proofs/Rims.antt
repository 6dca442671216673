-- Which edges lie at the rim of a region: only where its columns end, seen from above.
use Rattle.std.proofs.Common.{◌≡◌, ℕ, ◌+◌, ◌-◌, ◌<◌, ◌≤◌, Bool, true, false, List, [], ◌∷◌, length, get_or, ap, ◌∙◌, sym, refl, subst, arith, inl, inr, Option, Some, None}
use Rattle.std.specs.Prelude.{not, nat_le, ◌==◌, ◌&&◌, ◌||◌, All, Contains, slice_get}
use Rattle.std.specs.List.{find, list_any}
use Rattle.std.specs.Option.{option_map_or}
use Rattle.std.proofs.lemmas.Bool.{cases_lt, both_ways, eq-eqb, ne_eqb, and_parts, and_from}
use Rattle.std.proofs.Math.Bool.{or-false}
use Rattle.std.proofs.lemmas.Bool.Decides.{nat_tests}
use Rattle.std.proofs.lemmas.List.Elements.{All-head, All-tail}
use Rattle.std.proofs.lemmas.List.Quantifiers.{position-Some}
use Rattle.std.proofs.lemmas.Option.{option_and_then_some, slice_get_past}
use Rattle.nav_ground.specs.declared.cell.Cell.{Cell}
use Rattle.nav_ground.specs.declared.cell.CellRef.{CellRef}
use Rattle.nav_ground.specs.Cells.{is_naming, is_toward, next_level}
use Rattle.nav_ground.proofs.Directions.{both_equal, tests_of_equal}
use Rattle.nav_ground.proofs.Found.{found_in}
use Rattle.mesh_types.specs.declared.region.Strip.{Strip}
use Rattle.mesh_types.specs.declared.region.Region.{Region}
use Rattle.mesh_types.specs.declared.region.Regions.{Regions}
use Rattle.mesh_types.specs.Regions.{is_holding, IsStrip, IsIn, place_in}
use Rattle.mesh_types.specs.Contours.{cell_in, region_at, region_beyond, is_rim, strips_in}
use Rattle.contour_walk.proofs.Ranges.{is_within, within_yes, within_below, within_above, within_is}
use Rattle.contour_walk.proofs.Sums.{AreRows, covers, head_of}

-- the cells of a region are cells, and any two of them in neighbouring columns are connected
pub record IsFabric (cells : List Cell) (regions : Regions) (id : ℕ) : Type 0 where
  pub strips : All IsStrip (strips_in regions id)
  pub there : (s : Strip) (x : ℕ) → Contains (strips_in regions id) s → IsIn s x → (cell_in cells (place_in s x)).at ≡ place_in s x
  pub woven : (dir : ℕ) (s t : Strip) (x y : ℕ) → dir < 4 → Contains (strips_in regions id) s → Contains (strips_in regions id) t → IsIn s x → IsIn t y
      → is_toward dir (place_in s x) (place_in t y) ≡ true → region_beyond cells regions dir (cell_in cells (place_in s x)) ≡ Some id

-- some strip has a column in a row
abbrev pub has_column : List Strip → ℕ → ℕ → Bool
has_column strips z x = list_any (λ (s : Strip). s.z == z && is_within s.x0 s.x1 x) strips

-- a test that passes wherever another does
any_weaker : {X : Type 0} (p q : X → Bool) (xs : List X) → All (λ x. p x ≡ true → q x ≡ true) xs → list_any p xs ≡ true → list_any q xs ≡ true
any_weaker p q [] each some = some
any_weaker p q (x ∷ xs) each some =
    by_cases (p x) (q x) (list_any p xs) (list_any q xs) (All-head (λ y. p y ≡ true → q y ≡ true) x xs each)
    (any_weaker p q xs (All-tail (λ y. p y ≡ true → q y ≡ true) x xs each)) some
  where
    by_cases : (a b c d : Bool) → (a ≡ true → b ≡ true) → (c ≡ true → d ≡ true) → (a || c) ≡ true → (b || d) ≡ true
    by_cases a true c d first rest h = refl
    by_cases true false c d first rest h = absurd (both_ways false refl (first refl))
    by_cases false false c d first rest h = rest h

-- a strip that holds a place has its column in its row
holding_column : (at : CellRef) (s : Strip) → IsStrip s → is_holding at s ≡ true → (s.z == at.z && is_within s.x0 s.x1 at.x) ≡ true
holding_column at s strip holds =
    let outer = and_parts (s.z == at.z && nat_le s.x0 at.x) (option_map_or (λ level. level == at.level) (slice_get s.levels (at.x - s.x0)) false) holds in
    let inner = and_parts (s.z == at.z) (nat_le s.x0 at.x) outer.0 in
    let least : s.x0 ≤ at.x = grind (arith, nat_tests) in
    and_from (s.z == at.z) (is_within s.x0 s.x1 at.x) inner.0
    (within_yes s.x0 s.x1 at.x least (elim (cases_lt (at.x - s.x0) (length s.levels)) [
      | inl inside ↦ omega (arith, inside, least, strip.levels)
      | inr past ↦ absurd (both_ways (option_map_or (λ level. level == at.level) (slice_get s.levels (at.x - s.x0)) false)
          (ap (λ o. option_map_or (λ level. level == at.level) o false) (slice_get_past s.levels (at.x - s.x0) past)) outer.1)
    ]))

-- the columns of a stack, row by row
pub no_lower : (s : Strip) (rest : List Strip) (z x : ℕ) → AreRows (s ∷ rest) → z < s.z → has_column (s ∷ rest) z x ≡ false
no_lower s [] z x rows less =
    ap (λ b. b && is_within s.x0 s.x1 x || false) (ne_eqb s.z z (λ e. omega (arith, e, less)))
no_lower s (t ∷ rest) z x rows less =
    ap (λ b. b && is_within s.x0 s.x1 x || has_column (t ∷ rest) z x) (ne_eqb s.z z (λ e. omega (arith, e, less)))
    ∙ no_lower t rest z x rows.4 (omega (arith, less, rows.1))

later_row : (s t : Strip) (rest : List Strip) (z x : ℕ) → s.z < z → has_column (s ∷ t ∷ rest) z x ≡ has_column (t ∷ rest) z x
later_row s t rest z x more = ap (λ b. b && is_within s.x0 s.x1 x || has_column (t ∷ rest) z x) (ne_eqb s.z z (λ e. omega (arith, e, more)))

own_row : (s : Strip) (rest : List Strip) (z x : ℕ) → AreRows (s ∷ rest) → z ≡ s.z → has_column (s ∷ rest) z x ≡ is_within s.x0 s.x1 x
own_row s [] z x rows same =
    ap (λ b. b && is_within s.x0 s.x1 x || false) (eq-eqb s.z z (sym same)) ∙ or-false (is_within s.x0 s.x1 x)
own_row s (t ∷ rest) z x rows same =
    ap (λ b. b && is_within s.x0 s.x1 x || has_column (t ∷ rest) z x) (eq-eqb s.z z (sym same))
    ∙ ap (λ b. is_within s.x0 s.x1 x || b) (no_lower t rest z x rows.4 (omega (arith, same, rows.1)))
    ∙ or-false (is_within s.x0 s.x1 x)

next_row : (s : Strip) (rest : List Strip) (z x : ℕ) → AreRows (s ∷ rest) → z ≡ s.z + 1 → has_column (s ∷ rest) z x ≡ covers (head_of rest) x
next_row s [] z x rows same = ap (λ b. b && is_within s.x0 s.x1 x || false) (ne_eqb s.z z (λ e. omega (arith, e, same)))
next_row s (t ∷ rest) z x rows same = later_row s t rest z x (omega (arith, same)) ∙ own_row t rest z x rows.4 (omega (arith, same, rows.1))

module _ (cells : List Cell) (regions : Regions) (id : ℕ) (fabric : IsFabric cells regions id) where
  abbrev pub all : List Strip
  all = strips_in regions id

  -- a place that the region holds has its column there
  held_column : (at : CellRef) → region_at regions at ≡ Some id → has_column all at.z at.x ≡ true
  held_column at held =
      any_weaker (is_holding at) (λ (s : Strip). s.z == at.z && is_within s.x0 s.x1 at.x) all
      (λ k d there. holding_column at (get_or all k d) (fabric.strips k d there))
      (position-Some (λ (region : Region). list_any (is_holding at) region.strips) regions.regions id (record { strips = [] }) held).1

  -- toward a place where the region has no column an edge lies at the rim
  rim_out : (dir : ℕ) (s : Strip) (x : ℕ) → Contains all s → IsIn s x
      → ((q : CellRef) → is_toward dir (place_in s x) q ≡ true → has_column all q.z q.x ≡ false)
      → is_rim cells regions id dir (cell_in cells (place_in s x)) ≡ true
  rim_out dir s x own inside out = by_case (region_beyond cells regions dir cell) refl
    where
      cell : Cell
      cell = cell_in cells (place_in s x)

      none_there : region_beyond cells regions dir cell ≡ Some id → ⊥
      none_there beyond =
          option_and_then_some (λ (other : Cell). region_at regions other.at) (find (λ (other : Cell). is_naming dir cell other.at) cells) id beyond
          (λ other found held.
          let passes = (found_in (λ (c : Cell). is_naming dir cell c.at) cells other found).passes in
          let toward = (and_parts (is_toward dir cell.at other.at) (option_map_or (λ level. level == other.at.level) (next_level cell dir) false) passes).0 in
          let P : CellRef → Type 0 = λ at. is_toward dir at other.at ≡ true in
          both_ways (has_column all other.at.z other.at.x) (out other.at (subst P (fabric.there s x own inside) toward)) (held_column other.at held))

      by_case : (o : Option ℕ) → region_beyond cells regions dir cell ≡ o → not (option_map_or (λ r. r == id) o false) ≡ true
      by_case None is = refl
      by_case (Some r) is = ap not (ne_eqb r id (λ same. none_there (is ∙ ap (λ k. Some k) same)))

  -- toward a cell of the region it does not
  rim_in : (dir : ℕ) (s t : Strip) (x y : ℕ) → dir < 4 → Contains all s → Contains all t → IsIn s x → IsIn t y
      → is_toward dir (place_in s x) (place_in t y) ≡ true → is_rim cells regions id dir (cell_in cells (place_in s x)) ≡ false
  rim_in dir s t x y small own own' inside inside' toward =
      ap (λ o. not (option_map_or (λ r. r == id) o false)) (fabric.woven dir s t x y small own own' inside inside' toward) ∙ ap not (eq-eqb id id refl)

  -- where a strip stands in its region: what is below it, and what is from it on
  pub record StandsOn (below : Option Strip) (strip : Strip) (rest : List Strip) : Type 0 where
    pub rows : AreRows (strip ∷ rest)
    pub own : All (Contains all) (strip ∷ rest)
    pub before : (p : Strip) → below ≡ Some p → Contains all p × (p.z + 1 ≡ strip.z)
    pub under : (z x : ℕ) → z + 1 ≡ strip.z → has_column all z x ≡ covers below x
    pub from_here : (z x : ℕ) → strip.z ≤ z → has_column all z x ≡ has_column (strip ∷ rest) z x

  pub stands_next : (below : Option Strip) (strip next : Strip) (rest : List Strip) → StandsOn below strip (next ∷ rest) → StandsOn (Some strip) next rest
  stands_next below strip next rest stands =
      record {
        rows = stands.rows.4;
        own = All-tail (Contains all) strip (next ∷ rest) stands.own;
        before = λ p is.
            let same : strip ≡ p = cc in
            let P : Strip → Type 0 = λ s. Contains all s × (s.z + 1 ≡ next.z) in
            subst P same (All-head (Contains all) strip (next ∷ rest) stands.own, sym stands.rows.1);
        under = λ z x row. stands.from_here z x (omega (arith, row, stands.rows.1)) ∙ own_row strip (next ∷ rest) z x stands.rows (omega (arith, row, stands.rows.1));
        from_here = λ z x past. stands.from_here z x (omega (arith, past, stands.rows.1)) ∙ later_row strip next rest z x (omega (arith, past, stands.rows.1));
      }

  pub rim_left : (below : Option Strip) (strip : Strip) (rest : List Strip) (x : ℕ) → StandsOn below strip rest → IsIn strip x
      → is_rim cells regions id 0 (cell_in cells (place_in strip x)) ≡ (x == strip.x0)
  rim_left below strip rest x stands inside =
      let own = All-head (Contains all) strip rest stands.own in
      elim (cases_lt strip.x0 x) [
        | inl more ↦
            rim_in 0 strip strip x (x - 1) (omega arith) own own inside (omega (arith, more), omega (arith, inside.1))
            (tests_of_equal (x - 1 + 1) x strip.z strip.z (omega (arith, more)) refl)
            ∙ sym (ne_eqb x strip.x0 (λ e. omega (arith, e, more)))
        | inr first ↦
            rim_out 0 strip x own inside (λ q toward.
            let e = both_equal (q.x + 1) x q.z strip.z toward in
            stands.from_here q.z q.x (omega (arith, e.1)) ∙ own_row strip rest q.z q.x stands.rows e.1 ∙ within_below strip.x0 strip.x1 q.x (omega (arith, e.0, first)))
            ∙ sym (eq-eqb x strip.x0 (omega (arith, first, inside.0)))
      ]

  pub rim_right : (below : Option Strip) (strip : Strip) (rest : List Strip) (x : ℕ) → StandsOn below strip rest → IsIn strip x
      → is_rim cells regions id 2 (cell_in cells (place_in strip x)) ≡ (x == strip.x1)
  rim_right below strip rest x stands inside =
      let own = All-head (Contains all) strip rest stands.own in
      elim (cases_lt x strip.x1) [
        | inl less ↦
            rim_in 2 strip strip x (x + 1) (omega arith) own own inside (omega (arith, inside.0), omega (arith, less))
            (tests_of_equal (x + 1) (x + 1) strip.z strip.z refl refl)
            ∙ sym (ne_eqb x strip.x1 (λ e. omega (arith, e, less)))
        | inr last ↦
            rim_out 2 strip x own inside (λ q toward.
            let e = both_equal q.x (x + 1) q.z strip.z toward in
            stands.from_here q.z q.x (omega (arith, e.1)) ∙ own_row strip rest q.z q.x stands.rows e.1 ∙ within_above strip.x0 strip.x1 q.x (omega (arith, e.0, last)))
            ∙ sym (eq-eqb x strip.x1 (omega (arith, last, inside.1)))
      ]

  pub rim_top : (below : Option Strip) (strip : Strip) (rest : List Strip) (x : ℕ) → StandsOn below strip rest → IsIn strip x
      → is_rim cells regions id 1 (cell_in cells (place_in strip x)) ≡ not (covers (head_of rest) x)
  rim_top below strip rest x stands inside = by_case rest stands (covers (head_of rest) x) refl
    where
      out : (rest : List Strip) → StandsOn below strip rest → covers (head_of rest) x ≡ false → is_rim cells regions id 1 (cell_in cells (place_in strip x)) ≡ true
      out rest stands none =
          rim_out 1 strip x (All-head (Contains all) strip rest stands.own) inside (λ q toward.
          let e = both_equal q.x x q.z (strip.z + 1) toward in
          stands.from_here q.z q.x (omega (arith, e.1)) ∙ next_row strip rest q.z q.x stands.rows e.1 ∙ ap (covers (head_of rest)) e.0 ∙ none)

      by_case : (rest : List Strip) → StandsOn below strip rest → (b : Bool) → covers (head_of rest) x ≡ b
          → is_rim cells regions id 1 (cell_in cells (place_in strip x)) ≡ not (covers (head_of rest) x)
      by_case rest stands false is = out rest stands is ∙ ap not (sym is)
      by_case [] stands true is = absurd (both_ways false refl is)
      by_case (t ∷ rest) stands true is =
          rim_in 1 strip t x x (omega arith) (All-head (Contains all) strip (t ∷ rest) stands.own)
          (All-head (Contains all) t rest (All-tail (Contains all) strip (t ∷ rest) stands.own)) inside (within_is t.x0 t.x1 x is)
          (tests_of_equal x x t.z (strip.z + 1) refl stands.rows.1)
          ∙ ap not (sym is)

  pub rim_bottom : (below : Option Strip) (strip : Strip) (rest : List Strip) (x : ℕ) → StandsOn below strip rest → IsIn strip x
      → is_rim cells regions id 3 (cell_in cells (place_in strip x)) ≡ not (covers below x)
  rim_bottom below strip rest x stands inside = by_case below stands (covers below x) refl
    where
      by_case : (below : Option Strip) → StandsOn below strip rest → (b : Bool) → covers below x ≡ b
          → is_rim cells regions id 3 (cell_in cells (place_in strip x)) ≡ not (covers below x)
      by_case below stands false is =
          rim_out 3 strip x (All-head (Contains all) strip rest stands.own) inside (λ q toward.
          let e = both_equal q.x x (q.z + 1) strip.z toward in
          stands.under q.z q.x e.1 ∙ ap (covers below) e.0 ∙ is)
          ∙ ap not (sym is)
      by_case None stands true is = absurd (both_ways false refl is)
      by_case (Some p) stands true is =
          let b = stands.before p refl in
          rim_in 3 strip p x x (omega arith) (All-head (Contains all) strip rest stands.own) b.0 inside (within_is p.x0 p.x1 x is)
          (tests_of_equal x x (p.z + 1) strip.z refl b.1)
          ∙ ap not (sym is)
