-- Lists of cells that differ in their connections alone.
use Rattle.std.proofs.Common.{◌≡◌, ◌≢◌, ℕ, ◌+◌, ◌<◌, ◌≤◌, Bool, true, false, cond, length, List, [], ◌∷◌, get_or, set, map, Option, Some, refl, sym, ap, ◌∙◌, subst, arith, inl, inr}
use Rattle.std.specs.Prelude.{◌&&◌}
use Rattle.std.specs.List.{find}
use Rattle.std.specs.Option.{option_map}
use Rattle.std.proofs.lemmas.List.{length-map, get_or-map, same_lists, get_or-set_same, get_or-set_other, length-set, get_or_default}
use Rattle.std.proofs.lemmas.Bool.{cases_lt}
use Rattle.nav_ground.specs.declared.setting.Agent.{Agent}
use Rattle.nav_ground.specs.declared.cell.Cell.{Cell}
use Rattle.nav_ground.specs.Cells.{is_toward}
use Rattle.nav_ground.specs.Connection.{is_connected, level_toward, connected_cell}
use Rattle.compact_layer.specs.Stacks.{IsStanding, IsUnder, AreStacked, is_passed, IsPassed, ArePassed}
use Rattle.compact_layer.specs.declared.sweep.PassedColumns.{PassedColumns}

-- a cell without its connections
abbrev pub bare : Cell → Cell
bare cell = record cell { next = [] }

-- two lists of cells that differ in their connections alone
pub record AreAlike (xs ys : List Cell) : Type 0 where
  pub same : map bare xs ≡ map bare ys

pub length_alike : (xs ys : List Cell) → AreAlike xs ys → length xs ≡ length ys
length_alike xs ys alike = sym (length-map xs bare) ∙ ap length alike.same ∙ length-map ys bare

at_alike : (xs ys : List Cell) (k : ℕ) (d : Cell) → AreAlike xs ys → k < length xs → bare (get_or xs k d) ≡ bare (get_or ys k d)
at_alike xs ys k d alike there =
    sym (get_or-map bare xs k d (bare d) there) ∙ ap (λ cells. get_or cells k (bare d)) alike.same
    ∙ get_or-map bare ys k d (bare d) (omega (arith, there, length_alike xs ys alike))

pub alike_back : (xs ys : List Cell) → AreAlike xs ys → AreAlike ys xs
alike_back xs ys alike = record { same = sym alike.same }

-- the same cells are passed
passed_alike : (xs ys : List Cell) (n column height : ℕ) → AreAlike xs ys → IsPassed xs n column height → IsPassed ys n column height
passed_alike xs ys n column height alike passed = record {
  most = omega (arith, passed.most, length_alike xs ys alike);
  each = λ k d below. ap (is_passed column height) (sym (at_alike xs ys k d alike (omega (arith, below, passed.most)))) ∙ passed.each k d below;
}

pub all_passed_alike : (xs ys : List Cell) (height : ℕ) (passed : PassedColumns) (cell : Cell) → AreAlike xs ys → ArePassed xs height passed cell
    → ArePassed ys height passed cell
all_passed_alike xs ys height passed cell alike before = record {
  left = passed_alike xs ys _ _ _ alike before.left;
  above = passed_alike xs ys _ _ _ alike before.above;
  right = passed_alike xs ys _ _ _ alike before.right;
  below = passed_alike xs ys _ _ _ alike before.below;
}

-- and they are stacked alike
standing_bare : (cell : Cell) → IsStanding cell → IsStanding (bare cell)
standing_bare cell here = record { at = here.at; floor = here.floor; level = here.level }

standing_of_bare : (cell : Cell) → IsStanding (bare cell) → IsStanding cell
standing_of_bare cell here = record { at = here.at; floor = here.floor; level = here.level }

under_bare : (a b : Cell) → IsUnder a b → IsUnder (bare a) (bare b)
under_bare a b under = record { column = under.column; floor = under.floor; ceiling = under.ceiling }

under_of_bare : (a b : Cell) → IsUnder (bare a) (bare b) → IsUnder a b
under_of_bare a b under = record { column = under.column; floor = under.floor; ceiling = under.ceiling }

pub stacked_alike : (xs ys : List Cell) → AreAlike xs ys → AreStacked xs → AreStacked ys
stacked_alike xs ys alike stack = record {
  each = λ k d there.
      let there' : k < length xs = omega (arith, there, length_alike xs ys alike) in
      standing_of_bare (get_or ys k d) (subst IsStanding (at_alike xs ys k d alike there') (standing_bare (get_or xs k d) (stack.each k d there')));
  order = λ i j d before there.
      let there' : j < length xs = omega (arith, there, length_alike xs ys alike) in
      let P : Cell → Type 0 = λ (c : Cell). IsUnder c (bare (get_or ys j d)) in
      let Q : Cell → Type 0 = λ (c : Cell). IsUnder (bare (get_or xs i d)) c in
      under_of_bare (get_or ys i d) (get_or ys j d)
      (subst P (at_alike xs ys i d alike (omega (arith, before, there')))
      (subst Q (at_alike xs ys j d alike there') (under_bare (get_or xs i d) (get_or xs j d) (stack.order i j d before there'))));
}

-- and a cell is connected to the same level
level_bare : (agent : Agent) (cells : List Cell) (cell : Cell) (dir : ℕ) → level_toward agent cells cell dir ≡ level_toward agent (map bare cells) cell dir
level_bare agent [] cell dir = refl
level_bare agent (other ∷ cells) cell dir = by_test (is_toward dir cell.at other.at && is_connected agent cell other) (level_bare agent cells cell dir)
  where
    by_test : (b : Bool) → level_toward agent cells cell dir ≡ level_toward agent (map bare cells) cell dir
        → option_map (λ (c : Cell). c.at.level) (cond b (Some other) (find (λ (c : Cell). is_toward dir cell.at c.at && is_connected agent cell c) cells))
        ≡ option_map (λ (c : Cell). c.at.level) (cond b (Some (bare other)) (find (λ (c : Cell). is_toward dir cell.at c.at && is_connected agent cell c) (map bare cells)))
    by_test true later = refl
    by_test false later = later

pub level_alike : (agent : Agent) (xs ys : List Cell) (cell : Cell) (dir : ℕ) → AreAlike xs ys → level_toward agent xs cell dir ≡ level_toward agent ys cell dir
level_alike agent xs ys cell dir alike =
    level_bare agent xs cell dir ∙ ap (λ cells. level_toward agent cells cell dir) alike.same ∙ sym (level_bare agent ys cell dir)

four : (f g : ℕ → Option ℕ) → ((dir : ℕ) → f dir ≡ g dir) → f 0 ∷ f 1 ∷ f 2 ∷ f 3 ∷ [] ≡ g 0 ∷ g 1 ∷ g 2 ∷ g 3 ∷ []
four f g same = cc (same 0, same 1, same 2, same 3)

-- cells of which the first ones are connected: each of those with the cells that there were, and the others as they were
pub record AreConnected (agent : Agent) (before : List Cell) (n : ℕ) (cells : List Cell) : Type 0 where
  pub length_is : length cells ≡ length before
  pub done : (k : ℕ) (d : Cell) → k < n → k < length before → get_or cells k d ≡ connected_cell agent before (get_or before k d)
  pub left : (k : ℕ) (d : Cell) → n ≤ k → k < length before → get_or cells k d ≡ get_or before k d

pub alike_connected : (agent : Agent) (before : List Cell) (n : ℕ) (cells : List Cell) → AreConnected agent before n cells → AreAlike before cells
alike_connected agent before n cells connected = record {
  same = same_lists (map bare before) (map bare cells)
      (length-map before bare ∙ sym connected.length_is ∙ sym (length-map cells bare))
      (λ k d there.
      let there' : k < length before = omega (arith, there, length-map before bare) in
      get_or-map bare before k d d there' ∙ sym (same_at k d there')
      ∙ sym (get_or-map bare cells k d d (omega (arith, there', connected.length_is))));
}
  where
    same_at : (k : ℕ) (d : Cell) → k < length before → bare (get_or cells k d) ≡ bare (get_or before k d)
    same_at k d there =
        elim (cases_lt k n) [
          | inl below ↦ ap bare (connected.done k d below there)
          | inr past ↦ ap bare (connected.left k d past there)
        ]

pub none_connected : (agent : Agent) (before cells : List Cell) → cells ≡ before → AreConnected agent before 0 cells
none_connected agent before cells same = record {
  length_is = ap length same;
  done = λ k d below there. absurd (omega (arith, below));
  left = λ k d past there. ap (λ (xs : List Cell). get_or xs k d) same;
}

-- a cell that is connected with cells alike is connected with the cells before
connected_alike : (agent : Agent) (before cells : List Cell) (old new : Cell) (next : List (Option ℕ)) → AreAlike before cells → new ≡ old
    → next ≡ (connected_cell agent cells new).next → record new { next = next } ≡ connected_cell agent before old
connected_alike agent before cells old new next alike same is =
    let levels : (connected_cell agent cells new).next ≡ (connected_cell agent before new).next =
    four (level_toward agent cells new) (level_toward agent before new) (λ dir. sym (level_alike agent before cells new dir alike)) in
    ap (λ (n : List (Option ℕ)). record new { next = n }) (is ∙ levels) ∙ ap (connected_cell agent before) same

-- one more cell that is connected
pub one_more_connected : (agent : Agent) (before : List Cell) (n : ℕ) (cells : List Cell) (d : Cell) (next : List (Option ℕ))
    → AreConnected agent before n cells → n < length before
    → next ≡ (connected_cell agent cells (get_or cells n d)).next
    → AreConnected agent before (n + 1) (set cells n (record (get_or cells n d) { next = next }))
one_more_connected agent before n cells d next connected there is = record {
  length_is = length-set cells n cell ∙ connected.length_is;
  done = λ k e below within.
      elim (cases_lt k n) [
        | inl earlier ↦
            let apart : k ≢ n = λ same. omega (arith, earlier, same) in
            get_or-set_other cells n k cell e apart ∙ connected.done k e earlier within
        | inr rest ↦
            let same : k ≡ n = omega (arith, below, rest) in
            ap (λ i. get_or (set cells n cell) i e) same ∙ get_or-set_same cells n cell e (omega (arith, there, connected.length_is))
            ∙ connected_alike agent before cells (get_or before n d) (get_or cells n d) next (alike_connected agent before n cells connected)
            (connected.left n d (omega arith) there) is
            ∙ ap (connected_cell agent before) (get_or_default before n d e there ∙ ap (λ i. get_or before i e) (sym same))
      ];
  left = λ k e past within.
      let apart : k ≢ n = λ same. omega (arith, past, same) in
      get_or-set_other cells n k cell e apart ∙ connected.left k e (omega (arith, past)) within;
}
  where
    cell : Cell
    cell = record (get_or cells n d) { next = next }

pub all_connected : (agent : Agent) (before : List Cell) (n : ℕ) (cells : List Cell) → AreConnected agent before n cells → length before ≤ n
    → cells ≡ map (connected_cell agent before) before
all_connected agent before n cells connected all =
    same_lists cells (map (connected_cell agent before) before) (connected.length_is ∙ sym (length-map before (connected_cell agent before)))
    (λ k d there.
    let within : k < length before = omega (arith, there, connected.length_is) in
    connected.done k d (omega (arith, within, all)) within ∙ sym (get_or-map (connected_cell agent before) before k d d within))
