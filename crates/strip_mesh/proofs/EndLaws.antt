-- Along its row a strip meets other strips with its ends alone, so over each of these two edges there is at most one link.
use Rattle.std.proofs.Common.{◌≡◌, ℕ, zero, suc, ◌+◌, ◌-◌, ◌<◌, ◌≤◌, ◌==◌, Bool, true, false, List, [], ◌∷◌, ◌++◌, length, map, drop, get_or, ap, ◌∙◌, sym, refl, arith, inl, inr, Option}
use Rattle.std.specs.Prelude.{Some, None, not, ◌||◌, if◌then◌else◌}
use Rattle.std.specs.List.{filter_map, cons_option, range_with_len, prefix_len}
use Rattle.std.proofs.lemmas.Bool.{cases_lt, eq-eqb}
use Rattle.std.proofs.lemmas.List.{append-nil, get_or-map, get_or_past, get_or-drop, length-map}
use Rattle.nav_ground.specs.declared.cell.Cell.{Cell}
use Rattle.nav_ground.specs.Cells.{IsCut}
use Rattle.mesh_types.specs.declared.region.LabelRun.{LabelRun}
use Rattle.mesh_types.specs.declared.links.Link.{Link}
use Rattle.mesh_types.specs.Runs.{runs_of, run_with, has_label}
use Rattle.mesh_types.specs.StripPolygons.{strip_runs, some_cell}
use Rattle.mesh_types.specs.StripLinks.{strip_beyond, strip_link, strip_links_over, outside_of}
use Rattle.mono_regions.specs.Indices.{cell_at}
use Rattle.strip_mesh.specs.Strips.{MeetsOthersAt}
use Rattle.strip_mesh.proofs.AwayLaws.{no_runs}
use Rattle.strip_mesh.proofs.Counts.{run_length}
use Rattle.strip_mesh.proofs.RowLaws.{beyond_found, own_ends_meet, own_named_back}

none_unless : (o : Option ℕ) → ((n : ℕ) → o ≡ Some n → ⊥) → o ≡ None
none_unless None never = refl
none_unless (Some n) never = absurd (never n refl)

-- the last cell alone is connected to another strip toward x + 1
pub meets_right : (cells : List Cell) → IsCut cells → (s place : ℕ) → s < length (strip_runs cells) → place + 1 ≡ length (get_or (strip_runs cells) s [])
    → MeetsOthersAt (strip_runs cells) s 2 place
meets_right cells cut s place s-in end k k-in other =
    let cell : Cell = get_or (get_or (strip_runs cells) s []) k some_cell in
    none_unless (strip_beyond (strip_runs cells) s 2 cell)
    (λ label is.
    let b = beyond_found (strip_runs cells) s 2 label cell is in
    let meet = own_ends_meet cells cut s label k b.place s-in b.there b.apart k-in b.inside b.named in
    other (omega (arith, meet.0, end)))

-- the first cell alone is connected to another strip toward x - 1
pub meets_left : (cells : List Cell) → IsCut cells → (s : ℕ) → s < length (strip_runs cells) → MeetsOthersAt (strip_runs cells) s 0 0
meets_left cells cut s s-in k k-in other =
    let cell : Cell = get_or (get_or (strip_runs cells) s []) k some_cell in
    none_unless (strip_beyond (strip_runs cells) s 0 cell)
    (λ label is.
    let b = beyond_found (strip_runs cells) s 0 label cell is in
    let back = own_named_back cells cut 0 s label k b.place (omega arith) s-in b.there k-in b.inside b.named in
    other (own_ends_meet cells cut label s b.place k b.there s-in (λ e. b.apart (sym e)) b.inside k-in back).1)

-- places of which none gives something, and of which one alone does
none_from : {B : Type 0} (g : ℕ → Option B) (from n : ℕ) → ((p : ℕ) → from ≤ p → g p ≡ None) → filter_map g (range_with_len from n) ≡ []
none_from g from zero none = refl
none_from g from (suc n) none =
    ap (λ o. cons_option o (filter_map g (range_with_len (from + 1) n))) (none from (omega arith))
    ∙ none_from g (from + 1) n (λ p after. none p (omega (arith, after)))

one_of : {B : Type 0} (g : ℕ → Option B) (at : ℕ) (made : B) (from n : ℕ) → from ≤ at → at < from + n → g at ≡ Some made
    → ((p : ℕ) → (p ≡ at → ⊥) → g p ≡ None) → filter_map g (range_with_len from n) ≡ made ∷ []
one_of g at made from zero low high is others = absurd (omega (arith, low, high))
one_of g at made from (suc n) low high is others =
    elim (cases_lt from at) [
      | inl before ↦
          ap (λ o. cons_option o (filter_map g (range_with_len (from + 1) n))) (others from (λ e. omega (arith, e, before)))
          ∙ one_of g at made (from + 1) n (omega (arith, before)) (omega (arith, high)) is others
      | inr past ↦
          let here : from ≡ at = omega (arith, low, past) in
          ap (λ o. cons_option o (filter_map g (range_with_len (from + 1) n))) (ap g here ∙ is)
          ∙ ap (λ rest. made ∷ rest) (none_from g (from + 1) n (λ p after. others p (λ e. omega (arith, e, after, here))))
    ]

or_true : (a : Bool) → (a || true) ≡ true
or_true true = refl
or_true false = refl

-- a run begins at a label whose neighbours have none, and ends there
begins_alone : (labels : List (Option ℕ)) (place label : ℕ) → ((k : ℕ) → (k ≡ place → ⊥) → get_or labels k None ≡ None)
    → (place == 0 || not (has_label label (get_or labels (place - 1) None))) ≡ true
begins_alone labels place label others =
    elim (cases_lt 0 place) [
      | inl some ↦
          ap (λ (o : Option ℕ). place == 0 || not (has_label label o)) (others (place - 1) (λ e. omega (arith, e, some))) ∙ or_true (place == 0)
      | inr first ↦ ap (λ (b : Bool). b || not (has_label label (get_or labels (place - 1) None))) (eq-eqb place 0 (omega (arith, first)))
    ]

none_next : (label : ℕ) (rest : List (Option ℕ)) → get_or rest 0 None ≡ None → prefix_len (has_label label) rest ≡ 0
none_next label [] is = refl
none_next label (next ∷ rest) is = ap (λ (o : Option ℕ). prefix_len (has_label label) (o ∷ rest)) is

abbrev run : ℕ → ℕ → ℕ → LabelRun
run first last label = record { first = first; last = last; label = label }

pub one_run : (labels : List (Option ℕ)) (place label : ℕ) → place < length labels → get_or labels place None ≡ Some label
    → ((k : ℕ) → (k ≡ place → ⊥) → get_or labels k None ≡ None) → runs_of labels ≡ record { first = place; last = place; label = label } ∷ []
unfolding runs_of
one_run labels place label there is others =
    let len = none_next label (drop (place + 1) labels) (get_or-drop (place + 1) labels 0 None ∙ others (place + 1 + 0) (λ e. omega (arith, e))) in
    let ends : place + prefix_len (has_label label) (drop (place + 1) labels) ≡ place = omega (arith, len) in
    let alone : run_with labels place (Some label) ≡ Some (record { first = place; last = place; label = label }) =
    ap (λ (b : Bool). if b then Some (run place (place + prefix_len (has_label label) (drop (place + 1) labels)) label) else None)
    (begins_alone labels place label others)
    ∙ ap (λ (n : ℕ). Some (run place n label)) ends in
    one_of (λ p. run_with labels p (get_or labels p None)) place (record { first = place; last = place; label = label }) 0 (length labels)
    (omega arith) (omega (arith, there)) (ap (run_with labels place) is ∙ alone) (λ p other. ap (run_with labels p) (others p other))

-- the link over an edge where one cell alone is connected to another strip
pub end_link : (tile : ℕ) (runs : List (List Cell)) (s edge place label : ℕ) → place < length (get_or runs s []) → MeetsOthersAt runs s (outside_of edge) place
    → strip_beyond runs s (outside_of edge) (get_or (get_or runs s []) place some_cell) ≡ Some label
    → strip_links_over tile runs s edge ≡ strip_link tile (get_or runs s []) s edge (record { first = place; last = place; label = label }) ∷ []
end_link tile runs s edge place label there alone is =
    let own : List Cell = get_or runs s [] in
    let beyond = strip_beyond runs s (outside_of edge) in
    ap (map (strip_link tile own s edge))
    (one_run (map beyond own) place label (omega (arith, there, length-map own beyond)) (get_or-map beyond own place some_cell None there ∙ is)
    (λ k other. elim (cases_lt k (length own)) [
      | inl inside ↦ get_or-map beyond own k some_cell None inside ∙ alone k inside other
      | inr past ↦ get_or_past (map beyond own) k None (omega (arith, past, length-map own beyond))
    ]))

-- no link, where that cell is not connected to one either
pub no_end_link : (tile : ℕ) (runs : List (List Cell)) (s edge place : ℕ) → place < length (get_or runs s []) → MeetsOthersAt runs s (outside_of edge) place
    → strip_beyond runs s (outside_of edge) (get_or (get_or runs s []) place some_cell) ≡ None → strip_links_over tile runs s edge ≡ []
no_end_link tile runs s edge place there alone is =
    let own : List Cell = get_or runs s [] in
    let beyond = strip_beyond runs s (outside_of edge) in
    let none_at : (k : ℕ) → k < length own → beyond (get_or own k some_cell) ≡ None = λ k inside.
    elim (cases_lt k place) [
      | inl before ↦ alone k inside (λ e. omega (arith, e, before))
      | inr from ↦ elim (cases_lt place k) [
        | inl after ↦ alone k inside (λ e. omega (arith, e, after))
        | inr to ↦
            let here : k ≡ place = omega (arith, from, to) in
            ap (λ n. beyond (get_or own n some_cell)) here ∙ is
      ]
    ] in
    ap (map (strip_link tile own s edge))
    (no_runs (map beyond own) (λ k. elim (cases_lt k (length own)) [
      | inl inside ↦ get_or-map beyond own k some_cell None inside ∙ none_at k inside
      | inr past ↦ get_or_past (map beyond own) k None (omega (arith, past, length-map own beyond))
    ]))

-- what was found beyond the cell with an index is beyond the cell at a place of the strip
pub found_at : (cells : List Cell) (run : List ℕ) (own : List Cell) (runs : List (List Cell)) (s dir beyond place : ℕ) (found : Option ℕ)
    → map (cell_at cells) run ≡ own → place < length own → beyond ≡ dir → found ≡ strip_beyond runs s beyond (cell_at cells (get_or run place 0))
    → strip_beyond runs s dir (get_or own place some_cell) ≡ found
found_at cells run own runs s dir beyond place found are there same is =
    ap (λ (cs : List Cell). strip_beyond runs s dir (get_or cs place some_cell)) (sym are)
    ∙ ap (strip_beyond runs s dir) (get_or-map (cell_at cells) run place 0 some_cell (omega (arith, there, run_length cells run own are)))
    ∙ sym (is ∙ ap (λ d. strip_beyond runs s d (cell_at cells (get_or run place 0))) same)

-- the one link, or none, behind those before
pub one_pushed : (before after : List Link) (made link : Link) (more : List Link) → after ≡ before ++ made ∷ [] → made ≡ link → more ≡ link ∷ [] → after ≡ before ++ more
one_pushed before after made link more is same all =
    is ∙ ap (λ (l : Link). before ++ l ∷ []) same ∙ sym (ap (λ (ls : List Link). before ++ ls) all)

pub none_pushed : (before more : List Link) → more ≡ [] → before ≡ before ++ more
none_pushed before more none = sym (append-nil before) ∙ sym (ap (λ (ls : List Link). before ++ ls) none)
