-- Each connection between two strips is linked, and each link has its reverse.
use Rattle.std.proofs.Common.{◌≡◌, ℕ, zero, suc, ◌+◌, ◌<◌, ◌≤◌, true, List, [], map, length, get_or, ap, ◌∙◌, sym, refl, subst, arith, inl, inr, Option}
use Rattle.std.specs.Prelude.{Some, None, Contains, ◌==◌, if◌then◌else◌, slice_get, option_and_then}
use Rattle.std.specs.List.{flat_map, position, range_with_len}
use Rattle.std.proofs.lemmas.Bool.{cases_lt, cond-false, ne_eqb}
use Rattle.std.proofs.lemmas.List.{get_or_default, get_or_past, get_or-map, length-map}
use Rattle.std.proofs.lemmas.List.Elements.{All-contains, All-map}
use Rattle.std.proofs.lemmas.List.FromFn.{get_or-map-range_with_len, length-map-range_with_len}
use Rattle.std.proofs.lemmas.Option.{none-some, slice_get-get_or}
use Rattle.nav_ground.specs.declared.setting.Setting.{Setting}
use Rattle.nav_ground.specs.declared.cell.Cell.{Cell}
use Rattle.nav_ground.specs.declared.cell.FreeLayer.{FreeLayer}
use Rattle.nav_ground.specs.Cells.{IsCut, is_naming, opposite}
use Rattle.nav_ground.proofs.FreeLayers.{names_one}
use Rattle.cell_table.specs.Table.{index_named}
use Rattle.cell_table.proofs.Tables.{one_index}
use Rattle.mesh_types.specs.declared.region.LabelRun.{LabelRun}
use Rattle.mesh_types.specs.declared.links.Link.{Link}
use Rattle.mesh_types.specs.declared.links.Portal.{Portal}
use Rattle.mesh_types.specs.Passages.{AreTwoWay, HasReverse, LinksConnected}
use Rattle.mesh_types.specs.Runs.{runs_of}
use Rattle.mesh_types.specs.Portals.{LiesAlong}
use Rattle.mesh_types.specs.StripPolygons.{some_cell, sixteenths, first_of, strip_runs}
use Rattle.mesh_types.specs.StripLinks.{holds_named, strip_beyond, strip_link, strip_links, strip_links_over, edge_portal, outside_of}
use Rattle.mesh_types.specs.StripMeshes.{strip_mesh_of}
use Rattle.mesh_types.proofs.Gathered.{gathered_all, gathered_held, Contains-map}
use Rattle.mesh_types.proofs.LinksInOrder.{All-ordered_links, Contains-ordered_links}
use Rattle.mesh_types.proofs.MaximalRuns.{IsMaximal, AreMirrored, run_found, runs_are_maximal, maximal_listed, mirrored_run}
use Rattle.mesh_types.proofs.Opposites.{opposite_small, opposite_twice}
use Rattle.mono_regions.specs.Indices.{cell_at, index_runs, owner_of}
use Rattle.mono_regions.proofs.Found.{position_only}
use Rattle.mono_regions.proofs.Named.{position_of_named}
use Rattle.mono_regions.proofs.StripLaws.{owner_is}
use Rattle.strip_mesh.proofs.LinkLaws.{placed, seen_left, seen_above, seen_right, seen_below}
use Rattle.strip_mesh.proofs.PortalLaws.{MeetsAt, LiesBeyond}
use Rattle.strip_mesh.proofs.Rectangles.{toward_right, toward_top, toward_left, toward_bottom}
use Rattle.strip_mesh.proofs.RowLaws.{IsRow, IsBeyond, row_is, count_same, indices_are, own_length, own_cell, own_named_back, beyond_found}

-- the strips beyond the cells of a strip in a direction
abbrev labels_of : List (List Cell) → ℕ → ℕ → List (Option ℕ)
labels_of runs s dir = map (strip_beyond runs s dir) (get_or runs s [])

-- the strip of the cell that a cell names
beyond_is_own : (cells : List Cell) → IsCut cells → (s t dir i n : ℕ) → dir < 4 → n < length cells → owner_of cells n ≡ t → (s ≡ t → ⊥)
    → is_naming dir (cell_at cells i) (cell_at cells n).at ≡ true → strip_beyond (strip_runs cells) s dir (cell_at cells i) ≡ Some t
beyond_is_own cells cut s t dir i n small there own apart named =
    let owners : List ℕ = map (owner_of cells) (range_with_len 0 (length cells)) in
    let index : index_named cells (cell_at cells i) dir ≡ n =
    position_only (λ (other : Cell). is_naming dir (cell_at cells i) other.at) cells n some_cell there named
    (λ k inside also. one_index cells cut.rules k n some_cell inside there (names_one dir (cell_at cells i) _ _ small also named)) in
    let found : position (holds_named dir (cell_at cells i)) (strip_runs cells) ≡ Some t =
    position_of_named cells cut i dir small
    ∙ ap (slice_get owners) index
    ∙ slice_get-get_or owners n 0 (omega (arith, there, length-map-range_with_len (owner_of cells) 0 (length cells)))
    ∙ ap (λ (u : ℕ). Some u) (get_or-map-range_with_len (owner_of cells) 0 (length cells) n n 0 there (omega arith) ∙ own) in
    ap (option_and_then (λ u. if u == s then None else Some u)) found ∙ cond-false (t == s) None (Some t) (ne_eqb t s (λ e. apart (sym e)))

-- so a cell of a strip that names one of another strip has that strip's label,
label_there : (cells : List Cell) → IsCut cells → (s t dir k j : ℕ) → s < length (strip_runs cells) → t < length (strip_runs cells) → (s ≡ t → ⊥) → dir < 4
    → k < length (get_or (strip_runs cells) s []) → j < length (get_or (strip_runs cells) t [])
    → is_naming dir (get_or (get_or (strip_runs cells) s []) k some_cell) (get_or (get_or (strip_runs cells) t []) j some_cell).at ≡ true
    → get_or (labels_of (strip_runs cells) s dir) k None ≡ Some t
label_there cells cut s t dir k j s-in t-in apart small k-in j-in named =
    let runs : List (List Cell) = strip_runs cells in
    let i : ℕ = get_or (get_or (index_runs cells) s []) k 0 in
    let n : ℕ = get_or (get_or (index_runs cells) t []) j 0 in
    let j-in' : j < length (get_or (index_runs cells) t []) = omega (arith, j-in, own_length cells t t-in) in
    let P : Cell → Cell → Type 0 = λ a b. is_naming dir a b.at ≡ true in
    let here = own_cell cells s k some_cell s-in k-in in
    let named' = subst (λ (a : Cell). P a (cell_at cells n)) here
    (subst (P (get_or (get_or runs s []) k some_cell)) (own_cell cells t j some_cell t-in j-in) named) in
    get_or-map (strip_beyond runs s dir) (get_or runs s []) k some_cell None k-in
    ∙ ap (strip_beyond runs s dir) here
    ∙ beyond_is_own cells cut s t dir i n small ((indices_are cells cut.rules t t-in).each j 0 j-in')
    (owner_is cells cut t (omega (arith, t-in, count_same cells)) j 0 j-in') apart named'

-- and the other way round
record HasLabel (runs : List (List Cell)) (s t dir k : ℕ) : Type 0 where
  inside : k < length (get_or runs s [])
  beyond : IsBeyond runs s dir t (get_or (get_or runs s []) k some_cell)

label_found : (runs : List (List Cell)) (s t dir k : ℕ) → get_or (labels_of runs s dir) k None ≡ Some t → HasLabel runs s t dir k
label_found runs s t dir k is =
    let own : List Cell = get_or runs s [] in
    elim (cases_lt k (length own)) [
      | inl inside ↦ record {
        inside = inside;
        beyond = beyond_found runs s dir t (get_or own k some_cell) (sym (get_or-map (strip_beyond runs s dir) own k some_cell None inside) ∙ is);
      }
      | inr past ↦ absurd (none-some t
          (sym (get_or_past (labels_of runs s dir) k None (omega (arith, past, length-map own (strip_beyond runs s dir)))) ∙ is))
    ]

-- how many columns further on the cell is that a cell names in a direction, as a difference of two numbers
abbrev back_by : ℕ → ℕ
back_by zero = 1
back_by (suc dir) = 0

abbrev on_by : ℕ → ℕ
on_by zero = 0
on_by (suc zero) = 0
on_by (suc (suc zero)) = 1
on_by (suc (suc (suc dir))) = 0

-- where the cell of another strip is that a cell of one names
seen : (dir : ℕ) (own other : List Cell) → dir < 4 → IsRow own → IsRow other → (k j : ℕ) → k < length own → j < length other
    → is_naming dir (get_or own k some_cell) (get_or other j some_cell).at ≡ true
    → j + ((first_of other).at.x + back_by dir) ≡ k + ((first_of own).at.x + on_by dir)
seen zero own other small row row' k j k-in j-in named = omega (arith, (seen_left own other row row' k j k-in j-in named).0)
seen (suc zero) own other small row row' k j k-in j-in named = omega (arith, (seen_above own other row row' k j k-in j-in named).0)
seen (suc (suc zero)) own other small row row' k j k-in j-in named = omega (arith, (seen_right own other row row' k j k-in j-in named).0)
seen (suc (suc (suc zero))) own other small row row' k j k-in j-in named = omega (arith, (seen_below own other row row' k j k-in j-in named).0)
seen (suc (suc (suc (suc dir)))) own other small row row' k j k-in j-in named = absurd (omega (arith, small))

-- the labels of two strips for each other correspond
strips_mirrored : (cells : List Cell) → IsCut cells → (s t dir : ℕ) → s < length (strip_runs cells) → t < length (strip_runs cells) → (s ≡ t → ⊥) → dir < 4
    → AreMirrored (labels_of (strip_runs cells) s dir) (labels_of (strip_runs cells) t (opposite dir)) t s
    ((first_of (get_or (strip_runs cells) t [])).at.x + back_by dir) ((first_of (get_or (strip_runs cells) s [])).at.x + on_by dir)
strips_mirrored cells cut s t dir s-in t-in apart small =
    let runs : List (List Cell) = strip_runs cells in
    let row = row_is cells cut s s-in in
    let row' = row_is cells cut t t-in in
    let small' = opposite_small dir small in
    record {
      forth = λ k is.
          let has = label_found runs s t dir k is in
          let j : ℕ = has.beyond.place in
          let back = own_named_back cells cut dir s t k j small s-in t-in has.inside has.beyond.inside has.beyond.named in (
            j,
            seen dir (get_or runs s []) (get_or runs t []) small row row' k j has.inside has.beyond.inside has.beyond.named,
            label_there cells cut t s (opposite dir) j k t-in s-in (λ e. apart (sym e)) small' has.beyond.inside has.inside back,
          );
      back = λ j is.
          let has = label_found runs t s (opposite dir) j is in
          let k : ℕ = has.beyond.place in
          let P : ℕ → Type 0 = λ d. is_naming d (get_or (get_or runs s []) k some_cell) (get_or (get_or runs t []) j some_cell).at ≡ true in
          let named = subst P (opposite_twice dir small)
          (own_named_back cells cut (opposite dir) t s j k small' t-in s-in has.inside has.beyond.inside has.beyond.named) in (
            k,
            seen dir (get_or runs s []) (get_or runs t []) small row row' k j has.beyond.inside has.inside named,
            label_there cells cut s t dir k j s-in t-in apart small has.beyond.inside has.inside named,
          );
    }

-- the edge over which the reverse of a link leads
abbrev edge_back : ℕ → ℕ
edge_back edge = outside_of (opposite (outside_of edge))

outside_back : (edge : ℕ) → edge < 4 → (outside_of (edge_back edge) ≡ opposite (outside_of edge)) × (edge_back edge < 4)
outside_back zero small = (refl, omega arith)
outside_back (suc zero) small = (refl, omega arith)
outside_back (suc (suc zero)) small = (refl, omega arith)
outside_back (suc (suc (suc zero))) small = (refl, omega arith)
outside_back (suc (suc (suc (suc edge)))) small = absurd (omega (arith, small))

-- a portal between points of whole cells
abbrev between : ℕ → ℕ → ℕ → ℕ → Portal
between x z X Z = record { left = sixteenths x z; right = sixteenths X Z }

same_portal : (x z X Z x' z' X' Z' : ℕ) → x ≡ x' → z ≡ z' → X ≡ X' → Z ≡ Z' → between x z X Z ≡ between x' z' X' Z'
same_portal x z X Z x' z' X' Z' ex ez eX eZ = λ i. between (ex i) (ez i) (eX i) (eZ i)

abbrev turned : Portal → Portal
turned portal = record { left = portal.right; right = portal.left }

-- the portal of the link back is that of the link, turned
portal_back : (edge : ℕ) (own other : List Cell) (first last first' last' : ℕ) → edge < 4
    → MeetsAt edge own first first → MeetsAt edge own last last → LiesBeyond edge own other first last
    → first' + ((first_of other).at.x + back_by (outside_of edge)) ≡ first + ((first_of own).at.x + on_by (outside_of edge))
    → last' + ((first_of other).at.x + back_by (outside_of edge)) ≡ last + ((first_of own).at.x + on_by (outside_of edge))
    → edge_portal (edge_back edge) ((first_of other).at.x + first') ((first_of other).at.x + last') (first_of other).at.z
    ≡ turned (edge_portal edge ((first_of own).at.x + first) ((first_of own).at.x + last) (first_of own).at.z)
portal_back zero own other first last first' last' small meets meets' beyond begins ends =
    same_portal _ _ _ _ _ _ _ _ (omega (arith, begins)) beyond.0 (omega (arith, ends)) beyond.0
portal_back (suc zero) own other first last first' last' small meets meets' beyond begins ends =
    same_portal _ _ _ _ _ _ _ _ (omega (arith, begins, meets, meets')) beyond.0 (omega (arith, begins, meets, meets')) (omega (arith, beyond.0))
portal_back (suc (suc zero)) own other first last first' last' small meets meets' beyond begins ends =
    same_portal _ _ _ _ _ _ _ _ (omega (arith, ends)) beyond.0 (omega (arith, begins)) beyond.0
portal_back (suc (suc (suc zero))) own other first last first' last' small meets meets' beyond begins ends =
    same_portal _ _ _ _ _ _ _ _ (omega (arith, ends, meets, meets')) (omega (arith, beyond.0)) (omega (arith, ends, meets, meets')) beyond.0
portal_back (suc (suc (suc (suc edge)))) own other first last first' last' small meets meets' beyond begins ends = absurd (omega (arith, small))

-- the link along a run that is listed is listed
link_listed : (tile : ℕ) (runs : List (List Cell)) (s edge : ℕ) (part : LabelRun) → s < length runs → edge < 4
    → Contains (runs_of (labels_of runs s (outside_of edge))) part → Contains (strip_links tile runs) (strip_link tile (get_or runs s []) s edge part)
link_listed tile runs s edge part there small listed =
    let link : Link = strip_link tile (get_or runs s []) s edge part in
    let over : ℕ → List Link = λ s. flat_map (strip_links_over tile runs s) (range_with_len 0 4) in
    Contains-ordered_links link (flat_map over (range_with_len 0 (length runs)))
    (gathered_held over link 0 (length runs) s (omega arith) (omega (arith, there))
    (gathered_held (strip_links_over tile runs s) link 0 4 edge (omega arith) (omega (arith, small))
    (Contains-map (strip_link tile (get_or runs s []) s edge) (runs_of (labels_of runs s (outside_of edge))) part listed)))

-- each link has its reverse
reverse_listed : (cells : List Cell) → IsCut cells → (tile s edge : ℕ) (part : LabelRun) → s < length (strip_runs cells) → edge < 4
    → IsMaximal (labels_of (strip_runs cells) s (outside_of edge)) part
    → HasReverse (strip_links tile (strip_runs cells)) (strip_link tile (get_or (strip_runs cells) s []) s edge part)
reverse_listed cells cut tile s edge part there small is =
    let runs : List (List Cell) = strip_runs cells in
    let own : List Cell = get_or runs s [] in
    let t : ℕ = part.label in
    let other : List Cell = get_or runs t [] in
    let dir : ℕ = outside_of edge in
    let order : part.first ≤ part.last = is.range.order in
    let begin = label_found runs s t dir part.first (is.range.labelled part.first (omega arith) order) in
    let end = label_found runs s t dir part.last (is.range.labelled part.last order (omega arith)) in
    let back = mirrored_run (labels_of runs s dir) (labels_of runs t (opposite dir)) t s ((first_of other).at.x + back_by dir) ((first_of own).at.x + on_by dir) part
    (strips_mirrored cells cut s t dir there begin.beyond.there begin.beyond.apart (omega (arith, small))) is refl in
    let outside = outside_back edge small in
    let P : ℕ → Type 0 = λ d. Contains (runs_of (labels_of runs t d)) back.mirrored in
    let listed = link_listed tile runs t (edge_back edge) back.mirrored begin.beyond.there outside.1
    (subst P (sym outside.0) (maximal_listed (labels_of runs t (opposite dir)) back.mirrored back.maximal)) in
    let at_begin = placed cells cut edge s t part.first part.first there small (omega arith) begin.inside begin.beyond begin.beyond in
    let at_end = placed cells cut edge s t part.last part.last there small (omega arith) end.inside end.beyond end.beyond in
    let at_both = placed cells cut edge s t part.first part.last there small order end.inside begin.beyond end.beyond in
    let portal = portal_back edge own other part.first part.last back.mirrored.first back.mirrored.last small at_begin.0 at_end.0 at_both.1 back.first back.last in
    let Q : Link → Type 0 = Contains (strip_links tile runs) in
    record { edge = edge_back edge; back = subst Q (λ i. made (back.label i) (portal i)) listed }
  where
    made : ℕ → Portal → Link
    made index portal = record {
      from = record { tile = tile; index = part.label };
      edge = edge_back edge;
      to = record { tile = tile; index = index };
      portal = portal;
    }

pub strips_two_way : (tile : ℕ) (cells : List Cell) → IsCut cells → AreTwoWay (strip_links tile (strip_runs cells))
strips_two_way tile cells cut =
    let runs : List (List Cell) = strip_runs cells in
    let P : Link → Type 0 = HasReverse (strip_links tile runs) in
    All-ordered_links P (flat_map (λ s. flat_map (strip_links_over tile runs s) (range_with_len 0 4)) (range_with_len 0 (length runs)))
    (gathered_all P (λ s. flat_map (strip_links_over tile runs s) (range_with_len 0 4)) 0 (length runs)
    (λ s least most. gathered_all P (strip_links_over tile runs s) 0 4
    (λ edge least' most'.
    let labels : List (Option ℕ) = labels_of runs s (outside_of edge) in
    All-map P (strip_link tile (get_or runs s []) s edge) (runs_of labels)
    (λ k d there. reverse_listed cells cut tile s edge (get_or (runs_of labels) k d) (omega (arith, most)) (omega (arith, most')) (runs_are_maximal labels k d there)))))

-- the side of a column within a run lies along the run's portal
side_within : (edge x z size first last k : ℕ) (own : List Cell) → edge < 4 → size ≡ length own → first ≤ k → k ≤ last → last < size → MeetsAt edge own k k
    → LiesAlong (edge_portal edge (x + first) (x + last) z).right (edge_portal edge (x + first) (x + last) z).left
    (edge_portal edge (x + k) (x + k) z).right (edge_portal edge (x + k) (x + k) z).left
side_within zero x z size first last k own small many low high inside meets =
    toward_right z (x + first) (x + last + 1) (x + k) (x + k + 1) (omega (arith, low)) (omega arith) (omega (arith, high))
side_within (suc zero) x z size first last k own small many low high inside meets =
    let same : last ≡ k = omega (arith, many, high, inside, meets) in
    let P : ℕ → Type 0 = λ n. LiesAlong (sixteenths (x + n + 1) z) (sixteenths (x + n + 1) (z + 1)) (sixteenths (x + k + 1) z) (sixteenths (x + k + 1) (z + 1)) in
    subst P (sym same) (toward_top (x + k + 1) z (z + 1) z (z + 1) (omega arith) (omega arith) (omega arith))
side_within (suc (suc zero)) x z size first last k own small many low high inside meets =
    toward_left (z + 1) (x + last + 1) (x + first) (x + k + 1) (x + k) (omega (arith, low)) (omega arith) (omega (arith, high))
side_within (suc (suc (suc zero))) x z size first last k own small many low high inside meets =
    let same : first ≡ k = omega (arith, low, meets) in
    let P : ℕ → Type 0 = λ n. LiesAlong (sixteenths (x + n) (z + 1)) (sixteenths (x + n) z) (sixteenths (x + k) (z + 1)) (sixteenths (x + k) z) in
    subst P (sym same) (toward_bottom (x + k) (z + 1) z (z + 1) z (omega arith) (omega arith) (omega arith))
side_within (suc (suc (suc (suc edge)))) x z size first last k own small many low high inside meets = absurd (omega (arith, small))

-- each connection is linked
pub strips_linked : (setting : Setting) (free : FreeLayer) → IsCut free.cells → LinksConnected (strip_mesh_of setting free)
unfolding strip_mesh_of
strips_linked setting free cut s t dir from to is =
    let runs : List (List Cell) = strip_runs free.cells in
    let own : List Cell = get_or runs s [] in
    let edge : ℕ = outside_of dir in
    let small : edge < 4 = omega arith in
    let outside : outside_of edge ≡ dir = omega (arith, is.direction) in
    let k : ℕ = is.has.0 in
    let k-in : k < length own = is.has.1 in
    let j : ℕ = is.has_other.0 in
    let from_is : get_or own k some_cell ≡ from = get_or_default own k some_cell from k-in ∙ is.has.2 in
    let to_is : get_or (get_or runs t []) j some_cell ≡ to = get_or_default (get_or runs t []) j some_cell to is.has_other.1 ∙ is.has_other.2 in
    let P : Cell → Cell → Type 0 = λ a b. is_naming dir a b.at ≡ true in
    let named = subst (λ (a : Cell). P a (get_or (get_or runs t []) j some_cell)) (sym from_is) (subst (P from) (sym to_is) is.named) in
    let label = ap (λ d. get_or (labels_of runs s d) k None) outside
    ∙ label_there free.cells cut s t dir k j is.first is.second is.apart is.direction k-in is.has_other.1 named in
    let found = run_found (labels_of runs s (outside_of edge)) k t (omega (arith, k-in, length-map own (strip_beyond runs s (outside_of edge)))) label in
    let beyond = (label_found runs s t (outside_of edge) k label).beyond in
    let meets = (placed free.cells cut edge s t k k is.first small (omega arith) k-in beyond beyond).0 in
    let row = row_is free.cells cut s is.first in
    let part : LabelRun = found.run in
    let labels : List (Option ℕ) = labels_of runs s (outside_of edge) in
    let range = (All-contains (IsMaximal labels) (runs_of labels) part (runs_are_maximal labels) found.listed).range in
    let last-in : part.last < length own = omega (arith, range.inside, length-map own (strip_beyond runs s (outside_of edge))) in
    let through : Portal = edge_portal edge ((first_of own).at.x + part.first) ((first_of own).at.x + part.last) (first_of own).at.z in
    let Q : ℕ → ℕ → Type 0 = λ x z. LiesAlong through.right through.left (edge_portal edge x x z).right (edge_portal edge x x z).left in
    let x_is : (first_of own).at.x + k ≡ from.at.x = sym (row.x k some_cell k-in) ∙ ap (λ (c : Cell). c.at.x) from_is in
    let z_is : (first_of own).at.z ≡ from.at.z = sym (row.z k some_cell k-in) ∙ ap (λ (c : Cell). c.at.z) from_is in
    let side = side_within edge (first_of own).at.x (first_of own).at.z (length own) part.first part.last k own small refl found.first found.last last-in meets in (
      strip_link free.tile own s edge part,
      link_listed free.tile runs s edge part is.first small found.listed,
      record {
        from = refl;
        edge = refl;
        to = ap (λ (n : ℕ). record { tile = free.tile; index = n }) found.same;
        side = subst (λ x. Q x from.at.z) x_is (subst (Q ((first_of own).at.x + k)) z_is side);
      },
    )

-- each link of a tile of strips has its reverse
pub strips_back : (setting : Setting) (free : FreeLayer) → IsCut free.cells → AreTwoWay (strip_mesh_of setting free).links
unfolding strip_mesh_of
strips_back setting free cut = strips_two_way free.tile free.cells cut
