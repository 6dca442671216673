-- Steps of loops that gather lists.
use Rattle.std.proofs.Common.{◌≡◌, ℕ, ◌+◌, ◌<◌, ◌≤◌, length, List, [], ◌∷◌, ◌++◌, map, take, get_or, ap, ◌∙◌, sym, refl, arith, min, max}
use Rattle.std.specs.Prelude.{fold}
use Rattle.std.specs.List.{range_with_len, flat_map}
use Rattle.std.proofs.lemmas.List.{map_more, take_all, flat_map_more, append_assoc}
use Rattle.std.proofs.lemmas.List.Folds.{fold-map}
use Rattle.nav_ground.specs.declared.cell.Cell.{Cell}
use Rattle.nav_ground.proofs.Selections.{range-push}
use Rattle.mesh_types.specs.StripPolygons.{low_of, high_of}
use Rattle.mono_regions.specs.Indices.{cell_at}
use Rattle.mono_regions.proofs.RunLaws.{map-map}
use Rattle.strip_mesh.proofs.Counts.{first_is}

-- one element more is made from a list
pub one_more_made : {A B : Type 0} (f : A → B) (xs : List A) (k : ℕ) (d : A) (made next : List B) (y : B) → k < length xs
    → made ≡ map f (take k xs) → next ≡ made ++ y ∷ [] → y ≡ f (get_or xs k d) → next ≡ map f (take (k + 1) xs)
one_more_made {B = B} f xs k d made next y there before is made_is =
    is ∙ ap (λ (ys : List B). ys ++ y ∷ []) before ∙ ap (λ (z : B). map f (take k xs) ++ z ∷ []) made_is ∙ sym (map_more f xs k d there)

-- the same after a list that stood before
pub one_more_after : {A B : Type 0} (f : A → B) (xs : List A) (k : ℕ) (d : A) (start made next : List B) (y : B) → k < length xs
    → made ≡ start ++ map f (take k xs) → next ≡ made ++ y ∷ [] → y ≡ f (get_or xs k d) → next ≡ start ++ map f (take (k + 1) xs)
one_more_after {B = B} f xs k d start made next y there before is made_is =
    is ∙ ap (λ (ys : List B). ys ++ y ∷ []) before
    ∙ append_assoc start (map f (take k xs)) (y ∷ [])
    ∙ ap (λ (z : B). start ++ (map f (take k xs) ++ z ∷ [])) made_is
    ∙ ap (λ (ys : List B). start ++ ys) (sym (map_more f xs k d there))

-- one list more is gathered
pub one_more_gathered : {B : Type 0} (f : ℕ → List B) (n : ℕ) (start made next : List B)
    → made ≡ start ++ flat_map f (range_with_len 0 n) → next ≡ made ++ f n → next ≡ start ++ flat_map f (range_with_len 0 (n + 1))
one_more_gathered {B = B} f n start made next before is =
    is ∙ ap (λ (ys : List B). ys ++ f n) before
    ∙ flat_map_more f start (range_with_len 0 n) n
    ∙ ap (λ k. start ++ flat_map f (range_with_len 0 n ++ k ∷ [])) {x = n} {y = 0 + n} (omega arith)
    ∙ ap (λ ks. start ++ flat_map f ks) (sym (range-push 0 n))

-- what is made of all indices is made of the cells
pub made_of_cells : {B : Type 0} (f : Cell → B) (cells : List Cell) (run : List ℕ) (own : List Cell) (k : ℕ) → length run ≤ k
    → map (cell_at cells) run ≡ own → map (λ i. f (cell_at cells i)) (take k run) ≡ map f own
made_of_cells f cells run own k all are =
    ap (map (λ i. f (cell_at cells i))) (take_all k run all) ∙ sym (map-map f (cell_at cells) run) ∙ ap (map f) are

pub low_is : (cells : List Cell) (run : List ℕ) (k : ℕ) → 0 < length run → length run ≤ k
    → fold (λ low i. min low (cell_at cells i).floor) (cell_at cells (get_or run 0 0)).floor (take k run) ≡ low_of (map (cell_at cells) run)
low_is cells run k some all =
    ap (fold (λ low i. min low (cell_at cells i).floor) (cell_at cells (get_or run 0 0)).floor) (take_all k run all)
    ∙ ap (λ (c : Cell). fold (λ low i. min low (cell_at cells i).floor) c.floor run) (first_is cells run (map (cell_at cells) run) some refl)
    ∙ sym (fold-map (λ low (cell : Cell). min low cell.floor) (cell_at cells) _ run)

pub high_is : (cells : List Cell) (run : List ℕ) (k : ℕ) → 0 < length run → length run ≤ k
    → fold (λ high i. max high (cell_at cells i).floor) (cell_at cells (get_or run 0 0)).floor (take k run) ≡ high_of (map (cell_at cells) run)
high_is cells run k some all =
    ap (fold (λ high i. max high (cell_at cells i).floor) (cell_at cells (get_or run 0 0)).floor) (take_all k run all)
    ∙ ap (λ (c : Cell). fold (λ high i. max high (cell_at cells i).floor) c.floor run) (first_is cells run (map (cell_at cells) run) some refl)
    ∙ sym (fold-map (λ high (cell : Cell). max high cell.floor) (cell_at cells) _ run)
