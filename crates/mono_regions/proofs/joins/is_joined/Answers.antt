use Rattle.std.proofs.Common.{◌≡◌, ℕ, true, false, List, length, ap, ◌∙◌, sym, refl, arith}
use Rattle.std.specs.Prelude.{◌&&◌}
use Rattle.std.specs.List.{list_all}
use Rattle.std.proofs.lemmas.List.FromFn.{length-map-range_with_len}
use Rattle.mesh_types.specs.StripPolygons.{strip_runs}
use Rattle.mono_regions.specs.declared.touching.SeenStrips.TheVariants.{Nothing}
use Rattle.mono_regions.specs.Seeing.{is_one}
use Rattle.mono_regions.specs.Joining.{indices_of, touched_from, is_fitting, has_area_of}
use Rattle.mono_regions.proofs.Touches.{joins_where}
use Rattle.mono_regions.proofs.JoinLaws.{number_of}
use Rattle.mono_regions.proofs.Tabled.{tabled_count, tabled_run, tabled_indices}
use Rattle.mono_regions.proofs.joins.is_joined.Goals as goal

pub list-over-requires : goal.list-over-requires
list-over-requires c = omega (arith, tabled_count c.args.cells.now c.args.strips.now c.requires.strips, c.requires.upper)

pub bounds-below-upper : goal.bounds-below-upper
bounds-below-upper c =
    omega (arith, c.requires.upper, ap length c.requires.below, length-map-range_with_len (touched_from c.args.cells.now 3) 0 (length (strip_runs c.args.cells.now)))

pub are_fitting-requires-clause-run : goal.are_fitting-requires-clause-run
are_fitting-requires-clause-run c =
    tabled_indices c.args.cells.now c.args.strips.now c.requires.strips c.args.lower _ c.list-run.ensures c.requires.lower

pub are_fitting-requires-clause-over : goal.are_fitting-requires-clause-over
are_fitting-requires-clause-over c =
    tabled_indices c.args.cells.now c.args.strips.now c.requires.strips c.args.upper _ c.list-over.ensures c.requires.upper

pub returns-then-is_one : goal.returns-then-is_one
returns-then-is_one c =
    let cells = c.args.cells.now in
    let s : ℕ = c.args.lower in
    let t : ℕ = c.args.upper in
    let run : c.list-run.result.now ≡ indices_of cells s = tabled_run cells c.args.strips.now c.requires.strips s _ c.list-run.ensures in
    let over : c.list-over.result.now ≡ indices_of cells t = tabled_run cells c.args.strips.now c.requires.strips t _ c.list-over.ensures in
    let below : is_one s (touched_from cells 3 t) ≡ true =
    ap (is_one s) (number_of (touched_from cells 3) c.args.below.now _ t Nothing c.requires.below c.requires.upper refl) ∙ sym c.is_one.ensures ∙ c.if-is_one.true in
    c.are_fitting.ensures
    ∙ ap (λ (is : List ℕ). list_all (is_fitting cells t c.list-over.result.now) is && has_area_of cells c.list-over.result.now is) run
    ∙ ap (λ (is : List ℕ). list_all (is_fitting cells t is) (indices_of cells s) && has_area_of cells is (indices_of cells s)) over
    ∙ sym (joins_where cells c.requires.strips.cut s t c.requires.lower c.requires.upper c.requires.only
    ∙ ap (λ b. b && (list_all (is_fitting cells t (indices_of cells t)) (indices_of cells s) && has_area_of cells (indices_of cells t) (indices_of cells s))) below)

pub returns-else-is_one : goal.returns-else-is_one
returns-else-is_one c =
    let cells = c.args.cells.now in
    let s : ℕ = c.args.lower in
    let t : ℕ = c.args.upper in
    let below : is_one s (touched_from cells 3 t) ≡ false =
    ap (is_one s) (number_of (touched_from cells 3) c.args.below.now _ t Nothing c.requires.below c.requires.upper refl) ∙ sym c.is_one.ensures ∙ c.if-is_one.false in
    c.if-is_one.false ∙ sym (joins_where cells c.requires.strips.cut s t c.requires.lower c.requires.upper c.requires.only
    ∙ ap (λ b. b && (list_all (is_fitting cells t (indices_of cells t)) (indices_of cells s) && has_area_of cells (indices_of cells t) (indices_of cells s))) below)
