use Rattle.std.proofs.Common.{◌≡◌, ◌<◌, ℕ, length, ap, ◌∙◌, sym, refl, arith}
use Rattle.std.specs.Global.{Vec}
use Rattle.std.proofs.lemmas.List.FromFn.{length-map-range_with_len}
use Rattle.mesh_types.specs.declared.region.Region.{Region}
use Rattle.mesh_types.specs.StripPolygons.{strip_runs}
use Rattle.mesh_types.specs.Regions.{begins_region}
use Rattle.mono_regions.specs.declared.touching.SeenStrips.TheVariants.{Nothing}
use Rattle.mono_regions.specs.Joining.{touched_from, joined_from}
use Rattle.mono_regions.proofs.JoinLaws.{strips_few, number_of, seen_among, begins_is}
use Rattle.mono_regions.proofs.Gathered.{one_region, no_region, all_regions}
use Rattle.mono_regions.proofs.region_chains.regions_joined.Goals as goal
use Rattle.mono_regions.proofs.region_chains.regions_joined.Goals.{then-is_unjoined+in_ok-region+in_ok-push, else-is_unjoined}

pub bounds-below-first : goal.bounds-below-first
bounds-below-first c =
    omega (
      arith,
      c.loop-first-test.true,
      ap length c.requires.joined,
      length-map-range_with_len (joined_from (strip_runs c.args.cells.now)) 0 (length (strip_runs c.args.cells.now)),
      ap length c.requires.below,
      length-map-range_with_len (touched_from c.args.cells.now 3) 0 (length (strip_runs c.args.cells.now)),
    )

pub is_unjoined-requires : goal.is_unjoined-requires
is_unjoined-requires c =
    let cells = c.args.cells.now in
    let joined = ap length c.requires.joined ∙ length-map-range_with_len (joined_from (strip_runs cells)) 0 (length (strip_runs cells)) in
    let there : c.loop-first.first < length (strip_runs cells) = omega (arith, c.loop-first-test.true, joined) in
    seen_among cells 3 c.loop-first.first (length c.args.joined.now) _
    (number_of (touched_from cells 3) c.args.below.now _ c.loop-first.first Nothing c.requires.below there refl) joined

pub overflow_cast-first : goal.overflow_cast-first
overflow_cast-first c =
    omega (
      arith,
      c.loop-first-test.true,
      ap length c.requires.joined,
      length-map-range_with_len (joined_from (strip_runs c.args.cells.now)) 0 (length (strip_runs c.args.cells.now)),
      strips_few c.args.cells.now c.requires.strips.cut,
    )

pub overflow_cast-first-then-is_unjoined : goal.overflow_cast-first-then-is_unjoined
overflow_cast-first-then-is_unjoined c =
    omega (
      arith,
      c.loop-first-test.true,
      ap length c.requires.joined,
      length-map-range_with_len (joined_from (strip_runs c.args.cells.now)) 0 (length (strip_runs c.args.cells.now)),
      strips_few c.args.cells.now c.requires.strips.cut,
    )

pub region-requires-clause-there : goal.region-requires-clause-there
region-requires-clause-there c =
    omega (
      arith,
      c.loop-first-test.true,
      ap length c.requires.joined,
      length-map-range_with_len (joined_from (strip_runs c.args.cells.now)) 0 (length (strip_runs c.args.cells.now)),
    )

pub loop-first-preserved : goal.loop-first-preserved
loop-first-preserved c =
    let cells = c.args.cells.now in
    let first : ℕ = c.loop-first.first in
    let joined = ap length c.requires.joined ∙ length-map-range_with_len (joined_from (strip_runs cells)) 0 (length (strip_runs cells)) in
    let there : first < length (strip_runs cells) = omega (arith, c.loop-first-test.true, joined) in
    let asked : c.is_unjoined.result ≡ begins_region (strip_runs cells) first =
    c.is_unjoined.ensures
    ∙ begins_is cells c.requires.strips.cut c.args.joined.now _ first c.requires.joined there
    (number_of (touched_from cells 3) c.args.below.now _ first Nothing c.requires.below there refl) in
    elim c.if-is_unjoined.branch [
      | then-is_unjoined+in_ok-region+in_ok-push w ↦
          one_region cells first c.loop-first.regions.items _ _ (sym asked ∙ w.if-is_unjoined.true)
          (ap (λ (v : Vec Region). v.items) w.regions-is ∙ w.in_ok-push.ensures.items) w.in_ok-region.ensures c.loop-first.invariant
      | else-is_unjoined w ↦
          ap (λ (v : Vec Region). v.items) w.regions-is
          ∙ no_region cells first c.loop-first.regions.items (sym asked ∙ w.if-is_unjoined.false) c.loop-first.invariant
    ]

pub returns : goal.returns
returns c =
    let cells = c.args.cells.now in
    let joined = ap length c.requires.joined ∙ length-map-range_with_len (joined_from (strip_runs cells)) 0 (length (strip_runs cells)) in
    all_regions cells c.loop-first.first c.loop-first.regions.items _
    (omega (arith, c.loop-first.auto, joined)) (omega (arith, c.loop-first-test.false, joined))
    c.from_vec.ensures c.loop-first.invariant
