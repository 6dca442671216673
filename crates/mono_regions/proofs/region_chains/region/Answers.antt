use Rattle.std.proofs.Common.{ℕ, length, ap, ◌∙◌, sym, refl, arith, None}
use Rattle.std.proofs.lemmas.List.FromFn.{length-map-range_with_len}
use Rattle.mesh_types.specs.StripPolygons.{strip_runs}
use Rattle.mono_regions.specs.Indices.{strip_at}
use Rattle.mono_regions.specs.Joining.{joined_from}
use Rattle.mono_regions.proofs.JoinLaws.{number_of}
use Rattle.mono_regions.proofs.Following.{region_made, left_begin, left_more, left_end, room_less, number_next, number_first}
use Rattle.mono_regions.proofs.Upon.{strip_made}
use Rattle.mono_regions.proofs.Tabled.{tabled_count, tabled_run, tabled_indices}
use Rattle.mono_regions.proofs.region_chains.region.Goals as goal

pub loop-next-init : goal.loop-next-init
loop-next-init c = record {
  small = number_first c.args.cells.now c.args.first c.requires.there;
  left = left_begin c.args.cells.now c.new-chain.result.items c.args.first c.new-chain.ensures.items;
}

pub list-requires : goal.list-requires
list-requires c =
    omega (arith, tabled_count c.args.cells.now c.args.strips.now c.requires.strips, c.loop-next.invariant.small.small c.in-Some.number c.in-Some.is)

pub strip-requires-clause-run : goal.strip-requires-clause-run
strip-requires-clause-run c =
    tabled_indices c.args.cells.now c.args.strips.now c.requires.strips c.in-Some.number _ c.list.ensures
    (c.loop-next.invariant.small.small c.in-Some.number c.in-Some.is)

pub bounds-joined-number : goal.bounds-joined-number
bounds-joined-number c =
    omega (
      arith,
      c.loop-next.invariant.small.small c.in-Some.number c.in-Some.is,
      ap length c.requires.joined,
      length-map-range_with_len (joined_from (strip_runs c.args.cells.now)) 0 (length (strip_runs c.args.cells.now)),
    )

pub loop-next-smaller : goal.loop-next-smaller
loop-next-smaller c =
    let small = c.loop-next.invariant.small.small c.in-Some.number c.in-Some.is in
    room_less c.args.cells.now c.requires.strips.cut c.loop-next.next _ c.in-Some.number c.in-Some.is small
    (sym (number_of (joined_from (strip_runs c.args.cells.now)) c.args.joined.now _ c.in-Some.number None c.requires.joined small refl))

pub loop-next-preserved : goal.loop-next-preserved
loop-next-preserved c =
    let cells = c.args.cells.now in
    let s : ℕ = c.in-Some.number in
    let small = c.loop-next.invariant.small.small s c.in-Some.is in
    let next = sym (number_of (joined_from (strip_runs cells)) c.args.joined.now _ s None c.requires.joined small refl) in
    record {
      small = number_next cells _ s next;
      left = left_more cells c.requires.strips.cut c.loop-next.chain.items _ _ c.loop-next.next _ s c.args.first c.in_ok-push.ensures.items
          (c.in_ok-strip.ensures
          ∙ ap (strip_at cells) (tabled_run cells c.args.strips.now c.requires.strips s _ c.list.ensures) ∙ strip_made cells c.requires.strips.cut.rules s small)
          c.in-Some.is next small c.loop-next.invariant.left;
    }

pub returns : goal.returns
returns c =
    region_made c.args.cells.now c.loop-next.chain.items _ c.args.first c.from_vec.ensures
    (left_end c.args.cells.now c.loop-next.chain.items c.loop-next.next c.args.first c.in_default.is c.loop-next.invariant.left)
