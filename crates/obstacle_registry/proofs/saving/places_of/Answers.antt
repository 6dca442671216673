use Rattle.std.proofs.Common.{◌≡◌, ℕ, ◌+◌, ◌-◌, ◌∙◌, List, length, set, Vec, Global, refl, ap, sym, subst, arith, length-set}
use Rattle.obstacle_registry.specs.Renewal.{rank}
use Rattle.obstacle_registry.proofs.Placing.{ArePlaced, all_placed, none_placed, one_placed, rank_within}
use Rattle.obstacle_registry.proofs.saving.places_of.Goals as goal
use Rattle.obstacle_registry.proofs.saving.places_of.Goals.{then-number-ne0, else-number-ne0}

pub overflow_sub-rank : goal.overflow_sub-rank
overflow_sub-rank c =
    (rank_within c.args.numbers.now c.args.rows.now c.loop-place.place c.rank.result _ c.requires.each c.requires.rising c.loop-place-test.true
    c.if-number-ne0.true c.rank.ensures).0

pub index_mut-requires : goal.index_mut-requires
index_mut-requires c =
    let within = rank_within c.args.numbers.now c.args.rows.now c.loop-place.place c.rank.result _ c.requires.each c.requires.rising c.loop-place-test.true
    c.if-number-ne0.true c.rank.ensures in
    omega (arith, within.1, c.loop-place.invariant.long, c.loop-place.places.ok.0)

pub loop-place-init : goal.loop-place-init
loop-place-init c = record {
  long = ap (λ (ns : List ℕ). length ns) c.in_ok-places.ensures.items;
  placed = λ k j d below within same. absurd (omega (arith, below));
}

pub loop-place-preserved : goal.loop-place-preserved
loop-place-preserved c = elim c.if-number-ne0.branch [
  | then-number-ne0 w ↦
      let more = one_placed c.args.numbers.now c.args.rows.now c.loop-place.places.items c.loop-place.place _ _ c.requires.each c.requires.rising
      c.requires.some c.loop-place.invariant.long c.loop-place-test.true refl (omega (arith, w.if-number-ne0.true)) c.loop-place.invariant.placed in
      let made : c.if-number-ne0.places.items ≡ set c.loop-place.places.items (rank c.args.numbers.now _ - 1) c.loop-place.place =
      ap (λ (places : Vec ℕ Global). places.items) w.places-is ∙ ap (λ n. set c.loop-place.places.items (n - 1) c.loop-place.place) w.rank.ensures in
      record {
        long = ap (λ (ns : List ℕ). length ns) made ∙ rw length-set c.loop-place.invariant.long;
        placed = subst (λ (places : List ℕ). ArePlaced c.args.numbers.now c.args.rows.now places (c.loop-place.place + 1)) (sym made) more;
      }
  | else-number-ne0 w ↦
      let made = ap (λ (places : Vec ℕ Global). places.items) w.places-is in
      record {
        long = ap (λ (ns : List ℕ). length ns) made ∙ c.loop-place.invariant.long;
        placed = subst (λ (places : List ℕ). ArePlaced c.args.numbers.now c.args.rows.now places (c.loop-place.place + 1)) (sym made)
            (none_placed c.args.numbers.now c.args.rows.now c.loop-place.places.items c.loop-place.place _ c.requires.some c.loop-place-test.true
            w.if-number-ne0.false c.loop-place.invariant.placed);
      }
]

pub returns : goal.returns
returns c =
    all_placed c.args.numbers.now c.args.rows.now c.loop-place.places.items c.loop-place.place c.requires.each c.requires.rising c.requires.some
    c.loop-place.invariant.long c.loop-place-test.false c.loop-place.invariant.placed
