use Rattle.std.proofs.Common.{◌≡◌, ℕ, ◌+◌, List, length, map, ◌∙◌, sym, ap, subst, arith}
use Rattle.agent_erode.specs.Clearances.{is_beyond}
use Rattle.agent_erode.proofs.Stages.{IsSpread}
use Rattle.cell_table.proofs.Tables.{table_length}
use Rattle.agent_erode.proofs.Rounds.{spread_begins, spread_goes_on, spread_ends}
use Rattle.agent_erode.proofs.reach.spread.Goals as goal
use Rattle.agent_erode.proofs.reach.spread.Goals.{then-loop-cost-test+else-third-count, else-loop-cost-test}

pub reach_boundary-requires : goal.reach_boundary-requires
reach_boundary-requires c =
    let long = ap (λ (t : List (List ℕ)). length t) (c.as_slice-table.ensures.value ∙ c.in_ok-table.ensures) ∙ table_length c.args.cells.now in
    omega (arith, long, c.requires.cells.few)

pub loop-cost-init : goal.loop-cost-init
loop-cost-init c = record {
  some = omega arith;
  most = c.requires.bound;
  table = c.as_slice-table.ensures.value ∙ c.in_ok-table.ensures;
  spread = spread_begins c.args.cells.now c.requires.cells c.as_slice-table.result.now c.args.reached.now c.reach_boundary.new.self
      (c.as_slice-table.ensures.value ∙ c.in_ok-table.ensures) c.requires.reached c.in_ok-reach_boundary.ensures;
}

pub round-requires-clause-third : goal.round-requires-clause-third
round-requires-clause-third c = c.loop-cost.invariant.spread.before_both.rises

pub round-requires-clause-second : goal.round-requires-clause-second
round-requires-clause-second c = c.loop-cost.invariant.spread.before_last.rises

pub round-requires-clause-first : goal.round-requires-clause-first
round-requires-clause-first c = c.loop-cost.invariant.spread.last.rises

pub loop-cost-preserved : goal.loop-cost-preserved
loop-cost-preserved c =
    let cells = c.args.cells.now in
    let now = c.round.new.self in
    let P : ℕ → Type 0 = λ first. IsSpread cells now first c.loop-cost.first c.loop-cost.second (c.loop-cost.cost + 1) in
    record {
      some = omega arith;
      most = omega arith;
      table = c.loop-cost.invariant.table;
      spread = subst P (sym c.count-end.ensures)
          (spread_goes_on cells c.requires.cells c.as_slice-table.result.now c.loop-cost.reached now
          c.loop-cost.first c.loop-cost.second c.loop-cost.third c.loop-cost.cost c.loop-cost.invariant.table c.loop-cost.invariant.some
          c.loop-cost.invariant.spread c.in_ok-round.ensures);
    }

pub returns : goal.returns
returns c =
    let cells = c.args.cells.now in
    elim c.loop-cost-test.branch [
      | then-loop-cost-test+else-third-count w ↦
          spread_ends cells c.requires.cells c.loop-cost.reached c.loop-cost.first c.loop-cost.second c.loop-cost.third c.loop-cost.cost c.args.bound
          c.loop-cost.invariant.some c.loop-cost.invariant.most (omega (arith, w.if-third-count.false, w.count.ensures)) c.loop-cost.invariant.spread
      | else-loop-cost-test w ↦
          let last : c.loop-cost.cost ≡ c.args.bound = omega (arith, w.loop-cost-test.false) in
          c.loop-cost.invariant.spread.kept ∙ ap (λ n. map (is_beyond cells n) cells) last
    ]
