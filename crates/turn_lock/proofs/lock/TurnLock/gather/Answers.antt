use Rattle.std.proofs.Common.{rules, ap, sym, ◌∙◌, ◌++◌, map, Some}
use Rattle.std.proofs.lemmas.List.Elements.{All-pop}
use Rattle.turn_lock.specs.Locks.{IsOf, claim_of}
use Rattle.turn_lock.specs.SeatViews.{claims_of}
use Rattle.turn_lock.proofs.Gathering.{gathered, gathered_first}
use Rattle.turn_lock.proofs.Seats.{joins}
use Rattle.turn_lock.proofs.lock.TurnLock.gather.Goals as goal

pub loop-pass-init : goal.loop-pass-init
loop-pass-init g c =
    let split = c.in-Some.ensures.items in
    let parts = All-pop (IsOf c.args.self.now) c.args.passes.items c.pop.new.self.items (Some c.in-Some.first) split c.requires.all.of in
    let view = c.first.view_is in
    let kept = c.first.invariant in (
      ap (λ p. p.table) view ∙ parts.1.table,
      ap (λ p. p.root) view ∙ parts.1.root,
      kept.0,
      kept.1,
      gathered_first _ _ c.in-Some.first _ _ split (ap claim_of view) kept.2,
      parts.0,
    )

pub join_seat-requires : goal.join_seat-requires
join_seat-requires g c =
    let parts = All-pop (IsOf c.args.self.now) c.loop-pass.passes.items c.pop-in-loop-pass.new.self.items (Some c.in-Some-pop.pass) c.in-Some-pop.ensures.items c.loop-pass.invariant.5 in
    let view = c.pass.view_is in
    let lock = c.self.view_is in
    let root = ap (λ l. Some l.root) (sym lock) in (
      c.loop-pass.invariant.0 ∙ ap (λ l. l.table) (sym lock),
      ap (λ p. p.table) view ∙ parts.1.table ∙ ap (λ l. l.table) (sym lock),
      c.pass.invariant.0,
      search rules,
      joins g.B.Booked.root g.B.Booked.entries g.B.Booked.maker _ _ _ _ _ _ (c.loop-pass.invariant.1 ∙ root) (ap (λ p. p.root) view ∙ parts.1.root ∙ root) c.loop-pass.invariant.3 c.pass.invariant.1,
    )

pub loop-pass-preserved : goal.loop-pass-preserved
loop-pass-preserved g c =
    let split = c.in-Some-pop.ensures.items in
    let parts = All-pop (IsOf c.args.self.now) c.loop-pass.passes.items c.pop-in-loop-pass.new.self.items (Some c.in-Some-pop.pass) split c.loop-pass.invariant.5 in
    let joined = c.join_seat.ensures in
    let me = joined.2 in
    let before = c.loop-pass.invariant in (
      joined.0 ∙ before.0,
      ap (λ m. m.0.root) me ∙ before.1,
      ap (λ m. m.1) me ∙ before.2,
      ap (λ m. m.0.holds) me ∙ before.3,
      ap (λ m. map claim_of c.pop-in-loop-pass.new.self.items ++ claims_of m.0) me ∙ gathered _ _ c.in-Some-pop.pass _ _ _ split (ap claim_of c.pass.view_is) c.pass.invariant.2 ∙ before.4,
      parts.0,
    )
