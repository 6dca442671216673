-- Each way out of the loop comes to what it says, and each portal that stays is passed over.
use Rattle.std.proofs.Common.{◌≡◌, ◌-◌, length, subst, inl, inr, arith}
use Rattle.std.proofs.lemmas.Int.{ints}
use Rattle.mesh_types.proofs.Words.{some_portal}
use Rattle.funnel_path.specs.PassedOver.{ArePassed}
use Rattle.funnel_path.proofs.PassedLaws.{passed_more}
use Rattle.funnel_path.proofs.ConeLaws.{ahead_of, near_of, not_opposite, turned_back_at}
use Rattle.funnel_path.proofs.corners.pass_over.Goals as goal
use Rattle.funnel_path.proofs.corners.pass_over.Goals.{else-first-place-via-then-first-place+else-look_opposite, else-first-place-via-else-first-place}

pub orient-requires-clause-first : goal.orient-requires-clause-first
orient-requires-clause-first c = (c.requires.coordinates c.loop-place.place some_portal c.loop-place-test.true).right

pub orient-requires-clause-second : goal.orient-requires-clause-second
orient-requires-clause-second c = (c.requires.coordinates c.loop-place.place some_portal c.loop-place-test.true).left

pub is_inside-requires-clause-portal : goal.is_inside-requires-clause-portal
is_inside-requires-clause-portal c = c.requires.coordinates c.loop-place.place some_portal c.loop-place-test.true

pub nearer_end-requires-clause-portal : goal.nearer_end-requires-clause-portal
nearer_end-requires-clause-portal c = c.requires.coordinates c.loop-place.place some_portal c.loop-place-test.true

pub look_opposite-requires-clause-first : goal.look_opposite-requires-clause-first
look_opposite-requires-clause-first c = c.requires.coordinates (c.loop-place.place - 1) some_portal (omega arith)

pub look_opposite-requires-clause-second : goal.look_opposite-requires-clause-second
look_opposite-requires-clause-second c = c.requires.coordinates c.loop-place.place some_portal c.loop-place-test.true

pub returns-then-orient-ne0 : goal.returns-then-orient-ne0
returns-then-orient-ne0 c =
    let chained = c.requires.chained in
    ahead_of chained.leads.start c.args.portals.now chained.goal c.args.apex c.args.first c.loop-place.place chained.leads.chain c.loop-place.auto.place c.loop-place-test.true c.requires.behind c.loop-place.invariant
    (λ e. omega (arith, ints))

pub returns-then-not-is_inside : goal.returns-then-not-is_inside
returns-then-not-is_inside c =
    inl (near_of c.args.portals.now c.args.apex c.args.first c.loop-place.place c.nearer_end.result c.loop-place.auto.place c.loop-place-test.true c.loop-place.invariant (omega (arith, ints)) c.if-not-is_inside.ensures c.nearer_end.ensures)

pub returns-then-look_opposite : goal.returns-then-look_opposite
returns-then-look_opposite c =
    let chained = c.requires.chained in
    inr (turned_back_at chained.leads.start c.args.portals.now chained.goal c.args.apex c.args.first c.loop-place.place c.left_end.result chained.leads.chain c.if-first-place.true c.loop-place-test.true c.loop-place.invariant
    (record { on_line = omega (arith, ints); between = c.if-not-is_inside.ensures }) (c.look_opposite.ensures.0 c.if-look_opposite.true) c.left_end.ensures)

pub loop-place-preserved : goal.loop-place-preserved
loop-place-preserved c =
    let chained = c.requires.chained in
    passed_more chained.leads.start c.args.portals.now chained.goal c.args.apex c.args.first c.loop-place.place chained.leads.chain c.loop-place-test.true c.loop-place.invariant
    (record { on_line = omega (arith, ints); between = c.if-not-is_inside.ensures })
    (elim c.else-first-place.branch [
      | else-first-place-via-then-first-place+else-look_opposite w ↦ λ m low next. not_opposite c.args.portals.now c.loop-place.place m w.look_opposite.result w.look_opposite.ensures w.if-look_opposite.false next
      | else-first-place-via-else-first-place w ↦ λ m low next opposite. omega arith
    ])

pub returns : goal.returns
returns c =
    let all : c.loop-place.place ≡ length c.args.portals.now = omega arith in
    subst (ArePassed c.args.apex c.args.portals.now c.args.first) all c.loop-place.invariant
