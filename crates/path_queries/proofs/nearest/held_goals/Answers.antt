use Rattle.std.proofs.Common.{◌+◌, Vec, Global, ap, refl, subst, sym, ◌∙◌}
use Rattle.path_queries.specs.declared.nearest.HeldGoal.{HeldGoal}
use Rattle.path_queries.proofs.HeldLaws.{AreHeldBefore, held-all, held-less, held-more, held-none}
use Rattle.path_queries.proofs.nearest.held_goals.Goals as goal
use Rattle.path_queries.proofs.nearest.held_goals.Goals.{in-Some+in_ok-push-in-Some, in-None}

pub loop-which-init : goal.loop-which-init
loop-which-init c =
    subst (AreHeldBefore c.args.mesh.now c.args.goals.now 0) (sym c.new-held.ensures.items) (held-none c.args.mesh.now c.args.goals.now)

pub loop-which-preserved : goal.loop-which-preserved
loop-which-preserved c =
    let mesh = c.args.mesh.now in
    let goals = c.args.goals.now in
    let which = c.loop-which.which in
    let held = c.loop-which.held.items in
    elim c.match-locate.branch [
      | in-Some+in_ok-push-in-Some w ↦
          subst (AreHeldBefore mesh goals (which + 1)) (sym (ap (λ (v : Vec HeldGoal Global). v.items) w.held-is ∙ w.in_ok-push-in-Some.ensures.items))
          (held-more mesh goals which held w.in-Some.at c.loop-which-test.true (rw w.in-Some.is at c.locate.ensures.located) c.loop-which.invariant)
      | in-None w ↦
          let none = rw w.in-None.is at c.locate.ensures.none in
          subst (AreHeldBefore mesh goals (which + 1)) (sym (ap (λ (v : Vec HeldGoal Global). v.items) w.held-is))
          (held-less mesh goals which held (none.0 refl) c.loop-which.invariant)
    ]

pub returns : goal.returns
returns c = held-all c.args.mesh.now c.args.goals.now c.loop-which.which c.loop-which.held.items c.loop-which.invariant c.loop-which-test.false
