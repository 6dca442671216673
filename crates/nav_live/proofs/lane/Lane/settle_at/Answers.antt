use Rattle.std.proofs.Common.{◌≡◌, ◌++◌, ◌∙◌, ℕ, length, ap, subst, arith}
use Rattle.nav_version.specs.Pairs.{EyeView}
use Rattle.nav_live.specs.declared.lane.LineAnswer.TheVariants.{Settled}
use Rattle.nav_live.specs.LaneTexts.{said_text}
use Rattle.nav_live.proofs.LaneLaws.{longest_learnt, ran_settle_by}
use Rattle.nav_live.proofs.lane.Lane.settle_at.Goals as goal

pub returns-clause-ran : goal.returns-clause-ran
returns-clause-ran c =
    let covered = c.is_covered_by.ensures.0 c.if-not-is_covered_by.false in
    λ lock spoken keeps told. ran_settle_by lock spoken c.args.self.now c.note.new.self c.learn.new.self c.args.told.entries c.length-k.result keeps
    (record { text = c.in_ok-note.ensures.noted.text; adds = c.in_ok-note.ensures.noted.adds; last = c.in_ok-note.ensures.noted.last })
    c.in_ok-note.ensures.number c.in_ok-note.ensures.pass c.in_ok-note.ensures.walker c.in_ok-note.ensures.eye
    c.learn.ensures.learnt c.learn.ensures.own c.length-k.ensures covered.0 covered.1

pub returns-clause-learns : goal.returns-clause-learns
returns-clause-learns c =
    let covered = c.is_covered_by.ensures.0 c.if-not-is_covered_by.false in
    let learnt = c.in_ok-note.ensures.eye ∙ c.learn.ensures.learnt in
    λ done. record {
      learnt = learnt;
      longest = ap (λ (eye : EyeView). length eye.seen) learnt ∙ longest_learnt c.args.self.now.eye.seen c.args.told.entries (omega (arith, covered.1, c.length-k.ensures));
      text = subst (λ (k : ℕ). c.note.new.self.text.items ≡ c.args.self.now.text.items ++ said_text (Settled k)) c.length-k.ensures c.in_ok-note.ensures.noted.text;
    }
