use Rattle.std.proofs.Common.{w32, ◌*◌, ◌≤◌, ℤ, subst, rules, arith}
use Rattle.std.specs.Int.RustNames.{unsigned_abs}
use Rattle.std.proofs.lemmas.Int.{to_z-of_z}
use Rattle.crowd_lead.proofs.CutLaws.{no_longer, under_longer}
use Rattle.crowd_lead.proofs.vectors.cut.Goals as goal

pub returns-then-length-most-clause-slow : goal.returns-then-length-most-clause-slow
returns-then-length-most-clause-slow c = under_longer c.length_of-length.ensures.least.reaches c.if-length-most.true

pub returns-clause-slow : goal.returns-clause-slow
returns-clause-slow c =
    rw (to_z-of_z w32 c.part_of.result (search rules), to_z-of_z w32 c.part_of-2.result (search rules))
    (no_longer c.args.v (record { x = c.part_of.result; z = c.part_of-2.result }) c.args.most c.length_of-length.result c.length_of-length.ensures.least.reaches
    c.if-length-most.false
    (subst (λ (n : ℤ). unsigned_abs c.part_of.result * c.length_of-length.result ≤ unsigned_abs n * c.args.most) (to_z-of_z w32 c.args.v.x (search rules)) c.part_of.ensures)
    (subst (λ (n : ℤ). unsigned_abs c.part_of-2.result * c.length_of-length.result ≤ unsigned_abs n * c.args.most) (to_z-of_z w32 c.args.v.z (search rules)) c.part_of-2.ensures))

pub returns-clause-whole : goal.returns-clause-whole
returns-clause-whole c short = absurd (omega (arith, c.if-length-most.false, c.length_of-length.ensures.least.least c.args.most short))
