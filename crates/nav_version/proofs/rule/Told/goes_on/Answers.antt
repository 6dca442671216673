use Rattle.std.proofs.Common.{◌<◌, ◌≤◌, ap, subst, rules, length, List}
use Rattle.std.specs.Prelude.{MatchBool}
use mathlib.Core.List.{IsPrefix}
use Rattle.nav_ground.specs.declared.history.Entry.{Entry}
use Rattle.nav_version.proofs.Beginnings.{IsPrefix-one}
use Rattle.nav_version.proofs.rule.Told.goes_on.Goals as goal

pub returns-clause-begins : goal.returns-clause-begins
returns-clause-begins c =
    let both = c.learn.new.self.log in
    let own : IsPrefix c.self.inside.seen.log both = subst (λ (list : List Entry). IsPrefix list both) (ap (λ s. s.log) c.again-both.ensures) c.learn.ensures.2 in
    let by : MatchBool (lib.Dec.leb c.from.inside.length c.self.inside.length) (length c.from.inside.seen.log ≤ length c.self.inside.seen.log)
    (length c.self.inside.seen.log < length c.from.inside.seen.log) = search rules in
    rw (← c.self.view_is, ← c.from.view_is) (IsPrefix-one c.self.inside.seen.log c.from.inside.seen.log both _ own c.learn.ensures.3 by)
