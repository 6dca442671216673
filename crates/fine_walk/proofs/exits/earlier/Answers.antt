use Rattle.std.proofs.Common.{subst}
use Rattle.std.specs.Prelude.{Option}
use Rattle.std.proofs.lemmas.Bool.{iff_false}
use Rattle.fine_walk.specs.declared.exits.FineExit.{FineExit}
use Rattle.fine_walk.specs.Passing.{IsFirstBefore}
use Rattle.fine_walk.proofs.ExitLaws.{not_exit, first_found, taken, left}
use Rattle.fine_walk.proofs.exits.earlier.Goals as goal

pub returns-in_default : goal.returns-in_default
returns-in_default c =
    not_exit c.args.polygon.now c.args.ray c.requires.entered c.args.edge c.args.first c.requires.first c.in_default.ensures.none

pub returns-in_default-first : goal.returns-in_default-first
returns-in_default-first c =
    first_found c.args.polygon.now c.args.ray c.requires.entered c.args.edge c.in-Some.exit
    (subst (λ (first : Option FineExit). IsFirstBefore c.args.polygon.now c.args.ray c.args.edge first) c.in_default-first.is c.requires.first) c.in-Some.ensures.some

pub returns-then-is_less : goal.returns-then-is_less
returns-then-is_less c =
    taken c.args.polygon.now c.args.ray c.requires.entered c.args.edge c.in-Some.exit c.in-Some-first.before
    (subst (λ (first : Option FineExit). IsFirstBefore c.args.polygon.now c.args.ray c.args.edge first) c.in-Some-first.is c.requires.first) c.in-Some.ensures.some
    (c.is_less.ensures.0 c.if-is_less.true)

pub returns-else-is_less : goal.returns-else-is_less
returns-else-is_less c =
    left c.args.polygon.now c.args.ray c.requires.entered c.args.edge c.in-Some.exit c.in-Some-first.before
    (subst (λ (first : Option FineExit). IsFirstBefore c.args.polygon.now c.args.ray c.args.edge first) c.in-Some-first.is c.requires.first) c.in-Some.ensures.some
    (iff_false c.is_less.ensures c.if-is_less.false)
