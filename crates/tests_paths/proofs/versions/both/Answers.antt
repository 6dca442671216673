use Rattle.std.proofs.Common.{◌≡◌, Some}
use Rattle.std.proofs.lemmas.List.Elements.{All-pop}
use Rattle.nav_version.specs.Pairs.{EyeView}
use Rattle.tests_paths.proofs.versions.both.Goals as goal

pub returns : goal.returns
returns c pair all =
    let P : EyeView → Type 0 = λ eye. eye.pair ≡ pair in
    let second = All-pop P c.args.eyes.items c.pop.new.self.items (Some c.in_ok-second.second) c.in_ok-second.ensures.items all in
    let first = All-pop P c.pop.new.self.items c.pop-2.new.self.items (Some c.in_ok-first.first) c.in_ok-first.ensures.items second.0 in
    (first.1, second.1)
